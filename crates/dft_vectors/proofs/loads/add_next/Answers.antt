use Rattle.std.proofs.Common.{◌++◌, List, Some, length, ap, ◌∙◌, arith}
use Rattle.dft_base.specs.Packed.{packed_bit}
use Rattle.dft_stitch.specs.Plans.{falling_head}
use Rattle.dft_expect.specs.Loaded.{table_of}
use Rattle.dft_expect.specs.Masks.{by_chain}
use Rattle.dft_patterns.specs.declared.act.Act.{Act}
use Rattle.dft_vectors.specs.PatternData.{data_of}
use Rattle.dft_vectors.specs.Shown.{plan_in}
use Rattle.dft_vectors.proofs.LoadLemmas.{loaded_so, expected_length}
use Rattle.dft_vectors.proofs.loads.add_next.Goals as goal

pub add_shifts-requires-clause-expected : goal.add_shifts-requires-clause-expected
add_shifts-requires-clause-expected c =
    let l = c.args.layout.now in
    let config = l.planned.now.config in
    let shown = rw (c.config.ensures, c.chains.ensures) at c.in_ok-shown.ensures in
    omega (
      arith,
      ap length (c.deref.ensures.value ∙ shown),
      expected_length config.ring config.compactor.groups (table_of config.ring (packed_bit c.args.bits.now)) (falling_head (plan_in l)) c.args.before.masks.now (by_chain (plan_in l).chains c.args.before.response.now.cells) (plan_in l).cycles,
    )

pub returns : goal.returns
returns c =
    let l = c.args.layout.now in
    let shown = rw (c.config.ensures, c.chains.ensures) at c.in_ok-shown.ensures in
    c.in_ok-add_shifts.ensures ∙ ap (λ (v : List (List Act)). c.args.vectors.now.items ++ v)
    (loaded_so l.planned.now.design l.planned.now.config (plan_in l) (table_of l.planned.now.config.ring (packed_bit c.args.bits.now)) c.args.masks.now (Some (data_of l.planned.now.config (plan_in l) c.args.before)) (Some c.deref.result.now)
    (ap Some (c.deref.ensures.value ∙ shown)))
