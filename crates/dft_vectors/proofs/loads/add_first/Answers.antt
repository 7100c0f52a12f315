use Rattle.std.proofs.Common.{◌++◌, List, None, refl, ap, ◌∙◌}
use Rattle.dft_base.specs.Packed.{packed_bit}
use Rattle.dft_expect.specs.Loaded.{table_of}
use Rattle.dft_patterns.specs.declared.act.Act.{Act}
use Rattle.dft_vectors.specs.Shown.{plan_in}
use Rattle.dft_vectors.proofs.LoadLemmas.{loaded_so}
use Rattle.dft_vectors.proofs.loads.add_first.Goals as goal

pub returns : goal.returns
returns c =
    let l = c.args.layout.now in
    c.in_ok-add_shifts.ensures ∙ ap (λ (v : List (List Act)). c.args.vectors.now.items ++ v) (loaded_so l.planned.now.design l.planned.now.config (plan_in l) (table_of l.planned.now.config.ring (packed_bit c.args.bits.now)) c.args.masks.now None None refl)
