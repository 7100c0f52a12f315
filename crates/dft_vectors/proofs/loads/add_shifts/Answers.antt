-- One vector more.
use Rattle.std.proofs.Common.{◌++◌, ℕ, List, length, ap, ◌∙◌}
use Rattle.std.specs.Prelude.{option_map}
use Rattle.dft_base.specs.Packed.{packed_bit}
use Rattle.dft_expect.specs.Loaded.{table_of}
use Rattle.dft_patterns.specs.declared.act.Act.{Act}
use Rattle.dft_vectors.specs.Shown.{plan_in, shown_at}
use Rattle.dft_vectors.specs.VectorList.{shift_with}
use Rattle.dft_vectors.proofs.ListLemmas.{grown}
use Rattle.dft_vectors.proofs.loads.add_shifts.Goals as goal

pub loop-cycle-preserved : goal.loop-cycle-preserved
loop-cycle-preserved c =
    let config = c.args.layout.now.planned.now.config in
    let table = table_of config.ring (packed_bit c.args.bits.now) in
    let f : ℕ → List Act = λ (cycle : ℕ). shift_with c.args.layout.now.planned.now.design config (plan_in c.args.layout.now) table c.args.masks.now cycle (shown_at (length config.compactor.groups) (option_map (λ shown. shown.now) c.args.expected) cycle) in
    grown f c.args.vectors.now.items c.loop-cycle.vectors.items c.push.new.self.items c.loop-cycle.cycle c.in_ok-copied.field-0 c.loop-cycle.invariant c.in_ok-push.ensures.items
    (c.in_ok-copied.ensures ∙ c.deref.ensures.value ∙ c.in_ok-push_shift.ensures ∙ ap (λ (l : List Act). l ++ f c.loop-cycle.cycle) c.clear.ensures.items)
