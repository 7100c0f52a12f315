-- The values that are kept, and no marks.
use Rattle.std.proofs.Common.{false, ◌∙◌, ap}
use Rattle.std.specs.Prelude.{replicate}
use Rattle.dft_seek.proofs.EvaluateLemmas.{base_settled}
use Rattle.dft_seek.proofs.rig.Rig.base_table.Goals as goal

pub returns-clause-table : goal.returns-clause-table
returns-clause-table c = λ needed.
    base_settled c.args.self.now needed (record { values = c.in_ok-values.values; marks = c.in_ok-marks.marks }) c.requires.rig (c.in_ok-values.ensures.items ∙ c.deref.ensures.value)
    (c.in_ok-marks.ensures.marked ∙ ap (λ n. replicate n false) (c.len.ensures ∙ c.args.self.now.base.ok.0))

pub returns-clause-base : goal.returns-clause-base
returns-clause-base c = c.in_ok-values.ensures.items ∙ c.deref.ensures.value
