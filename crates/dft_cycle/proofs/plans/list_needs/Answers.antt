-- What the entries need is marked.
use Rattle.std.proofs.Common.{ap, arith}
use Rattle.dft_logic.specs.Circuit.{Circuit}
use Rattle.dft_cycle.proofs.plans.list_needs.Goals as goal

pub returns-clause-needed : goal.returns-clause-needed
returns-clause-needed c = λ place less k live has.
    (let marks = (rw (c.deref.ensures.value, ap (λ (m : Circuit). m.flops) c.circuit.view_is) at c.mark_entries.ensures.each) place less in
    c.mark_needed.ensures.kept k (marks.all k (omega (arith, c.requires.marked, live)) has))
