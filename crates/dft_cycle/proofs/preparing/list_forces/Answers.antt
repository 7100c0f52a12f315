-- The ports are marked, and what is marked is listed.
use Rattle.std.proofs.Common.{arith, ap}
use Rattle.dft_logic.specs.Circuit.{Circuit}
use Rattle.dft_cycle.proofs.preparing.list_forces.Goals as goal

pub returns-clause-all : goal.returns-clause-all
returns-clause-all c = λ place k less live has.
    (let marks = (rw (c.deref.ensures.value, ap (λ (m : Circuit). m.flops) c.circuit.view_is) at c.mark_forces.ensures.each) place less in
    c.list_marked-count.ensures.listed k (marks.all k (omega (arith, c.requires.marked, live)) has))
