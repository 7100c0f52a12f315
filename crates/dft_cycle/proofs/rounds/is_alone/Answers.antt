-- The clocks that pulse are counted.
use Rattle.std.proofs.lemmas.Bool.{ltb-true}
use Rattle.std.proofs.Common.{◌<◌, ◌∙◌, sym, ap, List, Option, arith, subst}
use Rattle.dft_logic.specs.Circuit.{Circuit, IsCircuit}
use Rattle.std.specs.Prelude.{is_some}
use Rattle.std.specs.List.{list_any}
use Rattle.dft_logic.specs.declared.circuit.Latch.{Latch}
use Rattle.dft_cycle.proofs.AloneLemmas.{alone_of}
use Rattle.dft_cycle.proofs.rounds.is_alone.Goals as goal

pub returns-then-not-latched : goal.returns-then-not-latched
returns-then-not-latched c = λ h.
    let few : c.pulsing-many.result < 2 = ltb-true c.pulsing-many.result 2 h in
    let e = c.pulsing-many.ensures in
    alone_of c.args.circuit.now c.args.pulsed.now c.args.clocks.now (subst IsCircuit c.circuit.view_is c.circuit.invariant)
    (sym (ap (λ (latches : List (Option Latch)). list_any (λ latch. is_some latch) latches) (c.deref.ensures.value ∙ ap (λ (m : Circuit). m.latches) c.circuit.view_is)) ∙ sym c.has_latch-latched.ensures ∙ c.if-not-latched.true) c.requires.pulsing (omega arith)
