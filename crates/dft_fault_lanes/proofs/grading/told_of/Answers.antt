-- The nets of the signals are nets of the circuit, and each vector is as long as they are many.
use Rattle.std.proofs.Common.{◌≡◌, ◌<◌, ◌∙◌, ◌^◌, ℕ, List, sym, ap, subst, length, arith}
use Rattle.dft_netlist.specs.Netlist.{Netlist}
use Rattle.dft_netlist.specs.Orders.{numbers_of}
use Rattle.dft_netlist.specs.declared.ids.NetId.{NetId}
use Rattle.dft_cycle.specs.Machine.{AreNets}
use Rattle.dft_patterns.specs.Patterns.{Patterns}
use Rattle.dft_replay.specs.Rows.{nets_of}
use Rattle.dft_replay.specs.Vectors.{AreSignals}
use Rattle.dft_replay.proofs.SignalLemmas.{signals_are, few_signals, vectors_long}
use Rattle.dft_fault_lanes.proofs.grading.told_of.Goals as goal

pub tell_in_passes-requires-clause-nets : goal.tell_in_passes-requires-clause-nets
tell_in_passes-requires-clause-nets c =
    let n : Netlist = c.args.design.now in
    let p : Patterns = c.args.patterns.now in
    let nets : List NetId = c.deref.result.now in
    let are : numbers_of nets ≡ nets_of n p.signals = ap numbers_of c.deref.ensures.value ∙ c.in_ok-nets.ensures.nets ∙ ap (nets_of n) c.signals.ensures in
    let live : AreNets (length n.nets) nets = subst (AreNets (length n.nets)) (sym c.deref.ensures.value) c.in_ok-nets.ensures.live in
    subst (λ (count : ℕ). AreSignals count nets) (sym c.in_ok-circuit.ensures.circuit.nets) (signals_are n p.signals nets c.requires.patterns.distinct are live)

pub tell_in_passes-requires-clause-few : goal.tell_in_passes-requires-clause-few
tell_in_passes-requires-clause-few c =
    let n : Netlist = c.args.design.now in
    let p : Patterns = c.args.patterns.now in
    let nets : List NetId = c.deref.result.now in
    let are : numbers_of nets ≡ nets_of n p.signals = ap numbers_of c.deref.ensures.value ∙ c.in_ok-nets.ensures.nets ∙ ap (nets_of n) c.signals.ensures in
    let live : AreNets (length n.nets) nets = subst (AreNets (length n.nets)) (sym c.deref.ensures.value) c.in_ok-nets.ensures.live in
    let few : length nets < 2 ^ 31 = few_signals n nets c.soundness.ensures.netlist (signals_are n p.signals nets c.requires.patterns.distinct are live).differ live in
    omega (arith, few)

pub tell_in_passes-requires-clause-acts : goal.tell_in_passes-requires-clause-acts
tell_in_passes-requires-clause-acts c =
    let n : Netlist = c.args.design.now in
    let p : Patterns = c.args.patterns.now in
    vectors_long n p.signals p.vectors c.deref.result.now c.requires.patterns.fits (ap numbers_of c.deref.ensures.value ∙ c.in_ok-nets.ensures.nets ∙ ap (nets_of n) c.signals.ensures)
