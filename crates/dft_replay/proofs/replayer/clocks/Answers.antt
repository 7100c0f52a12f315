-- The clocks are the nets at which some vector pulses.
use Rattle.std.proofs.Common.{◌≡◌, ◌∙◌, ℕ, List, sym, ap, subst, length, map}
use Rattle.dft_netlist.specs.Netlist.{Netlist}
use Rattle.dft_netlist.specs.Orders.{numbers_of}
use Rattle.dft_netlist.specs.declared.ids.NetId.{NetId}
use Rattle.dft_cycle.specs.Machine.{AreNets}
use Rattle.dft_patterns.specs.declared.act.Act.{Act}
use Rattle.dft_patterns.specs.Patterns.{Patterns}
use Rattle.dft_replay.specs.Rows.{nets_of}
use Rattle.dft_replay.specs.Vectors.{clocks_of, net_at}
use Rattle.dft_replay.proofs.SignalLemmas.{clocks_are}
use Rattle.dft_replay.proofs.VectorLemmas.{clock_live, clock_nets_live}
use Rattle.dft_replay.proofs.replayer.clocks.Goals as goal

pub returns-clause-clocks : goal.returns-clause-clocks
returns-clause-clocks c =
    let n : Netlist = c.args.design.now in
    let p : Patterns = c.args.patterns.now in
    let nets : List NetId = c.deref.result.now in
    let found : c.in_ok-clocks.clocks.items ≡ map (net_at nets) (clocks_of (length nets) p.vectors) =
    c.in_ok-clocks.ensures ∙ ap (λ (vectors : List (List Act)). map (net_at nets) (clocks_of (length nets) vectors)) c.vectors.ensures in
    let live : AreNets (length n.nets) nets = subst (AreNets (length n.nets)) (sym c.deref.ensures.value) c.in_ok-nets.ensures.live in
    clocks_are n p c.in_ok-clocks.clocks.items nets c.requires.distinct c.requires.fits (ap numbers_of c.deref.ensures.value ∙ c.in_ok-nets.ensures.nets ∙ ap (nets_of n) c.signals.ensures) live found

pub returns-clause-live : goal.returns-clause-live
returns-clause-live c =
    let n : Netlist = c.args.design.now in
    let nets : List NetId = c.deref.result.now in
    let vectors : List (List Act) = c.vectors.result.now in
    let live : AreNets (length n.nets) nets = subst (AreNets (length n.nets)) (sym c.deref.ensures.value) c.in_ok-nets.ensures.live in
    subst (AreNets (length n.nets)) (sym c.in_ok-clocks.ensures) (clock_nets_live (length n.nets) nets (clocks_of (length nets) vectors) live (λ s has. clock_live vectors (length nets) s has))
