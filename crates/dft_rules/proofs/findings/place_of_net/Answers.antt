use Rattle.std.proofs.Common.{sym, eq-eqb}
use Rattle.dft_rules.proofs.PlaceLemmas.{place_here, place_nowhere}
use Rattle.dft_rules.proofs.findings.place_of_net.Goals as goal

pub returns-then-other-net : goal.returns-then-other-net
returns-then-other-net c = sym (place_here c.args.nets.now c.args.net.0 c.loop-place.place (record { 0 = 0 }) c.loop-place-test.true (eq-eqb _ _ c.if-other-net.true) c.loop-place.invariant)

pub returns : goal.returns
returns c = sym (place_nowhere c.args.nets.now c.args.net.0 c.loop-place.place c.loop-place-test.false c.loop-place.invariant)
