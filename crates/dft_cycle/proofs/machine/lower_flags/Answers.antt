-- One flag more is lowered.
use Rattle.std.proofs.Common.{ℕ, ◌<◌, length, get_or, arith}
use Rattle.std.proofs.lemmas.Option.{slice_get-get_or}
use Rattle.dft_cycle.proofs.MachineLemmas.{lower_more, lower_all}
use Rattle.dft_cycle.proofs.machine.lower_flags.Goals as goal

pub loop-net-preserved : goal.loop-net-preserved
loop-net-preserved c =
    let j : ℕ = c.loop-net.net-index in
    let net = c.requires.live j _ (slice_get-get_or c.args.nets.now j (record { 0 = 0 }) c.loop-net-test.true) in
    let live : (get_or c.args.nets.now j (record { 0 = 0 })).0 < length c.loop-net.flags = omega (arith, net) in
    lower_more c.args.nets.now c.loop-net.flags j _ c.loop-net-test.true live c.loop-net.invariant

pub returns : goal.returns
returns c = λ e. lower_all c.args.nets.now c.loop-net.flags c.loop-net.net-index e c.loop-net-test.false c.loop-net.invariant
