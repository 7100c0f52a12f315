use Rattle.std.proofs.Common.{sym}
use Rattle.dft_netlist.proofs.NumberLemmas.{nets_from-more}
use Rattle.dft_verilog.proofs.module_nets.counted.Goals as goal

pub loop-place-preserved : goal.loop-place-preserved
loop-place-preserved c = rw (c.in_ok-push.ensures.ok, c.loop-place.invariant) (sym (nets_from-more c.args.first c.loop-place.place))
