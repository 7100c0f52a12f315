use Rattle.std.proofs.Common.{◌+◌, ◌<◌, length, arith}
use Rattle.dft_verilog.proofs.SaidPartLemmas.{run_step, one_net}
use Rattle.dft_verilog.proofs.module_nets.add_run.Goals as goal

pub loop-bit-preserved : goal.loop-bit-preserved
loop-bit-preserved c =
    let there : c.args.first + c.loop-bit.bit < length c.args.names.now = omega (arith, c.loop-bit-test.true) in
    record {
      made = run_step c.args.first c.loop-bit.bit c.args.names.now c.index-names-net.result c.args.made.now c.loop-bit.made c.add_named.new.made there c.index-names-net.is c.loop-bit.invariant.made c.in_ok-add_named.ensures;
      count = omega (arith, one_net c.index-names-net.result c.loop-bit.made c.add_named.new.made c.in_ok-add_named.ensures, c.loop-bit.invariant.count);
    }
