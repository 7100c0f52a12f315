use Rattle.std.proofs.Common.{arith}
use Rattle.dft_insert.proofs.MadeParts.{own_made}
use Rattle.dft_insert.proofs.outputs.make_output.Goals as goal

pub moved-requires : goal.moved-requires
moved-requires c = omega (arith, c.in-Some.ensures.live, c.soundness.ensures.netlist.few_nets, c.requires.room)

pub returns-in-Some-clause-makes : goal.returns-in-Some-clause-makes
returns-in-Some-clause-makes c = own_made c.args.design.now c.args.gap.now c.args.cell c.args.parts.now c.in-Some.net.0 c.moved.result c.in-Some.ensures.net c.moved.ensures
