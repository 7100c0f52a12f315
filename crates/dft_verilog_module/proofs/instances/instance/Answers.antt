use Rattle.std.proofs.Common.{rules, arith}
use Rattle.std.proofs.lemmas.Grind.{common_steps}
use Rattle.dft_verilog_module.proofs.GateLemmas.{named_library}
use Rattle.dft_verilog_module.proofs.ConnectionLemmas.{instance_stands}
use Rattle.dft_verilog_module.proofs.instances.instance.Goals as goal

pub add_instance-requires-clause-fits : goal.add_instance-requires-clause-fits
add_instance-requires-clause-fits c =
    let cells = named_library c.left-place.result c.in_ok-word.word.now c.args.draft.now c.name_instance.new.self c.in_ok-name_instance.ensures in
    let grown = c.in_ok-connections.ensures.grown.library in
    rw c.new.ensures
    (instance_stands c.connections.new.draft c.args.id c.read.result c.args.cell.now c.connections.new.joined c.in_ok-pins.pins
    (first_of (search rules, grind (arith, common_steps))) (first_of (cc, grind (arith, common_steps))) c.in_ok-connections.ensures.fits)
