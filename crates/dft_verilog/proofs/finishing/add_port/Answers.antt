use Rattle.dft_verilog.proofs.GrowLemmas.{HasOnlyPorts-port}
use Rattle.dft_verilog.proofs.finishing.add_port.Goals as goal

pub returns-in_ok-port-in-Some-clause-only_ports : goal.returns-in_ok-port-in-Some-clause-only_ports
returns-in_ok-port-in-Some-clause-only_ports c = HasOnlyPorts-port c.args.builder.now c.port.new.self _ _ _ _ c.in_ok-port-in-Some.ensures.ok c.requires
