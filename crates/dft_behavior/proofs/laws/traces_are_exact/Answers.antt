use Rattle.dft_behavior.proofs.Walks.{walk_finds, port_found, constant_found, traced_bit, traced_constant}
use Rattle.dft_behavior.proofs.laws.traces_are_exact.Goals as goal

pub returns : goal.returns
returns c = record { finds = walk_finds; port = port_found; constant = constant_found; bit = traced_bit; constant_bit = traced_constant }
