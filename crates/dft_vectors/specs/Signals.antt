-- The signals of compiled patterns: the bits of a netlist's ports (IEEE 1450-1999 `Signals`).
use Rattle.std.specs.Prelude.{List, [], ◌++◌, map, flat_map, slice_index_or}
use Rattle.dft_base.specs.declared.dir.Dir.{Dir}
use Rattle.dft_base.specs.declared.dir.Dir.TheVariants.{Input, Output}
use Rattle.dft_netlist.specs.declared.ids.NetId.{NetId}
use Rattle.dft_netlist.specs.declared.port.Port.{Port}
use Rattle.dft_netlist.specs.Netlist.{Netlist}
use Rattle.dft_patterns.specs.declared.signal.StilSignal.{StilSignal}
use Rattle.dft_expect.specs.Captures.{output_bits}

-- the bits of the input ports, in order, of each port the leftmost first
abbrev pub bits_in : Dir → List NetId → List NetId
bits_in Input bits = bits
bits_in Output bits = []

abbrev pub input_bits : List Port → List NetId
input_bits ports = flat_map (λ port. bits_in port.dir port.bits) ports

-- the signal of a port's bit has the printed name of its net
abbrev pub signal_of : Netlist → Dir → NetId → StilSignal
signal_of n dir net = record { name = slice_index_or n.nets net.0 []; dir = dir }

-- the bits of the input ports, and behind them those of the output ports
abbrev pub signals_of : Netlist → List StilSignal
signals_of n = map (signal_of n Input) (input_bits n.ports) ++ map (signal_of n Output) (output_bits n.ports)
