-- Which patterns fit a design: each signal is a bit of a port with its direction.
use Rattle.std.specs.Prelude.{ℕ, ◌≡◌, Bool, true, false, ◌&&◌, List, [], ◌∷◌, Option, None, Some, if◌then◌else◌}
use Rattle.std.specs.List.{list_any}
use Rattle.dft_cells.specs.WellFormed.{has_name}
use Rattle.dft_base.specs.declared.dir.Dir.{Dir}
use Rattle.dft_base.specs.declared.dir.Dir.TheVariants.{Input, Output}
use Rattle.dft_netlist.specs.declared.port.Port.{Port}
use Rattle.dft_netlist.specs.Netlist.{Netlist}
use Rattle.dft_netlist.specs.Names.{bit_names}
use Rattle.dft_patterns.specs.declared.signal.StilSignal.{StilSignal}
use Rattle.dft_replay.specs.declared.error.ReplayError.{ReplayError}
use Rattle.dft_replay.specs.declared.error.ReplayError.TheVariants.{P7, Memory}

abbrev pub same_dir : Dir → Dir → Bool
same_dir Input Input = true
same_dir Output Output = true
same_dir Input Output = false
same_dir Output Input = false

-- the port has the signal's direction, and a bit of its name
abbrev pub has_bit : StilSignal → Port → Bool
has_bit signal port = same_dir port.dir signal.dir && has_name (bit_names port.name port.range) signal.name

-- the signal is a bit of a port with its direction
abbrev pub is_port_bit : Netlist → StilSignal → Bool
is_port_bit n signal = list_any (has_bit signal) n.ports

-- the name of the first signal that is no bit of a port with its direction
abbrev pub first_misfit : Netlist → List StilSignal → Option (List ℕ)
first_misfit n [] = None
first_misfit n (signal ∷ signals) = if is_port_bit n signal then first_misfit n signals else Some signal.name

-- P7 tells it
abbrev pub TellsMisfit : Netlist → List StilSignal → ReplayError → Type 0
TellsMisfit n signals (P7 name) = first_misfit n signals ≡ Some name
TellsMisfit n signals (Memory error) = Unit {0}
