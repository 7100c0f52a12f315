-- What compiled vectors do at the ports of the design itself.
use Rattle.std.specs.Prelude.{ℕ, Bool, true, false, List, length, map, replicate, None}
use Rattle.dft_base.specs.declared.tri.Tri.{Tri}
use Rattle.dft_base.specs.declared.tri.Tri.TheVariants.{Zero, One, Unknown}
use Rattle.dft_netlist.specs.Netlist.{Netlist}
use Rattle.dft_behavior.specs.Runs.{Vector}
use Rattle.dft_config.specs.Config.{Config}
use Rattle.dft_patterns.specs.declared.act.Act.{Act}
use Rattle.dft_patterns.specs.declared.act.Act.TheVariants.{Low, High, Pulse, ExpectLow, ExpectHigh, Ignore}
use Rattle.dft_expect.specs.Captures.{config_ports, port_value, output_bits}
use Rattle.dft_vectors.specs.Signals.{input_bits}

-- ---- acts

-- an input is set to a bit
abbrev pub set_to : Bool → Act
set_to false = Low
set_to true = High

-- an input pulses, or is set to a value; what is not known is set to 0
abbrev pub driven : (pulsed : Bool) → Tri → Act
driven true value = Pulse
driven false One = High
driven false Zero = Low
driven false Unknown = Low

-- an output is to show a bit
abbrev pub expect : Bool → Act
expect false = ExpectLow
expect true = ExpectHigh

-- an output is compared where its value is known
abbrev pub compare : Tri → Act
compare Zero = ExpectLow
compare One = ExpectHigh
compare Unknown = Ignore

-- ---- inputs

-- Resets are 1, where they do not act, and the other inputs are 0; of the clocks these pulse.
abbrev pub resting : Netlist → Config → (pulsed : ℕ → Bool) → Vector
resting n config pulsed = record { ports = λ net. port_value ((config_ports n config).is_reset net) None; pulsed = pulsed }

-- no clock of the design pulses
abbrev pub quiet_vector : Netlist → Config → Vector
quiet_vector n config = resting n config (λ net. false)

-- every clock of the design pulses
abbrev pub pulsing_vector : Netlist → Config → Vector
pulsing_vector n config = resting n config (config_ports n config).is_clock

-- what a vector does at the bits of the input ports, in order
abbrev pub inputs_by : Netlist → Vector → List Act
inputs_by n x = map (λ net. driven (x.pulsed net.0) (x.ports net.0)) (input_bits n.ports)

-- ---- outputs

-- so many outputs are not compared
abbrev pub ignored : (outputs : ℕ) → List Act
ignored outputs = replicate outputs Ignore

-- the outputs of the design are not compared
abbrev pub outputs_ignored : Netlist → List Act
outputs_ignored n = ignored (length (output_bits n.ports))
