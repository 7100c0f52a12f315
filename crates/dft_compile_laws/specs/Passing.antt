-- The rows that a replay makes of compiled patterns.
use Rattle.std.specs.Prelude.{◌≡◌, List, ◌++◌, map, None}
use Rattle.dft_netlist.specs.Netlist.{Netlist}
use Rattle.dft_netlist.specs.Sound.{IsNetlist}
use Rattle.dft_config.specs.Config.{Config}
use Rattle.dft_stitch.specs.Chains.{plan_of}
use Rattle.dft_expect.specs.Captures.{output_bits}
use Rattle.dft_patterns.specs.Patterns.{Patterns}
use Rattle.dft_replay.specs.Fits.{first_misfit}
use Rattle.dft_replay.specs.Rows.{nets_of, rows_of}
use Rattle.dft_insert.specs.declared.style.Style.TheVariants.{Edt}
use Rattle.dft_insert.specs.Statements.{scanned}
use Rattle.dft_vectors.specs.PatternData.{PatternData}
use Rattle.dft_vectors.specs.Signals.{input_bits, signals_of}
use Rattle.dft_vectors.specs.VectorList.{patterns_of, vectors_of}
use Rattle.dft_pattern_behavior.specs.Doing.{AllDo}

-- the pattern set of some patterns, on the scanned netlist
abbrev pub set_of : Netlist → Config → List PatternData → Patterns
set_of n config patterns = patterns_of (scanned Edt n config) n config (plan_of n config) patterns

-- The nets of the signals of a netlist are the bits of its input ports, and then those of its output ports.
abbrev pub SignalsStand : Type 0
SignalsStand = (w : Netlist) → IsNetlist w → nets_of w (signals_of w) ≡ map (λ k. k.0) (input_bits w.ports) ++ map (λ k. k.0) (output_bits w.ports)

-- And each of them is a bit of a port with its direction.
abbrev pub SignalsFit : Type 0
SignalsFit = (w : Netlist) → IsNetlist w → first_misfit w (signals_of w) ≡ None

-- The rows of the set do the listed acts, where the scanned netlist is one, as one that was made is.
abbrev pub RowsDo : Type 0
RowsDo =
    (n : Netlist) (config : Config) (patterns : List PatternData) → IsNetlist (scanned Edt n config) →
    AllDo (scanned Edt n config) (vectors_of n config (plan_of n config) patterns) (map (λ x. x.vector) (rows_of (scanned Edt n config) (set_of n config patterns)))
