-- Compiled patterns are well formed and can be written, so that their text is read back.
use Rattle.std.specs.Prelude.{ℕ, ◌<◌, ◌^◌, ◌≡◌, Bool, false, List, length, Some, slice_get}
use Rattle.dft_base.specs.Lexing.{Text}
use Rattle.dft_netlist.specs.declared.ids.NetId.{NetId}
use Rattle.dft_netlist.specs.Netlist.{Netlist}
use Rattle.dft_netlist.specs.Sound.{IsNetlist, bit_names_of}
use Rattle.dft_config.specs.Config.{Config}
use Rattle.dft_expect.specs.Captures.{config_ports}
use Rattle.dft_patterns.specs.Patterns.{IsWellFormed}
use Rattle.dft_scan_frame.specs.Statements.{IsReady}
use Rattle.dft_insert.specs.declared.style.Style.TheVariants.{Edt}
use Rattle.dft_insert.specs.Statements.{scanned}
use Rattle.dft_stil_out.specs.Writable.{IsQuotable, IsWritable}
use Rattle.dft_vectors.specs.PatternData.{PatternData}
use Rattle.dft_pattern_behavior.specs.Listed.{ArePatterns}
use Rattle.dft_compile_laws.specs.Passing.{set_of}

-- no pattern gives a clock of the configuration a bit
abbrev pub GiveNoClock : Netlist → Config → List PatternData → Type 0
GiveNoClock n config patterns =
    (number k : ℕ) (p : PatternData) (given : NetId × Bool) → slice_get patterns number ≡ Some p → slice_get p.merged.ports k ≡ Some given → (config_ports n config).is_clock given.0.0 ≡ false

-- the names of the bits of ports may stand between double quotes
abbrev pub HasQuotableBits : Netlist → Type 0
HasQuotableBits n = (k : ℕ) (name : Text) → slice_get (bit_names_of n.ports) k ≡ Some name → IsQuotable name

-- The set can be replayed, and it can be written.
pub record IsFormed (n : Netlist) (config : Config) (patterns : List PatternData) : Type 0 where
  pub well : IsWellFormed (set_of n config patterns)
  pub writable : IsWritable (set_of n config patterns)

-- So it is for patterns that give no clock a bit, where the vectors can be counted.
abbrev pub WrittenFormed : Type 0
WrittenFormed =
    (n : Netlist) (config : Config) (patterns : List PatternData) → IsReady n config → IsNetlist (scanned Edt n config) → ArePatterns n config patterns → GiveNoClock n config patterns →
    length (set_of n config patterns).vectors < 2 ^ 32 → IsFormed n config patterns
