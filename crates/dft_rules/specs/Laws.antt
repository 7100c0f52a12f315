-- Laws of the judgement.
use Rattle.std.specs.Prelude.{ℕ, ◌≡◌, ◌↔◌, Bool, false, None, Some}
use Rattle.dft_netlist.specs.Netlist.{Netlist}
use Rattle.dft_netlist.specs.Drivers.{kind_at}
use Rattle.dft_behavior.specs.Logic.{Cell, flip_flop}
use Rattle.dft_config.specs.Config.{Config}
use Rattle.dft_rules.specs.ConfigPorts.{config_ports}
use Rattle.dft_rules.specs.Rules.{judged, may_be_scanned, place_of_port}
use Rattle.dft_rules.specs.declared.judged.Judged.TheVariants.{Scanned}

-- An instance is not judged exactly where it is no flip-flop of kind dff, dffr or dffs.
abbrev pub FlipFlopsAreJudged : Type 0
FlipFlopsAreJudged = (n : Netlist) (config : Config) (i : ℕ) → (judged n config i ≡ None) ↔ (may_be_scanned (kind_at n i) ≡ false)

-- a modelled flip-flop on the port of a domain, at this edge of its clock
abbrev pub IsOnClock : Netlist → Config → (domain : ℕ) → (falling : Bool) → Cell → Type 0
IsOnClock n config domain falling cell = (place_of_port n config.domains cell.domain ≡ Some domain) × (cell.falling ≡ falling)

-- A scanned flip-flop is modelled: it takes its bit at the edge that it is scanned by, of the clock at its domain's port.
abbrev pub ScannedAreClocked : Type 0
ScannedAreClocked =
    (n : Netlist) (config : Config) (i domain : ℕ) (falling : Bool) → judged n config i ≡ Some (Scanned domain falling) →
    (cell : Cell) × ((flip_flop n (config_ports n config) i ≡ Some cell) × IsOnClock n config domain falling cell)
