-- A scanned netlist of either style contains its design, and behaves as it while scan is off.
use Rattle.std.specs.Prelude.{ℕ, ◌+◌, ◌<◌, ◌≡◌, ◌==◌, ◌||◌, true, List, ◌∷◌, length, is_some}
use Rattle.dft_base.specs.declared.tri.Tri.{Tri}
use Rattle.dft_base.specs.declared.tri.Tri.TheVariants.{Zero}
use Rattle.dft_netlist.specs.Netlist.{Netlist}
use Rattle.dft_behavior.specs.Logic.{Ports, logic_of, flip_flop}
use Rattle.dft_behavior.specs.Runs.{Now, Moment, Step, next_now, AreSteps, AreLow}
use Rattle.dft_config.specs.Config.{Config}
use Rattle.dft_chains.specs.ScanOff.{Places, Contains, AreFreeAlike, AreSameSteps, AllAgree, set_to}
use Rattle.dft_scan_frame.specs.Moves.{moved}
use Rattle.dft_scan_frame.specs.ConfigPorts.{config_ports}
use Rattle.dft_scan_frame.specs.Statements.{IsReady}
use Rattle.dft_insert.specs.declared.style.Style.{Style}
use Rattle.dft_insert.specs.declared.style.Style.TheVariants.{Plain, Edt}
use Rattle.dft_insert.specs.Ports.{gap_in}
use Rattle.dft_insert.specs.Statements.{scanned}

-- the net of edt_clock in style Edt
abbrev pub edt_clock_net : Netlist → Config → ℕ
edt_clock_net n config = (gap_in Edt n config).before + 1

-- the clock ports and the reset ports of a configuration in a scanned netlist; style Edt has the clock edt_clock besides
abbrev pub ports_in : Style → Netlist → Config → Ports
ports_in Plain n config = config_ports n config
ports_in Edt n config = record {
  is_clock = λ net. (config_ports n config).is_clock net || (net == edt_clock_net n config);
  is_reset = (config_ports n config).is_reset;
}

-- where the design stands in it
abbrev pub places_in : Style → Netlist → Config → Places
places_in style n config = record {
  moved = moved (gap_in style n config);
  size = length n.nets;
  is_flop = λ i. is_some (flip_flop n (config_ports n config) i);
  enable = (gap_in style n config).before;
}

-- It contains the design.
abbrev pub ContainsDesign : Type 0
ContainsDesign =
    (style : Style) (n : Netlist) (config : Config) → IsReady n config →
    Contains (logic_of n (config_ports n config)) (logic_of (scanned style n config) (ports_in style n config)) (places_in style n config)

-- Let all clocks be low and the design's modelled flip-flops have equal bits, and let the same events follow, a Set with scan_enable 0
-- first; clocks that rise or fall at once are, for the design, those that it has, and edt_clock alone a moment at which only free bits
-- change. Then at each moment every net of the design has the same bit in both.
abbrev pub IsSameWhileOff : Style → Netlist → Config → Type 0
IsSameWhileOff style n config =
    (now its : Now) (given ports : ℕ → Tri) (m o : Moment) (steps others : List Step) →
    let p = places_in style n config in
    let original = logic_of n (config_ports n config) in
    AreLow now.state → AreLow its.state → ((cell : ℕ) → p.is_flop cell ≡ true → now.state.flops cell ≡ its.state.flops cell) →
    given p.enable ≡ Zero → ((net : ℕ) → net < p.size → given (p.moved net) ≡ ports net) → AreFreeAlike p m o →
    AreSameSteps original p (next_now original its (set_to ports o)) steps others →
    AreSteps (logic_of (scanned style n config) (ports_in style n config)) now (set_to given m ∷ steps) → AreSteps original its (set_to ports o ∷ others) →
    AllAgree p (set_to given m ∷ steps) (set_to ports o ∷ others)

-- It behaves as the design while scan is off.
abbrev pub AgreesWhileOff : Type 0
AgreesWhileOff = (style : Style) (n : Netlist) (config : Config) → IsReady n config → IsSameWhileOff style n config
