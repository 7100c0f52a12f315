-- What shift vectors do to a scanned netlist of style Plain.
use Rattle.std.specs.Prelude.{ℕ, suc, ◌≡◌, List, None, Some}
use Rattle.dft_netlist.specs.declared.ids.InstanceId.{InstanceId}
use Rattle.dft_behavior.specs.Logic.{Logic, logic_of}
use Rattle.dft_netlist.specs.Netlist.{Netlist}
use Rattle.dft_behavior.specs.Runs.{Now, Vector, Turn, IsTurn, AreTurns, IsRun}
use Rattle.dft_abstract.specs.Laws.{shown}
use Rattle.dft_config.specs.Config.{Config}
use Rattle.dft_stitch.specs.Chains.{plan_of}
use Rattle.dft_stitch.specs.Plans.{cell_at}
use Rattle.dft_runs.specs.Passes.{after_turns}
use Rattle.dft_chains.specs.Shifts.{AreShifts, AreShifted, at_strobe}
use Rattle.dft_scan_frame.specs.Statements.{IsReady}
use Rattle.dft_insert.specs.declared.style.Style.TheVariants.{Plain}
use Rattle.dft_insert.specs.Statements.{scanned}
use Rattle.dft_insert.specs.Agreeing.{ports_in}
use Rattle.dft_scan_behavior.specs.Facts.{plain_nets}

-- the scanned netlist of style Plain under the configuration's ports
abbrev pub plain_logic : Netlist → Config → Logic
plain_logic n config = logic_of (scanned Plain n config) (ports_in Plain n config)

-- In every run, after any vectors and then shift vectors, each cell holds the bit of its scan input port in the vector so many before
-- the end as it stands places behind it, or the bit of the cell as many places before it as there were shift vectors.
abbrev pub ChainsShift : Netlist → Config → Type 0
ChainsShift n config =
    (before shifts : List Vector) (start : Now) (ts us : List Turn) →
    let l = plain_logic n config in
    let w = plain_nets n config in
    IsRun l before start ts → AreShifts (ports_in Plain n config) w.nets.enable shifts → AreTurns l (after_turns l start before ts) shifts us →
    AreShifted (plan_of n config).chains w shifts (after_turns l start before ts).state.flops (after_turns l (after_turns l start before ts) shifts us).state.flops

-- In style Plain its chains shift.
abbrev pub ScannedShifts : Type 0
ScannedShifts = (n : Netlist) (config : Config) → IsReady n config → ChainsShift n config

-- at every strobe each scan output shows the bit of its last cell
abbrev pub ChainsShow : Netlist → Config → Type 0
ChainsShow n config =
    (x : Vector) (now : Now) (t : Turn) →
    let l = plain_logic n config in
    IsTurn l x now t → (chain place : ℕ) (cell : InstanceId) → cell_at (plan_of n config).chains chain place ≡ Some cell → cell_at (plan_of n config).chains chain (suc place) ≡ None →
    shown t ((plain_nets n config).scan_out chain) ≡ (at_strobe l x now t).flops cell.0

-- In style Plain its scan outputs show the ends of its chains.
abbrev pub ScannedShows : Type 0
ScannedShows = (n : Netlist) (config : Config) → IsReady n config → ChainsShow n config
