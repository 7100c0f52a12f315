-- Runs of an unload of a scanned netlist of style Edt (Rajski and others, 2004).
use Rattle.std.specs.Prelude.{ℕ, ◌≤◌, ◌≡◌, Bool, List, length}
use Rattle.dft_behavior.specs.Logic.{Ports}
use Rattle.dft_netlist.specs.Netlist.{Netlist}
use Rattle.dft_behavior.specs.Runs.{Now, Vector, Turn, IsTurn, after_turn, AreTurns, IsRun}
use Rattle.dft_config.specs.Config.{Config}
use Rattle.dft_config.specs.Cycles.{longest_segment}
use Rattle.dft_config.specs.Ring.{Table}
use Rattle.dft_runs.specs.Passes.{after_turns}
use Rattle.dft_edt.specs.Unloads.{Rest}
use Rattle.dft_edt.specs.Vectors.{IsClearing}
use Rattle.dft_scan_frame.specs.Statements.{IsReady}
use Rattle.dft_scan_behavior.specs.EdtVectors.{IsShift, SuitsEdt, edt_logic}
use Rattle.dft_scan_behavior.specs.Experiments.{Carry, Send}
use Rattle.dft_scan_behavior.specs.Facts.{edt_hardware}

-- a run up to an unload: any vectors, a load that sends the masks, any vectors in which edt_clock does not pulse, and a clearing vector
pub record MaskRun (n : Netlist) (config : Config) (ports : Ports) (masks : ℕ → Bool) : Type 0 where
  pub before : List Vector
  pub load : List Vector
  pub between : List Vector
  pub clear : Vector
  pub start : Now
  pub ts : List Turn
  pub us : List Turn
  pub ms : List Turn
  pub a : Turn
  pub sends : Send n config masks load
  pub long : longest_segment config ≤ length load
  pub rests : Rest (edt_hardware n config) between
  pub clearing : IsClearing (edt_hardware n config) clear
  pub run : IsRun (edt_logic n config ports) before start ts
  pub turns : AreTurns (edt_logic n config ports) (after_turns (edt_logic n config ports) start before ts) load us
  pub resting : AreTurns (edt_logic n config ports) (after_turns (edt_logic n config ports) (after_turns (edt_logic n config ports) start before ts) load us) between ms
  pub turn : IsTurn (edt_logic n config ports) clear (after_turns (edt_logic n config ports) (after_turns (edt_logic n config ports) (after_turns (edt_logic n config ports) start before ts) load us) between ms) a

-- what there is after it
abbrev pub after_masks : (n : Netlist) (config : Config) (ports : Ports) (masks : ℕ → Bool) → MaskRun n config ports masks → Now
after_masks n config ports masks r =
    let l = edt_logic n config ports in
    after_turn l r.clear (after_turns l (after_turns l (after_turns l r.start r.before r.ts) r.load r.us) r.between r.ms) r.a

-- a run with an unload: such a run, so many shift vectors whose channels carry a table, and the next shift vector
pub record UnloadRun (n : Netlist) (config : Config) (ports : Ports) (masks : ℕ → Bool) (cycles : ℕ) (table : Table) : Type 0 where
  pub masked : MaskRun n config ports masks
  pub unload : List Vector
  pub next : Vector
  pub vs : List Turn
  pub b : Turn
  pub carries : Carry n config table unload
  pub count : length unload ≡ cycles
  pub shift : IsShift n config next
  pub turns : AreTurns (edt_logic n config ports) (after_masks n config ports masks masked) unload vs
  pub turn : IsTurn (edt_logic n config ports) next (after_turns (edt_logic n config ports) (after_masks n config ports masks masked) unload vs) b

-- There is a run with an unload for all masks and every table, of each number of cycles.
abbrev pub UnloadsRun : Type 0
UnloadsRun =
    (n : Netlist) (config : Config) (ports : Ports) (masks : ℕ → Bool) (cycles : ℕ) (table : Table) → IsReady n config → SuitsEdt n config ports → UnloadRun n config ports masks cycles table
