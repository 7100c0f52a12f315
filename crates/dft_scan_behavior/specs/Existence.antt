-- Runs of which the laws of scanned netlists speak: there are such, so that what is said of all of them is never said of none.
use Rattle.std.specs.Prelude.{ℕ, ◌<◌, ◌≡◌, List, [], ◌∷◌, length, Some, slice_get}
use Rattle.dft_base.specs.declared.tri.Tri.{Tri}
use Rattle.dft_base.specs.declared.tri.Tri.TheVariants.{Zero}
use Rattle.dft_base.specs.Tri.{known}
use Rattle.dft_netlist.specs.Netlist.{Netlist}
use Rattle.dft_behavior.specs.Logic.{logic_of}
use Rattle.dft_behavior.specs.Runs.{Moment, Now, Step, Vector, Turn, next_now, AreSteps, AreTurns, IsRun}
use Rattle.dft_config.specs.Config.{Config}
use Rattle.dft_config.specs.Ring.{Table}
use Rattle.dft_runs.specs.Choices.{SameFree}
use Rattle.dft_runs.specs.Passes.{after_turns}
use Rattle.dft_chains.specs.ScanOff.{AreFreeAlike, AreSameSteps, set_to}
use Rattle.dft_chains.specs.Shifts.{AreShifts}
use Rattle.dft_scan_frame.specs.ConfigPorts.{config_ports}
use Rattle.dft_scan_frame.specs.Statements.{IsReady}
use Rattle.dft_insert.specs.declared.style.Style.{Style}
use Rattle.dft_insert.specs.declared.style.Style.TheVariants.{Plain}
use Rattle.dft_insert.specs.Statements.{scanned}
use Rattle.dft_insert.specs.Agreeing.{ports_in, places_in}
use Rattle.dft_scan_behavior.specs.Facts.{plain_nets}
use Rattle.dft_scan_behavior.specs.PlainLaws.{plain_logic}

-- ---- shifts

-- a run with shift vectors: any vectors, and so many shift vectors whose scan inputs carry the bits of a table, by chain and cycle
pub record ShiftRun (n : Netlist) (config : Config) (cycles : ℕ) (table : Table) : Type 0 where
  pub before : List Vector
  pub shifts : List Vector
  pub start : Now
  pub ts : List Turn
  pub us : List Turn
  pub are : AreShifts (ports_in Plain n config) (plain_nets n config).nets.enable shifts
  pub count : length shifts ≡ cycles
  pub carries : (chain cycle : ℕ) (x : Vector) → chain < config.chains → slice_get shifts cycle ≡ Some x → x.ports ((plain_nets n config).scan_in chain) ≡ known (table chain cycle)
  pub run : IsRun (plain_logic n config) before start ts
  pub turns : AreTurns (plain_logic n config) (after_turns (plain_logic n config) start before ts) shifts us

-- Each table is shifted in by some run, of each number of cycles.
abbrev pub ShiftsRun : Type 0
ShiftsRun = (n : Netlist) (config : Config) (cycles : ℕ) (table : Table) → IsReady n config → ShiftRun n config cycles table

-- ---- events while scan is off

-- the same events, one after another, with the same free bits after each
abbrev pub SameEvents : List Step → List Step → Type 0
SameEvents [] [] = Unit {0}
SameEvents [] (other ∷ others) = ⊥
SameEvents (step ∷ steps) [] = ⊥
SameEvents (step ∷ steps) (other ∷ others) = (step.event ≡ other.event) × (SameFree step.moment other.moment × SameEvents steps others)

-- A design and its scanned netlist, each from its start, go through a Set of these ports and these events behind it, with these free bits at the
-- design's nets; scan_enable is 0. It is all that IsSameWhileOff asks of what follows two starts.
pub record OffRun (style : Style) (n : Netlist) (config : Config) (now its : Now) (ports : ℕ → Tri) (free : Moment) (events : List Step) : Type 0 where
  pub given : ℕ → Tri
  pub m : Moment
  pub o : Moment
  pub steps : List Step
  pub others : List Step
  pub events_are : SameEvents (set_to ports free ∷ events) (set_to ports o ∷ others)
  pub off : given (places_in style n config).enable ≡ Zero
  pub ports_are : (net : ℕ) → net < (places_in style n config).size → given ((places_in style n config).moved net) ≡ ports net
  pub alike : AreFreeAlike (places_in style n config) m o
  pub same : AreSameSteps (logic_of n (config_ports n config)) (places_in style n config) (next_now (logic_of n (config_ports n config)) its (set_to ports o)) steps others
  pub settled : AreSteps (logic_of (scanned style n config) (ports_in style n config)) now (set_to given m ∷ steps)
  pub its_settled : AreSteps (logic_of n (config_ports n config)) its (set_to ports o ∷ others)

-- From any two starts they go through any ports and any events of the design, edges of any of its clocks at once among them, with any free bits.
abbrev pub EventsRun : Style → Netlist → Config → Type 0
EventsRun style n config = (now its : Now) (ports : ℕ → Tri) (free : Moment) (events : List Step) → OffRun style n config now its ports free events

-- So it is for every ready design.
abbrev pub EventsRunWhileOff : Type 0
EventsRunWhileOff = (style : Style) (n : Netlist) (config : Config) → IsReady n config → EventsRun style n config
