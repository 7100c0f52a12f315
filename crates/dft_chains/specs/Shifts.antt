-- What shift vectors do to scan chains (Bushnell and Agrawal, Essentials of Electronic Testing).
use Rattle.std.specs.Prelude.{ℕ, zero, suc, ◌+◌, ◌≡◌, Bool, true, List, [], ◌∷◌, length, None, Some, slice_get}
use Rattle.dft_base.specs.declared.tri.Tri.{Tri}
use Rattle.dft_base.specs.declared.tri.Tri.TheVariants.{One}
use Rattle.dft_base.specs.Tri.{Above}
use Rattle.dft_netlist.specs.declared.ids.InstanceId.{InstanceId}
use Rattle.dft_behavior.specs.Logic.{Logic, Ports, IsRanked}
use Rattle.dft_behavior.specs.Runs.{State, Now, next_now, set_step, Vector, Turn, IsTurn, after_turn, AreTurns, AreLow, IsRun}
use Rattle.dft_abstract.specs.Cycle.{Halves, AreHalves, after_halves}
use Rattle.dft_abstract.specs.Laws.{shown}
use Rattle.dft_runs.specs.Passes.{after_turns}
use Rattle.dft_stitch.specs.Plans.{cell_at}
use Rattle.dft_chains.specs.Hardware.{ChainNets, ScanNets, HasChains, Enters, IsPlain}

-- a shift vector: the port that enables shifting and all resets are 1, and every domain pulses; other inputs are anything
pub record IsShift (ports : Ports) (enable : ℕ) (x : Vector) : Type 0 where
  pub enabled : x.ports enable ≡ One
  pub resets : (net : ℕ) → ports.is_reset net ≡ true → x.ports net ≡ One
  pub domains : (net : ℕ) → ports.is_clock net ≡ true → x.pulsed net ≡ true

-- ---- one shift vector on the abstract cycle, for any halves

-- each cell behind another one takes the value that this one had
abbrev pub LinkLaw : Type 0
LinkLaw =
    (l : Logic) (ports : Ports) (chains : List (List InstanceId)) (w : ChainNets) (x : Vector) (old : ℕ → Tri) (h : Halves) →
    HasChains l ports chains w → IsShift ports w.enable x → AreHalves l x old h →
    (chain place : ℕ) (cell next : InstanceId) → cell_at chains chain place ≡ Some cell → cell_at chains chain (suc place) ≡ Some next →
    after_halves l x old h next.0 ≡ old cell.0

-- the first cell takes the value of its scan input port
abbrev pub EntryLaw : Type 0
EntryLaw =
    (l : Logic) (ports : Ports) (chains : List (List InstanceId)) (w : ScanNets) (x : Vector) (old : ℕ → Tri) (h : Halves) →
    HasChains l ports chains w.nets → IsShift ports w.nets.enable x → AreHalves l x old h →
    (chain : ℕ) (cell : InstanceId) → cell_at chains chain zero ≡ Some cell → Enters l w chain → after_halves l x old h cell.0 ≡ x.ports (w.scan_in chain)

-- ---- in every run

-- What one shift vector does to the bits of the cells: the first cell of a chain has its port's bit, where the port was set, and
-- each other cell has the bit of the one before it.
pub record IsShifted (chains : List (List InstanceId)) (w : ScanNets) (x : Vector) (old new : ℕ → Bool) : Type 0 where
  pub entries : (chain : ℕ) (cell : InstanceId) → cell_at chains chain zero ≡ Some cell → Above (x.ports (w.scan_in chain)) (new cell.0)
  pub links : (chain place : ℕ) (cell next : InstanceId) → cell_at chains chain place ≡ Some cell → cell_at chains chain (suc place) ≡ Some next → new next.0 ≡ old cell.0

abbrev pub ShiftInRuns : Type 0
ShiftInRuns =
    (l : Logic) (rank : ℕ → ℕ) (ports : Ports) (chains : List (List InstanceId)) (w : ScanNets) (x : Vector) (now : Now) (t : Turn) →
    IsRanked l rank → IsPlain l ports chains w → IsShift ports w.nets.enable x → AreLow now.state → IsTurn l x now t →
    IsShifted chains w x now.state.flops (after_turn l x now t).state.flops

abbrev pub AreShifts : Ports → (enable : ℕ) → List Vector → Type 0
AreShifts ports enable [] = Unit {0}
AreShifts ports enable (x ∷ xs) = IsShift ports enable x × AreShifts ports enable xs

-- what shift vectors leave in the cells
pub record AreShifted (chains : List (List InstanceId)) (w : ScanNets) (xs : List Vector) (old new : ℕ → Bool) : Type 0 where
  -- at place k the bit of the scan input port in the vector k + 1 before the end, where the port was set
  pub entered : (chain place number : ℕ) (cell : InstanceId) (x : Vector) → suc (place + number) ≡ length xs → slice_get xs number ≡ Some x →
      cell_at chains chain place ≡ Some cell → Above (x.ports (w.scan_in chain)) (new cell.0)
  -- or the bit of the cell that stands as many places before as there were vectors
  pub passed : (chain before place : ℕ) (other cell : InstanceId) → place ≡ before + length xs → cell_at chains chain before ≡ Some other →
      cell_at chains chain place ≡ Some cell → new cell.0 ≡ old other.0

-- after any vectors, and then shift vectors, in every run
abbrev pub ShiftExperiment : Type 0
ShiftExperiment =
    (l : Logic) (rank : ℕ → ℕ) (ports : Ports) (chains : List (List InstanceId)) (w : ScanNets) (before shifts : List Vector) (start : Now) (ts us : List Turn) →
    IsRanked l rank → IsPlain l ports chains w → IsRun l before start ts → AreShifts ports w.nets.enable shifts → AreTurns l (after_turns l start before ts) shifts us →
    AreShifted chains w shifts (after_turns l start before ts).state.flops (after_turns l (after_turns l start before ts) shifts us).state.flops

-- ---- what the scan outputs show

-- what there is at the strobe of a turn
abbrev pub at_strobe : Logic → Vector → Now → Turn → State
at_strobe l x now t = (next_now l now (set_step x t)).state

-- at every strobe each scan output port shows the bit of its last cell
abbrev pub EndsShow : Type 0
EndsShow =
    (l : Logic) (ports : Ports) (chains : List (List InstanceId)) (w : ScanNets) (x : Vector) (now : Now) (t : Turn) → IsPlain l ports chains w → IsTurn l x now t →
    (chain place : ℕ) (cell : InstanceId) → cell_at chains chain place ≡ Some cell → cell_at chains chain (suc place) ≡ None →
    shown t (w.scan_out chain) ≡ (at_strobe l x now t).flops cell.0

-- in a shift vector that is the bit that it held before
abbrev pub EndsShowBefore : Type 0
EndsShowBefore =
    (l : Logic) (ports : Ports) (chains : List (List InstanceId)) (w : ScanNets) (x : Vector) (now : Now) (t : Turn) → IsPlain l ports chains w → IsShift ports w.nets.enable x → IsTurn l x now t →
    (chain place : ℕ) (cell : InstanceId) → cell_at chains chain place ≡ Some cell → cell_at chains chain (suc place) ≡ None →
    shown t (w.scan_out chain) ≡ now.state.flops cell.0
