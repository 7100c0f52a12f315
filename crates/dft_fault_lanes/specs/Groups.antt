-- The grades of a group of faults, one in each lane.
use Rattle.std.specs.Prelude.{ℕ, Bool, true, false, ◌≡◌, ◌<◌, ◌⊎◌, List, slice_get, Option, None, Some}
use Rattle.dft_base.specs.declared.tri.Tri.{Tri}
use Rattle.dft_base.specs.declared.tri.Tri.TheVariants.{Unknown}
use Rattle.dft_lanes.specs.declared.wide.Wide.{Wide}
use Rattle.dft_behavior.specs.Logic.{Logic}
use Rattle.dft_abstract.specs.Cycle.{Round, IsRound, after_round, all_unknown}
use Rattle.dft_logic.specs.Circuit.{Circuit, logic_at, flag_at}
use Rattle.dft_logic.specs.Values.{value_at}
use Rattle.dft_evaluator.specs.Wides.{value_in, values_in}
use Rattle.dft_replay.specs.declared.verdict.Unknowns.TheVariants.{Skip}
use Rattle.dft_replay.specs.declared.verdict.Verdict.{Verdict}
use Rattle.dft_replay.specs.declared.verdict.Verdict.TheVariants.{Pass, Mismatch}
use Rattle.dft_replay.specs.Rows.{Row}
use Rattle.dft_replay.specs.Verdicts.{EndsFrom}
use Rattle.dft_faults.specs.declared.fault.Fault.{Fault}
use Rattle.dft_grade.specs.declared.found.Grade.{Grade}
use Rattle.dft_grade.specs.declared.found.Grade.TheVariants.{Detected, Undetected}
use Rattle.dft_fault_laws.specs.Stuck.{with_fault}
use Rattle.dft_fault_lanes.specs.declared.clamps.Clamp.{Clamp}
use Rattle.dft_fault_lanes.specs.Lanes.{IsStuck}
use Rattle.dft_fault_lanes.specs.Compares.{is_one, found_at, IsDecided}

-- ---- a vector

-- What a vector does in a lane: it is live no more and stays as it is, or it was live, and a round of the vector gives its cells and decides whether it is live and its grade.
abbrev pub IsLaneStep : Logic → Row → (vector : ℕ) → (old new : ℕ → Tri) → (live live_now : Bool) → (found found_now : Option Grade) → Type 0
IsLaneStep l x v old new live live_now found found_now =
    ((live_now ≡ false) × (found_now ≡ found))
    ⊎ ((live ≡ true) × ((r : Round) × (IsRound l x.vector old r × (((c : ℕ) → after_round l x.vector old r c ≡ new c) × IsDecided r.strobe v x.compared live_now found found_now))))

-- the same of each lane in which a net is stuck
abbrev pub AreSteps : Circuit → List (Option Clamp) → Row → (vector : ℕ) → (old new : List Wide) → (live live_now : Wide) → (found found_now : List (Option Grade)) → Type 0
AreSteps x clamps row v old new live live_now found found_now =
    (lane stuck : ℕ) (value : Bool) → lane < 512 → IsStuck clamps lane stuck value →
    IsLaneStep (with_fault stuck value (logic_at x)) row v (values_in old lane) (values_in new lane) (is_one (value_in live lane)) (is_one (value_in live_now lane)) (found_at found lane) (found_at found_now lane)

-- ---- all vectors

-- the grade of a logic under rows: what a replay comes to that passes over unknown bits
abbrev pub HasRowsGrade : Logic → List Row → Grade → Type 0
HasRowsGrade l rows (Detected vector signal) = EndsFrom Skip l all_unknown 0 0 rows (Mismatch vector signal)
HasRowsGrade l rows Undetected = (compared : ℕ) × EndsFrom Skip l all_unknown 0 0 rows (Pass compared)

-- A lane that is live has no grade yet, and comes to what the rest of the rows decides; a grade that it has is that of its logic.
pub record LaneHolds (l : Logic) (rows rest : List Row) (vector : ℕ) (old : ℕ → Tri) (live : Bool) (found : Option Grade) : Type 0 where
  pub open_yet : live ≡ true → found ≡ None
  pub goes_on : live ≡ true → (count : ℕ) × ((verdict : Verdict) → EndsFrom Skip l old vector count rest verdict → EndsFrom Skip l all_unknown 0 0 rows verdict)
  pub graded : (grade : Grade) → found ≡ Some grade → HasRowsGrade l rows grade

-- each grade that was found in a lane is that of the logic in which the net of the lane's fault is stuck
abbrev pub AreFound : Circuit → List Row → List Fault → List (Option Grade) → Type 0
AreFound x rows faults found =
    (lane : ℕ) (fault : Fault) (grade : Grade) → slice_get faults lane ≡ Some fault → found_at found lane ≡ Some grade → HasRowsGrade (with_fault fault.net.0 fault.value (logic_at x)) rows grade

-- the same by what is stuck
abbrev pub AreGraded : Circuit → List (Option Clamp) → List Row → List (Option Grade) → Type 0
AreGraded x clamps rows found =
    (lane stuck : ℕ) (value : Bool) (grade : Grade) → lane < 512 → IsStuck clamps lane stuck value → found_at found lane ≡ Some grade → HasRowsGrade (with_fault stuck value (logic_at x)) rows grade

-- nothing is known yet, every lane is live, and no grade is found
pub record IsFresh (set : List Tri) (held : List Wide) (marks : Wide) (grades : List (Option Grade)) : Type 0 where
  pub ports : (net : ℕ) → value_at set net ≡ Unknown
  pub cells : (lane c : ℕ) → lane < 512 → values_in held lane c ≡ Unknown
  pub live : (lane : ℕ) → lane < 512 → is_one (value_in marks lane) ≡ true
  pub found : (lane : ℕ) → found_at grades lane ≡ None

-- a grade that is left was told, of a fault by whose net no clock, reset or set comes
abbrev pub IsKept : (control : List Bool) → Fault → (told : Option Grade) → Grade → Type 0
IsKept control fault told grade = (told ≡ Some grade) × (flag_at control fault.net.0 ≡ false)
