-- What the lanes are: each is the design with its fault.
use Rattle.std.specs.Prelude.{ℕ, Bool, ◌≡◌, ◌<◌, List}
use Rattle.dft_lanes.specs.declared.wide.Wide.{Wide}
use Rattle.dft_logic.specs.Circuit.{Circuit, logic_at, flag_at}
use Rattle.dft_logic.specs.Values.{value_at}
use Rattle.dft_takings.specs.Needs.{IsStillOn}
use Rattle.dft_evaluator.specs.Wides.{values_in}
use Rattle.dft_netlist.specs.Netlist.{Netlist}
use Rattle.dft_behavior.specs.Logic.{logic_of}
use Rattle.dft_patterns.specs.Patterns.{Patterns}
use Rattle.dft_replay.specs.Rows.{ports_of, rows_of}
use Rattle.dft_faults.specs.declared.fault.Fault.{Fault}
use Rattle.dft_faults.specs.Faulty.{IsFault}
use Rattle.dft_grade.specs.declared.found.Grade.{Grade}
use Rattle.dft_grade.specs.Grades.{IsGraded}
use Rattle.dft_fault_laws.specs.Stuck.{with_fault, IsApart}
use Rattle.dft_fault_lanes.specs.Lanes.{IsStuck, Situation, AreSettledOn}
use Rattle.dft_fault_lanes.specs.Groups.{HasRowsGrade}

-- In a lane in which one net is stuck, nets of a set that are settled are those of the logic in which this net has the constant.
abbrev pub LaneIsFaulty : Type 0
LaneIsFaulty =
    (x : Circuit) (s : Situation) (needs : (net : ℕ) → Bool) (wides : List Wide) (lane stuck : ℕ) (value : Bool) → AreSettledOn x.ops s needs wides → lane < 512 → IsStuck s.clamps lane stuck value →
    IsStillOn (with_fault stuck value (logic_at x)) (flag_at s.levels) (value_at s.ports) (values_in s.cells lane) needs (values_in wides lane)

-- Where no clock, reset or set comes by a fault's net, a grade of the logic in which it is stuck is that of the fault.
abbrev pub LanesAreExact : Type 0
LanesAreExact =
    (n : Netlist) (f : Fault) (p : Patterns) (x : Circuit) (grade : Grade) → IsFault n f → IsApart n f → logic_at x ≡ logic_of n (ports_of n p) →
    HasRowsGrade (with_fault f.net.0 f.value (logic_at x)) (rows_of n p) grade → IsGraded n p f grade
