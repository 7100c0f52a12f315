-- Each lane is the design with its fault.
use Rattle.std.proofs.Common.{ℕ, Bool, true, false, ◌≡◌, ◌==◌, refl, ◌∙◌}
use Rattle.std.specs.Prelude.{if◌then◌else◌}
use Rattle.dft_base.specs.declared.tri.Tri.{Tri}
use Rattle.dft_base.specs.Tri.{known}
use Rattle.dft_netlist.specs.Drivers.{Tied}
use Rattle.dft_behavior.specs.Logic.{Meaning, Joined}
use Rattle.dft_behavior.specs.Settled.{TriSources, value_given}
use Rattle.dft_logic.specs.Circuit.{logic_at, meaning, op_at, flag_at}
use Rattle.dft_logic.specs.Values.{value_at}
use Rattle.dft_takings.specs.Needs.{still_from}
use Rattle.dft_evaluator.specs.Wides.{values_in}
use Rattle.dft_fault_lanes.specs.Laws.{LaneIsFaulty}

stuck_given : (s : TriSources) (values : ℕ → Tri) (net : ℕ) (here value : Bool) (m : Meaning) → (if here then known value else value_given s values net m) ≡ value_given s values net (if here then Joined (Tied value) else m)
stuck_given s values net true value m = refl
stuck_given s values net false value m = refl

pub lane_is_faulty : LaneIsFaulty
unfolding logic_at
lane_is_faulty x s needs wides lane stuck value settled within is net need =
    settled lane net within need
    ∙ is net (value_given (still_from (flag_at s.levels) (value_at s.ports) (values_in s.cells lane) (values_in wides lane)) (values_in wides lane) net (meaning (op_at x.ops net)))
    ∙ stuck_given (still_from (flag_at s.levels) (value_at s.ports) (values_in s.cells lane) (values_in wides lane)) (values_in wides lane) net (net == stuck) value (meaning (op_at x.ops net))
