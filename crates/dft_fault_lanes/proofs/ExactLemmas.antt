-- What a lane tells is the grade of its fault.
use Rattle.std.proofs.Common.{ℕ, ◌≡◌, ◌≤◌, List, length, sym, ap, subst, arith, ◌∙◌, get_or, slice_get, Option, None, Some}
use Rattle.std.specs.Prelude.{replicate}
use Rattle.std.proofs.lemmas.Option.{slice_get_within}
use Rattle.dft_base.specs.declared.tri.Tri.{Tri}
use Rattle.dft_base.specs.declared.tri.Tri.TheVariants.{One, Unknown}
use Rattle.dft_base.proofs.ListLemmas.{same_all}
use Rattle.dft_lanes.specs.declared.wide.Wide.{Wide}
use Rattle.dft_netlist.specs.Netlist.{Netlist}
use Rattle.dft_behavior.specs.Logic.{Logic, logic_of}
use Rattle.dft_logic.specs.Circuit.{Circuit, logic_at}
use Rattle.dft_logic.specs.Values.{value_at}
use Rattle.dft_evaluator.specs.Wides.{value_in, values_in, unknown_wide, IsWide}
use Rattle.dft_evaluator.proofs.BitLemmas.{all_unknown}
use Rattle.dft_evaluator.proofs.WideLemmas.{value_is}
use Rattle.dft_patterns.specs.Patterns.{Patterns}
use Rattle.dft_replay.specs.Rows.{Row, ports_of, rows_of}
use Rattle.dft_faults.specs.declared.fault.Fault.{Fault}
use Rattle.dft_faults.specs.Faulty.{faulty}
use Rattle.dft_grade.specs.declared.found.Grade.{Grade}
use Rattle.dft_grade.specs.declared.found.Grade.TheVariants.{Detected, Undetected}
use Rattle.dft_grade.specs.Grades.{IsGraded}
use Rattle.dft_fault_laws.specs.Stuck.{with_fault}
use Rattle.dft_fault_laws.proofs.Meaning.{faulty_means}
use Rattle.dft_fault_lanes.specs.declared.clamps.Clamp.{Clamp}
use Rattle.dft_fault_lanes.specs.Lanes.{IsStuck}
use Rattle.dft_fault_lanes.specs.Compares.{is_one, found_at}
use Rattle.dft_fault_lanes.specs.Groups.{HasRowsGrade, IsFresh, AreGraded, AreFound}
use Rattle.dft_fault_lanes.specs.Laws.{LanesAreExact}

-- the same of a replay's own words
as_graded : (n : Netlist) (f : Fault) (p : Patterns) (grade : Grade) → HasRowsGrade (logic_of (faulty n f) (ports_of n p)) (rows_of n p) grade → IsGraded n p f grade
as_graded n f p (Detected vector signal) has = has
as_graded n f p Undetected has = has

pub lanes_are_exact : LanesAreExact
lanes_are_exact n f p x grade fault apart means has =
    let first : with_fault f.net.0 f.value (logic_at x) ≡ with_fault f.net.0 f.value (logic_of n (ports_of n p)) = ap (with_fault f.net.0 f.value) means in
    let same : with_fault f.net.0 f.value (logic_at x) ≡ logic_of (faulty n f) (ports_of n p) = first ∙ sym (faulty_means n f (ports_of n p) fault apart) in
    as_graded n f p grade (subst (λ (l : Logic). HasRowsGrade l (rows_of n p) grade) same has)

-- ---- a fresh group

pub fresh : (ports : List Tri) (cells : List Wide) (live : Wide) (found : List (Option Grade)) (n m k : ℕ) → ports ≡ replicate n Unknown → cells ≡ replicate m unknown_wide → IsWide live (λ lane. One) → found ≡ replicate k None → IsFresh ports cells live found
fresh ports cells live found n m k is_ports is_cells is_live is_found = record {
  ports = λ net. ap (λ (l : List Tri). value_at l net) is_ports ∙ same_all n net Unknown;
  cells = λ lane c within. ap (λ (l : List Wide). values_in l lane c) is_cells ∙ ap (λ (w : Wide). value_in w lane) (same_all m c unknown_wide) ∙ value_is unknown_wide (λ lane. Unknown) all_unknown lane within;
  live = λ lane within. ap is_one (value_is live (λ lane. One) is_live lane within);
  found = λ lane. ap (λ (l : List (Option Grade)). found_at l lane) is_found ∙ same_all k lane None;
}

-- nets without bounds
pub none_clamped : (clamps : List (Option Clamp)) (n : ℕ) → clamps ≡ replicate n None → (net : ℕ) → get_or clamps net None ≡ None
none_clamped clamps n is net = ap (λ (l : List (Option Clamp)). get_or l net None) is ∙ same_all n net None

pub are_found : (x : Circuit) (clamps : List (Option Clamp)) (rows : List Row) (faults : List Fault) (found : List (Option Grade)) → length faults ≤ 512 →
    ((lane : ℕ) (fault : Fault) → slice_get faults lane ≡ Some fault → IsStuck clamps lane fault.net.0 fault.value) → AreGraded x clamps rows found → AreFound x rows faults found
are_found x clamps rows faults found few stuck graded lane fault grade at its =
    graded lane fault.net.0 fault.value grade (let w = slice_get_within faults lane fault at in omega (arith, w, few)) (stuck lane fault at) its
