-- What is told of faults, and taken back.
use Rattle.std.proofs.Common.{ℕ, Bool, false, ◌≡◌, ◌<◌, ◌≤◌, ◌+◌, inl, inr, List, length, refl, sym, ap, subst, arith, ◌∙◌, slice_get, slice_set, get_or-set_same, get_or-set_other, Option, None, Some}
use Rattle.std.proofs.lemmas.List.{length-set}
use Rattle.std.proofs.lemmas.Bool.{cases_eq}
use Rattle.std.proofs.lemmas.Option.{same_Some, slice_get_within}
use Rattle.dft_netlist.specs.Netlist.{Netlist}
use Rattle.dft_behavior.specs.Logic.{logic_of}
use Rattle.dft_logic.specs.Circuit.{Circuit, flag_at, logic_at}
use Rattle.dft_patterns.specs.Patterns.{Patterns}
use Rattle.dft_replay.specs.Rows.{ports_of, rows_of}
use Rattle.dft_faults.specs.declared.fault.Fault.{Fault}
use Rattle.dft_faults.specs.Faulty.{IsFault}
use Rattle.dft_grade.specs.declared.found.Grade.{Grade}
use Rattle.dft_grade.specs.Grades.{IsGraded}
use Rattle.dft_fault_laws.specs.Stuck.{IsControl}
use Rattle.dft_fault_lanes.specs.Compares.{found_at}
use Rattle.dft_fault_lanes.specs.Groups.{AreFound, IsKept}
use Rattle.dft_fault_lanes.proofs.ExactLemmas.{lanes_are_exact}
use Rattle.dft_fault_lanes.proofs.GroupLemmas.{none_some}

-- of the first faults what is left is kept, and nothing is told anew
pub record TakingBack (faults : List Fault) (control : List Bool) (old now : List (Option Grade)) (place : ℕ) : Type 0 where
  pub size : length now ≡ length old
  pub fewer : (k : ℕ) (grade : Grade) → found_at now k ≡ Some grade → found_at old k ≡ Some grade
  pub apart : (k : ℕ) (fault : Fault) (grade : Grade) → k < place → slice_get faults k ≡ Some fault → found_at now k ≡ Some grade → flag_at control fault.net.0 ≡ false

pub back_starts : (faults : List Fault) (control : List Bool) (old : List (Option Grade)) → TakingBack faults control old old 0
back_starts faults control old = record { size = refl; fewer = λ k grade is. is; apart = λ k fault grade less at is. absurd (omega arith) }

pub back_more : (faults : List Fault) (control : List Bool) (old now : List (Option Grade)) (place : ℕ) → place < length now → TakingBack faults control old now place → TakingBack faults control old (slice_set now place None) (place + 1)
back_more faults control old now place live t =
    let here : found_at (slice_set now place None) place ≡ None = get_or-set_same now place None None live in
    record {
      size = length-set now place None ∙ t.size;
      fewer = λ k grade is. elim (cases_eq k place) [
        | inl e ↦ absurd (none_some (found_at (slice_set now place None) k) grade (ap (found_at (slice_set now place None)) e ∙ here) is)
        | inr ne ↦ t.fewer k grade (sym (get_or-set_other now place k None None ne) ∙ is)
      ];
      apart = λ k fault grade less at is. elim (cases_eq k place) [
        | inl e ↦ absurd (none_some (found_at (slice_set now place None) k) grade (ap (found_at (slice_set now place None)) e ∙ here) is)
        | inr ne ↦ t.apart k fault grade (omega (arith, less, ne)) at (sym (get_or-set_other now place k None None ne) ∙ is)
      ];
    }

pub back_none : (faults : List Fault) (control : List Bool) (old now : List (Option Grade)) (place : ℕ) (fault : Fault) → slice_get faults place ≡ Some fault → flag_at control fault.net.0 ≡ false → TakingBack faults control old now place → TakingBack faults control old now (place + 1)
back_none faults control old now place fault here off t = record {
  size = t.size;
  fewer = t.fewer;
  apart = λ k other grade less at is. elim (cases_eq k place) [
    | inl e ↦ subst (λ (f : Fault). flag_at control f.net.0 ≡ false) (same_Some fault other (sym here ∙ ap (slice_get faults) (sym e) ∙ at)) off
    | inr ne ↦ t.apart k other grade (omega (arith, less, ne)) at is
  ];
}

pub back_ends : (faults : List Fault) (control : List Bool) (old now : List (Option Grade)) (place : ℕ) → length faults ≤ place → TakingBack faults control old now place →
    (k : ℕ) (fault : Fault) (grade : Grade) → slice_get faults k ≡ Some fault → found_at now k ≡ Some grade → IsKept control fault (found_at old k) grade
back_ends faults control old now place all t k fault grade at is = (t.fewer k grade is, t.apart k fault grade (let w = slice_get_within faults k fault at in omega (arith, w, all)) at is)

-- what is left is the fault's grade
pub told : (n : Netlist) (p : Patterns) (x : Circuit) (control : List Bool) (faults : List Fault) (old now : List (Option Grade)) → logic_of n (ports_of n p) ≡ logic_at x → IsControl n (flag_at control) →
    ((place : ℕ) (fault : Fault) → slice_get faults place ≡ Some fault → IsFault n fault) → AreFound x (rows_of n p) faults old →
    ((place : ℕ) (fault : Fault) (grade : Grade) → slice_get faults place ≡ Some fault → found_at now place ≡ Some grade → IsKept control fault (found_at old place) grade) →
    (place : ℕ) (fault : Fault) (grade : Grade) → slice_get faults place ≡ Some fault → found_at now place ≡ Some grade → IsGraded n p fault grade
told n p x control faults old now means is are found kept place fault grade at its =
    let k = kept place fault grade at its in
    lanes_are_exact n fault p x grade (are place fault at) (flag_at control, (is, k.1)) (sym means) (found place fault grade at k.0)
