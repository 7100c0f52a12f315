-- What is told of a group is told of all faults.
use Rattle.std.proofs.Common.{ℕ, zero, suc, Bool, not, ◌≡◌, ◌<◌, ◌≤◌, ◌∙◌, inl, inr, List, [], ◌∷◌, ◌++◌, length, replicate, refl, sym, ap, subst, arith, slice_get, slice_set, get_or-set_same, get_or-set_other, Option, None, Some}
use Rattle.std.proofs.lemmas.Bool.{cases_eq}
use Rattle.std.proofs.lemmas.Option.{none-some, same_Some}
use Rattle.dft_netlist.specs.Netlist.{Netlist}
use Rattle.dft_patterns.specs.Patterns.{Patterns}
use Rattle.dft_faults.specs.declared.fault.Fault.{Fault}
use Rattle.dft_grade.specs.declared.found.Grade.{Grade}
use Rattle.dft_logic.specs.Circuit.{flag_at}
use Rattle.dft_logic.specs.Compiling.{ports_by}
use Rattle.dft_replay.specs.Rows.{ports_of}
use Rattle.dft_fault_lanes.specs.Compares.{found_at}
use Rattle.dft_fault_lanes.specs.Gathers.{AreFaults, AreOf, AreTold, AreWritten}

-- ---- a group

pub of_push : (all : List Fault) (places : List ℕ) (faults : List Fault) (place : ℕ) (fault : Fault) → slice_get all place ≡ Some fault → AreOf all places faults → AreOf all (places ++ place ∷ []) (faults ++ fault ∷ [])
of_push all [] [] place fault at are = (at, tt)
of_push all [] (f ∷ faults) place fault at are = absurd are
of_push all (p ∷ places) [] place fault at are = absurd are
of_push all (p ∷ places) (f ∷ faults) place fault at are = (are.0, of_push all places faults place fault at are.1)

of_place : (all : List Fault) (places : List ℕ) (faults : List Fault) (lane place : ℕ) → AreOf all places faults → slice_get places lane ≡ Some place → slice_get faults lane ≡ slice_get all place
of_place all [] faults lane place are at = absurd (none-some place at)
of_place all (p ∷ places) [] lane place are at = absurd are
of_place all (p ∷ places) (f ∷ faults) zero place are at = sym are.0 ∙ ap (slice_get all) (same_Some p place at)
of_place all (p ∷ places) (f ∷ faults) (suc lane) place are at = of_place all places faults lane place are.1 at

of_fault : (all : List Fault) (places : List ℕ) (faults : List Fault) (lane : ℕ) (fault : Fault) → AreOf all places faults → slice_get faults lane ≡ Some fault → (place : ℕ) × (slice_get all place ≡ Some fault)
of_fault all places [] lane fault are at = absurd (none-some fault at)
of_fault all [] (f ∷ faults) lane fault are at = absurd are
of_fault all (p ∷ places) (f ∷ faults) zero fault are at = (p, are.0 ∙ at)
of_fault all (p ∷ places) (f ∷ faults) (suc lane) fault are at = of_fault all places faults lane fault are.1 at

pub group_faults : (n : Netlist) (all : List Fault) (places : List ℕ) (faults : List Fault) → AreFaults n all → AreOf all places faults → AreFaults n faults
group_faults n all places faults each are lane fault at = (let r = of_fault all places faults lane fault are at in each r.0 fault r.1)

-- ---- what is written

pub none_written : (places : List ℕ) (told old : List (Option Grade)) → AreWritten places told old old
none_written places told old = λ place grade is. inl is

pub write_more : (places : List ℕ) (told old now : List (Option Grade)) (lane place : ℕ) (grade : Option Grade) → place < length now → slice_get places lane ≡ Some place → grade ≡ found_at told lane → AreWritten places told old now → AreWritten places told old (slice_set now place grade)
write_more places told old now lane place grade live here tells w = λ k found is. elim (cases_eq k place) [
  | inl e ↦ inr (lane, (here ∙ ap Some (sym e), sym tells ∙ sym (ap (found_at (slice_set now place grade)) e ∙ get_or-set_same now place grade None live) ∙ is))
  | inr ne ↦ w k found (sym (get_or-set_other now place k grade None ne) ∙ is)
]

pub told_after : (n : Netlist) (p : Patterns) (all : List Fault) (places : List ℕ) (group : List Fault) (told old new : List (Option Grade)) → AreOf all places group → AreTold n p all old → AreTold n p group told → AreWritten places told old new → AreTold n p all new
told_after n p all places group told old new are before tells w = λ place fault grade at is. elim (w place grade is) [
  | inl was ↦ before place fault grade at was
  | inr now ↦ tells now.0 fault grade (of_place all places group now.0 place are now.1.0 ∙ at) now.1.1
]

-- ---- nothing is told

none_at : (count place : ℕ) → found_at (replicate count None) place ≡ None
none_at zero place = refl
none_at (suc count) zero = refl
none_at (suc count) (suc place) = none_at count place

pub nothing_told : (n : Netlist) (p : Patterns) (faults : List Fault) (count : ℕ) → AreTold n p faults (replicate count None)
nothing_told n p faults count = λ place fault grade at is. absurd (none-some grade (sym (none_at count place) ∙ is))

-- ---- ports

-- flags of the clocks of the patterns are their ports
pub same_ports : (n : Netlist) (p : Patterns) (flags : List Bool) → ((e : ℕ) → flag_at flags e ≡ (ports_of n p).is_clock e) → ports_by flags ≡ ports_of n p
same_ports n p flags same = λ t. record { is_clock = λ e. same e t; is_reset = λ e. not (same e t) }

-- ---- one fault more

longer : (group : List Fault) (fault : Fault) → length (group ++ fault ∷ []) ≡ suc (length group)
longer [] fault = refl
longer (first ∷ group) fault = ap suc (longer group fault)

pub gather_more : (all : List Fault) (places more_places : List ℕ) (group more : List Fault) (place : ℕ) (fault : Fault) → slice_get all place ≡ Some fault → length group < 512 → more_places ≡ places ++ place ∷ [] → more ≡ group ++ fault ∷ [] →
    AreOf all places group → (length more ≤ 512) × AreOf all more_places more
gather_more all places more_places group more place fault at room ps gs are =
    let size : length more ≡ suc (length group) = ap length gs ∙ longer group fault in
    (omega (arith, size, room), subst (λ (p : List ℕ). AreOf all p more) (sym ps) (subst (AreOf all (places ++ place ∷ [])) (sym gs) (of_push all places group place fault at are)))

pub gather_same : (all : List Fault) (places same_places : List ℕ) (group same : List Fault) → same_places ≡ places → same ≡ group → (length group ≤ 512) × AreOf all places group → (length same ≤ 512) × AreOf all same_places same
gather_same all places same_places group same ps gs are =
    subst (λ (g : List Fault). (length g ≤ 512) × AreOf all same_places g) (sym gs) (subst (λ (p : List ℕ). (length group ≤ 512) × AreOf all p group) (sym ps) are)
