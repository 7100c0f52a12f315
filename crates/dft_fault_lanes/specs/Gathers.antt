-- What is told of many faults, and a group of those of which nothing is told yet.
use Rattle.std.specs.Prelude.{ℕ, ◌≡◌, ◌⊎◌, List, [], ◌∷◌, slice_get, Option, Some}
use Rattle.dft_netlist.specs.Netlist.{Netlist}
use Rattle.dft_patterns.specs.Patterns.{Patterns}
use Rattle.dft_faults.specs.declared.fault.Fault.{Fault}
use Rattle.dft_faults.specs.Faulty.{IsFault}
use Rattle.dft_grade.specs.declared.found.Grade.{Grade}
use Rattle.dft_grade.specs.Grades.{IsGraded}
use Rattle.dft_fault_lanes.specs.Compares.{found_at}

-- each of these is a fault of the design
abbrev pub AreFaults : Netlist → List Fault → Type 0
AreFaults n faults = (place : ℕ) (fault : Fault) → slice_get faults place ≡ Some fault → IsFault n fault

-- each grade that is told is that of the fault at its place
abbrev pub AreTold : Netlist → Patterns → List Fault → List (Option Grade) → Type 0
AreTold n p faults found = (place : ℕ) (fault : Fault) (grade : Grade) → slice_get faults place ≡ Some fault → found_at found place ≡ Some grade → IsGraded n p fault grade

-- these are the faults at these places, one for each
abbrev pub AreOf : (all : List Fault) → (places : List ℕ) → List Fault → Type 0
AreOf all [] [] = Unit {0}
AreOf all [] (fault ∷ faults) = ⊥
AreOf all (place ∷ places) [] = ⊥
AreOf all (place ∷ places) (fault ∷ faults) = (slice_get all place ≡ Some fault) × AreOf all places faults

-- each grade was there before, or is told in the lane of its place
abbrev pub AreWritten : (places : List ℕ) → (told old new : List (Option Grade)) → Type 0
AreWritten places told old new =
    (place : ℕ) (grade : Grade) → found_at new place ≡ Some grade → (found_at old place ≡ Some grade) ⊎ ((lane : ℕ) × ((slice_get places lane ≡ Some place) × (found_at told lane ≡ Some grade)))
