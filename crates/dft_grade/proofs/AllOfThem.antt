-- The grades of all faults: there is one list of them.
use Rattle.std.proofs.Common.{ℕ, zero, suc, ◌+◌, ◌≤◌, ◌<◌, ◌^◌, ◌≡◌, ◌∙◌, Bool, true, false, List, [], ◌∷◌, ◌++◌, length, filter, map, drop, Some, slice_get, refl, sym, ap, ap₂, subst, arith}
use Rattle.std.specs.Prelude.{if◌then◌else◌, slice_index_or}
use Rattle.std.specs.List.{AllByRecursion, range_with_len}
use Rattle.std.proofs.lemmas.List.{drop_more, length-map}
use Rattle.std.proofs.lemmas.List.FromFn.{length-range_with_len}
use Rattle.std.proofs.lemmas.Option.{none-some, same_Some}
use Rattle.dft_base.proofs.ListLemmas.{drop_over}
use Rattle.dft_netlist.specs.Netlist.{Netlist}
use Rattle.dft_netlist.specs.Drivers.{IsOrdered}
use Rattle.dft_netlist.specs.declared.limits.TheConstants.{MAX_NETS}
use Rattle.dft_patterns.specs.Patterns.{Patterns}
use Rattle.dft_replay.specs.declared.verdict.Unknowns.TheVariants.{Skip}
use Rattle.dft_replay.specs.Plain.{plain_end}
use Rattle.dft_replay.specs.Rows.{ports_of}
use Rattle.dft_faults.specs.declared.fault.Fault.{Fault}
use Rattle.dft_faults.specs.Faults.{has_faults}
use Rattle.dft_faults.specs.Faulty.{IsFault, faulty}
use Rattle.dft_faults.proofs.Finished.{order_stays}
use Rattle.dft_faults.proofs.Listed.{listed_faults}
use Rattle.dft_faults.proofs.ListingLemmas.{both_few}
use Rattle.dft_grade.specs.declared.found.Grade.{Grade}
use Rattle.dft_grade.specs.declared.found.Grade.TheVariants.{Detected, Undetected}
use Rattle.dft_grade.specs.declared.found.Graded.{Graded}
use Rattle.dft_grade.specs.Grades.{IsGraded, faults_of, grade_of}
use Rattle.dft_grade.specs.Laws.{FailsInRuns}
use Rattle.dft_grade.specs.AllGrades.{AllFail, AllFailInRuns, AllGraded, AreGrades, GradesAreOne, GradesAreThere, faults_in}
use Rattle.dft_grade.proofs.Soundness.{detected_sound, grade_one, grade_plain}

-- ---- faults

-- each of these is a fault of the design
abbrev pub AreFaults : Netlist → List Fault → Type 0
AreFaults n faults = (place : ℕ) (f : Fault) → slice_get faults place ≡ Some f → IsFault n f

pub listed_are : (n : Netlist) (p : Patterns) → AreFaults n (faults_of n p)
listed_are n p place f at = listed_faults n (ports_of n p).is_clock place f at

pub fault_at : (n : Netlist) (faults : List Fault) (k : ℕ) (d : Fault) → AreFaults n faults → k < length faults → IsFault n (slice_index_or faults k d)
fault_at n [] k d are less = absurd (omega (arith, less))
fault_at n (f ∷ faults) zero d are less = are zero f refl
fault_at n (f ∷ faults) (suc k) d are less = fault_at n faults k d (λ place g at. are (suc place) g at) (omega (arith, less))

-- ---- one list

one_from : (n : Netlist) (rank : ℕ → ℕ) (p : Patterns) (a b : List Graded) → IsOrdered n rank → AreFaults n (faults_in a) → faults_in a ≡ faults_in b → AllGraded n p a → AllGraded n p b → a ≡ b
one_from n rank p [] [] order are same x y = refl
one_from n rank p [] (h ∷ b) order are same x y = absurd (none-some h.fault (ap (λ (fs : List Fault). slice_get fs 0) same))
one_from n rank p (g ∷ a) [] order are same x y = absurd (none-some g.fault (ap (λ (fs : List Fault). slice_get fs 0) (sym same)))
one_from n rank p (g ∷ a) (h ∷ b) order are same x y =
    let fault : g.fault ≡ h.fault = same_Some g.fault h.fault (ap (λ (fs : List Fault). slice_get fs 0) same) in
    let rest : faults_in a ≡ faults_in b = ap (λ (fs : List Fault). drop 1 fs) same in
    let grade : g.grade ≡ h.grade =
    grade_one n g.fault rank p g.grade h.grade (order_stays n g.fault rank (are zero g.fault refl) order) x.0 (subst (λ (f : Fault). IsGraded n p f h.grade) (sym fault) y.0) in
    let first : g ≡ h = ap₂ (λ (f : Fault) (r : Grade). let one : Graded = record { fault = f; grade = r } in one) fault grade in
    ap₂ (λ (f : Graded) (fs : List Graded). f ∷ fs) first (one_from n rank p a b order (λ place f at. are (suc place) f at) rest x.1 y.1)

pub grades_one : GradesAreOne
grades_one n rank p a b order x y =
    one_from n rank p a b order (subst (AreFaults n) (sym x.faults) (listed_are n p)) (x.faults ∙ sym y.faults) x.each y.each

-- ---- there is one

plain_grade : Netlist → Patterns → Fault → Graded
plain_grade n p f = record { fault = f; grade = grade_of (plain_end Skip (faulty n f) p) }

same_faults : (n : Netlist) (p : Patterns) (faults : List Fault) → faults_in (map (plain_grade n p) faults) ≡ faults
unfolding plain_grade
same_faults n p [] = refl
same_faults n p (f ∷ faults) = ap (λ (fs : List Fault). f ∷ fs) (same_faults n p faults)

plain_graded : (n : Netlist) (rank : ℕ → ℕ) (p : Patterns) (faults : List Fault) → IsOrdered n rank → AreFaults n faults → AllGraded n p (map (plain_grade n p) faults)
unfolding plain_grade
plain_graded n rank p [] order are = tt
plain_graded n rank p (f ∷ faults) order are =
    (grade_plain n f rank p (order_stays n f rank (are zero f refl) order), plain_graded n rank p faults order (λ place g at. are (suc place) g at))

pub grades_there : GradesAreThere
grades_there n rank p order = (
  map (plain_grade n p) (faults_of n p),
  record { faults = same_faults n p (faults_of n p); each = plain_graded n rank p (faults_of n p) order (listed_are n p) },
)

-- ---- runs

fails_by : (n : Netlist) (f : Fault) (rank : ℕ → ℕ) (p : Patterns) (grade : Grade) → IsOrdered (faulty n f) rank → IsGraded n p f grade → FailsInRuns n p f grade
fails_by n f rank p (Detected vector signal) order graded = λ start turns run. detected_sound n f rank p vector signal start turns order graded run
fails_by n f rank p Undetected order graded = tt

fail_from : (n : Netlist) (rank : ℕ → ℕ) (p : Patterns) (graded : List Graded) → IsOrdered n rank → AreFaults n (faults_in graded) → AllGraded n p graded → AllFail n p graded
fail_from n rank p [] order are each = tt
fail_from n rank p (g ∷ graded) order are each =
    (fails_by n g.fault rank p g.grade (order_stays n g.fault rank (are zero g.fault refl) order) each.0, fail_from n rank p graded order (λ place f at. are (suc place) f at) each.1)

pub all_fail : AllFailInRuns
all_fail n rank p graded order x = fail_from n rank p graded order (subst (AreFaults n) (sym x.faults) (listed_are n p)) x.each

-- ---- how many

kept_few : (t : Bool) (x : ℕ) (xs : List ℕ) (count : ℕ) → length xs ≤ count → length (if t then x ∷ xs else xs) ≤ suc count
kept_few true x xs count few = omega (arith, few)
kept_few false x xs count few = omega (arith, few)

filter_few : (test : ℕ → Bool) (xs : List ℕ) → length (filter test xs) ≤ length xs
filter_few test [] = omega arith
filter_few test (x ∷ xs) = kept_few (test x) x (filter test xs) (length xs) (filter_few test xs)

pub few_grades : (n : Netlist) (p : Patterns) (graded : List Graded) → length n.nets ≤ MAX_NETS → faults_in graded ≡ faults_of n p → length graded < 2 ^ 32
few_grades n p graded few same =
    let nets = range_with_len 0 (length n.nets) in
    let all : length (faults_in graded) ≡ length (faults_of n p) = ap length same in
    omega (arith, few, all, length-map graded (λ (g : Graded). g.fault), both_few (filter (has_faults n (ports_of n p).is_clock) nets), filter_few (has_faults n (ports_of n p).is_clock) nets, length-range_with_len 0 (length n.nets))

-- ---- one fault more

all_push : (P : Graded → Type 0) (graded : List Graded) (g : Graded) → AllByRecursion P graded → P g → AllByRecursion P (graded ++ g ∷ [])
all_push P [] g all p = (p, tt)
all_push P (first ∷ graded) g all p = (all.0, all_push P graded g all.1 p)

faults_push : (graded : List Graded) (g : Graded) (rest : List Fault) → faults_in (graded ++ g ∷ []) ++ rest ≡ faults_in graded ++ g.fault ∷ rest
faults_push [] g rest = refl
faults_push (first ∷ graded) g rest = ap (λ (fs : List Fault). first.fault ∷ fs) (faults_push graded g rest)

-- what is graded so far, and the faults that are left
pub record SoFar (n : Netlist) (p : Patterns) (faults : List Fault) (k : ℕ) (graded : List Graded) : Type 0 where
  pub faults_are : faults_in graded ++ drop k faults ≡ faults
  pub each : AllGraded n p graded

pub none_yet : (n : Netlist) (p : Patterns) (faults : List Fault) → SoFar n p faults 0 []
none_yet n p faults = record { faults_are = refl; each = tt }

pub one_more : (n : Netlist) (p : Patterns) (faults : List Fault) (k : ℕ) (d : Fault) (graded more : List Graded) (grade : Grade) → k < length faults → SoFar n p faults k graded → IsGraded n p (slice_index_or faults k d) grade →
    more ≡ graded ++ record { fault = slice_index_or faults k d; grade = grade } ∷ [] → SoFar n p faults (k + 1) more
one_more n p faults k d graded more grade less so_far is pushed =
    let g : Graded = record { fault = slice_index_or faults k d; grade = grade } in
    subst (SoFar n p faults (k + 1)) (sym pushed) (record {
      faults_are = faults_push graded g (drop (k + 1) faults) ∙ ap (λ (fs : List Fault). faults_in graded ++ fs) (sym (drop_more faults k d less)) ∙ so_far.faults_are;
      each = all_push (λ h. IsGraded n p h.fault h.grade) graded g so_far.each is;
    })

nil_after : (fs : List Fault) → fs ++ [] ≡ fs
nil_after [] = refl
nil_after (f ∷ fs) = ap (λ (gs : List Fault). f ∷ gs) (nil_after fs)

pub all_done : (n : Netlist) (p : Patterns) (faults : List Fault) (k : ℕ) (graded : List Graded) → length faults ≤ k → SoFar n p faults k graded → faults_in graded ≡ faults
all_done n p faults k graded far so_far = sym (nil_after (faults_in graded)) ∙ ap (λ (fs : List Fault). faults_in graded ++ fs) (sym (drop_over faults k far)) ∙ so_far.faults_are
