-- What is left of what the lanes tell is exact.
use Rattle.std.proofs.Common.{ℕ, List, Option, Some, ◌≡◌, ◌∙◌, sym, ap, subst, length, slice_get, arith}
use Rattle.std.proofs.lemmas.List.{with_items_is}
use Rattle.dft_abstract.specs.Cycle.{all_unknown}
use Rattle.dft_faults.specs.declared.fault.Fault.{Fault}
use Rattle.dft_grade.specs.declared.found.Grade.{Grade}
use Rattle.dft_grade.specs.Grades.{IsGraded}
use Rattle.dft_replay.specs.Rows.{Row, rows_from, rows_of}
use Rattle.dft_fault_lanes.specs.Compares.{found_at}
use Rattle.dft_fault_lanes.specs.Groups.{AreFound, IsKept}
use Rattle.dft_fault_lanes.proofs.TellingLemmas.{told}
use Rattle.dft_fault_lanes.proofs.telling.tell_grades.Goals as goal

pub grade_group-requires-clause-live : goal.grade_group-requires-clause-live
grade_group-requires-clause-live c = λ place fault at. (let live = (c.requires.each place fault at).live in let e = c.requires.circuit.nets in omega (arith, live, e))

pub returns : goal.returns
returns c =
    let n = c.args.design.now in
    let p = c.args.patterns.now in
    let x = c.args.circuit.now in
    let faults = c.args.faults.now in
    let old : List (Option Grade) = c.in_ok-found.found.items in
    let new : List (Option Grade) = c.take_back.new.found in
    let last = with_items_is c.in_ok-found.found new (c.take_back.auto.found ∙ ap length c.deref_mut.ensures.value ∙ sym c.in_ok-found.found.ok.0) in
    let rows : rows_from _ all_unknown c.vectors.result.now ≡ rows_of n p = λ t. rows_from (c.requires.named t) all_unknown (c.vectors.ensures t) in
    let found : AreFound x (rows_of n p) faults old = subst (λ (r : List Row). AreFound x r faults old) rows c.in_ok-found.ensures.found in
    let K : List (Option Grade) → Type 0 = λ l. (place : ℕ) (fault : Fault) (grade : Grade) → slice_get faults place ≡ Some fault → found_at new place ≡ Some grade → IsKept c.args.control.now fault (found_at l place) grade in
    let G : List (Option Grade) → Type 0 = λ l. (place : ℕ) (fault : Fault) (grade : Grade) → slice_get faults place ≡ Some fault → found_at l place ≡ Some grade → IsGraded n p fault grade in
    subst G (sym last) (told n p x c.args.control.now faults old new c.requires.circuit.compiled c.requires.control c.requires.each found (subst K c.deref_mut.ensures.value c.take_back.ensures))
