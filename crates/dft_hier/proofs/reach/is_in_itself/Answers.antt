use Rattle.std.proofs.Common.{◌<◌, ℕ, List, [], length, sym, ◌∙◌, arith, rules}
use Rattle.std.proofs.lemmas.List.{get_or_read}
use Rattle.dft_hier.proofs.SearchLemmas.{begins, goes_on, no, no_more, all_passed, next_live, next_below}
use Rattle.dft_hier.proofs.reach.is_in_itself.Goals as goal

pub loop-place-init : goal.loop-place-init
loop-place-init c =
    let g : List (List ℕ) = c.args.children.now in
    begins g c.args.number c.as_slice.result.now c.meet_all.new.self c.requires.within (c.as_slice.ensures ∙ get_or_read g c.args.number c.index-children-number.result c.requires.live c.index-children-number.is [])
    (rw (← c.in_ok-search.ensures) c.in_ok-meet_all.ensures)

pub bounds-children-next : goal.bounds-children-next
bounds-children-next c = next_live c.args.children.now c.args.number c.loop-place.place c.loop-place.search c.in-Some.next c.requires.within c.requires.live (sym c.at.ensures ∙ c.in-Some.is) c.loop-place.invariant

pub meet_all-requires-in-Some : goal.meet_all-requires-in-Some
meet_all-requires-in-Some c =
    let g : List (List ℕ) = c.args.children.now in
    let live = next_live g c.args.number c.loop-place.place c.loop-place.search c.in-Some.next c.requires.within c.requires.live (sym c.at.ensures ∙ c.in-Some.is) c.loop-place.invariant in
    next_below g c.args.number c.loop-place.place c.loop-place.search c.in-Some.next c.as_slice-in-Some.result.now c.requires.within live (c.as_slice-in-Some.ensures ∙ get_or_read g c.in-Some.next c.index-children-next.result live c.index-children-next.is []) c.loop-place.invariant

pub loop-place-preserved : goal.loop-place-preserved
loop-place-preserved c =
    let g : List (List ℕ) = c.args.children.now in
    let at = sym c.at.ensures ∙ c.in-Some.is in
    let live = next_live g c.args.number c.loop-place.place c.loop-place.search c.in-Some.next c.requires.within c.requires.live at c.loop-place.invariant in
    goes_on g c.args.number c.loop-place.place c.in-Some.next c.as_slice-in-Some.result.now c.loop-place.search c.meet_all-in-Some.new.self c.requires.within at (c.as_slice-in-Some.ensures ∙ get_or_read g c.in-Some.next c.index-children-next.result live c.index-children-next.is []) c.in_ok-meet_all-in-Some.ensures c.loop-place.invariant

pub returns-in-None-clause-no : goal.returns-in-None-clause-no
returns-in-None-clause-no c = λ is. no c.args.children.now c.args.number c.loop-place.place c.loop-place.search c.loop-place.invariant (no_more c.loop-place.search.ahead c.loop-place.place (sym c.at.ensures ∙ c.in-None.is)) (sym c.has_met.ensures ∙ is)

pub returns-clause-no : goal.returns-clause-no
returns-clause-no c =
    let past = c.loop-place-test.false in
    let end = c.loop-place.auto.place-end in
    λ is. no c.args.children.now c.args.number c.loop-place.place c.loop-place.search c.loop-place.invariant (all_passed c.args.children.now c.args.number c.loop-place.place c.loop-place.search c.loop-place.invariant (omega arith)) (sym c.has_met-2.ensures ∙ is)

pub offset_bounds-children-next : goal.offset_bounds-children-next
offset_bounds-children-next c =
    let live : c.in-Some.next < length c.args.children.now = next_live c.args.children.now c.args.number c.loop-place.place c.loop-place.search c.in-Some.next c.requires.within c.requires.live (sym c.at.ensures ∙ c.in-Some.is) c.loop-place.invariant in
    search rules
