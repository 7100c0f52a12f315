-- The table of places, as it is filled.
use Rattle.std.proofs.Common.{◌≡◌, ℕ, ◌+◌, ◌<◌, ◌≤◌, List, [], length, get_or, set, take, drop, ◌++◌, Option, None, Some, option_and_then, slice_get, replicate, refl, sym, ◌∙◌, ap, arith, inl, inr}
use Rattle.std.specs.Prelude.{IfNone, IfSome}
use Rattle.std.proofs.lemmas.Bool.{cases_eq}
use Rattle.std.proofs.lemmas.List.{length-set, length-replicate, get_or-set_same, get_or-set_other, take_all, drop_all, append-nil}
use Rattle.std.proofs.lemmas.Option.{slice_get_within}
use Rattle.dft_base.proofs.ListLemmas.{same_all}
use Rattle.dft_netlist.specs.declared.ids.InstanceId.{InstanceId}
use Rattle.dft_stitch.specs.declared.places.CellPlace.{CellPlace}
use Rattle.dft_stitch.specs.Plans.{cell_at}
use Rattle.dft_stitch.specs.Shown.{Knows}
use Rattle.dft_stitch.specs.Tables.{Noted}

-- ---- the cells of a chain

pub none_noted : (chain : ℕ) (cells : List InstanceId) (done : ℕ) (old : List (Option CellPlace)) → done ≡ 0 → Noted chain cells done old old
none_noted chain cells done old e = record { count = refl; says = λ i p is. inl is; misses = λ i is. (is, λ place less. absurd (omega arith)) }

pub one_noted : (chain : ℕ) (cells : List InstanceId) (k : ℕ) (old now : List (Option CellPlace)) (cell : InstanceId) → cell.0 < length now → slice_get cells k ≡ Some cell → Noted chain cells k old now →
    Noted chain cells (k + 1) old (set now cell.0 (Some (record { chain = chain; place = k })))
one_noted chain cells k old now cell live at h = record {
  count = length-set now cell.0 here ∙ h.count;
  says = λ i p is. elim (cases_eq i cell.0) [
    | inl e ↦ (
        let same : here ≡ Some p = sym (get_or-set_same now cell.0 here None live) ∙ ap (λ (j : ℕ). get_or (set now cell.0 here) j None) (sym e) ∙ is in
        let p_is : record { chain = chain; place = k } ≡ p = cc in
        inr (sym (ap (λ (q : CellPlace). q.chain) p_is), ap (slice_get cells) (sym (ap (λ (q : CellPlace). q.place) p_is)) ∙ at ∙ ap (λ (j : ℕ). Some (record { 0 = j })) (sym e)))
    | inr apart ↦ h.says i p (sym (get_or-set_other now cell.0 i here None apart) ∙ is)
  ];
  misses = λ i is. elim (cases_eq i cell.0) [
    | inl e ↦ absurd (let f : ⊥ = (let same : here ≡ None = sym (get_or-set_same now cell.0 here None live) ∙ ap (λ (j : ℕ). get_or (set now cell.0 here) j None) (sym e) ∙ is in cc) in f)
    | inr apart ↦ (
        let was = h.misses i (sym (get_or-set_other now cell.0 i here None apart) ∙ is) in (
          was.0,
          λ place less stands. elim (cases_eq place k) [
            | inl e ↦ apart (let same : Some (record { 0 = i }) ≡ Some cell = sym stands ∙ ap (slice_get cells) e ∙ at in let c : record { 0 = i } ≡ cell = cc in ap (λ (x : InstanceId). x.0) c)
            | inr other ↦ was.1 place (omega arith) stands
          ],
        ))
  ];
}
  where
    here : Option CellPlace
    here = Some (record { chain = chain; place = k })

pub all_noted : (chain : ℕ) (cells : List InstanceId) (done : ℕ) (old now : List (Option CellPlace)) → length cells ≤ done → Noted chain cells done old now → Noted chain cells (length cells) old now
all_noted chain cells done old now past h = record {
  count = h.count;
  says = h.says;
  misses = λ i is. (let was = h.misses i is in (was.0, λ place less stands. was.1 place (omega arith) stands));
}

-- ---- all chains

-- the table knows the first so many chains
pub record KnowsSome (count : ℕ) (chains : List (List InstanceId)) (done : ℕ) (places : List (Option CellPlace)) : Type 0 where
  pub size : length places ≡ count
  pub says : (i : ℕ) (p : CellPlace) → get_or places i None ≡ Some p → cell_at chains p.chain p.place ≡ Some (record { 0 = i })
  pub misses : (i : ℕ) → get_or places i None ≡ None → (chain place : ℕ) → chain < done → cell_at chains chain place ≡ Some (record { 0 = i }) → ⊥

pub knows_none : (count : ℕ) (chains : List (List InstanceId)) (done : ℕ) (places : List (Option CellPlace)) → done ≡ 0 → places ≡ replicate count None → KnowsSome count chains done places
knows_none count chains done places e is = record {
  size = ap length is ∙ length-replicate count None;
  says = λ i p some. absurd (let f : ⊥ = (let none : get_or places i None ≡ None = ap (λ (xs : List (Option CellPlace)). get_or xs i None) is ∙ same_all count i None in cc) in f);
  misses = λ i none chain place less. absurd (omega arith);
}

pub knows_more : (count : ℕ) (chains : List (List InstanceId)) (k : ℕ) (cells : List InstanceId) (old new : List (Option CellPlace)) → slice_get chains k ≡ Some cells → KnowsSome count chains k old → Noted k cells (length cells) old new → KnowsSome count chains (k + 1) new
knows_more count chains k cells old new at h noted = record {
  size = noted.count ∙ h.size;
  says = λ i p is. elim (noted.says i p is) [
    | inl was ↦ h.says i p was
    | inr here ↦ ap (λ (j : ℕ). cell_at chains j p.place) here.0 ∙ ap (λ (o : Option (List InstanceId)). option_and_then (λ (x : List InstanceId). slice_get x p.place) o) at ∙ here.1
  ];
  misses = λ i none chain place less stands. elim (cases_eq chain k) [
    | inl e ↦ (
        let there : slice_get cells place ≡ Some (record { 0 = i }) =
        sym (ap (λ (j : ℕ). cell_at chains j place) e ∙ ap (λ (o : Option (List InstanceId)). option_and_then (λ (x : List InstanceId). slice_get x place) o) at) ∙ stands in
        (noted.misses i none).1 place (slice_get_within cells place _ there) there)
    | inr other ↦ h.misses i (noted.misses i none).0 chain place (omega arith) stands
  ];
}

chain_there : (o : Option (List InstanceId)) (place : ℕ) (x : InstanceId) → option_and_then (λ (cells : List InstanceId). slice_get cells place) o ≡ Some x → (cells : List InstanceId) × (o ≡ Some cells)
chain_there None place x h = absurd (let f : ⊥ = cc in f)
chain_there (Some cells) place x h = (cells, refl)

pub knows_all : (count : ℕ) (chains : List (List InstanceId)) (done : ℕ) (places : List (Option CellPlace)) → length chains ≤ done → KnowsSome count chains done places → Knows chains places
knows_all count chains done places past h = record {
  says = h.says;
  misses = λ i chain place none stands. (
      let there = chain_there (slice_get chains chain) place _ stands in
      let within = slice_get_within chains chain there.0 there.1 in
      h.misses i none chain place (omega arith) stands);
}

-- a table that was lent whole is as it was left
pub refilled : {X : Type 0} (old new : List X) (count : ℕ) → count ≡ length old → length new ≡ length old → take count (new ++ drop (length new) old) ≡ new
refilled {X = X} old new count size same =
    let none : drop (length new) old ≡ [] = drop_all (length new) old (omega arith) in
    ap (λ (rest : List X). take count (new ++ rest)) none ∙ ap (take count) (append-nil new) ∙ take_all count new (omega arith)

-- ---- what the table says

pub stands_at : (chains : List (List InstanceId)) (places : List (Option CellPlace)) (cell : InstanceId) (place : Option CellPlace) → Knows chains places → get_or places cell.0 None ≡ place → IfSome place (λ p. cell_at chains p.chain p.place ≡ Some cell)
stands_at chains places cell None knows is = tt
stands_at chains places cell (Some p) knows is = knows.says cell.0 p is

pub stands_nowhere : (chains : List (List InstanceId)) (places : List (Option CellPlace)) (cell : InstanceId) (place : Option CellPlace) → Knows chains places → get_or places cell.0 None ≡ place →
    IfNone place ((chain at : ℕ) → cell_at chains chain at ≡ Some cell → ⊥)
stands_nowhere chains places cell None knows is = λ chain at stands. knows.misses cell.0 chain at is stands
stands_nowhere chains places cell (Some p) knows is = tt
