-- Steps of a reading: a key more, a cell more, a pin of a scan cell more.
use Rattle.std.proofs.Common.{ℕ, ◌≡◌, ◌≤◌, ◌<◌, ◌-◌, ◌==◌, nat_le, Bool, true, false, cond, List, [], ◌∷◌, ◌++◌, map, drop, length, Some, None, Result, Ok, Err, String, Global, string_bytes, refl, sym, ap, ◌∙◌, append_assoc, arith}
use Rattle.std.proofs.Math.ListN.{drop_of_length-le}
use Rattle.std.proofs.lemmas.List.{length-map, length-drop}
use Rattle.std.proofs.lemmas.Bool.Decides.{nat_tests}
use Rattle.dft_base.proofs.NumberLemmas.{not_zero}
use Rattle.toml.specs.Data.{Members}
use Rattle.toml.specs.View.{view, members_view}
use Rattle.toml.specs.declared.value.Value.{Value}
use Rattle.dft_library_text.specs.declared.draft.Draft.{Draft}
use Rattle.dft_library_text.specs.declared.refusal.LibraryError.{LibraryError}
use Rattle.dft_cells.specs.declared.cell.Pin.{Pin}
use Rattle.dft_cells.specs.declared.library.TheConstants.{MAX_CELLS}
use Rattle.dft_library_text.specs.Refusals.{after, cons_ok}
use Rattle.dft_library_text.specs.Drafts.{draft_of}
use Rattle.dft_cells.specs.WellFormed.{shared_pins, pin_name}
use Rattle.dft_library_text.specs.Reading.{key_count, few, judged, drafts_of, same_names}

-- the entries of a map are as many as the keys of its table
keys_counted : (entries : List (String Global × Value)) → key_count (members_view entries) ≡ length entries
keys_counted [] = refl
keys_counted (e ∷ entries) = omega (arith, keys_counted entries)

few_where : (less : Bool) (table : Members) → nat_le (key_count table) MAX_CELLS ≡ less → few table ≡ cond less (Some table) None
few_where less table e = rw e

pub few_enough : (entries : List (String Global × Value)) → length entries ≤ 4096 → few (members_view entries) ≡ Some (members_view entries)
few_enough entries h =
    let count = keys_counted entries in
    few_where true (members_view entries) (grind (arith, nat_tests, count))

pub too_many : (entries : List (String Global × Value)) → 4096 < length entries → few (members_view entries) ≡ None
too_many entries h =
    let count = keys_counted entries in
    few_where false (members_view entries) (grind (arith, nat_tests, count))

cons_after : (rest : Result (List Draft) LibraryError) (done : List Draft) (x : Draft)
    → after (cons_ok (Ok x) rest) (λ xs. Ok (done ++ xs)) ≡ after rest (λ xs. Ok ((done ++ x ∷ []) ++ xs))
cons_after (Ok xs) done x = ap Ok (sym (append_assoc done (x ∷ []) xs))
cons_after (Err e) done x = refl

-- one cell more
pub draft_more : (entries rest : List (String Global × Value)) (key : String Global) (value : Value) (done : List Draft) (draft : Draft)
    → entries ≡ (key, value) ∷ rest → judged (string_bytes key) (draft_of (string_bytes key) (view value)) ≡ Ok draft
    → after (drafts_of (members_view entries)) (λ xs. Ok (done ++ xs)) ≡ after (drafts_of (members_view rest)) (λ xs. Ok ((done ++ draft ∷ []) ++ xs))
draft_more entries rest key value done draft e good =
    ap (λ (l : List (String Global × Value)). after (drafts_of (members_view l)) (λ xs. Ok (done ++ xs))) e
    ∙ ap (λ (first : Result Draft LibraryError). after (cons_ok first (drafts_of (members_view rest))) (λ xs. Ok (done ++ xs))) good
    ∙ cons_after (drafts_of (members_view rest)) done draft

same_none : (names : List (List ℕ)) → same_names [] names ≡ (length names == 0)
same_none [] = refl
same_none (name ∷ names) = sym (not_zero (length names))

zero_left : (n p : ℕ) → p ≤ n → (n - p == 0) ≡ (p == n)
zero_left n p within = grind (arith, nat_tests)

-- where no shared pin is left, the names are the same where no pin is left
pub none_left : (others pins : List Pin) (i p : ℕ) → length others ≤ i → p ≤ length pins
    → same_names (map pin_name (shared_pins (drop i others))) (map pin_name (drop p pins)) ≡ (p == length pins)
none_left others pins i p past within =
    let gone = drop_of_length-le others past in
    let count : length (map pin_name (drop p pins)) ≡ length pins - p = simp (length-map, length-drop) in
    rw gone (same_none (map pin_name (drop p pins)) ∙ rw count (zero_left (length pins) p within))
