-- Sets of three stages: how many there are, and which has a rank.
use Rattle.std.proofs.Common.{◌≡◌, ℕ, ◌+◌, ◌-◌, ◌<◌, ◌≤◌, option_map, unwrap_or, List, [], ◌∷◌, ◌++◌, length, get_or, flat_map, Option, None, Some, refl, sym, ◌∙◌, ap, arith, length-append}
use Rattle.std.specs.Prelude.{slice_get}
use Rattle.std.specs.List.{range_with_len}
use Rattle.std.proofs.lemmas.List.FromFn.{get_or-map-range_with_len, length-map-range_with_len}
use Rattle.std.proofs.lemmas.List.{get_or_past}
use Rattle.std.proofs.lemmas.Option.{get_or_from_slice_get, slice_get-get_or, unwrap_or-slice_get}
use Rattle.dft_decompressor.specs.Threes.{stages_in}
use Rattle.dft_decompressor.specs.declared.threes.Three.{Three}
use Rattle.dft_decompressor.specs.StageSets.{threes_with}
use Rattle.dft_decompressor.proofs.Lists.{parts_more}

-- how many have these first two stages
pub with_count : (stages first second : ℕ) → length (threes_with stages first second) ≡ stages - (second + 1)
with_count stages first second = length-map-range_with_len (λ third. first ∷ second ∷ third ∷ []) (second + 1) (stages - (second + 1))

-- the parts so far are so many items, and one part more
pub counted_more : {X : Type 0} (f : ℕ → List X) (from at count more : ℕ) → from ≤ at → count ≡ length (flat_map f (range_with_len from (at - from))) → more ≡ length (f at) →
    count + more ≡ length (flat_map f (range_with_len from (at + 1 - from)))
counted_more f from at count more order is part =
    let one : at + 1 - from ≡ at - from + 1 = omega arith in
    let last : from + (at - from) ≡ at = omega arith in
    (λ i. is i + part i) ∙ ap (λ (n : ℕ). length (flat_map f (range_with_len from (at - from))) + n) (ap (λ (n : ℕ). length (f n)) (sym last) ∙ sym (length-append (f (from + (at - from))) [] ∙ plus_none (length (f (from + (at - from))))))
    ∙ sym (length-append (flat_map f (range_with_len from (at - from))) (f (from + (at - from)) ++ [])) ∙ sym (ap length (parts_more f from (at - from))) ∙ ap (λ (n : ℕ). length (flat_map f (range_with_len from n))) (sym one)
  where
    plus_none : (n : ℕ) → n + 0 ≡ n
    plus_none n = omega arith

-- the set of a rank among those with these first two stages
pub with_rank : (stages first second rank : ℕ) → rank < stages - (second + 1) → slice_get (threes_with stages first second) rank ≡ Some (first ∷ second ∷ (second + 1 + rank) ∷ [])
with_rank stages first second rank less =
    let within : rank < length (threes_with stages first second) = let count = with_count stages first second in omega (arith, count) in
    slice_get-get_or (threes_with stages first second) rank [] within
    ∙ ap Some (get_or-map-range_with_len (λ third. first ∷ second ∷ third ∷ []) (second + 1) (stages - (second + 1)) rank (second + 1 + rank) [] less refl)

-- ---- the set of a word

pub word_some : (sets : List (List ℕ)) (rank : ℕ) (three : Three) (found : Option Three) → found ≡ Some three → option_map stages_in found ≡ slice_get sets rank → stages_in three ≡ get_or sets rank []
word_some sets rank three found is there = sym (get_or_from_slice_get sets rank (stages_in three) [] (sym there ∙ ap (option_map stages_in) is))

pub word_none : (sets : List (List ℕ)) (rank : ℕ) (found : Option Three) → found ≡ None → option_map stages_in found ≡ slice_get sets rank → [] ≡ get_or sets rank []
word_none sets rank found is there = ap (λ (o : Option (List ℕ)). unwrap_or o []) (sym (ap (option_map stages_in) is) ∙ there) ∙ unwrap_or-slice_get sets rank []

pub word_empty : (sets : List (List ℕ)) (rank : ℕ) → length sets ≡ 0 → [] ≡ get_or sets rank []
word_empty sets rank none = sym (get_or_past sets rank [] (omega arith))
