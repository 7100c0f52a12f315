-- The notes, one after another.
use Rattle.std.proofs.Common.{ℕ, ◌+◌, ◌==◌, ◌≡◌, true, false, ◌<◌, List, [], ◌∷◌, ◌++◌, length, take, map, get_or, ap, ◌∙◌, arith}
use Rattle.std.specs.Prelude.{sum_by}
use Rattle.std.specs.List.{range_with_len}
use Rattle.std.proofs.lemmas.Bool.{eqb-true}
use Rattle.std.proofs.lemmas.List.{take_more}
use Rattle.std.proofs.lemmas.List.Sums.{sum_by_push}
use Rattle.dft_patterns.specs.declared.notes.Note.{Note}
use Rattle.dft_patterns.specs.declared.notes.NoteKind.TheVariants.{SetUp, Unload}
use Rattle.dft_vectors.specs.VectorList.{first_vector, notes_of, pattern_note, vectors_for}
use Rattle.dft_vectors.proofs.ListLemmas.{grown}

-- without a pattern there is no note
pub no_notes : (cycles : ℕ) (captures : List ℕ) (notes : List Note) → (length captures == 0) ≡ true → notes ≡ [] → notes ≡ notes_of cycles captures
no_notes cycles [] notes none is = is
no_notes cycles (count ∷ captures) notes none is =
    let some : length (count ∷ captures) ≡ 0 = eqb-true (length (count ∷ captures)) 0 none in absurd (omega (arith, some))

-- with one there are some
pub some_captures : (captures : List ℕ) → (length captures == 0) ≡ false → 0 < length captures
some_captures [] none = absurd cc
some_captures (count ∷ captures) some = omega arith

-- a pattern more
pub first_more : (cycles : ℕ) (captures : List ℕ) (k d : ℕ) → k < length captures → first_vector cycles captures (k + 1) ≡ first_vector cycles captures k + (cycles + get_or captures k d)
first_more cycles captures k d less =
    let f = λ (count : ℕ). cycles + count in
    let more : vectors_for cycles (take (k + 1) captures) ≡ vectors_for cycles (take k captures) + f (get_or captures k d) =
    ap (sum_by f) (take_more captures k d less) ∙ sum_by_push f (take k captures) (get_or captures k d) in
    omega (arith, more)

-- the note of one pattern more
pub note_more : (cycles : ℕ) (captures : List ℕ) (k : ℕ) (so_far new : List Note) (note : Note) → so_far ≡ record { before = 0; what = SetUp } ∷ map (pattern_note cycles captures) (range_with_len 0 k) → new ≡ so_far ++ note ∷ [] → note ≡ pattern_note cycles captures k →
    new ≡ record { before = 0; what = SetUp } ∷ map (pattern_note cycles captures) (range_with_len 0 (k + 1))
note_more cycles captures k so_far new note before more is = grown (pattern_note cycles captures) (record { before = 0; what = SetUp } ∷ []) so_far new k note before more is

pub all_notes : (cycles : ℕ) (captures : List ℕ) (k at : ℕ) (so_far new : List Note) → 0 < length captures → k ≡ length captures → at ≡ first_vector cycles captures k → so_far ≡ record { before = 0; what = SetUp } ∷ map (pattern_note cycles captures) (range_with_len 0 k) →
    new ≡ so_far ++ record { before = at; what = Unload } ∷ [] → new ≡ notes_of cycles captures
all_notes cycles [] k at so_far new some end place before more = absurd (omega (arith, some))
all_notes cycles (count ∷ captures) k at so_far new some end place before more =
    let all : List ℕ = count ∷ captures in
    more ∙ ap (λ (l : List Note). l ++ record { before = at; what = Unload } ∷ []) before
    ∙ (λ i. record { before = 0; what = SetUp } ∷ (map (pattern_note cycles all) (range_with_len 0 (end i)) ++ record { before = (place ∙ ap (first_vector cycles all) end) i; what = Unload } ∷ []))
