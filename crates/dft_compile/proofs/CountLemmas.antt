-- How many vectors patterns take.
use Rattle.std.proofs.Common.{ℕ, ◌+◌, ◌==◌, ◌≡◌, ◌<◌, true, false, List, [], ◌∷◌, length, get_or, refl, ap, arith}
use Rattle.std.proofs.lemmas.Bool.{eqb-false, eqb-true}
use Rattle.std.proofs.lemmas.List.{get_or-map, length-map, take_all}
use Rattle.dft_cubes.specs.declared.cube.Merged.{Merged}
use Rattle.dft_cubes.specs.Domains.{captures_of}
use Rattle.dft_vectors.specs.VectorList.{captures_in, first_vector, vectors_for}
use Rattle.dft_vectors.proofs.NoteLemmas.{first_more}
use Rattle.dft_encode.specs.Laws.{vectors_in}

-- without a pattern there is no vector
pub no_vectors : (cycles : ℕ) (patterns : List Merged) → (length patterns == 0) ≡ true → 0 ≡ vectors_in cycles (captures_in patterns)
no_vectors cycles [] none = refl
no_vectors cycles (m ∷ patterns) none = let e = eqb-true (length (m ∷ patterns)) 0 none in absurd (omega (arith, e))

-- a pattern more
pub one_more : (cycles : ℕ) (patterns : List Merged) (k : ℕ) (d : Merged) → k < length patterns → first_vector cycles (captures_in patterns) (k + 1) ≡ first_vector cycles (captures_in patterns) k + (cycles + captures_of (get_or patterns k d))
one_more cycles patterns k d less =
    let count = length-map patterns captures_of in
    let more = first_more cycles (captures_in patterns) k 0 (omega (arith, count, less)) in
    let here = get_or-map captures_of patterns k d 0 less in
    omega (arith, more, here)

-- all of them
pub all_vectors : (cycles : ℕ) (patterns : List Merged) (k : ℕ) → (length patterns == 0) ≡ false → k ≡ length patterns → first_vector cycles (captures_in patterns) k + cycles ≡ vectors_in cycles (captures_in patterns)
all_vectors cycles [] k some end = absurd (eqb-false (length {A = Merged} []) 0 some refl)
all_vectors cycles (m ∷ patterns) k some end =
    let all : List ℕ = captures_in (m ∷ patterns) in
    let count = length-map (m ∷ patterns) captures_of in
    ap (λ (captures : List ℕ). 1 + vectors_for cycles captures + cycles) (take_all k all (omega (arith, count, end)))
