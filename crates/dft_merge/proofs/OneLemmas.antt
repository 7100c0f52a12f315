-- Placements are one, and tell exactly which cubes cannot be loaded.
use Rattle.std.proofs.Common.{ℕ, Bool, List, [], ◌∷◌, ◌≡◌, ◌<◌, refl, sym, ap, subst, ◌∙◌, ◌⊎◌, inl, inr, None, slice_get, slice_set}
use Rattle.std.proofs.lemmas.Bool.{cases_order}
use Rattle.std.proofs.lemmas.Option.{same_Some, slice_get_within}
use Rattle.dft_base.specs.Solutions.{IsSolvable}
use Rattle.dft_gf2.proofs.Unsolvable.{stated_unsolvable}
use Rattle.dft_gf2.proofs.OneStated.{stated_one}
use Rattle.dft_netlist.specs.declared.ids.InstanceId.{InstanceId}
use Rattle.dft_cubes.specs.declared.cube.Cube.{Cube}
use Rattle.dft_cubes.specs.declared.cube.Merged.{Merged}
use Rattle.dft_merge.specs.declared.placed.Placed.{Placed}
use Rattle.dft_merge.specs.declared.placed.Placed.TheVariants.{Into, Unsolvable, Skipped}
use Rattle.dft_merge.specs.Rows.{CellRows}
use Rattle.dft_merge.specs.Placement.{Begins, Joins, Loads, Places, PlacesAll, equations_of, first_unscanned, joined}
use Rattle.dft_merge.specs.Laws.{IsUnsolvable, PlacementIsOne, UnsolvableIsExact}
use Rattle.dft_merge.proofs.EquationLemmas.{loads_solves, solves_loads, solves_right}

-- ---- a placement is one

-- a number and what becomes of the patterns
abbrev Same : (p q : ℕ) → (new more : List Merged) → Type 0
Same p q new more = (p ≡ q) × (new ≡ more)

join_order : (n : ℕ) (row : CellRows) (window : ℕ) (old : List Merged) (cube : Cube) (p q : ℕ) (new more : List Merged) → Joins n row window old cube p new → Joins n row window old cube q more → p < q → ⊥
join_order n row window old cube p q new more one other less = other.oldest p one.pattern one.open_is less one.is one.fits

join_same : (n : ℕ) (row : CellRows) (window : ℕ) (old : List Merged) (cube : Cube) (p q : ℕ) (new more : List Merged) → Joins n row window old cube p new → Joins n row window old cube q more → p ≡ q → Same p q new more
join_same n row window old cube p q new more one other same =
    let pattern : one.pattern ≡ other.pattern = same_Some one.pattern other.pattern (sym one.is ∙ ap (slice_get old) same ∙ other.is) in
    (same, one.patterns ∙ (λ i. slice_set old (same i) (joined (pattern i) cube)) ∙ sym other.patterns)

joins_one : (n : ℕ) (row : CellRows) (window : ℕ) (old : List Merged) (cube : Cube) (p q : ℕ) (new more : List Merged) → Joins n row window old cube p new → Joins n row window old cube q more → Same p q new more
joins_one n row window old cube p q new more one other = elim (cases_order p q) [
  | inl same ↦ join_same n row window old cube p q new more one other same
  | inr apart ↦ elim apart [
    | inl less ↦ absurd (join_order n row window old cube p q new more one other less)
    | inr above ↦ absurd (join_order n row window old cube q p more new other one above)
  ]
]

not_both : (n : ℕ) (row : CellRows) (window : ℕ) (old : List Merged) (cube : Cube) (p q : ℕ) (new more : List Merged) → Joins n row window old cube p new → Begins n row window old cube q more → ⊥
not_both n row window old cube p q new more one other = other.alone p one.pattern one.open_is (slice_get_within old p one.pattern one.is) one.is one.fits

into_one : (n : ℕ) (row : CellRows) (window : ℕ) (old : List Merged) (cube : Cube) (p q : ℕ) (new more : List Merged) →
    Joins n row window old cube p new ⊎ Begins n row window old cube p new → Joins n row window old cube q more ⊎ Begins n row window old cube q more → Same p q new more
into_one n row window old cube p q new more (inl one) (inl other) = joins_one n row window old cube p q new more one other
into_one n row window old cube p q new more (inl one) (inr other) = absurd (not_both n row window old cube p q new more one other)
into_one n row window old cube p q new more (inr one) (inl other) = absurd (not_both n row window old cube q p more new other one)
into_one n row window old cube p q new more (inr one) (inr other) = (one.number ∙ sym other.number, one.patterns ∙ sym other.patterns)

-- a cube in a pattern is loaded by some channel bits
pub into_solvable : (n : ℕ) (row : CellRows) (window : ℕ) (old : List Merged) (cube : Cube) (p : ℕ) (new : List Merged) → Joins n row window old cube p new ⊎ Begins n row window old cube p new → IsSolvable n (equations_of row cube.cells)
into_solvable n row window old cube p new (inl joins) =
    let solved = joins.fits.solvable in (solved.0, solves_right n solved.0 (equations_of row joins.pattern.cells) (equations_of row cube.cells) solved.1)
into_solvable n row window old cube p new (inr begins) = begins.solvable

places_one : (n : ℕ) (row : CellRows) (window : ℕ) (old : List Merged) (cube : Cube) (placed other : Placed) (new more : List Merged) → Places n row window old cube placed new → Places n row window old cube other more → (placed ≡ other) × (new ≡ more)
places_one n row window old cube (Skipped a) (Skipped b) new more one two = (ap (λ (c : InstanceId). Skipped c) (same_Some a b (sym one.0 ∙ two.0)), one.1 ∙ sym two.1)
places_one n row window old cube (Skipped a) (Into q) new more one two = absurd (let x = one.0 in let y = two.0 in cc)
places_one n row window old cube (Skipped a) (Unsolvable ids) new more one two = absurd (let x = one.0 in let y = two.0 in cc)
places_one n row window old cube (Into p) (Skipped b) new more one two = absurd (let x = one.0 in let y = two.0 in cc)
places_one n row window old cube (Into p) (Into q) new more one two = let same = into_one n row window old cube p q new more one.1 two.1 in (ap (λ (k : ℕ). Into k) same.0, same.1)
places_one n row window old cube (Into p) (Unsolvable ids) new more one two = absurd (stated_unsolvable n (equations_of row cube.cells) ids two.1 (into_solvable n row window old cube p new one.1))
places_one n row window old cube (Unsolvable ids) (Skipped b) new more one two = absurd (let x = one.0 in let y = two.0 in cc)
places_one n row window old cube (Unsolvable ids) (Into q) new more one two = absurd (stated_unsolvable n (equations_of row cube.cells) ids one.1 (into_solvable n row window old cube q more two.1))
places_one n row window old cube (Unsolvable ids) (Unsolvable others) new more one two = (ap (λ (k : List ℕ). Unsolvable k) (stated_one n (equations_of row cube.cells) ids others one.1 two.1), one.2 ∙ sym two.2)

all_one : (n : ℕ) (row : CellRows) (window : ℕ) (old : List Merged) (cubes : List Cube) (placed others : List Placed) (patterns more : List Merged) →
    PlacesAll n row window old cubes placed patterns → PlacesAll n row window old cubes others more → (placed ≡ others) × (patterns ≡ more)
all_one n row window old [] [] [] patterns more one two = (refl, one ∙ sym two)
all_one n row window old [] [] (b ∷ others) patterns more one two = absurd two
all_one n row window old [] (a ∷ placed) others patterns more one two = absurd one
all_one n row window old (cube ∷ cubes) [] others patterns more one two = absurd one
all_one n row window old (cube ∷ cubes) (a ∷ placed) [] patterns more one two = absurd two
all_one n row window old (cube ∷ cubes) (a ∷ placed) (b ∷ others) patterns more one two =
    let first = places_one n row window old cube a b one.0 two.0 one.1.0 two.1.0 in
    let rest = all_one n row window two.0 cubes placed others patterns more (subst (λ (mid : List Merged). PlacesAll n row window mid cubes placed patterns) first.1 one.1.1) two.1.1 in
    (λ i. first.0 i ∷ rest.0 i, rest.1)

pub placement_one : PlacementIsOne
placement_one n row window cubes placed others patterns more one two = all_one n row window [] cubes placed others patterns more one two

-- ---- unsolvable cubes

none_loads : (n : ℕ) (row : CellRows) (window : ℕ) (old new : List Merged) (cube : Cube) (placed : Placed) → Places n row window old cube placed new → IsUnsolvable placed → (bits : ℕ → Bool) → Loads n row bits cube.cells → ⊥
none_loads n row window old new cube placed places is bits loads =
    let states = (subst (λ (p : Placed). Places n row window old cube p new) is.1 places).1 in
    stated_unsolvable n (equations_of row cube.cells) is.0 states (bits, loads_solves n row bits cube.cells loads)

unloadable : (n : ℕ) (row : CellRows) (window : ℕ) (old new : List Merged) (cube : Cube) (placed : Placed) → first_unscanned row cube.cells ≡ None → Places n row window old cube placed new → ((bits : ℕ → Bool) → Loads n row bits cube.cells → ⊥) → IsUnsolvable placed
unloadable n row window old new cube (Skipped cell) scanned places none = absurd (let x = places.0 in cc)
unloadable n row window old new cube (Into p) scanned places none =
    let solved = into_solvable n row window old cube p new places.1 in absurd (none solved.0 (solves_loads n row solved.0 cube.cells solved.1))
unloadable n row window old new cube (Unsolvable ids) scanned places none = (ids, refl)

pub unsolvable_exact : UnsolvableIsExact
unsolvable_exact n row window old new cube placed scanned places = (none_loads n row window old new cube placed places, unloadable n row window old new cube placed scanned places)
