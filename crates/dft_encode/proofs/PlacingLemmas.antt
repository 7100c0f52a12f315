-- One cube more is placed.
use Rattle.std.proofs.Common.{◌≡◌, ℕ, ◌+◌, ◌<◌, ◌≤◌, ◌⊎◌, inl, inr, List, [], ◌∷◌, ◌++◌, length, take, get_or, refl, sym, subst, ap, ◌∙◌, arith}
use Rattle.std.proofs.lemmas.List.{length-append, length-set, take_more}
use Rattle.dft_cubes.specs.declared.cube.Cube.{Cube}
use Rattle.dft_cubes.specs.declared.cube.Merged.{Merged}
use Rattle.dft_merge.specs.declared.placed.Placed.{Placed}
use Rattle.dft_merge.specs.declared.placed.Placed.TheVariants.{Into, Unsolvable, Skipped}
use Rattle.dft_merge.specs.Merging.{Merging, columns_in, rows_in}
use Rattle.dft_merge.specs.Placement.{Begins, Joins, Places, PlacesAll, begun, joined}
use Rattle.dft_merge.specs.Rows.{CellRows}

one_more : (n : ℕ) (row : CellRows) (window : ℕ) (old mid new : List Merged) (cubes : List Cube) (placed : List Placed) (cube : Cube) (place : Placed) → PlacesAll n row window old cubes placed mid → Places n row window mid cube place new →
    PlacesAll n row window old (cubes ++ cube ∷ []) (placed ++ place ∷ []) new
one_more n row window old mid new [] [] cube place all one = (new, (subst (λ m. Places n row window m cube place new) all one, refl))
one_more n row window old mid new [] (p ∷ placed) cube place all one = absurd all
one_more n row window old mid new (c ∷ cubes) [] cube place all one = absurd all
one_more n row window old mid new (c ∷ cubes) (p ∷ placed) cube place all one = (all.0, (all.1.0, one_more n row window all.0 mid new cubes placed cube place all.1.1 one))

-- of the cubes before a place and the one at it
pub placed_more : (n : ℕ) (row : CellRows) (window : ℕ) (old mid new : List Merged) (cubes : List Cube) (k : ℕ) (placed : List Placed) (cube : Cube) (place : Placed) → k < length cubes → cube ≡ get_or cubes k cube →
    PlacesAll n row window old (take k cubes) placed mid → Places n row window mid cube place new → PlacesAll n row window old (take (k + 1) cubes) (placed ++ place ∷ []) new
placed_more n row window old mid new cubes k placed cube place less is all one =
    let more : take (k + 1) cubes ≡ take k cubes ++ cube ∷ [] = take_more cubes k cube less ∙ ap (λ (c : Cube). take k cubes ++ c ∷ []) (sym is) in
    subst (λ l. PlacesAll n row window old l (placed ++ place ∷ []) new) (sym more) (one_more n row window old mid new (take k cubes) placed cube place all one)

into_count : (n : ℕ) (row : CellRows) (window : ℕ) (old new : List Merged) (cube : Cube) (p : ℕ) → Joins n row window old cube p new ⊎ Begins n row window old cube p new → length new ≤ length old + 1
into_count n row window old new cube p (inl j) = let same = ap length j.patterns ∙ length-set old p (joined j.pattern cube) in omega (arith, same)
into_count n row window old new cube p (inr b) = let more = ap length b.patterns ∙ length-append old (begun cube ∷ []) in omega (arith, more)

-- a cube begins one pattern at most
pub place_count : (n : ℕ) (row : CellRows) (window : ℕ) (old new : List Merged) (cube : Cube) (place : Placed) → Places n row window old cube place new → length new ≤ length old + 1
place_count n row window old new cube (Skipped cell) is = let same = ap length is.1 in omega (arith, same)
place_count n row window old new cube (Into p) is = into_count n row window old new cube p is.1
place_count n row window old new cube (Unsolvable ids) is = let same = ap length is.2 in omega (arith, same)

pub record Placing (start : Merging) (k : ℕ) (cubes : List Cube) (placed : List Placed) (m : Merging) : Type 0 where
  pub placed_are : PlacesAll (columns_in start) (rows_in start) start.window start.patterns (take k cubes) placed m.patterns
  pub same : m ≡ record start { patterns = m.patterns }
  pub few : length m.patterns ≤ length start.patterns + k

-- one cube more
pub cube_placed : (start m next : Merging) (cubes : List Cube) (k : ℕ) (placed more : List Placed) (cube : Cube) (place : Placed) → k < length cubes → cube ≡ get_or cubes k cube → Placing start k cubes placed m →
    Places (columns_in m) (rows_in m) m.window m.patterns cube place next.patterns → next ≡ record m { patterns = next.patterns } → more ≡ placed ++ place ∷ [] → Placing start (k + 1) cubes more next
cube_placed start m next cubes k placed more cube place less is h one same pushes =
    let here : Places (columns_in start) (rows_in start) start.window m.patterns cube place next.patterns = subst (λ (q : Merging). Places (columns_in q) (rows_in q) q.window m.patterns cube place next.patterns) h.same one in record {
      placed_are = subst (λ (l : List Placed). PlacesAll (columns_in start) (rows_in start) start.window start.patterns (take (k + 1) cubes) l next.patterns) (sym pushes)
          (placed_more (columns_in start) (rows_in start) start.window start.patterns m.patterns next.patterns cubes k placed cube place less is h.placed_are here);
      same = same ∙ ap (λ (q : Merging). record q { patterns = next.patterns }) h.same;
      few = let count = place_count (columns_in start) (rows_in start) start.window m.patterns next.patterns cube place here in omega (arith, count, h.few);
    }
