-- A placement of cubes has patterns: channel bits that the fill rule chooses, and what the design captures from them.
use Rattle.std.proofs.Common.{ℕ, zero, suc, ◌+◌, ◌≡◌, ◌⊎◌, inl, inr, List, [], ◌∷◌, map, None, Some, refl, sym, subst, arith}
use Rattle.std.specs.Prelude.{slice_get}
use Rattle.std.proofs.lemmas.Option.{none-some, same_Some}
use Rattle.dft_base.specs.Solutions.{bit_at}
use Rattle.dft_netlist.specs.Drivers.{IsOrdered}
use Rattle.dft_netlist.specs.Netlist.{Netlist}
use Rattle.dft_config.specs.Config.{Config}
use Rattle.dft_equations.specs.LoadRows.{LoadRows}
use Rattle.dft_stitch.specs.Chains.{plan_of}
use Rattle.dft_stitch.specs.Plans.{Plan, falling_head}
use Rattle.dft_cubes.specs.declared.cube.Cube.{Cube}
use Rattle.dft_cubes.specs.declared.cube.Merged.{Merged}
use Rattle.dft_expect.specs.Loaded.{loaded_of, table_of}
use Rattle.dft_expect.proofs.CaptureLemmas.{some_capture}
use Rattle.dft_expect.specs.Masks.{always_of, by_chain, masks_of}
use Rattle.dft_merge.specs.declared.placed.Placed.{Placed}
use Rattle.dft_merge.specs.declared.placed.Placed.TheVariants.{Into, Skipped, Unsolvable}
use Rattle.dft_merge.specs.Fills.{fill_of}
use Rattle.dft_merge.specs.Placement.{Begins, Joins, Places, PlacesAll, begun, equations_of, first_unscanned, joined}
use Rattle.dft_merge.specs.Rows.{CellRows, cell_row}
use Rattle.dft_merge.specs.Slots.{AreLoadable, IsLoadable}
use Rattle.dft_merge.proofs.EquationLemmas.{solves_loads}
use Rattle.dft_merge.proofs.SlotLemmas.{loadable_joined, loadable_push, loadable_set}
use Rattle.dft_vectors.specs.PatternData.{PatternData}
use Rattle.dft_encode.specs.Compiled.{IsPattern, merged_of}
use Rattle.dft_top.specs.Laws.{PlacementsHavePatterns}
use Rattle.dft_top.proofs.SomeChoice.{some_choice}

-- ---- placed cubes can be loaded

into_loadable : (n : ℕ) (row : CellRows) (window : ℕ) (old new : List Merged) (cube : Cube) (p : ℕ) → AreLoadable n row old → first_unscanned row cube.cells ≡ None → Joins n row window old cube p new ⊎ Begins n row window old cube p new →
    AreLoadable n row new
into_loadable n row window old new cube p all scanned (inl joins) =
    subst (AreLoadable n row) (sym joins.patterns) (loadable_set n row old p joins.pattern (joined joins.pattern cube) all (loadable_joined n row joins.pattern cube (all p joins.pattern joins.is) scanned joins.fits) joins.is)
into_loadable n row window old new cube p all scanned (inr begins) =
    subst (AreLoadable n row) (sym begins.patterns) (loadable_push n row old (begun cube) all (record { scanned = scanned; solvable = begins.solvable }))

placed_loadable : (n : ℕ) (row : CellRows) (window : ℕ) (old new : List Merged) (cube : Cube) (placed : Placed) → AreLoadable n row old → Places n row window old cube placed new → AreLoadable n row new
placed_loadable n row window old new cube (Skipped cell) all places = subst (AreLoadable n row) (sym places.1) all
placed_loadable n row window old new cube (Into p) all places = into_loadable n row window old new cube p all places.0 places.1
placed_loadable n row window old new cube (Unsolvable ids) all places = subst (AreLoadable n row) (sym places.2) all

all_loadable : (n : ℕ) (row : CellRows) (window : ℕ) (old new : List Merged) (cubes : List Cube) (placed : List Placed) → AreLoadable n row old → PlacesAll n row window old cubes placed new → AreLoadable n row new
all_loadable n row window old new [] [] all places = subst (AreLoadable n row) (sym places) all
all_loadable n row window old new [] (p ∷ placed) all places = absurd places
all_loadable n row window old new (cube ∷ cubes) [] all places = absurd places
all_loadable n row window old new (cube ∷ cubes) (p ∷ placed) all places = all_loadable n row window places.0 new cubes placed (placed_loadable n row window old places.0 cube p all places.1.0) places.1.1

-- ---- a pattern

pattern_some : (n : Netlist) (rank : ℕ → ℕ) (config : Config) (plan : Plan) (rows : LoadRows) (number : ℕ) (merged : Merged) → IsOrdered n rank → IsLoadable rows.columns (cell_row plan.chains rows) merged →
    (p : PatternData) × (p.merged ≡ merged) × IsPattern n config plan rows number p
pattern_some n rank config plan rows number merged ordered loadable =
    let row = cell_row plan.chains rows in
    let chosen = some_choice rows.columns (equations_of row merged.cells) (fill_of config.fill number rows.columns) loadable.solvable in
    let captured = some_capture n rank config plan.chains merged (loaded_of config.ring (table_of config.ring (bit_at chosen.bits)) plan.cycles (falling_head plan) plan.chains) ordered in
    let p : PatternData = record { merged = merged; bits = chosen.bits; masks = masks_of (always_of config) (by_chain plan.chains captured.0.cells); response = captured.0 } in
    (p, refl, record { bits = chosen.is; loads = solves_loads rows.columns row (bit_at chosen.bits) merged.cells chosen.solves; captured = captured.1; masks = refl })

-- ---- the patterns

-- each pattern from a number on is one
abbrev ArePatternsFrom : Netlist → Config → Plan → LoadRows → (number : ℕ) → List PatternData → Type 0
ArePatternsFrom n config plan rows number list = (k : ℕ) (p : PatternData) → slice_get list k ≡ Some p → IsPattern n config plan rows (number + k) p

each_more : (n : Netlist) (config : Config) (plan : Plan) (rows : LoadRows) (number : ℕ) (q : PatternData) (list : List PatternData) → IsPattern n config plan rows number q → ArePatternsFrom n config plan rows (suc number) list →
    ArePatternsFrom n config plan rows number (q ∷ list)
each_more n config plan rows number q list here later zero p at =
    let same : number ≡ number + zero = omega arith in
    subst (λ (k : ℕ). IsPattern n config plan rows k p) same (subst (IsPattern n config plan rows number) (same_Some q p at) here)
each_more n config plan rows number q list here later (suc k) p at =
    let same : suc number + k ≡ number + suc k = omega arith in
    subst (λ (j : ℕ). IsPattern n config plan rows j p) same (later k p at)

patterns_some : (n : Netlist) (rank : ℕ → ℕ) (config : Config) (plan : Plan) (rows : LoadRows) (number : ℕ) (merged : List Merged) → IsOrdered n rank → AreLoadable rows.columns (cell_row plan.chains rows) merged →
    (list : List PatternData) × (map merged_of list ≡ merged) × ArePatternsFrom n config plan rows number list
patterns_some n rank config plan rows number [] ordered all = ([], refl, λ k p at. absurd (none-some p at))
patterns_some n rank config plan rows number (m ∷ merged) ordered all =
    let first = pattern_some n rank config plan rows number m ordered (all zero m refl) in
    let rest = patterns_some n rank config plan rows (suc number) merged ordered (λ k p at. all (suc k) p at) in
    (first.0 ∷ rest.0, λ i. first.1 i ∷ rest.1 i, each_more n config plan rows number first.0 rest.0 first.2 rest.2)

pub some_patterns : PlacementsHavePatterns
some_patterns n rank config cubes placing ordered =
    let plan = plan_of n config in
    let all = all_loadable placing.rows.columns (cell_row plan.chains placing.rows) config.window [] placing.merged cubes placing.placed (λ k p at. absurd (none-some p at)) placing.is in
    let found = patterns_some n rank config plan placing.rows zero placing.merged ordered all in
    (found.0, record { merged = found.1; each = λ k p at. (let same : zero + k ≡ k = omega arith in subst (λ (j : ℕ). IsPattern n config plan placing.rows j p) same (found.2 k p at)) })
