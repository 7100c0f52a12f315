-- Care bits of one cell or of two are loaded in every run.
use Rattle.std.proofs.Common.{ℕ, zero, suc, ◌<◌, ◌≡◌, ◌*◌, Bool, false, List, [], ◌∷◌, length, map, Option, None, Some, is_none, slice_get, unwrap_or, refl, sym, ap, arith, ◌∙◌}
use Rattle.std.specs.Prelude.{slice_index, if◌then◌else◌}
use Rattle.std.specs.List.{AllByRecursion, range_with_len}
use Rattle.std.proofs.lemmas.List.{length-map}
use Rattle.std.proofs.lemmas.List.FromFn.{length-range_with_len}
use Rattle.std.proofs.lemmas.Option.{none-some, same_Some, slice_get_within}
use Rattle.dft_base.specs.Solutions.{sum_over}
use Rattle.dft_netlist.specs.declared.ids.InstanceId.{InstanceId}
use Rattle.dft_netlist.specs.Netlist.{Netlist}
use Rattle.dft_config.specs.Config.{Config}
use Rattle.dft_config.specs.Loads.{load_equation}
use Rattle.dft_equations.specs.LoadRows.{AreWide, IsCell, LoadRows, row_of}
use Rattle.dft_stitch.specs.Chains.{plan_of}
use Rattle.dft_stitch.specs.Plans.{cell_at, falling_head}
use Rattle.dft_expect.specs.Loaded.{table_of}
use Rattle.dft_merge.specs.Placement.{Loads, first_unscanned}
use Rattle.dft_merge.specs.Rows.{CellRows, StandApart}
use Rattle.dft_merge.proofs.OneLemmas.{unsolvable_exact}
use Rattle.dft_merge.proofs.PlaceLemmas.{row_found}
use Rattle.dft_scan_frame.specs.Statements.{IsReady}
use Rattle.dft_scan_behavior.proofs.Outputs.{HasChain, chain_by, one_place}
use Rattle.dft_load_laws.specs.Loading.{AreRows, rows_of}
use Rattle.dft_load_laws.proofs.Bringing.{bits_load}
use Rattle.dft_configure.specs.Good.{AreGood}
use Rattle.dft_configure.proofs.PairLemmas.{pairs_loaded}
use Rattle.dft_load_laws.proofs.Sums.{length_at}
use Rattle.dft_configure_laws.specs.Pairs.{AreFew, FewAreLoaded, FewAreSolvable, IsChained}

-- ---- lists of care bits

-- the channel bits give each cell its bit
abbrev AreSums : ℕ → CellRows → (ℕ → Bool) → List (InstanceId × Bool) → Type 0
AreSums columns row bits cells = AllByRecursion (λ given. sum_over columns (unwrap_or (row given.0) []) bits ≡ given.1) cells

sums_load : (columns : ℕ) (row : CellRows) (bits : ℕ → Bool) (cells : List (InstanceId × Bool)) → AreSums columns row bits cells → Loads columns row bits cells
sums_load columns row bits [] all k given there = absurd (none-some given there)
sums_load columns row bits (x ∷ cells) all zero given there =
    ap (λ (g : InstanceId × Bool). sum_over columns (unwrap_or (row g.0) []) bits) (sym (same_Some x given there)) ∙ all.0 ∙ ap (λ (g : InstanceId × Bool). g.1) (same_Some x given there)
sums_load columns row bits (x ∷ cells) all (suc k) given there = sums_load columns row bits cells all.1 k given there

rows_scan : (row : CellRows) (cells : List (InstanceId × Bool)) → AllByRecursion (λ given. is_none (row given.0) ≡ false) cells → first_unscanned row cells ≡ None
rows_scan row [] all = refl
rows_scan row (x ∷ cells) all = ap (λ (b : Bool). if b then Some x.0 else first_unscanned row cells) all.0 ∙ rows_scan row cells all.1

-- ---- the rows of the planned chains

module _ (n : Netlist) (config : Config) (rows : LoadRows) (ready : IsReady n config) (are : AreRows n config rows) (good : AreGood rows) where
  abbrev chains : List (List InstanceId)
  chains = (plan_of n config).chains

  abbrev row : CellRows
  row = rows_of n config rows

  apart : StandApart chains
  apart chain place other after cell stands there = let same = one_place n config chain place other after cell cell ready stands there refl in (sym same.0, sym same.1)

  -- a chained cell has a row
  is_cell : (cell : InstanceId) (at : IsChained n config cell) → IsCell rows at.0 at.1
  is_cell cell at =
      let has : HasChain chains at.0 at.1 cell = chain_by chains at.0 at.1 cell (slice_get chains at.0) refl at.2 in
      let less = slice_get_within chains at.0 has.cells has.at in
      let many = length-map chains length in
      let inside : at.0 < length (map length chains) = omega (arith, less, many) in
      let within = slice_get_within has.cells at.1 cell has.here in
      let long = length_at chains at.0 has.cells has.at in
      let count = are.chains in
      let places = (are.each at.0 inside).count in
      (omega (arith, count, inside), omega (arith, places, long, within))

  -- and this one
  row_is : (cell : InstanceId) (at : IsChained n config cell) → row cell ≡ Some (row_of rows at.0 at.1)
  row_is cell at = row_found chains rows cell at.0 at.1 apart at.2

  has_row : (cell : InstanceId) → IsChained n config cell → is_none (row cell) ≡ false
  has_row cell at = ap (λ (o : Option (List Bool)). is_none o) (row_is cell at)

  wide : AreWide rows.columns rows.chains
  wide chain place chain_less place_less =
      let count = are.chains in
      let inside : chain < length (map length chains) = omega (arith, chain_less, count) in
      let it = are.each chain inside in
      let places = it.count in
      let columns = (plan_of n config).cycles * config.ring.channels in
      let less : place < slice_index (map length chains) chain = omega (arith, places, place_less) in
      ap length (it.each place less) ∙ length-map (range_with_len 0 columns) (load_equation config.ring (plan_of n config).cycles (falling_head (plan_of n config) chain) chain place) ∙ length-range_with_len 0 columns ∙ sym are.columns

  -- ---- a care bit, and two

  sum_is : (cell : InstanceId) (at : IsChained n config cell) (bits : ℕ → Bool) (bit : Bool) → sum_over rows.columns (row_of rows at.0 at.1) bits ≡ bit → sum_over rows.columns (unwrap_or (row cell) []) bits ≡ bit
  sum_is cell at bits bit sum = ap (λ (o : Option (List Bool)). sum_over rows.columns (unwrap_or o []) bits) (row_is cell at) ∙ sum

  -- cells at one place are one cell
  same_place : (cell other : InstanceId) (at : IsChained n config cell) (there : IsChained n config other) → (at.0 ≡ there.0) × (at.1 ≡ there.1) → cell ≡ other
  same_place cell other at there same = same_Some cell other (sym at.2 ∙ (λ i. cell_at chains (same.0 i) (same.1 i)) ∙ there.2)

  sums_of : (cells : List (InstanceId × Bool)) → AreFew n config cells → (bits : ℕ → Bool) × AreSums rows.columns row bits cells
  sums_of [] few = (λ column. false, tt)
  sums_of (given ∷ []) few =
      let found = (pairs_loaded rows wide good).0 few.0 few.1 given.1 (is_cell given.0 few) in
      (found.0, (sum_is given.0 few found.0 given.1 (found.1 0 (omega arith)), tt))
  sums_of (given ∷ other ∷ []) few =
      let at = few.0 in
      let there = few.1.0 in
      let found = (pairs_loaded rows wide good).1 at.0 at.1 there.0 there.1 given.1 other.1 (is_cell given.0 at) (is_cell other.0 there) (λ same. few.1.1 (same_place given.0 other.0 at there same)) in
      (found.0, (sum_is given.0 at found.0 given.1 (found.1 0 (omega arith)), (sum_is other.0 there found.0 other.1 (found.1 1 (omega arith)), tt)))
  sums_of (given ∷ other ∷ third ∷ more) few = absurd few

  rows_are : (cells : List (InstanceId × Bool)) → AreFew n config cells → AllByRecursion (λ given. is_none (row given.0) ≡ false) cells
  rows_are [] few = tt
  rows_are (given ∷ []) few = (has_row given.0 few, tt)
  rows_are (given ∷ other ∷ []) few = (has_row given.0 few.0, (has_row other.0 few.1.0, tt))
  rows_are (given ∷ other ∷ third ∷ more) few = absurd few

  pub scanned_few : (cells : List (InstanceId × Bool)) → AreFew n config cells → first_unscanned row cells ≡ None
  scanned_few cells few = rows_scan row cells (rows_are cells few)

  pub loads_few : (cells : List (InstanceId × Bool)) → AreFew n config cells → (bits : ℕ → Bool) × Loads rows.columns row bits cells
  loads_few cells few = let found = sums_of cells few in (found.0, sums_load rows.columns row found.0 cells found.1)

-- ---- the laws

pub few_loaded : FewAreLoaded
few_loaded n config ports rows cells ready suits are good few =
    let found = loads_few n config rows ready are good cells few in
    (table_of config.ring found.0, bits_load n config ports rows found.0 cells ready suits are (scanned_few n config rows ready are good cells few) found.1)

pub few_solvable : FewAreSolvable
few_solvable n config rows window old new cube placed ready are good few places unsolvable =
    let found = loads_few n config rows ready are good cube.cells few in
    (unsolvable_exact rows.columns (rows_of n config rows) window old new cube placed (scanned_few n config rows ready are good cube.cells few) places).0 unsolvable found.0 found.1
