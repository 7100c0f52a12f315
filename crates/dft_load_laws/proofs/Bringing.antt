-- Which cubes loads bring.
use Rattle.std.proofs.Common.{ℕ, zero, suc, ◌*◌, ◌≡◌, ◌==◌, ◌⊎◌, inl, inr, Bool, true, false, List, [], ◌∷◌, Option, None, Some, is_none, slice_get, unwrap_or, refl, sym, ap, ap₂, subst, arith, ◌∙◌}
use Rattle.std.specs.Prelude.{◌&&◌, if◌then◌else◌}
use Rattle.std.proofs.lemmas.Bool.{eqb-true, eq-eqb}
use Rattle.std.proofs.lemmas.Nat.{div-add-mod'}
use Rattle.std.proofs.lemmas.Option.{none-some, same_Some, slice_get_within}
use Rattle.dft_base.proofs.BitLemmas.{true_false}
use Rattle.dft_base.specs.Solutions.{sum_over}
use Rattle.dft_base.proofs.SumLemmas.{sum_same}
use Rattle.dft_netlist.specs.declared.ids.InstanceId.{InstanceId}
use Rattle.dft_behavior.specs.Logic.{Ports}
use Rattle.dft_netlist.specs.Netlist.{Netlist}
use Rattle.dft_config.specs.Config.{Config}
use Rattle.dft_config.specs.Ring.{Table}
use Rattle.dft_config.specs.Loads.{bit_of_column}
use Rattle.dft_equations.specs.LoadRows.{LoadRows, row_of}
use Rattle.dft_stitch.specs.Chains.{plan_of}
use Rattle.dft_stitch.specs.Plans.{cell_at, falling_head}
use Rattle.dft_edt.specs.Loads.{load_sum}
use Rattle.dft_expect.specs.Loaded.{table_of}
use Rattle.dft_cubes.specs.declared.cube.Cube.{Cube}
use Rattle.dft_cubes.specs.declared.cube.Merged.{Merged}
use Rattle.dft_merge.specs.declared.placed.Placed.{Placed}
use Rattle.dft_merge.specs.declared.placed.Placed.TheVariants.{Into, Skipped, Unsolvable}
use Rattle.dft_merge.specs.Laws.{IsUnsolvable}
use Rattle.dft_merge.specs.Placement.{Loads, Places, first_unscanned}
use Rattle.dft_merge.specs.Rows.{CellRows, StandApart, cell_row}
use Rattle.dft_merge.proofs.EquationLemmas.{solves_loads}
use Rattle.dft_merge.proofs.OneLemmas.{into_solvable, unsolvable_exact}
use Rattle.dft_merge.proofs.PlaceLemmas.{row_found, row_nowhere}
use Rattle.dft_merge.proofs.StayLemmas.{cubes_stay}
use Rattle.dft_scan_frame.specs.Statements.{IsReady}
use Rattle.dft_scan_behavior.specs.EdtVectors.{SuitsEdt}
use Rattle.dft_scan_behavior.proofs.Outputs.{one_place}
use Rattle.dft_scan_behavior.proofs.Reaching.{loads_reach}
use Rattle.dft_load_laws.specs.Loading.{LoadRun, after_load, LoadsAlways, LoadsOnce, AreRows, rows_of, BitsLoad, IsInto, LoadsSolve, PatternsLoad, PlacedInRuns, UnsolvableInRuns}
use Rattle.dft_stitch.proofs.LengthLemmas.{chains_fit}
use Rattle.dft_stitch.proofs.CellPlaces.{chain_of}
use Rattle.dft_load_laws.proofs.Running.{loads_run}
use Rattle.dft_load_laws.proofs.Sums.{row_bit, row_is}

-- ---- where a cell stands

-- it stands in a list, or nowhere there
place_none : (x : InstanceId) (cells : List InstanceId) (cell : InstanceId) → (x.0 == cell.0) ≡ false → ((k : ℕ) → slice_get cells k ≡ Some cell → ⊥) → (k : ℕ) → slice_get (x ∷ cells) k ≡ Some cell → ⊥
place_none x cells cell apart none zero h = true_false (x.0 == cell.0) (eq-eqb x.0 cell.0 (ap (λ (c : InstanceId). c.0) (same_Some x cell h))) apart
place_none x cells cell apart none (suc k) h = none k h

place_by : (x : InstanceId) (cells : List InstanceId) (cell : InstanceId) (b : Bool) → (x.0 == cell.0) ≡ b → ((k : ℕ) × (slice_get cells k ≡ Some cell)) ⊎ ((k : ℕ) → slice_get cells k ≡ Some cell → ⊥) →
    ((k : ℕ) × (slice_get (x ∷ cells) k ≡ Some cell)) ⊎ ((k : ℕ) → slice_get (x ∷ cells) k ≡ Some cell → ⊥)
place_by x cells cell true is more = inl (zero, ap (λ k. Some (record { 0 = k })) (eqb-true x.0 cell.0 is))
place_by x cells cell false is more = elim more [
  | inl h ↦ inl (suc h.0, h.1)
  | inr none ↦ inr (place_none x cells cell is none)
]

place_in : (cells : List InstanceId) (cell : InstanceId) → ((k : ℕ) × (slice_get cells k ≡ Some cell)) ⊎ ((k : ℕ) → slice_get cells k ≡ Some cell → ⊥)
place_in [] cell = inr (λ k h. none-some cell h)
place_in (x ∷ cells) cell = place_by x cells cell (x.0 == cell.0) refl (place_in cells cell)

-- and in chains
pub record Standing (chains : List (List InstanceId)) (cell : InstanceId) : Type 0 where
  pub chain : ℕ
  pub place : ℕ
  pub stands : cell_at chains chain place ≡ Some cell

Nowhere : List (List InstanceId) → InstanceId → Type 0
Nowhere chains cell = (c k : ℕ) → cell_at chains c k ≡ Some cell → ⊥

nowhere_more : (x : List InstanceId) (chains : List (List InstanceId)) (cell : InstanceId) → ((k : ℕ) → slice_get x k ≡ Some cell → ⊥) → Nowhere chains cell → Nowhere (x ∷ chains) cell
unfolding Nowhere
nowhere_more x chains cell here later zero k h = here k h
nowhere_more x chains cell here later (suc c) k h = later c k h

find_cell : (chains : List (List InstanceId)) (cell : InstanceId) → Standing chains cell ⊎ Nowhere chains cell
unfolding Nowhere
find_cell [] cell = inr (λ c k h. none-some cell h)
find_cell (x ∷ chains) cell = elim (place_in x cell) [
  | inl h ↦ inl (record { chain = zero; place = h.0; stands = h.1 })
  | inr none ↦ elim (find_cell chains cell) [
    | inl s ↦ inl (record { chain = suc s.chain; place = s.place; stands = s.stands })
    | inr nowhere ↦ inr (nowhere_more x chains cell none nowhere)
  ]
]

-- a cell with a load equation stands in the chains
scanned_stands : (chains : List (List InstanceId)) (rows : LoadRows) (cell : InstanceId) → is_none (cell_row chains rows cell) ≡ false → Standing chains cell
unfolding Nowhere
scanned_stands chains rows cell some = elim (find_cell chains cell) [
  | inl s ↦ s
  | inr nowhere ↦ absurd (let e = row_nowhere chains rows cell nowhere in let f : true ≡ false = sym (ap (λ o. is_none o) e) ∙ some in cc)
]

-- each of these cells has one
scanned_by : (row : InstanceId → Option (List Bool)) (given : InstanceId × Bool) (rest : Option InstanceId) (b : Bool) → (if b then Some given.0 else rest) ≡ None → (b ≡ false) × (rest ≡ None)
scanned_by row given rest true h = absurd (none-some given.0 (sym h))
scanned_by row given rest false h = (refl, h)

scanned_each : (row : InstanceId → Option (List Bool)) (cells : List (InstanceId × Bool)) → first_unscanned row cells ≡ None → (k : ℕ) (given : InstanceId × Bool) → slice_get cells k ≡ Some given → is_none (row given.0) ≡ false
scanned_each row [] none k given at = absurd (none-some given at)
scanned_each row (x ∷ cells) none zero given at = ap (λ (g : InstanceId × Bool). is_none (row g.0)) (sym (same_Some x given at)) ∙ (scanned_by row x (first_unscanned row cells) (is_none (row x.0)) none).0
scanned_each row (x ∷ cells) none (suc k) given at = scanned_each row cells (scanned_by row x (first_unscanned row cells) (is_none (row x.0)) none).1 k given at

-- ---- sums

module _ (n : Netlist) (config : Config) (ports : Ports) (rows : LoadRows) (ready : IsReady n config) (suits : SuitsEdt n config ports) (are : AreRows n config rows) where
  abbrev chains : List (List InstanceId)
  chains = (plan_of n config).chains

  abbrev cycles : ℕ
  cycles = (plan_of n config).cycles

  apart : StandApart chains
  apart chain place other after cell stands there = let same = one_place n config chain place other after cell cell ready stands there refl in (sym same.0, sym same.1)

  -- the sum over a cell's row is what the load brings to it
  brings : (table : Table) (bits : ℕ → Bool) (cell : InstanceId) (s : Standing chains cell) → ((column : ℕ) → bits column ≡ bit_of_column config.ring table column) →
      sum_over rows.columns (unwrap_or (rows_of n config rows cell) []) bits ≡ load_sum config table cycles (falling_head (plan_of n config) s.chain) s.chain s.place
  brings table bits cell s same =
      ap (λ o. sum_over rows.columns (unwrap_or o []) bits) (row_found chains rows cell s.chain s.place apart s.stands)
      ∙ ap (λ (k : ℕ). sum_over k (row_of rows s.chain s.place) bits) are.columns
      ∙ ap (λ (row : List Bool). sum_over (cycles * config.ring.channels) row bits) (row_is config chains (falling_head (plan_of n config)) cycles rows s.chain s.place cell are s.stands)
      ∙ sum_same (cycles * config.ring.channels) _ _ (λ c less. ap₂ (λ (a b : Bool). a && b) (row_bit config.ring cycles (falling_head (plan_of n config) s.chain) s.chain s.place c less) (same c))

  -- what a run of a load leaves in a cell
  loaded : (table : Table) (r : LoadRun n config ports table) (cell : InstanceId) (s : Standing chains cell) → after_load n config ports table r cell.0 ≡ load_sum config table cycles (falling_head (plan_of n config) s.chain) s.chain s.place
  loaded table r cell s =
      let has : (cells : List InstanceId) × (slice_get chains s.chain ≡ Some cells) × (slice_get cells s.place ≡ Some cell) = chain_of chains s.chain s.place cell (slice_get chains s.chain) refl s.stands in
      let fits = chains_fit n config s.chain has.0 ready.range has.1 in
      let within = slice_get_within has.0 s.place cell has.2 in
      (loads_reach n config ports ready suits).0 table r.before r.clear r.load r.start r.ts r.a r.us r.clearing r.carries r.run r.turn r.turns s.chain s.place cell s.stands (let count = r.count in omega (arith, count, fits, within))
      ∙ ap (λ k. load_sum config table k (falling_head (plan_of n config) s.chain) s.chain s.place) r.count

  column_bit : (bits : ℕ → Bool) (column : ℕ) → bits column ≡ bit_of_column config.ring (table_of config.ring bits) column
  column_bit bits column = ap bits (sym (div-add-mod' column config.ring.channels))

  bits_load_here : (bits : ℕ → Bool) (cells : List (InstanceId × Bool)) → first_unscanned (rows_of n config rows) cells ≡ None → Loads rows.columns (rows_of n config rows) bits cells → LoadsAlways n config ports (table_of config.ring bits) cells
  bits_load_here bits cells scanned loads r k given at =
      let s = scanned_stands chains rows given.0 (scanned_each (rows_of n config rows) cells scanned k given at) in
      loaded (table_of config.ring bits) r given.0 s ∙ sym (brings (table_of config.ring bits) bits given.0 s (column_bit bits)) ∙ loads k given at

  -- a table that loads cells in one run gives bits that load them
  table_loads : (table : Table) (cells : List (InstanceId × Bool)) → first_unscanned (rows_of n config rows) cells ≡ None → LoadsOnce n config ports table cells → Loads rows.columns (rows_of n config rows) (bit_of_column config.ring table) cells
  table_loads table cells scanned once k given at =
      let s = scanned_stands chains rows given.0 (scanned_each (rows_of n config rows) cells scanned k given at) in
      brings table (bit_of_column config.ring table) given.0 s (λ column. refl) ∙ sym (loaded table once.0 given.0 s) ∙ once.1 k given at

pub bits_load : BitsLoad
bits_load n config ports rows bits cells ready suits are scanned loads = bits_load_here n config ports rows ready suits are bits cells scanned loads

pub unsolvable_in_runs : UnsolvableInRuns
unsolvable_in_runs n config ports rows window old new cube placed ready suits are scanned places =
    let exact = unsolvable_exact rows.columns (rows_of n config rows) window old new cube placed scanned places in (
      λ unsolvable table once. exact.0 unsolvable (bit_of_column config.ring table) (table_loads n config ports rows ready suits are table cube.cells scanned once),
      λ none. exact.1 (λ bits loads. none (table_of config.ring bits) (
        loads_run n config ports (table_of config.ring bits) ready suits,
        bits_load n config ports rows bits cube.cells ready suits are scanned loads (loads_run n config ports (table_of config.ring bits) ready suits),
      )),
    )

pub loads_solve : LoadsSolve
loads_solve n config ports rows table cells ready suits are scanned once = table_loads n config ports rows ready suits are table cells scanned once

-- ---- cubes in patterns

-- some table loads a cube that is placed in a pattern
into_loaded : (n : Netlist) (config : Config) (ports : Ports) (rows : LoadRows) (window : ℕ) (old new : List Merged) (cube : Cube) (placed : Placed) → IsReady n config → SuitsEdt n config ports → AreRows n config rows →
    first_unscanned (rows_of n config rows) cube.cells ≡ None → Places rows.columns (rows_of n config rows) window old cube placed new → IsInto placed → (table : Table) × LoadsAlways n config ports table cube.cells
into_loaded n config ports rows window old new cube placed ready suits are scanned places into =
    let row = rows_of n config rows in
    let solved = into_solvable rows.columns row window old cube into.0 new (subst (λ (word : Placed). Places rows.columns row window old cube word new) into.1 places).1 in
    (table_of config.ring solved.0, bits_load n config ports rows solved.0 cube.cells ready suits are scanned (solves_loads rows.columns row solved.0 cube.cells solved.1))

-- one that is neither skipped nor unsolvable is placed in a pattern
into_by : (columns : ℕ) (row : CellRows) (window : ℕ) (old new : List Merged) (cube : Cube) (placed : Placed) → first_unscanned row cube.cells ≡ None → Places columns row window old cube placed new → (IsUnsolvable placed → ⊥) → IsInto placed
into_by columns row window old new cube (Skipped cell) scanned places other = absurd (none-some cell (sym scanned ∙ places.0))
into_by columns row window old new cube (Into p) scanned places other = (p, refl)
into_by columns row window old new cube (Unsolvable ids) scanned places other = absurd (other (ids, refl))

pub placed_in_runs : PlacedInRuns
placed_in_runs n config ports rows window old new cube placed ready suits are scanned places = (
  into_loaded n config ports rows window old new cube placed ready suits are scanned places,
  λ some. into_by rows.columns (rows_of n config rows) window old new cube placed scanned places (λ unsolvable.
      (unsolvable_in_runs n config ports rows window old new cube placed ready suits are scanned places).0 unsolvable some.0 (loads_run n config ports some.0 ready suits, some.1 (loads_run n config ports some.0 ready suits))),
)

pub patterns_load : PatternsLoad
patterns_load n config ports rows window cubes placed patterns bits ready suits are places given c p cube at word =
    let row = rows_of n config rows in
    let it = cubes_stay rows.columns row window cubes placed patterns places c p cube at word in
    let loads = given p it.pattern it.is in
    bits_load n config ports rows (bits p) cube.cells ready suits are it.scanned (λ k own there. (let place = it.holds.cells k own there in loads place.0 own place.1))
