-- The sums of placement are what loads bring.
use Rattle.std.proofs.Common.{ℕ, zero, suc, ◌<◌, ◌≡◌, ◌*◌, ◌∙◌, Bool, false, List, [], ◌∷◌, length, map, refl, sym, ap, ap₂, slice_get, Some, unwrap_or, arith}
use Rattle.std.specs.Prelude.{◌&&◌, slice_index}
use Rattle.std.proofs.lemmas.List.{length-map}
use Rattle.std.proofs.lemmas.Nat.{div-add-mod'}
use Rattle.std.proofs.lemmas.List.FromFn.{get_or-map-range_with_len}
use Rattle.std.proofs.lemmas.Option.{none-some, same_Some, slice_get_within}
use Rattle.dft_scan_behavior.proofs.Outputs.{HasChain, chain_by}
use Rattle.dft_base.specs.Solutions.{bit_at, sum_over}
use Rattle.dft_base.proofs.SumLemmas.{sum_same}
use Rattle.dft_netlist.specs.declared.ids.InstanceId.{InstanceId}
use Rattle.dft_config.specs.Config.{Config}
use Rattle.dft_config.specs.declared.config.RingConfig.{RingConfig}
use Rattle.dft_config.specs.Range.{IsInRange}
use Rattle.dft_config.specs.Ring.{phase_sum, state_after}
use Rattle.dft_config.specs.Loads.{bit_of_column, load_equation, moment_of_place}
use Rattle.dft_config.proofs.Linearity.{loads_sum}
use Rattle.dft_equations.specs.LoadRows.{LoadRows, AreLoadEquations, equation_row, row_of}
use Rattle.dft_stitch.specs.Plans.{cell_at}
use Rattle.dft_expect.specs.Loaded.{table_of}
use Rattle.dft_merge.proofs.PlaceLemmas.{row_found}
use Rattle.dft_load_laws.specs.Sums.{SumsAreLoads}

column_bit : (ring : RingConfig) (bits : ℕ → Bool) (column : ℕ) → bits column ≡ bit_of_column ring (table_of ring bits) column
column_bit ring bits column = ap bits (sym (div-add-mod' column ring.channels))

pub row_bit : (ring : RingConfig) (cycles : ℕ) (late : Bool) (chain place c : ℕ) → c < cycles * ring.channels → bit_at (equation_row ring cycles late chain place) c ≡ load_equation ring cycles late chain place c
row_bit ring cycles late chain place c less = get_or-map-range_with_len (load_equation ring cycles late chain place) 0 (cycles * ring.channels) c c false less (omega arith)

row_brings : (config : Config) (cycles : ℕ) (late : Bool) (chain place : ℕ) (bits : ℕ → Bool) → IsInRange config → chain < config.chains → place < cycles →
    sum_over (cycles * config.ring.channels) (equation_row config.ring cycles late chain place) bits ≡ phase_sum config.ring chain (state_after config.ring (table_of config.ring bits) (moment_of_place cycles late place))
row_brings config cycles late chain place bits range chain_less place_less =
    let ring = config.ring in
    sum_same (cycles * ring.channels) _ _ (λ c less. ap₂ (λ (a b : Bool). a && b) (row_bit ring cycles late chain place c less) (column_bit ring bits c))
    ∙ sym (loads_sum config (table_of ring bits) cycles late chain place range chain_less place_less)

-- ---- where a cell stands there is a row

pub length_at : (chains : List (List InstanceId)) (chain : ℕ) (cells : List InstanceId) → slice_get chains chain ≡ Some cells → slice_index (map length chains) chain ≡ length cells
length_at [] chain cells at = absurd (none-some cells at)
length_at (x ∷ chains) zero cells at = ap (λ (xs : List InstanceId). length xs) (same_Some x cells at)
length_at (x ∷ chains) (suc chain) cells at = length_at chains chain cells at

pub row_is : (config : Config) (chains : List (List InstanceId)) (late : ℕ → Bool) (cycles : ℕ) (rows : LoadRows) (chain place : ℕ) (cell : InstanceId) → AreLoadEquations config.ring (map length chains) late cycles rows → cell_at chains chain place ≡ Some cell →
    row_of rows chain place ≡ equation_row config.ring cycles (late chain) chain place
row_is config chains late cycles rows chain place cell are stands =
    let has : HasChain chains chain place cell = chain_by chains chain place cell (slice_get chains chain) refl stands in
    let inside : chain < length (map length chains) = (let less = slice_get_within chains chain has.cells has.at in let same = length-map chains length in omega (arith, less, same)) in
    let within : place < slice_index (map length chains) chain = (let less = slice_get_within has.cells place cell has.here in let same = length_at chains chain has.cells has.at in omega (arith, less, same)) in
    (are.each chain inside).each place within

pub sums_are_loads : SumsAreLoads
sums_are_loads config chains late cycles rows bits chain place cell range apart are chain_less place_less stands =
    ap (λ o. sum_over rows.columns (unwrap_or o []) bits) (row_found chains rows cell chain place apart stands)
    ∙ ap (λ (k : ℕ). sum_over k (row_of rows chain place) bits) are.columns
    ∙ ap (λ (row : List Bool). sum_over (cycles * config.ring.channels) row bits) (row_is config chains late cycles rows chain place cell are stands)
    ∙ row_brings config cycles (late chain) chain place bits range chain_less place_less
