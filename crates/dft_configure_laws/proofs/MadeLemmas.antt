-- The load equations of a made configuration are good, and so any that are told for it.
use Rattle.std.proofs.Common.{ℕ, zero, suc, ◌<◌, ◌≡◌, Bool, true, List, [], ◌∷◌, length, Some, slice_get, Result, Ok, Err, sym, subst, arith, ◌∙◌}
use Rattle.std.specs.Prelude.{slice_index}
use Rattle.std.proofs.lemmas.Option.{none-some, same_Some}
use Rattle.dft_base.specs.Solutions.{bit_at}
use Rattle.dft_netlist.specs.Netlist.{Netlist}
use Rattle.dft_config.specs.Config.{Config}
use Rattle.dft_config.specs.declared.config.RingConfig.{RingConfig}
use Rattle.dft_equations.specs.LoadRows.{AreLoadEquations, IsCell, LoadRows, row_of}
use Rattle.dft_config_out.specs.declared.made.Made.{Made}
use Rattle.dft_config_out.specs.Written.{config_of}
use Rattle.dft_cubes.specs.declared.cube.Cube.{Cube}
use Rattle.dft_cubes.specs.declared.cube.Merged.{Merged}
use Rattle.dft_merge.specs.declared.placed.Placed.{Placed}
use Rattle.dft_merge.specs.Placement.{Places, PlacesAll}
use Rattle.dft_merge.specs.Rows.{CellRows}
use Rattle.dft_load_laws.specs.Loading.{rows_of}
use Rattle.dft_configure.specs.Good.{AreGood, HasVariable}
use Rattle.dft_configuring.specs.declared.configuring.Configured.{Configured}
use Rattle.dft_configuring.specs.declared.error.ConfigureError.{ConfigureError}
use Rattle.dft_configuring.specs.declared.wanted.Wanted.{Wanted}
use Rattle.dft_configuring.specs.Configured.{IsConfigured}
use Rattle.dft_configuring.specs.Searching.{Ends, Finds, GoesOn, IsGood, Passes, Search}
use Rattle.dft_configure_laws.specs.MadeLoads.{MadeIsGood, MadeLoads, NoneIsUnsolvable}
use Rattle.dft_configure_laws.proofs.FewLemmas.{few_loaded, few_solvable}

-- ---- what the search finds is good

abbrev HasGood : Netlist → Result Made ConfigureError → Type 0
HasGood n (Ok made) = IsGood n (config_of made)
HasGood n (Err error) = Unit {0}

found_good : (n : Netlist) (wanted : Wanted) (warm : ℕ) (found : Result Made ConfigureError) → Search n wanted warm found → HasGood n found
found_good n wanted warm found (Finds low made is fits good) = good
found_good n wanted warm found (GoesOn low made is fits bad more) = found_good n wanted (suc warm) found more
found_good n wanted warm found (Passes low made is passed) = tt
found_good n wanted warm found (Ends past) = tt

-- ---- load equations are told in one way

module _ (ring : RingConfig) (lengths : List ℕ) (late : ℕ → Bool) (cycles : ℕ) (a b : LoadRows) (first : AreLoadEquations ring lengths late cycles a) (second : AreLoadEquations ring lengths late cycles b) where
  inside : (chain place : ℕ) → IsCell b chain place → chain < length lengths
  inside chain place cell = let count = second.chains in let less = cell.0 in omega (arith, count, less)

  place_less : (chain place : ℕ) → IsCell b chain place → place < slice_index lengths chain
  place_less chain place cell = let count = (second.each chain (inside chain place cell)).count in let less = cell.1 in omega (arith, count, less)

  cell_too : (chain place : ℕ) → IsCell b chain place → IsCell a chain place
  cell_too chain place cell =
      let within = inside chain place cell in
      let less = place_less chain place cell in
      let many = first.chains in
      let count = (first.each chain within).count in
      (omega (arith, many, within), omega (arith, count, less))

  row_same : (chain place : ℕ) → IsCell b chain place → row_of a chain place ≡ row_of b chain place
  row_same chain place cell =
      let within = inside chain place cell in
      let less = place_less chain place cell in
      (first.each chain within).each place less ∙ sym ((second.each chain within).each place less)

  some_too : AreGood a → (chain place : ℕ) → IsCell b chain place → HasVariable b.columns (row_of b chain place)
  some_too good chain place cell =
      let at = good.some chain place (cell_too chain place cell) in
      let few = first.columns in
      let many = second.columns in
      let less = at.1.0 in
      (at.0, (omega (arith, few, many, less), subst (λ (row : List Bool). bit_at row at.0 ≡ true) (row_same chain place cell) at.1.1))

  pub good_too : AreGood a → AreGood b
  good_too good = record {
    some = some_too good;
    differ = λ chain place other spot cell there same. good.differ chain place other spot (cell_too chain place cell) (cell_too other spot there) (row_same chain place cell ∙ same ∙ sym (row_same other spot there));
  }

-- ---- the laws

pub made_good : MadeIsGood
made_good n wanted configured is =
    let chosen = is.chosen in subst (λ (config : Config). IsGood n config) (sym is.config) (found_good n wanted _ (Ok is.made) chosen.first)

pub made_loaded : MadeLoads
made_loaded n wanted configured ready is ports cells suits few = let good = made_good n wanted configured is in few_loaded n configured.config ports good.rows cells ready suits good.are good.good few

-- ---- each cube is placed

-- a cube is placed after some patterns
pub record PlacedAt (columns : ℕ) (row : CellRows) (window : ℕ) (cube : Cube) (placed : Placed) : Type 0 where
  pub old : List Merged
  pub new : List Merged
  pub is : Places columns row window old cube placed new

placed_at : (columns : ℕ) (row : CellRows) (window : ℕ) (old : List Merged) (cubes : List Cube) (all : List Placed) (new : List Merged) (c : ℕ) (cube : Cube) (placed : Placed) → PlacesAll columns row window old cubes all new →
    slice_get cubes c ≡ Some cube → slice_get all c ≡ Some placed → PlacedAt columns row window cube placed
placed_at columns row window old [] all new c cube placed places here there = absurd (none-some cube here)
placed_at columns row window old (x ∷ cubes) [] new c cube placed places here there = absurd (none-some placed there)
placed_at columns row window old (x ∷ cubes) (p ∷ all) new zero cube placed places here there = record {
  old = old;
  new = places.0;
  is = subst (λ (q : Placed). Places columns row window old cube q places.0) (same_Some p placed there) (subst (λ (y : Cube). Places columns row window old y p places.0) (same_Some x cube here) places.1.0);
}
placed_at columns row window old (x ∷ cubes) (p ∷ all) new (suc c) cube placed places here there = placed_at columns row window places.0 cubes all new c cube placed places.1.1 here there

pub none_unsolvable : NoneIsUnsolvable
none_unsolvable n wanted configured ready is cubes placing c cube placed here there few unsolvable =
    let config = configured.config in
    let good = made_good n wanted configured is in
    let at = placed_at placing.rows.columns (rows_of n config placing.rows) config.window [] cubes placing.placed placing.merged c cube placed placing.is here there in
    few_solvable n config placing.rows config.window at.old at.new cube placed ready placing.equations (good_too config.ring _ _ _ good.rows placing.rows good.are placing.equations good.good) few at.is unsolvable
