-- What a caller sees of the load equations of chains.
use Rattle.std.specs.Prelude.{ℕ, Bool, ◌≡◌, ◌*◌, ◌<◌, List, [], length, get_or, map}
use Rattle.std.specs.List.{slice_index, range_with_len}
use Rattle.dft_config.specs.declared.config.RingConfig.{RingConfig}
use Rattle.dft_config.specs.Loads.{load_equation}

-- the number of columns, and for each chain the rows of its cells, the one at place 0 first; a row has a bit for each column
pub record LoadRows : Type 0 where
  pub columns : ℕ
  pub chains : List (List (List Bool))

-- the rows of a chain, and the row of the cell at a place of it
abbrev pub rows_of : LoadRows → ℕ → List (List Bool)
rows_of rows chain = get_or rows.chains chain []

abbrev pub row_of : LoadRows → ℕ → ℕ → List Bool
row_of rows chain place = get_or (rows_of rows chain) place []

-- there is a cell at this place of this chain
abbrev pub IsCell : LoadRows → ℕ → ℕ → Type 0
IsCell rows chain place = (chain < length rows.chains) × (place < length (rows_of rows chain))

-- each row of each chain has so many bits
abbrev pub AreWide : ℕ → List (List (List Bool)) → Type 0
AreWide columns chains =
    (chain place : ℕ) → chain < length chains → place < length (get_or chains chain []) → length (get_or (get_or chains chain []) place []) ≡ columns

-- a load equation as a list: for each column whether it is in it
abbrev pub equation_row : RingConfig → (cycles : ℕ) (late : Bool) (chain place : ℕ) → List Bool
equation_row ring cycles late chain place = map (load_equation ring cycles late chain place) (range_with_len 0 (cycles * ring.channels))

-- the rows are the load equations of the first so many places of a chain
pub record AreRowsOf (ring : RingConfig) (cycles : ℕ) (late : Bool) (chain places : ℕ) (rows : List (List Bool)) : Type 0 where
  pub count : length rows ≡ places
  pub each : (place : ℕ) → place < places → get_or rows place [] ≡ equation_row ring cycles late chain place

-- the rows are the load equations of chains of these lengths, of which these are late, for loads of so many cycles
pub record AreLoadEquations (ring : RingConfig) (lengths : List ℕ) (late : ℕ → Bool) (cycles : ℕ) (rows : LoadRows) : Type 0 where
  pub columns : rows.columns ≡ cycles * ring.channels
  pub chains : length rows.chains ≡ length lengths
  pub each : (chain : ℕ) → chain < length lengths → AreRowsOf ring cycles (late chain) chain (slice_index lengths chain) (rows_of rows chain)
