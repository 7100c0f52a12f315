-- Two patterns of a small design worked by hand: what their loads bring, and what the compactor's outputs show in their unloads.
use Rattle.std.specs.Prelude.{ℕ, Bool, true, false, ◌≡◌, ◌==◌, List, [], ◌∷◌}
use Rattle.dft_base.specs.declared.tri.Tri.{Tri}
use Rattle.dft_base.specs.declared.tri.Tri.TheVariants.{Zero, One}
use Rattle.dft_base.specs.Solutions.{bit_at}
use Rattle.dft_netlist.specs.declared.ids.InstanceId.{InstanceId}
use Rattle.dft_config.specs.LoadExamples.{small_ring}
use Rattle.dft_expect.specs.Loaded.{table_of, loaded_of}
use Rattle.dft_expect.specs.Expected.{expected_of}

-- five cells in two chains
abbrev pub cell : ℕ → InstanceId
cell i = record { 0 = i }

abbrev pub two_chains : List (List InstanceId)
two_chains = (cell 0 ∷ cell 1 ∷ cell 2 ∷ []) ∷ (cell 3 ∷ cell 4 ∷ []) ∷ []

-- what a load of five cycles with these channel bits brings
abbrev pub loads_to : (late : ℕ → Bool) → (bits : List Bool) → List Bool
loads_to late bits = loaded_of small_ring (table_of small_ring (bit_at bits)) 5 late two_chains

-- What two outputs show while these captured bits are unloaded and these channel bits are loaded: the first sums both chains, the second is
-- the second chain alone. No chain is masked.
abbrev pub shows : (late : ℕ → Bool) → (captured : List (List Tri)) → (bits : List Bool) → List Bool
shows late captured bits = expected_of small_ring ((0 ∷ 1 ∷ []) ∷ (1 ∷ []) ∷ []) (table_of small_ring (bit_at bits)) late (false ∷ false ∷ []) captured 5

-- no chain is late, or the first one is
abbrev pub no_chain : ℕ → Bool
no_chain chain = false

abbrev pub first_chain : ℕ → Bool
first_chain chain = chain == 0

-- each chain begins with a rising cell
pub record RisingPatterns : Type 0 where
  pub first_load : loads_to no_chain (false ∷ true ∷ true ∷ false ∷ false ∷ []) ≡ true ∷ true ∷ true ∷ false ∷ true ∷ []
  pub second_load : loads_to no_chain (true ∷ false ∷ true ∷ false ∷ false ∷ []) ≡ false ∷ false ∷ false ∷ true ∷ true ∷ []
  pub unload : shows no_chain ((Zero ∷ One ∷ One ∷ []) ∷ (One ∷ Zero ∷ []) ∷ []) (true ∷ false ∷ true ∷ false ∷ false ∷ [])
      ≡ true ∷ false ∷ false ∷ true ∷ false ∷ false ∷ false ∷ false ∷ false ∷ true ∷ []

-- the first chain begins with a falling cell
pub record FallingPatterns : Type 0 where
  pub first_load : loads_to first_chain (false ∷ true ∷ true ∷ false ∷ false ∷ []) ≡ true ∷ true ∷ true ∷ false ∷ true ∷ []
  pub second_load : loads_to first_chain (false ∷ true ∷ false ∷ false ∷ false ∷ []) ≡ false ∷ true ∷ false ∷ true ∷ true ∷ []
  pub first_unload : shows first_chain ((One ∷ One ∷ One ∷ []) ∷ (One ∷ Zero ∷ []) ∷ []) (false ∷ true ∷ false ∷ false ∷ false ∷ [])
      ≡ true ∷ false ∷ false ∷ true ∷ true ∷ false ∷ false ∷ false ∷ true ∷ false ∷ []
  pub second_unload : shows first_chain ((One ∷ Zero ∷ One ∷ []) ∷ (Zero ∷ One ∷ []) ∷ []) [] ≡ false ∷ true ∷ false ∷ false ∷ true ∷ false ∷ false ∷ false ∷ false ∷ false ∷ []
