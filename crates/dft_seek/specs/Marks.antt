-- Nets that are marked, and walks from marked nets, by the nets from which a walk goes on to each net.
use Rattle.std.specs.Prelude.{ℕ, suc, Bool, true, false, ◌≡◌, ◌<◌, ◌≤◌, ◌⊎◌, List, [], ◌∷◌, length, slice_index_or}
use Rattle.std.specs.List.{list_any}
use Rattle.dft_netlist.specs.declared.ids.NetId.{NetId}
use Rattle.dft_netlist.specs.Orders.{numbers_of}
use Rattle.dft_logic.specs.Circuit.{flag_at}
use Rattle.dft_seek.specs.Walks.{is_among}

-- how many flags are up
abbrev pub ups : List Bool → ℕ
ups [] = 0
ups (true ∷ flags) = suc (ups flags)
ups (false ∷ flags) = ups flags

-- the nets from which a walk goes on to a net; past the end there are none
abbrev pub steps_at : List (List NetId) → (net : ℕ) → List ℕ
steps_at steps net = numbers_of (slice_index_or steps net [])

-- a walk from one net to another one
pub data Path (steps : ℕ → List ℕ) : (from to : ℕ) → Type 0 where
  Here : {net : ℕ} → Path steps net net
  Onward : {from by to : ℕ} → Path steps from by → is_among by (steps to) ≡ true → Path steps from to

-- marks stay, and there are more where one is new
pub record Grows (old new : List Bool) (fresh : Bool) : Type 0 where
  pub size : length new ≡ length old
  pub kept : (k : ℕ) → flag_at old k ≡ true → flag_at new k ≡ true
  pub still : fresh ≡ false → new ≡ old
  pub grows : ups old ≤ ups new
  pub more : fresh ≡ true → ups old < ups new

-- these nets are marked
pub record Raises (old new : List Bool) (nets : List ℕ) (fresh : Bool) : Type 0 where
  pub grown : Grows old new fresh
  pub only : (k : ℕ) → flag_at new k ≡ true → (flag_at old k ≡ true) ⊎ (is_among k nets ≡ true)
  pub done : (k : ℕ) → is_among k nets ≡ true → k < length old → flag_at new k ≡ true

-- ---- onwards

-- a walk leads to the net from one that is marked
pub record IsBehind (steps : ℕ → List ℕ) (marked : List Bool) (net : ℕ) : Type 0 where
  pub from : ℕ
  pub is_up : flag_at marked from ≡ true
  pub path : Path steps from net

-- of these nets those are marked to which a walk goes on from marked ones
pub record Spreads (steps : ℕ → List ℕ) (nets : List ℕ) (old new : List Bool) (fresh : Bool) : Type 0 where
  pub grown : Grows old new fresh
  pub only : (k : ℕ) → flag_at new k ≡ true → IsBehind steps old k
  pub closed : fresh ≡ false → (net : ℕ) → is_among net nets ≡ true → net < length old → list_any (flag_at new) (steps net) ≡ true → flag_at new net ≡ true

pub record IsSpread (steps : ℕ → List ℕ) (nets : List ℕ) (old new : List Bool) : Type 0 where
  pub size : length new ≡ length old
  pub kept : (k : ℕ) → flag_at old k ≡ true → flag_at new k ≡ true
  pub only : (k : ℕ) → flag_at new k ≡ true → IsBehind steps old k
  pub closed : (net : ℕ) → is_among net nets ≡ true → net < length old → list_any (flag_at new) (steps net) ≡ true → flag_at new net ≡ true

-- ---- back

-- a walk leads from the net to one that is marked
pub record IsBefore (steps : ℕ → List ℕ) (marked : List Bool) (net : ℕ) : Type 0 where
  pub to : ℕ
  pub is_up : flag_at marked to ≡ true
  pub path : Path steps net to

-- the nets are marked from which a walk goes on to marked ones of these
pub record Draws (steps : ℕ → List ℕ) (nets : List ℕ) (old new : List Bool) (fresh : Bool) : Type 0 where
  pub grown : Grows old new fresh
  pub only : (k : ℕ) → flag_at new k ≡ true → IsBefore steps old k
  pub closed : fresh ≡ false → (net : ℕ) → is_among net nets ≡ true → flag_at new net ≡ true → (from : ℕ) → is_among from (steps net) ≡ true → from < length old → flag_at new from ≡ true

pub record IsDrawn (steps : ℕ → List ℕ) (nets : List ℕ) (old new : List Bool) : Type 0 where
  pub size : length new ≡ length old
  pub kept : (k : ℕ) → flag_at old k ≡ true → flag_at new k ≡ true
  pub only : (k : ℕ) → flag_at new k ≡ true → IsBefore steps old k
  pub closed : (net : ℕ) → is_among net nets ≡ true → flag_at new net ≡ true → (from : ℕ) → is_among from (steps net) ≡ true → from < length old → flag_at new from ≡ true
