-- The course of a search from node to node.
use Rattle.std.specs.Prelude.{ℕ, Bool, true, false, ◌+◌, List, [], ◌∷◌, ◌++◌, Option, None, Some, if◌then◌else◌}
use Rattle.dft_seek.specs.Searches.{Search}
use Rattle.dft_seek.specs.Trees.{Dead, Found, Looks, Tree}
use Rattle.dft_seek.specs.Walks.{Cone}

-- ---- nodes

-- the nodes that are still to be looked at behind the one with these bits, which stand behind others: each 0 can be turned to 1
abbrev pub pending_from : (before bits : List Bool) → List (List Bool)
pending_from before [] = []
pending_from before (true ∷ bits) = pending_from (before ++ true ∷ []) bits
pending_from before (false ∷ bits) = pending_from (before ++ false ∷ []) bits ++ (before ++ true ∷ []) ∷ []

abbrev pub pending : (bits : List Bool) → List (List Bool)
pending bits = pending_from [] bits

-- the first elements, each beside its bit
abbrev pub paired : {A : Type 0} → List A → List Bool → List (A × Bool)
paired [] bits = []
paired (x ∷ xs) [] = []
paired (x ∷ xs) (bit ∷ bits) = (x, bit) ∷ paired xs bits

-- the dead nodes before the first found one below these nodes in turn, and that one; or all dead nodes, and None
pub data Forest (s : Search) (cone : Cone) : (nodes : List (List Bool)) → (dead : ℕ) → (found : Option (List Bool)) → Type 0 where
  End : Forest s cone [] 0 None
  First : {bits : List Bool} {nodes : List (List Bool)} {dead : ℕ} {found : List Bool} → Tree s cone bits dead (Some found) → Forest s cone (bits ∷ nodes) dead (Some found)
  Next : {bits : List Bool} {nodes : List (List Bool)} {dead more : ℕ} {found : Option (List Bool)} → Tree s cone bits dead None → Forest s cone nodes more found → Forest s cone (bits ∷ nodes) (dead + more) found

-- What stands below a node and the ones pending is what stands below the last node that is gone to and the ones pending there, which is found or dead.
pub record IsLeaf (s : Search) (cone : Cone) (old new : List Bool) (found : Bool) : Type 0 where
  pub looks : Looks s cone new (if found then Found else Dead)
  pub leads : (dead : ℕ) (cube : Option (List Bool)) → Forest s cone (new ∷ pending new) dead cube → Forest s cone (old ∷ pending old) dead cube
