-- What is left of a search, as a loop keeps it: the nodes that are still to be looked at, the next one first.
use Rattle.std.proofs.Common.{ℕ, ◌+◌, ◌≡◌, Bool, true, false, List, [], ◌∷◌, ◌++◌, length, Option, None, Some, subst, arith}
use Rattle.dft_seek.specs.Searches.{Search}
use Rattle.dft_seek.specs.Walks.{Cone}
use Rattle.dft_seek.specs.Turns.{Forest, End, First, Next}
use Rattle.dft_seek.specs.Laws.{CanSeek}
use Rattle.dft_seek.proofs.TreeLemmas.{SomeTree, tree_from}
use Rattle.dft_seek.specs.Trees.{Dead, Found, Open, Looks, Tree, Hit, Miss, Left, Right}

-- a node that the search goes on from gives way to the two below it
pub at_open : (s : Search) (cone : Cone) (bits : List Bool) (nodes : List (List Bool)) (dead : ℕ) (found : Option (List Bool)) → Looks s cone bits Open →
    Forest s cone ((bits ++ false ∷ []) ∷ (bits ++ true ∷ []) ∷ nodes) dead found → Forest s cone (bits ∷ nodes) dead found
at_open s cone bits nodes dead found looks (First left) = First (Left looks left)
at_open s cone bits nodes dead found looks (Next left (First right)) = First (Right looks left right)
at_open s cone bits nodes dead found looks (Next {dead = d} left (Next {dead = e} {more = m} right rest)) =
    subst (λ (k : ℕ). Forest s cone (bits ∷ nodes) k found) (let same : (d + e) + m ≡ d + (e + m) = omega arith in same) (Next (Right looks left right) rest)

-- a dead node is counted,
pub at_dead : (s : Search) (cone : Cone) (bits : List Bool) (nodes : List (List Bool)) (dead : ℕ) (found : Option (List Bool)) → Looks s cone bits Dead → Forest s cone nodes dead found → Forest s cone (bits ∷ nodes) (1 + dead) found
at_dead s cone bits nodes dead found looks rest = Next (Miss looks) rest

-- and the search ends at a found one.
pub at_found : (s : Search) (cone : Cone) (bits : List Bool) (nodes : List (List Bool)) → Looks s cone bits Found → Forest s cone (bits ∷ nodes) 0 (Some bits)
at_found s cone bits nodes looks = First (Hit looks)

-- what is below one node is its tree
pub tree_of : (s : Search) (cone : Cone) (bits : List Bool) (dead : ℕ) (found : Option (List Bool)) → Forest s cone (bits ∷ []) dead found → Tree s cone bits dead found
tree_of s cone bits dead found (First tree) = tree
tree_of s cone bits dead found (Next {dead = d} tree End) = subst (λ (k : ℕ). Tree s cone bits k None) (let same : d ≡ d + 0 = omega arith in same) tree

-- below any nodes there is something
abbrev pub SomeForest : (s : Search) → Cone → (nodes : List (List Bool)) → Type 0
SomeForest s cone nodes = (dead : ℕ) × ((found : Option (List Bool)) × Forest s cone nodes dead found)

with_tree : (s : Search) (cone : Cone) (bits : List Bool) (nodes : List (List Bool)) → SomeTree s cone bits → SomeForest s cone nodes → SomeForest s cone (bits ∷ nodes)
with_tree s cone bits nodes (dead, (None, tree)) (more, (found, rest)) = (dead + more, (found, Next tree rest))
with_tree s cone bits nodes (dead, (Some cube, tree)) rest = (dead, (Some cube, First tree))

pub forest_there : (s : Search) (rank : ℕ → ℕ) (cone : Cone) (nodes : List (List Bool)) → CanSeek s rank → SomeForest s cone nodes
forest_there s rank cone [] can = (0, (None, End))
forest_there s rank cone (bits ∷ nodes) can = with_tree s cone bits nodes (tree_from s rank cone (length cone.variables) bits can (omega arith)) (forest_there s rank cone nodes can)
