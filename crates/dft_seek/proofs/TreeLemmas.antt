-- A search has exactly one tree.
use Rattle.std.proofs.Common.{ℕ, zero, suc, ◌+◌, ◌≡◌, ◌≤◌, Bool, true, false, ◌||◌, List, [], ◌∷◌, ◌++◌, length, Option, None, Some, refl, sym, ap, arith, ◌∙◌}
use Rattle.std.proofs.lemmas.Option.{none-some}
use Rattle.dft_faults.specs.Faulty.{faulty}
use Rattle.dft_faults.proofs.Finished.{order_stays}
use Rattle.dft_capture.proofs.Settling.{capture_there, capture_one}
use Rattle.dft_seek.specs.Searches.{AreBoth, Both, Given, Search, moving_of, port_values}
use Rattle.dft_seek.specs.Walks.{Cone, Variable}
use Rattle.dft_seek.specs.Trees.{Dead, Found, Open, Verdict, Looks, Tree, Hit, Miss, Left, Right, is_dead, is_found, is_whole, node_at, verdict_of}
use Rattle.dft_seek.specs.Laws.{CanSeek, TreeIsOne, TreesExist}

-- ---- both captures

pub both_there : (s : Search) (rank : ℕ → ℕ) (g : Given) → CanSeek s rank → (b : Both) × AreBoth s g b
both_there s rank g can =
    let good = capture_there s.design (moving_of s) rank (port_values s g) g.cells can.ordered in
    let bad = capture_there (faulty s.design s.fault) (moving_of s) rank (port_values s g) g.cells (order_stays s.design s.fault rank can.is can.ordered) in
    (record { good = good.0; faulty = bad.0 }, record { good = good.1; faulty = bad.1 })

pub both_one : (s : Search) (rank : ℕ → ℕ) (g : Given) (a b : Both) → CanSeek s rank → AreBoth s g a → AreBoth s g b → a ≡ b
both_one s rank g a b can are also =
    let good : a.good ≡ b.good = capture_one s.design (moving_of s) rank (port_values s g) g.cells a.good b.good can.ordered are.good also.good in
    let bad : a.faulty ≡ b.faulty =
    capture_one (faulty s.design s.fault) (moving_of s) rank (port_values s g) g.cells a.faulty b.faulty (order_stays s.design s.fault rank can.is can.ordered) are.faulty also.faulty in
    λ i. record { good = good i; faulty = bad i }

-- ---- one verdict

looks_one : (s : Search) (rank : ℕ → ℕ) (cone : Cone) (bits : List Bool) (v w : Verdict) → CanSeek s rank → Looks s cone bits v → Looks s cone bits w → v ≡ w
looks_one s rank cone bits v w can a b =
    sym a.is ∙ ap (λ (x : Both). verdict_of (is_found s cone bits x) (is_dead s cone bits x)) (both_one s rank (node_at cone.variables bits) a.both b.both can a.are b.are) ∙ b.is

found_not_dead : (v w : Verdict) → v ≡ w → v ≡ Found → w ≡ Dead → ⊥
found_not_dead v w same a b = absurd cc

found_not_open : (v w : Verdict) → v ≡ w → v ≡ Found → w ≡ Open → ⊥
found_not_open v w same a b = absurd cc

dead_not_open : (v w : Verdict) → v ≡ w → v ≡ Dead → w ≡ Open → ⊥
dead_not_open v w same a b = absurd cc

-- ---- one tree

pub tree_one : TreeIsOne
tree_one s rank cone bits dead more found other can (Hit a) (Hit b) = (refl, refl)
tree_one s rank cone bits dead more found other can (Hit a) (Miss b) = absurd (found_not_dead _ _ (looks_one s rank cone bits Found Dead can a b) refl refl)
tree_one s rank cone bits dead more found other can (Hit a) (Left b u) = absurd (found_not_open _ _ (looks_one s rank cone bits Found Open can a b) refl refl)
tree_one s rank cone bits dead more found other can (Hit a) (Right b u v) = absurd (found_not_open _ _ (looks_one s rank cone bits Found Open can a b) refl refl)
tree_one s rank cone bits dead more found other can (Miss a) (Hit b) = absurd (found_not_dead _ _ (looks_one s rank cone bits Found Dead can b a) refl refl)
tree_one s rank cone bits dead more found other can (Miss a) (Miss b) = (refl, refl)
tree_one s rank cone bits dead more found other can (Miss a) (Left b u) = absurd (dead_not_open _ _ (looks_one s rank cone bits Dead Open can a b) refl refl)
tree_one s rank cone bits dead more found other can (Miss a) (Right b u v) = absurd (dead_not_open _ _ (looks_one s rank cone bits Dead Open can a b) refl refl)
tree_one s rank cone bits dead more found other can (Left a t) (Hit b) = absurd (found_not_open _ _ (looks_one s rank cone bits Found Open can b a) refl refl)
tree_one s rank cone bits dead more found other can (Left a t) (Miss b) = absurd (dead_not_open _ _ (looks_one s rank cone bits Dead Open can b a) refl refl)
tree_one s rank cone bits dead more found other can (Left a t) (Left b u) = tree_one s rank cone (bits ++ false ∷ []) dead more found other can t u
tree_one s rank cone bits dead more found other can (Left {found = cube} a t) (Right b u v) = absurd (none-some cube (sym (tree_one s rank cone (bits ++ false ∷ []) _ _ (Some cube) None can t u).1))
tree_one s rank cone bits dead more found other can (Right a t w) (Hit b) = absurd (found_not_open _ _ (looks_one s rank cone bits Found Open can b a) refl refl)
tree_one s rank cone bits dead more found other can (Right a t w) (Miss b) = absurd (dead_not_open _ _ (looks_one s rank cone bits Dead Open can b a) refl refl)
tree_one s rank cone bits dead more found other can (Right a t w) (Left {found = cube} b u) = absurd (none-some cube (tree_one s rank cone (bits ++ false ∷ []) _ _ None (Some cube) can t u).1)
tree_one s rank cone bits dead more found other can (Right {dead = d} {more = e} a t w) (Right {dead = x} {more = y} b u v) =
    let left = tree_one s rank cone (bits ++ false ∷ []) d x None None can t u in
    let right = tree_one s rank cone (bits ++ true ∷ []) e y found other can w v in
    (λ i. left.0 i + right.0 i, right.1)

-- ---- there is one

pub whole_at : (vs : List Variable) (bits : List Bool) → length vs ≤ length bits → is_whole vs bits ≡ true
whole_at [] bits enough = refl
whole_at (v ∷ vs) [] enough = absurd (omega (arith, enough))
whole_at (v ∷ vs) (bit ∷ bits) enough = whole_at vs bits (omega (arith, enough))

-- where every variable has a bit the search does not go on
pub ends_there : (s : Search) (cone : Cone) (bits : List Bool) (b : Both) → is_whole cone.variables bits ≡ true → verdict_of (is_found s cone bits b) (is_dead s cone bits b) ≡ Open → ⊥
ends_there s cone bits b whole is = ends (is_found s cone bits b) _ _ (is_whole cone.variables bits) whole is
  where
    ends : (f x y z : Bool) → z ≡ true → verdict_of f (x || (y || z)) ≡ Open → ⊥
    ends true x y z h is = absurd cc
    ends false true y z h is = absurd cc
    ends false false true z h is = absurd cc
    ends false false false true h is = absurd cc
    ends false false false false h is = absurd cc

pub longer : (bits : List Bool) (bit : Bool) → length (bits ++ bit ∷ []) ≡ suc (length bits)
longer [] bit = refl
longer (b ∷ bits) bit = ap suc (longer bits bit)

abbrev pub SomeTree : (s : Search) → Cone → (bits : List Bool) → Type 0
SomeTree s cone bits = (dead : ℕ) × ((found : Option (List Bool)) × Tree s cone bits dead found)

go_right : (s : Search) (cone : Cone) (bits : List Bool) → Looks s cone bits Open → SomeTree s cone (bits ++ false ∷ []) → SomeTree s cone (bits ++ true ∷ []) → SomeTree s cone bits
go_right s cone bits looks (dead, (None, left)) (more, (found, right)) = (dead + more, (found, Right looks left right))
go_right s cone bits looks (dead, (Some cube, left)) right = (dead, (Some cube, Left looks left))

-- by what the node is, where there are trees below it
by_verdict : (s : Search) (cone : Cone) (bits : List Bool) (v : Verdict) → Looks s cone bits v → ((bit : Bool) → v ≡ Open → SomeTree s cone (bits ++ bit ∷ [])) → SomeTree s cone bits
by_verdict s cone bits Found looks below = (0, (Some bits, Hit looks))
by_verdict s cone bits Dead looks below = (1, (None, Miss looks))
by_verdict s cone bits Open looks below = go_right s cone bits looks (below false refl) (below true refl)

looks_there : (s : Search) (rank : ℕ → ℕ) (cone : Cone) (bits : List Bool) → CanSeek s rank → (v : Verdict) × Looks s cone bits v
looks_there s rank cone bits can =
    let b = both_there s rank (node_at cone.variables bits) can in
    (verdict_of (is_found s cone bits b.0) (is_dead s cone bits b.0), record { both = b.0; are = b.1; is = refl })

pub tree_from : (s : Search) (rank : ℕ → ℕ) (cone : Cone) (fuel : ℕ) (bits : List Bool) → CanSeek s rank → length cone.variables ≤ length bits + fuel → SomeTree s cone bits
tree_from s rank cone zero bits can enough =
    let looks = looks_there s rank cone bits can in
    by_verdict s cone bits looks.0 looks.1 (λ bit is. absurd (ends_there s cone bits looks.1.both (whole_at cone.variables bits (omega (arith, enough))) (looks.1.is ∙ is)))
tree_from s rank cone (suc fuel) bits can enough =
    let looks = looks_there s rank cone bits can in
    by_verdict s cone bits looks.0 looks.1 (λ bit is. tree_from s rank cone fuel (bits ++ bit ∷ []) can (omega (arith, enough, longer bits bit)))

pub trees_exist : TreesExist
trees_exist s rank cone can = tree_from s rank cone (length cone.variables) [] can (omega arith)
