-- What a search tells is determined, and its dead nodes are few.
use Rattle.std.proofs.Common.{ℕ, zero, suc, ◌+◌, ◌*◌, ◌^◌, ◌≡◌, ◌≤◌, Bool, true, false, List, [], ◌∷◌, ◌++◌, length, filter, Option, None, sym, subst, arith, ◌∙◌}
use Rattle.std.proofs.Math.Nat.{pow-suc}
use Rattle.dft_base.proofs.BitLemmas.{same_tests}
use Rattle.dft_seek.specs.Searches.{Point, Search, points_of}
use Rattle.dft_seek.specs.Walks.{AreVariables, Cone, IsCone, Variable, candidates}
use Rattle.dft_seek.specs.Trees.{Tree, Hit, Miss, Left, Right}
use Rattle.dft_seek.specs.Sought.{answer, told}
use Rattle.dft_seek.specs.Laws.{ConeIsOne, FewDeadNodes, SoughtIsOne}
use Rattle.dft_seek.proofs.TreeLemmas.{ends_there, longer, tree_one, whole_at}

-- ---- one cone

points_one : (s : Search) (a b : Cone) → IsCone s a → IsCone s b → a.points ≡ b.points
points_one s a b ia ib =
    let same : ia.points.chosen ≡ ib.points.chosen = λ i point. same_tests (ia.points.chosen point) (ib.points.chosen point)
    (λ is. ib.points.whole point (ia.points.sound point is)) (λ is. ia.points.whole point (ib.points.sound point is)) i in
    ia.points.are ∙ (λ i. filter (same i) (points_of s)) ∙ sym ib.points.are

variables_one : (s : Search) (points : List Point) (a b : List Variable) → AreVariables s points a → AreVariables s points b → a ≡ b
variables_one s points a b va vb =
    let same : va.chosen ≡ vb.chosen = λ i v. same_tests (va.chosen v) (vb.chosen v) (λ is. vb.whole v (va.sound v is)) (λ is. va.whole v (vb.sound v is)) i in
    va.are ∙ (λ i. filter (same i) (candidates s)) ∙ sym vb.are

pub cone_one : ConeIsOne
cone_one s a b ia ib =
    let points : a.points ≡ b.points = points_one s a b ia ib in
    let variables : a.variables ≡ b.variables = variables_one s b.points a.variables b.variables (subst (λ (ps : List Point). AreVariables s ps a.variables) points ia.variables) ib.variables in
    λ i. record { points = points i; variables = variables i }

pub sought_one : SoughtIsOne
sought_one s rank limit name f g can a b =
    let cone : a.cone ≡ b.cone = cone_one s a.cone b.cone a.is_cone b.is_cone in
    let tree : Tree s b.cone [] a.dead a.found = subst (λ (c : Cone). Tree s c [] a.dead a.found) cone a.tree in
    let same = tree_one s rank b.cone [] a.dead b.dead a.found b.found can tree b.tree in
    a.is ∙ (λ i. answer limit (same.0 i) (told name s.domain (cone i).variables (same.1 i))) ∙ sym b.is

-- ---- few dead nodes

twice : (k : ℕ) → 2 ^ suc k ≡ 2 ^ k + 2 ^ k
twice k = pow-suc 2 k ∙ (let e : 2 ^ k * 2 ≡ 2 ^ k + 2 ^ k = omega arith in e)

some_power : (k : ℕ) → 1 ≤ 2 ^ k
some_power zero = omega arith
some_power (suc k) = omega (arith, twice k, some_power k)

few_below : (s : Search) (cone : Cone) (bits : List Bool) (dead : ℕ) (found : Option (List Bool)) (k : ℕ) → length cone.variables ≤ length bits + k → Tree s cone bits dead found → dead ≤ 2 ^ k
few_below s cone bits dead found k enough (Hit looks) = omega arith
few_below s cone bits dead found k enough (Miss looks) = some_power k
few_below s cone bits dead found zero enough (Left looks left) = absurd (ends_there s cone bits looks.both (whole_at cone.variables bits (omega (arith, enough))) looks.is)
few_below s cone bits dead found (suc k) enough (Left looks left) =
    omega (arith, twice k, few_below s cone (bits ++ false ∷ []) dead found k (omega (arith, enough, longer bits false)) left)
few_below s cone bits dead found zero enough (Right looks left right) = absurd (ends_there s cone bits looks.both (whole_at cone.variables bits (omega (arith, enough))) looks.is)
few_below s cone bits dead found (suc k) enough (Right {dead = d} {more = e} looks left right) =
    omega (arith, twice k, few_below s cone (bits ++ false ∷ []) d None k (omega (arith, enough, longer bits false)) left, few_below s cone (bits ++ true ∷ []) e found k (omega (arith, enough, longer bits true)) right)

pub few_dead : FewDeadNodes
few_dead s cone dead found tree = few_below s cone [] dead found (length cone.variables) (omega arith) tree
