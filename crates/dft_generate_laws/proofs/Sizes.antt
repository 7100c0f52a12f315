-- How many nets and instances recipes make at most.
use Rattle.std.proofs.Common.{◌≡◌, ℕ, zero, suc, ◌+◌, ◌*◌, ◌<◌, ◌≤◌, Bool, true, false, List, [], ◌∷◌, ◌++◌, length, refl, sym, ap, ◌∙◌, arith, length-append}
use Rattle.std.specs.Prelude.{◌==◌, if◌then◌else◌}
use Rattle.std.specs.List.{range_with_len}
use Rattle.std.proofs.Math.Nat.{suc-mul}
use Rattle.std.proofs.lemmas.Bool.Decides.{nat_tests}
use Rattle.std.proofs.lemmas.Nat.{mul-le}
use Rattle.std.proofs.lemmas.List.{length-map}
use Rattle.dft_parts.specs.Parts.{Part, ANet, AnInstance, APin}
use Rattle.dft_parts.specs.Recipes.{Start, Recipe, pure, ◌>>=◌, behind, each, collect, at_nets, a_net, a_gate, a_flop, a_lockup}
use Rattle.dft_parts.specs.Sums.{a_driving_gate, pairs, levels, a_sum}
use Rattle.dft_cells.specs.declared.kind.Gate.{Gate as GateKind}
use Rattle.dft_cells.specs.declared.kind.Gate.TheVariants.{Xor}
use Rattle.dft_netlist.specs.declared.ids.NetId.{NetId}
use Rattle.dft_netlist.specs.declared.instance.CellRef.{CellRef}
use Rattle.dft_netlist.specs.declared.instance.CellRef.TheVariants.{Library, Gate}
use Rattle.dft_netlist.specs.declared.instance.Signal.{Signal}
use Rattle.dft_netlist.specs.declared.instance.Signal.TheVariants.{Net}
use Rattle.dft_insert.proofs.Weights.{sum_of, sum_add, sum_zero}

-- ---- sums

pub sum_same : {X : Type 0} (most : ℕ) (f : X → ℕ) (xs : List X) → ((x : X) → f x ≤ most) → sum_of f xs ≤ length xs * most
sum_same most f [] h = omega arith
sum_same most f (x ∷ xs) h = let a = h x in let i = sum_same most f xs h in let e : suc (length xs) * most ≡ length xs * most + most = suc-mul (length xs) most in omega (arith, a, i, e)

-- one number of a range counts at most
past : (k from weight count : ℕ) → k < from → sum_of (λ c. if k == c then weight else 0) (range_with_len from count) ≡ 0
past k from weight zero lt = refl
past k from weight (suc count) lt =
    let other : (k == from) ≡ false = grind (arith, nat_tests) in
    let i = past k (from + 1) weight count (omega (arith, lt)) in
    ap (λ (t : Bool). (if t then weight else 0) + sum_of (λ c. if k == c then weight else 0) (range_with_len (from + 1) count)) other ∙ omega (arith, i)

pub one_at_most : (k weight count from : ℕ) → sum_of (λ c. if k == c then weight else 0) (range_with_len from count) ≤ weight
one_at_most k weight zero from = omega arith
one_at_most k weight (suc count) from = by (k == from) refl (one_at_most k weight count (from + 1))
  where
    by : (t : Bool) → (k == from) ≡ t → sum_of (λ c. if k == c then weight else 0) (range_with_len (from + 1) count) ≤ weight
        → (if t then weight else 0) + sum_of (λ c. if k == c then weight else 0) (range_with_len (from + 1) count) ≤ weight
    by true is i = let e : k ≡ from = grind (arith, nat_tests) in let z = past k (from + 1) weight count (omega (arith, e)) in omega (arith, z)
    by false is i = omega (arith, i)

-- sums over two lists in either order
pub sum_swap : {X Y : Type 0} (f : X → Y → ℕ) (xs : List X) (ys : List Y) → sum_of (λ x. sum_of (f x) ys) xs ≡ sum_of (λ y. sum_of (λ x. f x y) xs) ys
sum_swap f [] ys = sym (sum_zero ys)
sum_swap f (x ∷ xs) ys = let i = sum_swap f xs ys in let a = sum_add (f x) (λ y. sum_of (λ z. f z y) xs) ys in omega (arith, i, a)

-- ---- parts

-- how many nets and instances are among parts, where a gate counts once more for each pin
abbrev pub size_of : List Part → ℕ
size_of [] = 0
size_of (ANet ∷ parts) = suc (size_of parts)
size_of (AnInstance (Library id) pins ∷ parts) = suc (size_of parts)
size_of (AnInstance (Gate kind inputs) pins ∷ parts) = suc (length pins + size_of parts)
size_of (APin instance pin net ∷ parts) = size_of parts

pub size_append : (xs ys : List Part) → size_of (xs ++ ys) ≡ size_of xs + size_of ys
size_append [] ys = omega arith
size_append (ANet ∷ xs) ys = let i = size_append xs ys in omega (arith, i)
size_append (AnInstance (Library id) pins ∷ xs) ys = let i = size_append xs ys in omega (arith, i)
size_append (AnInstance (Gate kind inputs) pins ∷ xs) ys = let i = size_append xs ys in omega (arith, i)
size_append (APin instance pin net ∷ xs) ys = size_append xs ys

-- an instance counts
pub instance_counts : (cell : CellRef) (pins : List Signal) (parts : List Part) → suc (size_of parts) ≤ size_of (AnInstance cell pins ∷ parts)
instance_counts (Library id) pins parts = omega arith
instance_counts (Gate kind inputs) pins parts = omega arith

-- a recipe makes so many at most, wherever it begins
abbrev pub AtMost : {A : Type 0} → Recipe A → ℕ → Type 0
AtMost r most = (at : Start) → size_of (r at).parts ≤ most

pub at_most : {A : Type 0} (r : Recipe A) (a b : ℕ) → a ≤ b → AtMost r a → AtMost r b
at_most r a b le h at = let i = h at in omega (arith, le, i)

pub pure_none : {A : Type 0} (a : A) → AtMost (pure a) 0
pure_none a at = omega arith

pub bind_most : {A B : Type 0} (r : Recipe A) (f : A → Recipe B) (a b : ℕ) → AtMost r a → ((x : A) → AtMost (f x) b) → AtMost (r >>= f) (a + b)
bind_most r f a b h k at =
    let first = (r at).parts in
    let i = h at in
    let j = k (r at).value (behind at first) in
    omega (arith, i, j, size_append first (f (r at).value (behind at first)).parts)

pub each_most : {X : Type 0} (f : X → Recipe (Unit {0})) (g : X → ℕ) (xs : List X) → ((x : X) → AtMost (f x) (g x)) → AtMost (each f xs) (sum_of g xs)
unfolding each
each_most f g [] h at = omega arith
each_most f g (x ∷ xs) h at =
    let first = (f x at).parts in
    let i = h x at in
    let j = each_most f g xs h (behind at first) in
    omega (arith, i, j, size_append first (each f xs (behind at first)).parts)

pub collect_most : {X A : Type 0} (f : X → Recipe A) (g : X → ℕ) (xs : List X) → ((x : X) → AtMost (f x) (g x)) → AtMost (collect f xs) (sum_of g xs)
unfolding collect
collect_most f g [] h at = omega arith
collect_most f g (x ∷ xs) h at =
    let first = (f x at).parts in
    let later = (collect f xs (behind at first)).parts in
    let i = h x at in
    let j = collect_most f g xs h (behind at first) in
    omega (arith, i, j, size_append first (later ++ []), size_append later [])

-- each of so many
pub each_same : {X : Type 0} (f : X → Recipe (Unit {0})) (most : ℕ) (xs : List X) → ((x : X) → AtMost (f x) most) → AtMost (each f xs) (length xs * most)
each_same f most xs h = at_most (each f xs) (sum_of (λ x. most) xs) (length xs * most) (sum_same most (λ x. most) xs (λ x. omega arith)) (each_most f (λ x. most) xs h)

pub collect_same : {X A : Type 0} (f : X → Recipe A) (most : ℕ) (xs : List X) → ((x : X) → AtMost (f x) most) → AtMost (collect f xs) (length xs * most)
collect_same f most xs h = at_most (collect f xs) (sum_of (λ x. most) xs) (length xs * most) (sum_same most (λ x. most) xs (λ x. omega arith)) (collect_most f (λ x. most) xs h)

-- ---- single parts, and sums

pub net_most : AtMost a_net 1
net_most at = omega arith

pub gate_most : (kind : GateKind) (inputs : List NetId) (output : NetId) → AtMost (a_gate kind inputs output) (2 + length inputs)
gate_most kind inputs output at = omega (arith, length-append (at_nets inputs) (Net output ∷ []), length-map inputs (λ (net : NetId). Net net))

pub flop_most : (clock input output : NetId) → AtMost (a_flop clock input output) 1
flop_most clock input output at = omega arith

pub lockup_most : (clock input output : NetId) → AtMost (a_lockup clock input output) 1
lockup_most clock input output at = omega arith

pub driving_most : (kind : GateKind) (inputs : List NetId) → AtMost (a_driving_gate kind inputs) (3 + length inputs)
unfolding a_driving_gate
driving_most kind inputs at = let output : NetId = record { 0 = at.next } in omega (arith, length-append (at_nets inputs) (Net output ∷ []), length-map inputs (λ (net : NetId). Net net))

-- a level makes no more than three for each net, and leaves no more nets
pub record PairsMost (nets : List NetId) (at : Start) : Type 0 where
  pub made : size_of (pairs nets at).parts ≤ length nets * 3
  pub left : length (pairs nets at).value ≤ length nets

pairs_most : (nets : List NetId) (at : Start) → PairsMost nets at
unfolding pairs a_driving_gate
pairs_most [] at = record { made = omega arith; left = omega arith }
pairs_most (a ∷ []) at = record { made = omega arith; left = omega arith }
pairs_most (a ∷ b ∷ nets) at =
    let start = behind at (a_driving_gate Xor (a ∷ b ∷ []) at).parts in
    let rest = pairs_most nets start in
    let made = rest.made in
    let left = rest.left in
    record { made = omega (arith, made, size_append (pairs nets start).parts []); left = omega (arith, left) }

levels_most : (count most : ℕ) (nets : List NetId) (at : Start) → length nets ≤ most → size_of (levels count nets at).parts ≤ count * (most * 3)
unfolding levels
levels_most zero most nets at le = omega arith
levels_most (suc count) most nets at le =
    let first = pairs_most nets at in
    let made = first.made in
    let left = first.left in
    let start = behind at (pairs nets at).parts in
    let rest = levels_most count most (pairs nets at).value start (omega (arith, left, le)) in
    let e : suc count * (most * 3) ≡ count * (most * 3) + most * 3 = suc-mul count (most * 3) in
    omega (arith, made, rest, e, le, size_append (pairs nets at).parts (levels count (pairs nets at).value start).parts)

pub sum_most : (terms : List NetId) (most : ℕ) → length terms ≤ most → AtMost (a_sum terms) (most * (most * 3))
unfolding a_sum
sum_most terms most le at =
    let made = levels_most (length terms) most terms at le in
    let few : length terms * (most * 3) ≤ most * (most * 3) = mul-le (length terms) (most * 3) most (most * 3) le (omega arith) in
    omega (arith, made, few, size_append (levels (length terms) terms at).parts [])
