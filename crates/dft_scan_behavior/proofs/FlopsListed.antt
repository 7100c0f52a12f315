-- The flip-flops that style Edt adds, in the order of their instances: the ring's stages, then for each chain its mask flip-flop and
-- that of its hold bit.
use Rattle.std.proofs.Common.{ℕ, zero, suc, ◌+◌, ◌≡◌, Bool, true, false, List, [], ◌∷◌, ◌++◌, length, filter, cond, Option, refl, ap, arith, ◌∙◌}
use Rattle.std.specs.Prelude.{if◌then◌else◌}
use Rattle.std.specs.List.{range_with_len}
use Rattle.std.proofs.lemmas.List.{append-nil}
use Rattle.dft_cells.specs.declared.kind.Kind.TheVariants as cell_kind
use Rattle.dft_cells.specs.declared.kind.Gate.{Gate}
use Rattle.dft_cells.specs.declared.kind.Gate.TheVariants.{Xor}
use Rattle.dft_cells.specs.declared.cell.Cell.{Cell}
use Rattle.dft_cells.specs.FlipFlops.{is_flip_flop}
use Rattle.dft_cells.specs.WellFormed.{IsWellFormed}
use Rattle.dft_netlist.specs.declared.ids.NetId.{NetId}
use Rattle.dft_netlist.specs.declared.instance.CellRef.{CellRef}
use Rattle.dft_netlist.specs.declared.instance.CellRef.TheVariants.{Library}
use Rattle.dft_netlist.specs.declared.instance.Instance.{Instance}
use Rattle.dft_netlist.specs.Drivers.{kind_at, kind_of, shape_of}
use Rattle.dft_netlist.specs.Netlist.{Netlist}
use Rattle.dft_parts.specs.Cells.{is_lockup, first_cell}
use Rattle.dft_parts.specs.Growth.{HasParts, instances_in}
use Rattle.dft_parts.specs.Parts.{Part, ANet, AnInstance, APin}
use Rattle.dft_parts.specs.Recipes.{Start, Recipe, pure, ◌>>=◌, behind, each, collect, a_net, a_gate, a_lockup}
use Rattle.dft_parts.specs.Sums.{a_driving_gate, pairs, levels, first_net, a_sum}
use Rattle.dft_parts.proofs.Stores.{lockup_shape}

-- the flip-flops among parts whose first instance has this number
abbrev pub flops_in : List Cell → (number : ℕ) → List Part → List ℕ
flops_in library i [] = []
flops_in library i (ANet ∷ parts) = flops_in library i parts
flops_in library i (AnInstance cell pins ∷ parts) = if is_flip_flop (shape_of library cell).kind then i ∷ flops_in library (suc i) parts else flops_in library (suc i) parts
flops_in library i (APin j pin net ∷ parts) = flops_in library i parts

flops_by : (b : Bool) (i : ℕ) (all front back : List ℕ) → all ≡ front ++ back → (if b then i ∷ all else all) ≡ (if b then i ∷ front else front) ++ back
flops_by true i all front back e = ap (λ (xs : List ℕ). i ∷ xs) e
flops_by false i all front back e = e

pub flops-append : (library : List Cell) (i : ℕ) (xs ys : List Part) → flops_in library i (xs ++ ys) ≡ flops_in library i xs ++ flops_in library (i + instances_in xs) ys
flops-append library i [] ys = let e : i ≡ i + 0 = omega arith in ap (λ k. flops_in library k ys) e
flops-append library i (ANet ∷ xs) ys = flops-append library i xs ys
flops-append library i (AnInstance cell pins ∷ xs) ys =
    let e : suc i + instances_in xs ≡ i + suc (instances_in xs) = omega arith in
    flops_by (is_flip_flop (shape_of library cell).kind) i (flops_in library (suc i) (xs ++ ys)) (flops_in library (suc i) xs) (flops_in library (i + suc (instances_in xs)) ys)
    (flops-append library (suc i) xs ys ∙ ap (λ k. flops_in library (suc i) xs ++ flops_in library k ys) e)
flops-append library i (APin j pin net ∷ xs) ys = flops-append library i xs ys

-- ---- where the parts stand

kept_if : (b c : Bool) (i : ℕ) (xs ys : List ℕ) → b ≡ c → xs ≡ ys → cond b (i ∷ xs) xs ≡ (if c then i ∷ ys else ys)
kept_if true true i xs ys e f = ap (λ (zs : List ℕ). i ∷ zs) f
kept_if false false i xs ys e f = f
kept_if true false i xs ys e f = absurd cc
kept_if false true i xs ys e f = absurd cc

-- they are the flip-flops among the instances from that number on
pub flops_there : (w : Netlist) (i : ℕ) (parts : List Part) → HasParts w i parts → filter (λ k. is_flip_flop (kind_at w k)) (range_with_len i (instances_in parts)) ≡ flops_in w.library i parts
flops_there w i [] h = refl
flops_there w i (ANet ∷ parts) h = flops_there w i parts h
flops_there w i (AnInstance cell pins ∷ parts) h =
    let its = h.0 in
    let kind : is_flip_flop (kind_at w i) ≡ is_flip_flop (shape_of w.library cell).kind =
    ap (λ (o : Option Instance). is_flip_flop (kind_of w.library o)) its.at ∙ ap (λ (c : CellRef). is_flip_flop (shape_of w.library c).kind) its.cell_is in
    let next : i + 1 ≡ suc i = omega arith in
    kept_if (is_flip_flop (kind_at w i)) (is_flip_flop (shape_of w.library cell).kind) i (filter (λ k. is_flip_flop (kind_at w k)) (range_with_len (i + 1) (instances_in parts))) (flops_in w.library (suc i) parts) kind
    (ap (λ k. filter (λ j. is_flip_flop (kind_at w j)) (range_with_len k (instances_in parts))) next ∙ flops_there w (suc i) parts h.1)
flops_there w i (APin j pin net ∷ parts) h = flops_there w i parts h

-- ---- recipes without flip-flops

abbrev pub Quiet : {A : Type 0} → List Cell → Recipe A → Type 0
Quiet library r = (at : Start) (i : ℕ) → at.library ≡ library → flops_in library i (r at).parts ≡ []

none_both : (library : List Cell) (i : ℕ) (xs ys : List Part) → flops_in library i xs ≡ [] → flops_in library (i + instances_in xs) ys ≡ [] → flops_in library i (xs ++ ys) ≡ []
none_both library i xs ys h g = flops-append library i xs ys ∙ ap (λ (zs : List ℕ). zs ++ flops_in library (i + instances_in xs) ys) h ∙ g

pub quiet_bind : {A B : Type 0} (library : List Cell) (r : Recipe A) (f : A → Recipe B) → Quiet library r → ((a : A) → Quiet library (f a)) → Quiet library (r >>= f)
quiet_bind library r f h g at i same =
    none_both library i (r at).parts (f (r at).value (behind at (r at).parts)).parts (h at i same) (g (r at).value (behind at (r at).parts) (i + instances_in (r at).parts) same)

pub quiet_pure : {A : Type 0} (library : List Cell) (a : A) → Quiet library (pure a)
quiet_pure library a at i same = refl

pub quiet_each : {X : Type 0} (library : List Cell) (f : X → Recipe (Unit {0})) (xs : List X) → ((x : X) → Quiet library (f x)) → Quiet library (each f xs)
unfolding each
quiet_each library f [] h at i same = refl
quiet_each library f (x ∷ xs) h at i same =
    none_both library i (f x at).parts (each f xs (behind at (f x at).parts)).parts (h x at i same) (quiet_each library f xs h (behind at (f x at).parts) (i + instances_in (f x at).parts) same)

pub quiet_collect : {X A : Type 0} (library : List Cell) (f : X → Recipe A) (xs : List X) → ((x : X) → Quiet library (f x)) → Quiet library (collect f xs)
unfolding collect
quiet_collect library f [] h at i same = refl
quiet_collect library f (x ∷ xs) h at i same =
    let first = (f x at).parts in
    let later = (collect f xs (behind at first)).parts in
    none_both library i first (later ++ []) (h x at i same)
    (ap (flops_in library (i + instances_in first)) (append-nil later) ∙ quiet_collect library f xs h (behind at first) (i + instances_in first) same)

pub quiet_net : (library : List Cell) → Quiet library a_net
quiet_net library at i same = refl

pub quiet_gate : (library : List Cell) (kind : Gate) (inputs : List NetId) (output : NetId) → is_flip_flop (cell_kind.Gate kind) ≡ false → Quiet library (a_gate kind inputs output)
quiet_gate library kind inputs output plain at i same = ap (λ b. if b then i ∷ [] else []) plain

pub quiet_driving : (library : List Cell) (kind : Gate) (inputs : List NetId) → is_flip_flop (cell_kind.Gate kind) ≡ false → Quiet library (a_driving_gate kind inputs)
unfolding a_driving_gate
quiet_driving library kind inputs plain at i same = ap (λ b. if b then i ∷ [] else []) plain

pub quiet_lockup : (library : List Cell) (clock input output : NetId) → IsWellFormed library → Quiet library (a_lockup clock input output)
quiet_lockup library clock input output well at i same =
    ap (λ (cells : List Cell). if is_flip_flop (shape_of library (Library (first_cell is_lockup cells))).kind then i ∷ [] else []) same
    ∙ ap (λ s. if is_flip_flop s.kind then i ∷ [] else []) (lockup_shape library well)

quiet_pairs : (library : List Cell) (nets : List NetId) → Quiet library (pairs nets)
unfolding pairs
quiet_pairs library [] at i same = refl
quiet_pairs library (a ∷ []) at i same = refl
quiet_pairs library (a ∷ b ∷ nets) at i same =
    quiet_bind library (a_driving_gate Xor (a ∷ b ∷ [])) (λ joined. pairs nets >>= (λ more. pure (joined ∷ more))) (quiet_driving library Xor (a ∷ b ∷ []) refl)
    (λ joined. quiet_bind library (pairs nets) (λ more. pure (joined ∷ more)) (quiet_pairs library nets) (λ more. quiet_pure library (joined ∷ more))) at i same

quiet_levels : (library : List Cell) (count : ℕ) (nets : List NetId) → Quiet library (levels count nets)
unfolding levels
quiet_levels library zero nets at i same = refl
quiet_levels library (suc count) nets at i same = quiet_bind library (pairs nets) (λ joined. levels count joined) (quiet_pairs library nets) (λ joined. quiet_levels library count joined) at i same

pub quiet_sum : (library : List Cell) (terms : List NetId) → Quiet library (a_sum terms)
unfolding a_sum
quiet_sum library terms at i same = quiet_bind library (levels (length terms) terms) (λ left. pure (first_net left)) (quiet_levels library (length terms) terms) (λ left. quiet_pure library (first_net left)) at i same
