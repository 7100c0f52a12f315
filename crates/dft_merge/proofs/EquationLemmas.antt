-- What solves equations, one by one, and what loads cells.
use Rattle.std.proofs.Common.{ℕ, zero, suc, Bool, List, [], ◌∷◌, ◌++◌, ◌≡◌, subst, arith, Some}
use Rattle.std.specs.Prelude.{unwrap_or}
use Rattle.std.proofs.lemmas.Option.{same_Some}
use Rattle.std.specs.List.{AllByRecursion}
use Rattle.dft_base.specs.Solutions.{Equation, Holds, Solves, sum_over}
use Rattle.dft_base.proofs.ListLemmas.{all_append, all_front, all_back}
use Rattle.dft_gf2.proofs.Unsolvable.{solves_cons}
use Rattle.dft_netlist.specs.declared.ids.InstanceId.{InstanceId}
use Rattle.dft_merge.specs.Rows.{CellRows}
use Rattle.dft_merge.specs.Placement.{Loads, equations_from, equations_of}

-- ---- each of a list

-- ---- solutions

pub solves_each : (n : ℕ) (x : ℕ → Bool) (es : List Equation) → Solves n x es → AllByRecursion (Holds n x) es
solves_each n x [] all = tt
solves_each n x (e ∷ es) all = (all 0 (omega arith), solves_each n x es (λ j less. all (suc j) (omega arith)))

pub each_solves : (n : ℕ) (x : ℕ → Bool) (es : List Equation) → AllByRecursion (Holds n x) es → Solves n x es
each_solves n x [] each = λ j less. absurd (omega arith)
each_solves n x (e ∷ es) each = solves_cons n x e es each.0 (each_solves n x es each.1)

pub solves_left : (n : ℕ) (x : ℕ → Bool) (es fs : List Equation) → Solves n x (es ++ fs) → Solves n x es
solves_left n x es fs all = each_solves n x es (all_front (Holds n x) es fs (solves_each n x (es ++ fs) all))

pub solves_right : (n : ℕ) (x : ℕ → Bool) (es fs : List Equation) → Solves n x (es ++ fs) → Solves n x fs
solves_right n x es fs all = each_solves n x fs (all_back (Holds n x) es fs (solves_each n x (es ++ fs) all))

pub solves_join : (n : ℕ) (x : ℕ → Bool) (es fs : List Equation) → Solves n x es → Solves n x fs → Solves n x (es ++ fs)
solves_join n x es fs left right = each_solves n x (es ++ fs) (all_append (Holds n x) es fs (solves_each n x es left) (solves_each n x fs right))

-- ---- cells

-- the bits give the cell its bit
abbrev pub Meets : ℕ → CellRows → (ℕ → Bool) → InstanceId × Bool → Type 0
Meets n row x given = sum_over n (unwrap_or (row given.0) []) x ≡ given.1

each_meets : (n : ℕ) (row : CellRows) (x : ℕ → Bool) (k : ℕ) (cells : List (InstanceId × Bool)) → AllByRecursion (Holds n x) (equations_from row k cells) → AllByRecursion (Meets n row x) cells
each_meets n row x k [] each = tt
each_meets n row x k (g ∷ cells) each = (each.0, each_meets n row x (suc k) cells each.1)

meets_each : (n : ℕ) (row : CellRows) (x : ℕ → Bool) (k : ℕ) (cells : List (InstanceId × Bool)) → AllByRecursion (Meets n row x) cells → AllByRecursion (Holds n x) (equations_from row k cells)
meets_each n row x k [] each = tt
meets_each n row x k (g ∷ cells) each = (each.0, meets_each n row x (suc k) cells each.1)

pub solves_meets : (n : ℕ) (row : CellRows) (x : ℕ → Bool) (cells : List (InstanceId × Bool)) → Solves n x (equations_of row cells) → AllByRecursion (Meets n row x) cells
solves_meets n row x cells all = each_meets n row x 0 cells (solves_each n x (equations_of row cells) all)

pub meets_solves : (n : ℕ) (row : CellRows) (x : ℕ → Bool) (cells : List (InstanceId × Bool)) → AllByRecursion (Meets n row x) cells → Solves n x (equations_of row cells)
meets_solves n row x cells each = each_solves n x (equations_of row cells) (meets_each n row x 0 cells each)

loads_meets : (n : ℕ) (row : CellRows) (x : ℕ → Bool) (cells : List (InstanceId × Bool)) → Loads n row x cells → AllByRecursion (Meets n row x) cells
loads_meets n row x [] loads = tt
loads_meets n row x (g ∷ cells) loads = (loads 0 g (λ i. Some g), loads_meets n row x cells (λ k given is. loads (suc k) given is))

meets_loads : (n : ℕ) (row : CellRows) (x : ℕ → Bool) (cells : List (InstanceId × Bool)) → AllByRecursion (Meets n row x) cells → Loads n row x cells
meets_loads n row x [] each k given is = absurd cc
meets_loads n row x (g ∷ cells) each zero given is = subst (Meets n row x) (same_Some g given is) each.0
meets_loads n row x (g ∷ cells) each (suc k) given is = meets_loads n row x cells each.1 k given is

pub loads_solves : (n : ℕ) (row : CellRows) (x : ℕ → Bool) (cells : List (InstanceId × Bool)) → Loads n row x cells → Solves n x (equations_of row cells)
loads_solves n row x cells loads = meets_solves n row x cells (loads_meets n row x cells loads)

pub solves_loads : (n : ℕ) (row : CellRows) (x : ℕ → Bool) (cells : List (InstanceId × Bool)) → Solves n x (equations_of row cells) → Loads n row x cells
solves_loads n row x cells all = meets_loads n row x cells (solves_meets n row x cells all)
