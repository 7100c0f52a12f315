-- Orders of nets, and the net that is told where there is none.
use Rattle.std.specs.Prelude.{ℕ, ◌≡◌, ◌<◌, ◌⊎◌, List, [], ◌∷◌, ◌++◌, length, map}
use Rattle.std.specs.List.{AllByRecursion}
use Rattle.dft_netlist.specs.declared.ids.NetId.{NetId}
use Rattle.dft_netlist.specs.Netlist.{Netlist}
use Rattle.dft_netlist.specs.Drivers.{driver, nets_read}

-- the net is one of these
abbrev pub Has : List ℕ → ℕ → Type 0
Has [] net = ⊥
Has (first ∷ nets) net = (net ≡ first) ⊎ Has nets net

-- the nets that the driver of a net reads, in the order of its pins
abbrev pub reads_of : Netlist → (net : ℕ) → List ℕ
reads_of n net = nets_read n (driver n net)

-- ---- orders

-- each of these nets is new, and comes after the nets that its driver reads; the others came before
abbrev pub IsOrderFrom : Netlist → (before nets : List ℕ) → Type 0
IsOrderFrom n before [] = Unit {0}
IsOrderFrom n before (net ∷ nets) =
    (Has before net → ⊥) × (net < length n.nets) × AllByRecursion (Has before) (reads_of n net)
    × IsOrderFrom n (net ∷ before) nets

-- every net stands once in the order, after the nets that its driver reads
pub record IsOrder (n : Netlist) (order : List ℕ) : Type 0 where
  pub whole : (net : ℕ) → net < length n.nets → Has order net
  pub after : IsOrderFrom n [] order
  pub count : length order ≡ length n.nets

-- the numbers of nets
abbrev pub numbers_of : List NetId → List ℕ
numbers_of nets = map (λ net. net.0) nets

-- all its nets can be put into an order
pub record HasOrder (n : Netlist) : Type 0 where
  pub order : List ℕ
  pub is : IsOrder n order

-- ---- where there is no order

-- a net can be ordered where every net that its driver reads can be
pub data IsOrderable (n : Netlist) : ℕ → Type 0 where
  Follows : {net : ℕ} → ((read : ℕ) → Has (reads_of n net) read → IsOrderable n read) → IsOrderable n net

abbrev pub IsStuck : Netlist → ℕ → Type 0
IsStuck n net = IsOrderable n net → ⊥

-- this is the first net that cannot be ordered
pub record IsFirstStuck (n : Netlist) (net : ℕ) : Type 0 where
  pub live : net < length n.nets
  pub stuck : IsStuck n net
  pub before : (other : ℕ) → other < net → IsOrderable n other

-- the driver of the net reads this one, and it is the first of those that cannot be ordered
pub record IsNextStuck (n : Netlist) (net next : ℕ) : Type 0 where
  pub front : List ℕ
  pub back : List ℕ
  pub reads : reads_of n net ≡ front ++ next ∷ back
  pub orderable : AllByRecursion (IsOrderable n) front
  pub stuck : IsStuck n next

-- a walk back from the first net that cannot be ordered, each time to the first such net that the driver reads; the last net stands first
pub data IsWalk (n : Netlist) : List ℕ → Type 0 where
  Starts : {net : ℕ} → IsFirstStuck n net → IsWalk n (net ∷ [])
  Goes : {net next : ℕ} {walk : List ℕ} → IsWalk n (net ∷ walk) → IsNextStuck n net next → IsWalk n (next ∷ net ∷ walk)

-- no net stands twice among these
abbrev pub AreOnce : List ℕ → Type 0
AreOnce [] = Unit {0}
AreOnce (net ∷ nets) = (Has nets net → ⊥) × AreOnce nets

-- the first net that comes again on the walk
pub record IsLoopNet (n : Netlist) (net : ℕ) : Type 0 where
  pub last : ℕ
  pub walk : List ℕ
  pub walked : IsWalk n (last ∷ walk)
  pub once : AreOnce (last ∷ walk)
  pub next : IsNextStuck n last net
  pub again : Has (last ∷ walk) net
