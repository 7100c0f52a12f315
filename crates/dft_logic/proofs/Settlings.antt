-- A net has its driver's value, which hangs on what the driver reads.
use Rattle.std.proofs.Common.{ℕ, List, [], ◌∷◌, ◌≡◌, inr, map, refl, ap}
use Rattle.std.specs.List.{AllByRecursion}
use Rattle.dft_base.specs.declared.tri.Tri.{Tri}
use Rattle.dft_base.specs.declared.tri.Tri.TheVariants.{Unknown}
use Rattle.dft_base.specs.Tri.{known}
use Rattle.dft_cells.specs.Gates.{tri_of}
use Rattle.dft_netlist.specs.Drivers.{Source, Net, Tied, Loose, nets_of}
use Rattle.dft_behavior.specs.Logic.{Meaning, Input, Clock, Gate, Joined, Flop, Lockup, Free, reads}
use Rattle.dft_behavior.specs.Settled.{value_from, value_given}
use Rattle.dft_netlist.specs.Orders.{Has}
use Rattle.dft_logic.specs.declared.circuit.Op.{Op}
use Rattle.dft_logic.specs.Values.{value_at}
use Rattle.dft_logic.specs.Circuit.{meaning, op_at, Supply, leaves_from}

-- ---- a value depends on what it reads

pub source_agree : (P : ℕ → Type 0) (v w : ℕ → Tri) (source : Source) → AllByRecursion P (nets_of (source ∷ [])) → ((k : ℕ) → P k → v k ≡ w k) → value_from v source ≡ value_from w source
source_agree P v w (Net net) all same = same net all.0
source_agree P v w (Tied bit) all same = refl
source_agree P v w (Loose i pin) all same = refl

pub inputs_agree : (P : ℕ → Type 0) (v w : ℕ → Tri) (inputs : List Source) → AllByRecursion P (nets_of inputs) → ((k : ℕ) → P k → v k ≡ w k) → map (value_from v) inputs ≡ map (value_from w) inputs
inputs_agree P v w [] all same = refl
inputs_agree P v w (Net net ∷ inputs) all same = λ t. same net all.0 t ∷ inputs_agree P v w inputs all.1 same t
inputs_agree P v w (Tied bit ∷ inputs) all same = ap (λ (us : List Tri). known bit ∷ us) (inputs_agree P v w inputs all same)
inputs_agree P v w (Loose i pin ∷ inputs) all same = ap (λ (us : List Tri). Unknown ∷ us) (inputs_agree P v w inputs all same)

pub given_agree : (P : ℕ → Type 0) (base : Supply) (v w : ℕ → Tri) (net : ℕ) (m : Meaning) → AllByRecursion P (reads m) → ((k : ℕ) → P k → v k ≡ w k) →
    value_given (leaves_from base v) v net m ≡ value_given (leaves_from base w) w net m
given_agree P base v w net Input all same = refl
given_agree P base v w net Clock all same = refl
given_agree P base v w net (Gate kind inputs) all same = ap (tri_of kind) (inputs_agree P v w inputs all same)
given_agree P base v w net (Joined source) all same = source_agree P v w source all same
given_agree P base v w net (Flop c inverted) all same = refl
given_agree P base v w net (Lockup c e high source) all same = ap (base.lockups c e high) (source_agree P v w source all same)
given_agree P base v w net Free all same = refl

-- ---- one net after another

pub all_more : (before : List ℕ) (net : ℕ) (xs : List ℕ) → AllByRecursion (Has before) xs → AllByRecursion (Has (net ∷ before)) xs
all_more before net [] all = tt
all_more before net (x ∷ xs) all = (inr all.0, all_more before net xs all.1)

-- the net has its driver's value
abbrev pub IsGiven : List Op → (base : Supply) → (values : List Tri) → ℕ → Type 0
IsGiven ops base values k = value_at values k ≡ value_given (leaves_from base (value_at values)) (value_at values) k (meaning (op_at ops k))
