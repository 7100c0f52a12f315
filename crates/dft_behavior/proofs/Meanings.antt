-- What a net's meaning gives depends on what it reads, and grows with it.
use Rattle.std.proofs.Common.{ℕ, Bool, true, false, List, [], ◌∷◌, ◌≡◌, ◌<◌, refl, ap, not, map}
use Rattle.std.specs.Prelude.{if◌then◌else◌}
use Rattle.dft_base.specs.declared.tri.Tri.{Tri}
use Rattle.dft_base.specs.declared.tri.Tri.TheVariants.{Zero, One, Unknown}
use Rattle.dft_base.specs.Tri.{known, Above, AboveTri, completed}
use Rattle.dft_cells.specs.Gates.{bit_of}
use Rattle.dft_cells.specs.Laws.{AllAbove}
use Rattle.dft_cells.proofs.Completions.{above_known, shared_above, above_self, AllOver, shared_monotone}
use Rattle.dft_netlist.specs.Drivers.{Source, Net, Tied, Loose, nets_of, AreBelow}
use Rattle.dft_behavior.specs.Logic.{Meaning, Input, Clock, Gate, Joined, Flop, Lockup, Free, reads}
use Rattle.dft_behavior.specs.Settled.{Sources, bit_from, bit_given, TriSources, value_from, value_given, inverse, is_wire}

pub completed_above : (t : Tri) (b : Bool) → Above t (completed t b)
completed_above Zero b = tt
completed_above One b = tt
completed_above Unknown b = tt

pub above_pin : (inverted : Bool) (t : Tri) (b : Bool) → Above t b → Above (if inverted then inverse t else t) (if inverted then not b else b)
above_pin false t b h = h
above_pin true Unknown b h = tt
above_pin true Zero false h = tt
above_pin true Zero true h = absurd h
above_pin true One true h = tt
above_pin true One false h = absurd h

-- ---- values above bits

pub source_above : (rank : ℕ → ℕ) (r : ℕ) (s : Sources) (bits : ℕ → Bool) (values : ℕ → Tri) (source : Source) → AreBelow rank r (nets_of (source ∷ [])) → ((net : ℕ) → rank net < r → Above (values net) (bits net)) →
    Above (value_from values source) (bit_from s bits source)
source_above rank r s bits values (Net net) below ih = ih net below.0
source_above rank r s bits values (Tied bit) below ih = above_known bit
source_above rank r s bits values (Loose i pin) below ih = tt

-- the same where all nets are above
pub source_all : (s : Sources) (bits : ℕ → Bool) (values : ℕ → Tri) (source : Source) → ((net : ℕ) → Above (values net) (bits net)) → Above (value_from values source) (bit_from s bits source)
source_all s bits values (Net net) all = all net
source_all s bits values (Tied bit) all = above_known bit
source_all s bits values (Loose i pin) all = tt

pub inputs_above : (rank : ℕ → ℕ) (r : ℕ) (s : Sources) (bits : ℕ → Bool) (values : ℕ → Tri) (inputs : List Source) → AreBelow rank r (nets_of inputs) → ((net : ℕ) → rank net < r → Above (values net) (bits net)) →
    AllAbove (map (value_from values) inputs) (map (bit_from s bits) inputs)
inputs_above rank r s bits values [] below ih = tt
inputs_above rank r s bits values (Net net ∷ inputs) below ih = (ih net below.0, inputs_above rank r s bits values inputs below.1 ih)
inputs_above rank r s bits values (Tied bit ∷ inputs) below ih = (above_known bit, inputs_above rank r s bits values inputs below ih)
inputs_above rank r s bits values (Loose i pin ∷ inputs) below ih = (tt, inputs_above rank r s bits values inputs below ih)

-- a meaning's value stands above its bit, where what it reads does
pub meaning_above : (rank : ℕ → ℕ) (s : Sources) (t : TriSources) (bits : ℕ → Bool) (values : ℕ → Tri) (net : ℕ) →
    ((k : ℕ) → Above (t.ports k) (s.ports k)) → ((e : ℕ) → Above (t.clocks e) (s.high e)) → ((c : ℕ) → Above (t.flops c) (s.flops c)) →
    (m : Meaning) → AreBelow rank (rank net) (reads m) → ((k : ℕ) → rank k < rank net → Above (values k) (bits k)) →
    ((c e : ℕ) (high : Bool) (source : Source) → m ≡ Lockup c e high source → AreBelow rank (rank net) (nets_of (source ∷ [])) → Above (t.lockups c e high source) (if is_wire high (s.high e) then bit_from s bits source else s.flops c)) →
    Above (value_given t values net m) (bit_given s bits net m)
meaning_above rank s t bits values net ports clocks flops Input below ih lockup = ports net
meaning_above rank s t bits values net ports clocks flops Clock below ih lockup = clocks net
meaning_above rank s t bits values net ports clocks flops (Gate kind inputs) below ih lockup = shared_above (bit_of kind) (map (value_from values) inputs) (map (bit_from s bits) inputs) (inputs_above rank (rank net) s bits values inputs below ih)
meaning_above rank s t bits values net ports clocks flops (Joined source) below ih lockup = source_above rank (rank net) s bits values source below ih
meaning_above rank s t bits values net ports clocks flops (Flop c inverted) below ih lockup = above_pin inverted (t.flops c) (s.flops c) (flops c)
meaning_above rank s t bits values net ports clocks flops (Lockup c e high source) below ih lockup = lockup c e high source refl below
meaning_above rank s t bits values net ports clocks flops Free below ih lockup = tt

-- from meanings to nets
pub at_net : (x y : Tri) (b c : Bool) → x ≡ y → b ≡ c → Above y c → Above x b
at_net x y b c p q h = rw (p, q) h

-- ---- values that depend on what is read

pub source_same : (rank : ℕ → ℕ) (r : ℕ) (v w : ℕ → Tri) (source : Source) → AreBelow rank r (nets_of (source ∷ [])) → ((net : ℕ) → rank net < r → v net ≡ w net) → value_from v source ≡ value_from w source
source_same rank r v w (Net net) below same = same net below.0
source_same rank r v w (Tied bit) below same = refl
source_same rank r v w (Loose i pin) below same = refl

pub inputs_same : (rank : ℕ → ℕ) (r : ℕ) (v w : ℕ → Tri) (inputs : List Source) → AreBelow rank r (nets_of inputs) → ((net : ℕ) → rank net < r → v net ≡ w net) → map (value_from v) inputs ≡ map (value_from w) inputs
inputs_same rank r v w [] below same = refl
inputs_same rank r v w (Net net ∷ inputs) below same = λ t. same net below.0 t ∷ inputs_same rank r v w inputs below.1 same t
inputs_same rank r v w (Tied bit ∷ inputs) below same = ap (λ (us : List Tri). known bit ∷ us) (inputs_same rank r v w inputs below same)
inputs_same rank r v w (Loose i pin ∷ inputs) below same = ap (λ (us : List Tri). Unknown ∷ us) (inputs_same rank r v w inputs below same)

-- ---- values that grow

pub source_monotone : (rank : ℕ → ℕ) (r : ℕ) (v w : ℕ → Tri) (source : Source) → AreBelow rank r (nets_of (source ∷ [])) → ((net : ℕ) → rank net < r → AboveTri (v net) (w net)) → AboveTri (value_from v source) (value_from w source)
source_monotone rank r v w (Net net) below ih = ih net below.0
source_monotone rank r v w (Tied bit) below ih = above_self (known bit)
source_monotone rank r v w (Loose i pin) below ih = tt

pub source_over : (v w : ℕ → Tri) (source : Source) → ((net : ℕ) → AboveTri (v net) (w net)) → AboveTri (value_from v source) (value_from w source)
source_over v w (Net net) all = all net
source_over v w (Tied bit) all = above_self (known bit)
source_over v w (Loose i pin) all = tt

pub inputs_monotone : (rank : ℕ → ℕ) (r : ℕ) (v w : ℕ → Tri) (inputs : List Source) → AreBelow rank r (nets_of inputs) → ((net : ℕ) → rank net < r → AboveTri (v net) (w net)) → AllOver (map (value_from v) inputs) (map (value_from w) inputs)
inputs_monotone rank r v w [] below ih = tt
inputs_monotone rank r v w (Net net ∷ inputs) below ih = (ih net below.0, inputs_monotone rank r v w inputs below.1 ih)
inputs_monotone rank r v w (Tied bit ∷ inputs) below ih = (above_self (known bit), inputs_monotone rank r v w inputs below ih)
inputs_monotone rank r v w (Loose i pin ∷ inputs) below ih = (tt, inputs_monotone rank r v w inputs below ih)

pub pin_monotone : (inverted : Bool) (t u : Tri) → AboveTri t u → AboveTri (if inverted then inverse t else t) (if inverted then inverse u else u)
pin_monotone false t u h = h
pin_monotone true Unknown u h = tt
pin_monotone true Zero Zero h = tt
pin_monotone true One One h = tt
pin_monotone true Zero One h = absurd h
pin_monotone true Zero Unknown h = absurd h
pin_monotone true One Zero h = absurd h
pin_monotone true One Unknown h = absurd h

pub meaning_monotone : (rank : ℕ → ℕ) (t s : TriSources) (v w : ℕ → Tri) (net : ℕ) →
    ((k : ℕ) → AboveTri (t.ports k) (s.ports k)) → ((e : ℕ) → AboveTri (t.clocks e) (s.clocks e)) → ((c : ℕ) → AboveTri (t.flops c) (s.flops c)) →
    (m : Meaning) → AreBelow rank (rank net) (reads m) → ((k : ℕ) → rank k < rank net → AboveTri (v k) (w k)) →
    ((c e : ℕ) (high : Bool) (source : Source) → AreBelow rank (rank net) (nets_of (source ∷ [])) → AboveTri (t.lockups c e high source) (s.lockups c e high source)) →
    AboveTri (value_given t v net m) (value_given s w net m)
meaning_monotone rank t s v w net ports clocks flops Input below ih lockups = ports net
meaning_monotone rank t s v w net ports clocks flops Clock below ih lockups = clocks net
meaning_monotone rank t s v w net ports clocks flops (Gate kind inputs) below ih lockups = shared_monotone (bit_of kind) (map (value_from v) inputs) (map (value_from w) inputs) (inputs_monotone rank (rank net) v w inputs below ih)
meaning_monotone rank t s v w net ports clocks flops (Joined source) below ih lockups = source_monotone rank (rank net) v w source below ih
meaning_monotone rank t s v w net ports clocks flops (Flop c inverted) below ih lockups = pin_monotone inverted (t.flops c) (s.flops c) (flops c)
meaning_monotone rank t s v w net ports clocks flops (Lockup c e high source) below ih lockups = lockups c e high source below
meaning_monotone rank t s v w net ports clocks flops Free below ih lockups = tt

pub at_nets : (x y a b : Tri) → x ≡ a → y ≡ b → AboveTri a b → AboveTri x y
at_nets x y a b p q h = rw (p, q) h
