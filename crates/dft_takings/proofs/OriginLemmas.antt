-- Which flip-flop a net shows depends on what it reads.
use Rattle.std.proofs.Common.{ℕ, Bool, List, [], ◌∷◌, ◌≡◌, ◌≤◌, inl, inr, length, refl, sym, ap, ◌∙◌, Option, None, arith, Some}
use Rattle.std.specs.List.{AllByRecursion}
use Rattle.std.proofs.lemmas.List.{get_or_past}
use Rattle.std.proofs.lemmas.Bool.Decides.{leb_tells}
use Rattle.std.specs.Prelude.{if◌then◌else◌}
use Rattle.dft_netlist.specs.declared.ids.InstanceId.{InstanceId}
use Rattle.dft_netlist.specs.Drivers.{Source, Net, Tied, Loose, nets_of}
use Rattle.dft_behavior.specs.Logic.{Meaning, Input, Clock, Gate, Joined, Flop, Lockup, Free}
use Rattle.dft_behavior.specs.Settled.{is_wire}
use Rattle.dft_takings.specs.Takes.{origin_of, origin_given, AreOrigins}
use Rattle.dft_logic.specs.declared.circuit.Op.{Op}
use Rattle.dft_logic.specs.declared.circuit.Op.TheVariants as op
use Rattle.dft_logic.specs.Circuit.{Circuit, meaning, logic_at, IsCircuit}
use Rattle.dft_takings.specs.EntryTables.{number_of, origin_at}
use Rattle.dft_logic.proofs.Fillings.{Depends, Filling, filling_ends}

abbrev pub given : (level : ℕ → Bool) → (ℕ → Option ℕ) → (net : ℕ) → Meaning → Option ℕ
given level origin net m = origin_given level origin m

source_depends : (P : ℕ → Type 0) (v w : ℕ → Option ℕ) (source : Source) → AllByRecursion P (nets_of (source ∷ [])) → ((k : ℕ) → P k → v k ≡ w k) → origin_of v source ≡ origin_of w source
source_depends P v w (Net net) all same = same net all.0
source_depends P v w (Tied bit) all same = refl
source_depends P v w (Loose i pin) all same = refl

pub origin_depends : (level : ℕ → Bool) → Depends (given level)
origin_depends level P v w net Input all same = refl
origin_depends level P v w net Clock all same = refl
origin_depends level P v w net (Gate kind inputs) all same = refl
origin_depends level P v w net (Joined source) all same = source_depends P v w source all same
origin_depends level P v w net (Flop c inverted) all same = refl
origin_depends level P v w net (Lockup c e high source) all same = ap (λ (o : Option ℕ). if is_wire high (level e) then o else Some c) (source_depends P v w source all same)
origin_depends level P v w net Free all same = refl

pub all_origins : (x : Circuit) (level : ℕ → Bool) (origins : List (Option InstanceId)) (j : ℕ) → IsCircuit x → length origins ≡ length x.ops → length x.order ≤ j →
    Filling number_of None (given level) x.ops x.order origins j → AreOrigins (logic_at x) level (origin_at origins)
unfolding logic_at
all_origins x level origins j is len past s net = elim (leb_tells (length x.ops) net) [
  | inl out ↦ (let far : length origins ≤ net = omega (arith, out.1) in
      ap number_of (get_or_past origins net None far)
      ∙ sym (ap (λ (o : Op). origin_given level (origin_at origins) (meaning o)) (get_or_past x.ops net op.Free out.1)))
  | inr live ↦ filling_ends number_of None (given level) x.ops x.order origins j past s net (is.whole net live.1)
]
