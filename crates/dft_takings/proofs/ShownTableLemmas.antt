-- What nets show depends on what they read.
use Rattle.std.proofs.Common.{ℕ, suc, Bool, true, List, [], ◌∷◌, ◌≡◌, ◌<◌, ◌≤◌, ◌-◌, inl, inr, length, map, drop, drop-cons, refl, sym, ap, ◌∙◌, get_or, arith}
use Rattle.std.specs.List.{AllByRecursion}
use Rattle.std.proofs.lemmas.List.{get_or_past}
use Rattle.std.proofs.lemmas.Bool.Decides.{leb_tells}
use Rattle.dft_netlist.specs.Drivers.{Source, Net, Tied, Loose, nets_of}
use Rattle.dft_behavior.specs.Logic.{Cell, Meaning, Input, Clock, Gate, Joined, Flop, Lockup, Free}
use Rattle.dft_takings.specs.Shows as shows
use Rattle.dft_takings.specs.Shows.{with_shown, shown_by, lockup_shown, IsShownOn, shown_given}
use Rattle.dft_logic.specs.declared.circuit.Operand.{Operand}
use Rattle.dft_logic.specs.declared.circuit.Op.{Op}
use Rattle.dft_logic.specs.declared.circuit.Op.TheVariants as op
use Rattle.dft_takings.specs.declared.shown.Shown.{Shown}
use Rattle.dft_takings.specs.declared.shown.Shown.TheVariants.{Nothing}
use Rattle.dft_logic.specs.Circuit.{Circuit, source_at, meaning, logic_at, cell_of, IsCircuit, op_at}
use Rattle.dft_takings.specs.ShownTables.{shown_of, shown_at, shown_in, edges_of}
use Rattle.dft_logic.proofs.Fillings.{Depends, Filling, filling_ends}

-- ---- the inputs of a gate

with_nothing : (s t : shows.Shown) → with_shown (with_shown s shows.Nothing) t ≡ with_shown s t
with_nothing shows.Nothing t = refl
with_nothing (shows.Domain e) t = refl
with_nothing shows.Several t = refl

source_first : (shown : ℕ → shows.Shown) (source : Source) (sources : List Source) → with_shown (shown_by shown (nets_of (source ∷ []))) (shown_by shown (nets_of sources)) ≡ shown_by shown (nets_of (source ∷ sources))
source_first shown (Net net) sources = with_nothing (shown net) (shown_by shown (nets_of sources))
source_first shown (Tied bit) sources = refl
source_first shown (Loose i pin) sources = refl

-- one input more, before those from a place on
pub input_more : (shown : ℕ → shows.Shown) (inputs : List Operand) (place : ℕ) (input : Operand) (t : shows.Shown) → 1 ≤ place → place ≤ length inputs → input ≡ get_or inputs (place - 1) input →
    t ≡ shown_by shown (nets_of (map source_at (drop place inputs))) → with_shown (shown_by shown (nets_of (source_at input ∷ []))) t ≡ shown_by shown (nets_of (map source_at (drop (place - 1) inputs)))
input_more shown inputs place input t more within is so =
    let j : ℕ = place - 1 in
    let next : place ≡ suc j = omega arith in
    let less : j < length inputs = omega arith in
    let front : drop j inputs ≡ input ∷ drop place inputs = drop-cons inputs j input less ∙ ap (λ (o : Operand). o ∷ drop (suc j) inputs) (sym is) ∙ ap (λ (i : ℕ). input ∷ drop i inputs) (sym next) in
    ap (with_shown (shown_by shown (nets_of (source_at input ∷ [])))) so
    ∙ source_first shown (source_at input) (map source_at (drop place inputs))
    ∙ sym (ap (λ (os : List Operand). shown_by shown (nets_of (map source_at os))) front)

-- ---- what is shown depends on what is read

nets_agree : (P : ℕ → Type 0) (v w : ℕ → shows.Shown) (nets : List ℕ) → AllByRecursion P nets → ((k : ℕ) → P k → v k ≡ w k) → shown_by v nets ≡ shown_by w nets
nets_agree P v w [] all same = refl
nets_agree P v w (net ∷ nets) all same = rw (same net all.0, nets_agree P v w nets all.1 same) refl

pub shown_depends : (cells : List Cell) (rising : Bool) (pulsed : ℕ → Bool) → Depends (shown_in cells rising pulsed)
shown_depends cells rising pulsed P v w net Input all same = refl
shown_depends cells rising pulsed P v w net Clock all same = refl
shown_depends cells rising pulsed P v w net (Gate kind inputs) all same = nets_agree P v w (nets_of inputs) all same
shown_depends cells rising pulsed P v w net (Joined source) all same = nets_agree P v w (nets_of (source ∷ [])) all same
shown_depends cells rising pulsed P v w net (Flop c inverted) all same = refl
shown_depends cells rising pulsed P v w net (Lockup c e high source) all same = ap (lockup_shown rising (pulsed e) high e) (nets_agree P v w (nets_of (source ∷ [])) all same)
shown_depends cells rising pulsed P v w net Free all same = refl

-- ---- the whole table

meaning_shown : (x : Circuit) (rising : Bool) (pulsed : ℕ → Bool) (shown : ℕ → shows.Shown) (net : ℕ) (m : Meaning) → shown_in (map cell_of x.flops) rising pulsed shown net m ≡ shown_given (logic_at x) (edges_of rising pulsed) shown net m
unfolding logic_at
meaning_shown x rising pulsed shown net Input = refl
meaning_shown x rising pulsed shown net Clock = refl
meaning_shown x rising pulsed shown net (Gate kind inputs) = refl
meaning_shown x rising pulsed shown net (Joined source) = refl
meaning_shown x rising pulsed shown net (Flop c inverted) = refl
meaning_shown x rising pulsed shown net (Lockup c e high source) = refl
meaning_shown x rising pulsed shown net Free = refl

pub all_shown : (x : Circuit) (rising : Bool) (pulsed : ℕ → Bool) (shown : List Shown) (j : ℕ) → IsCircuit x → length shown ≡ length x.ops → length x.order ≤ j →
    Filling shown_of Nothing (shown_in (map cell_of x.flops) rising pulsed) x.ops x.order shown j → IsShownOn (logic_at x) (edges_of rising pulsed) (λ net. true) (shown_at shown)
unfolding logic_at
all_shown x rising pulsed shown j is len past s net need = elim (leb_tells (length x.ops) net) [
  | inl out ↦ (let far : length shown ≤ net = omega (arith, out.1) in
      ap shown_of (get_or_past shown net Nothing far)
      ∙ sym (ap (λ (o : Op). shown_given (logic_at x) (edges_of rising pulsed) (shown_at shown) net (meaning o)) (get_or_past x.ops net op.Free out.1)))
  | inr live ↦ filling_ends shown_of Nothing (shown_in (map cell_of x.flops) rising pulsed) x.ops x.order shown j past s net (is.whole net live.1)
      ∙ meaning_shown x rising pulsed (shown_at shown) net (meaning (op_at x.ops net))
]
