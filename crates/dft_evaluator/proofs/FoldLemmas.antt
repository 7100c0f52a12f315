-- A gate of any number of inputs, input by input.
use Rattle.std.proofs.Common.{ℕ, Bool, List, [], ◌≡◌, ◌<◌, ◌≤◌, ◌+◌, refl, sym, ap, ◌∙◌, map, drop, length, get_or, arith}
use Rattle.std.proofs.lemmas.List.{length-map, get_or-map, drop_all}
use Rattle.dft_base.specs.declared.tri.Tri.{Tri}
use Rattle.dft_base.specs.declared.tri.Tri.TheVariants.{Zero, One, Unknown}
use Rattle.dft_base.specs.Tri.{known}
use Rattle.dft_cells.specs.Gates.{shared}
use Rattle.dft_cells.specs.Tables.{and_tri, or_tri, xor_tri}
use Rattle.dft_lanes.specs.declared.wide.Wide.{Wide}
use Rattle.dft_behavior.specs.Settled.{value_from}
use Rattle.dft_logic.specs.declared.circuit.Operand.{Operand}
use Rattle.dft_logic.specs.Circuit.{source_at}
use Rattle.dft_evaluator.specs.Wides.{value_in, values_in, IsWide}
use Rattle.dft_evaluator.proofs.WideLemmas.{value_is, wide_is, wide_same}

-- the values of operands in a pattern
abbrev pub inputs_at : List Wide → (inputs : List Operand) → (pattern : ℕ) → List Tri
inputs_at wides inputs p = map (value_from (values_in wides p)) (map source_at inputs)

-- what is joined so far, with the inputs from a place on, gives what all inputs give
pub record Folded (f : List Bool → Bool) (joined : Tri → Tri → Tri) (wides : List Wide) (inputs : List Operand) (i : ℕ) (wide : Wide) : Type 0 where
  pub whole : IsWide wide (value_in wide)
  pub rest : (p : ℕ) → p < 512 → shared f (inputs_at wides inputs p) ≡ joined (value_in wide p) (shared f (drop i (inputs_at wides inputs p)))

pub folding_starts : (f : List Bool → Bool) (joined : Tri → Tri → Tri) (wides : List Wide) (inputs : List Operand) (wide : Wide) (t : Tri) → ((u : Tri) → joined t u ≡ u) → IsWide wide (λ p. t) → Folded f joined wides inputs 0 wide
folding_starts f joined wides inputs wide t one is =
    record {
      whole = wide_is wide (λ p. t) is;
      rest = λ p less. sym (ap (λ (x : Tri). joined x (shared f (inputs_at wides inputs p))) (value_is wide (λ q. t) is p less) ∙ one (shared f (inputs_at wides inputs p)));
    }

pub length-inputs : (wides : List Wide) (inputs : List Operand) (p : ℕ) → length (inputs_at wides inputs p) ≡ length inputs
length-inputs wides inputs p = length-map (map source_at inputs) (value_from (values_in wides p)) ∙ length-map inputs source_at

pub input_at : (wides : List Wide) (inputs : List Operand) (p i : ℕ) (d : Operand) → i < length inputs → get_or (inputs_at wides inputs p) i Unknown ≡ value_from (values_in wides p) (source_at (get_or inputs i d))
input_at wides inputs p i d less =
    get_or-map (value_from (values_in wides p)) (map source_at inputs) i (source_at d) Unknown (omega (arith, length-map inputs source_at))
    ∙ ap (value_from (values_in wides p)) (get_or-map source_at inputs i d (source_at d) less)

pub folding_goes_on : (f : List Bool → Bool) (joined : Tri → Tri → Tri) (wides : List Wide) (inputs : List Operand) (i : ℕ) (d : Operand) (wide next : Wide)
    → ((ts : List Tri) (i : ℕ) (d acc : Tri) → i < length ts → joined acc (shared f (drop i ts)) ≡ joined (joined acc (get_or ts i d)) (shared f (drop (i + 1) ts)))
    → i < length inputs → Folded f joined wides inputs i wide → IsWide next (λ p. joined (value_in wide p) (value_from (values_in wides p) (source_at (get_or inputs i d))))
    → Folded f joined wides inputs (i + 1) next
folding_goes_on f joined wides inputs i d wide next step less so_far is =
    let made : ℕ → Tri = λ p. joined (value_in wide p) (value_from (values_in wides p) (source_at (get_or inputs i d))) in
    record {
      whole = wide_is next made is;
      rest = λ p within. so_far.rest p within
          ∙ step (inputs_at wides inputs p) i Unknown (value_in wide p) (omega (arith, length-inputs wides inputs p))
          ∙ ap (λ (t : Tri). joined (joined (value_in wide p) t) (shared f (drop (i + 1) (inputs_at wides inputs p)))) (input_at wides inputs p i d less)
          ∙ ap (λ (t : Tri). joined t (shared f (drop (i + 1) (inputs_at wides inputs p)))) (sym (value_is next made is p within));
    }

pub folding_ends : (f : List Bool → Bool) (joined : Tri → Tri → Tri) (wides : List Wide) (inputs : List Operand) (i : ℕ) (wide : Wide) → ((t : Tri) → joined t (known (f [])) ≡ t) → length inputs ≤ i
    → Folded f joined wides inputs i wide → IsWide wide (λ p. shared f (inputs_at wides inputs p))
folding_ends f joined wides inputs i wide none past so_far =
    wide_same wide (value_in wide) (λ p. shared f (inputs_at wides inputs p)) so_far.whole
    (λ p less. sym (so_far.rest p less ∙ ap (λ (ts : List Tri). joined (value_in wide p) (shared f ts)) (drop_all i (inputs_at wides inputs p) (omega (arith, length-inputs wides inputs p))) ∙ none (value_in wide p)))

pub and_one : (t : Tri) → and_tri t One ≡ t
and_one Zero = refl
and_one One = refl
and_one Unknown = refl

pub or_zero : (t : Tri) → or_tri t Zero ≡ t
or_zero Zero = refl
or_zero One = refl
or_zero Unknown = refl

pub xor_zero : (t : Tri) → xor_tri t Zero ≡ t
xor_zero Zero = refl
xor_zero One = refl
xor_zero Unknown = refl
