-- Gates of one input and of three, and inverted gates.
use Rattle.std.proofs.Common.{ℕ, Bool, not, List, ◌≡◌, sym, ap, ◌∙◌, length, get_or, arith}
use Rattle.std.specs.Prelude.{if◌then◌else◌}
use Rattle.dft_base.specs.declared.tri.Tri.{Tri}
use Rattle.dft_base.specs.declared.tri.Tri.TheVariants.{Unknown}
use Rattle.dft_cells.specs.declared.kind.Gate.TheVariants.{Inv, Mux2}
use Rattle.dft_cells.specs.Gates.{shared, bit_of}
use Rattle.dft_cells.specs.Tables.{not_tri, mux_tri}
use Rattle.dft_cells.proofs.Pairs.{shared_not, inv_shared, mux_shared}
use Rattle.dft_lanes.specs.declared.wide.Wide.{Wide}
use Rattle.dft_lanes.specs.Choices.{can, some_choice, some_choice_of_three}
use Rattle.dft_behavior.specs.Settled.{value_from}
use Rattle.dft_logic.specs.declared.circuit.Operand.{Operand}
use Rattle.dft_logic.specs.Circuit.{source_at}
use Rattle.dft_evaluator.specs.Wides.{values_in, IsWide}
use Rattle.dft_evaluator.proofs.WideLemmas.{wide_same, wide_nots, wide_muxes}
use Rattle.dft_evaluator.proofs.FoldLemmas.{inputs_at, input_at, length-inputs}

pub inverted : (f : List Bool → Bool) (ts : ℕ → List Tri) (w a : Wide) → IsWide a (λ p. shared f (ts p)) → ((pattern : ℕ) (v : Bool) → can w pattern v ≡ some_choice not (can a pattern) v)
    → IsWide w (λ p. shared (λ bs. not (f bs)) (ts p))
inverted f ts w a is made = wide_same w (λ p. not_tri (shared f (ts p))) (λ p. shared (λ bs. not (f bs)) (ts p)) (wide_nots w a (λ p. shared f (ts p)) is made) (λ p less. sym (shared_not f (ts p)))

pub inverse : (wides : List Wide) (inputs : List Operand) (d : Operand) (w a : Wide) → length inputs ≡ 1 → IsWide a (λ p. value_from (values_in wides p) (source_at (get_or inputs 0 d)))
    → ((pattern : ℕ) (v : Bool) → can w pattern v ≡ some_choice not (can a pattern) v) → IsWide w (λ p. shared (bit_of Inv) (inputs_at wides inputs p))
inverse wides inputs d w a one is made =
    let v : ℕ → Tri = λ p. value_from (values_in wides p) (source_at (get_or inputs 0 d)) in
    wide_same w (λ p. not_tri (v p)) (λ p. shared (bit_of Inv) (inputs_at wides inputs p)) (wide_nots w a v is made)
    (λ p less. ap not_tri (sym (input_at wides inputs p 0 d (omega arith))) ∙ inv_shared (inputs_at wides inputs p) Unknown (length-inputs wides inputs p ∙ one))

pub muxed : (wides : List Wide) (inputs : List Operand) (d e f : Operand) (w a b c : Wide) → length inputs ≡ 3
    → IsWide a (λ p. value_from (values_in wides p) (source_at (get_or inputs 0 d))) → IsWide b (λ p. value_from (values_in wides p) (source_at (get_or inputs 1 e)))
    → IsWide c (λ p. value_from (values_in wides p) (source_at (get_or inputs 2 f)))
    → ((pattern : ℕ) (v : Bool) → can w pattern v ≡ some_choice_of_three (λ x y s. if s then y else x) (can a pattern) (can b pattern) (can c pattern) v)
    → IsWide w (λ p. shared (bit_of Mux2) (inputs_at wides inputs p))
muxed wides inputs d e f w a b c three first second select made =
    let x : ℕ → Tri = λ p. value_from (values_in wides p) (source_at (get_or inputs 0 d)) in
    let y : ℕ → Tri = λ p. value_from (values_in wides p) (source_at (get_or inputs 1 e)) in
    let s : ℕ → Tri = λ p. value_from (values_in wides p) (source_at (get_or inputs 2 f)) in
    wide_same w (λ p. mux_tri (x p) (y p) (s p)) (λ p. shared (bit_of Mux2) (inputs_at wides inputs p)) (wide_muxes w a b c x y s first second select made)
    (λ p less. (λ i. mux_tri (sym (input_at wides inputs p 0 d (omega arith)) i) (sym (input_at wides inputs p 1 e (omega arith)) i) (sym (input_at wides inputs p 2 f (omega arith)) i))
    ∙ mux_shared (inputs_at wides inputs p) Unknown Unknown Unknown (length-inputs wides inputs p ∙ three))
