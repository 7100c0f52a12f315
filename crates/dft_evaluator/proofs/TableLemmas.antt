-- A table, input by input.
use Rattle.std.proofs.Common.{ℕ, Bool, true, false, List, [], ◌∷◌, ◌≡◌, ◌<◌, ◌≤◌, ◌+◌, ◌-◌, ◌*◌, ◌^◌, sym, ap, subst, ◌∙◌, take, drop, length, get_or, arith}
use Rattle.std.specs.Prelude.{if◌then◌else◌}
use Rattle.std.proofs.Math.Seq.{take-length}
use Rattle.std.proofs.Math.Nat.{pow-suc, one-le-pow}
use Rattle.dft_base.specs.declared.tri.Tri.{Tri}
use Rattle.dft_cells.specs.Gates.{shared, bit_of_number}
use Rattle.dft_cells.proofs.Pairs.{shared_equal, TableAt, narrow}
use Rattle.dft_lanes.specs.declared.wide.Wide.{Wide}
use Rattle.dft_lanes.specs.Choices.{can, some_choice_of_three}
use Rattle.dft_behavior.specs.Settled.{value_from}
use Rattle.dft_logic.specs.declared.circuit.Operand.{Operand}
use Rattle.dft_logic.specs.Circuit.{source_at}
use Rattle.dft_evaluator.specs.Wides.{values_in, IsWide}
use Rattle.dft_evaluator.proofs.WideLemmas.{wide_same, wide_chosen}
use Rattle.dft_evaluator.proofs.FoldLemmas.{inputs_at}

-- what stands behind the first element
behind : (x : Operand) (xs : List Operand) → take (length (x ∷ xs) - 1) (drop 1 (x ∷ xs)) ≡ xs
behind x xs = let e : length (x ∷ xs) - 1 ≡ length xs = omega arith in ap (λ (n : ℕ). take n xs) e ∙ take-length xs

-- a list by its first element and the rest
pub head_rest : (xs : List Operand) (d : Operand) → 1 ≤ length xs → xs ≡ get_or xs 0 d ∷ take (length xs - 1) (drop 1 xs)
head_rest [] d some = absurd (omega arith)
head_rest (x ∷ xs) d some = ap (λ (ys : List Operand). x ∷ ys) (sym (behind x xs))

-- the rest of a table's inputs takes at most the places that are left
pub narrower : (xs : List Operand) (place place' weight : ℕ) → 1 ≤ length xs → place' ≤ place + weight → place + weight * 2 ^ length xs < 64 + weight
    → (place' + (2 * weight) * 2 ^ length (take (length xs - 1) (drop 1 xs)) < 64 + 2 * weight) × (2 * weight < 128)
narrower [] place place' weight some near small = absurd (omega arith)
narrower (x ∷ xs) place place' weight some near small =
    let halved : place + weight * (2 ^ length xs * 2) < 64 + weight = subst (λ (n : ℕ). place + weight * n < 64 + weight) (pow-suc 2 (length xs)) small in
    rw (behind x xs) (narrow place place' weight (2 ^ length xs) (one-le-pow (length xs) 2 (omega arith)) near halved)

-- a choice between the two halves of a table
pub table_chosen : (table place weight : ℕ) (wides : List Wide) (inputs rest : List Operand) (x : Operand) (w a b e : Wide) → (is : inputs ≡ x ∷ rest)
    → (first : IsWide a (λ p. shared (TableAt table place (2 * weight)) (inputs_at wides rest p))) → (second : IsWide b (λ p. shared (TableAt table (place + weight) (2 * weight)) (inputs_at wides rest p)))
    → (by : IsWide e (λ p. value_from (values_in wides p) (source_at x)))
    → (made : ((pattern : ℕ) (v : Bool) → can w pattern v ≡ some_choice_of_three (λ x y c. if c then y else x) (can a pattern) (can b pattern) (can e pattern) v))
    → IsWide w (λ p. shared (TableAt table place weight) (inputs_at wides inputs p))
table_chosen table place weight wides inputs rest x w a b e is first second by made =
    let f : ℕ → Bool → Tri = λ p c. shared (λ bs. TableAt table place weight (c ∷ bs)) (inputs_at wides rest p) in
    let low : IsWide a (λ p. f p false) =
    wide_same a (λ p. shared (TableAt table place (2 * weight)) (inputs_at wides rest p)) (λ p. f p false) first
    (λ p less. shared_equal (TableAt table place (2 * weight)) (λ bs. TableAt table place weight (false ∷ bs)) (inputs_at wides rest p) (λ bs. ap (bit_of_number table) (omega arith))) in
    let high : IsWide b (λ p. f p true) =
    wide_same b (λ p. shared (TableAt table (place + weight) (2 * weight)) (inputs_at wides rest p)) (λ p. f p true) second
    (λ p less. shared_equal (TableAt table (place + weight) (2 * weight)) (λ bs. TableAt table place weight (true ∷ bs)) (inputs_at wides rest p) (λ bs. ap (bit_of_number table) (omega arith))) in
    let R : List Operand → Type 0 = λ l. IsWide w (λ p. shared (TableAt table place weight) (inputs_at wides l p)) in
    subst R (sym is) (wide_chosen w a b e f (λ p. value_from (values_in wides p) (source_at x)) low high by made)
