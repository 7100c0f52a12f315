-- The greatest bit of a row.
use Rattle.std.proofs.Common.{ℕ, true, false, ◌≡◌, ◌<◌, ◌≤◌, ◌+◌, ◌-◌, ◌*◌, ◌/◌, ◌%◌, ◌^◌, ◌⊎◌, inl, inr, List, get_or, ap, arith, ◌∙◌, add-one}
use Rattle.std.specs.Prelude.{◌==◌}
use Rattle.std.specs.Int.{bit_at}
use Rattle.std.proofs.lemmas.Bool.{cases_lt}
use Rattle.std.proofs.lemmas.Nat.Bits.{bit_at-zero, bit_at_above, bit_at_cat_high}
use Rattle.std.proofs.Math.Nat.{pow-suc}
use Rattle.dft_base.specs.Packed.{packed_bit}

pub zero_word : (words : List ℕ) (place : ℕ) → get_or words (place / 64) 0 ≡ 0 → packed_bit words place ≡ false
unfolding packed_bit
zero_word words place zero_there = ap (λ (w : ℕ). bit_at w (place % 64) == 1) zero_there ∙ ap (λ (v : ℕ). v == 1) (bit_at-zero (place % 64))

top_is_one : (word j : ℕ) → 2 ^ j ≤ word → word < 2 ^ (j + 1) → bit_at word j ≡ 1
top_is_one word j low high =
    let twice : 2 ^ (j + 1) ≡ 2 ^ j * 2 = ap (λ (n : ℕ). 2 ^ n) (add-one j) ∙ pow-suc 2 j in
    let parts : word ≡ 1 * 2 ^ j + (word - 2 ^ j) = omega arith in
    let none : j - j ≡ 0 = omega arith in
    ap (λ (w : ℕ). bit_at w j) parts ∙ bit_at_cat_high 1 j (word - 2 ^ j) j (omega arith) (omega arith) ∙ ap (bit_at 1) none

at_top : (words : List ℕ) (e j : ℕ) → j < 64 → bit_at (get_or words e 0) j ≡ 1 → packed_bit words (e * 64 + j) ≡ true
unfolding packed_bit
at_top words e j fits one =
    let at : (e * 64 + j) / 64 ≡ e = omega arith in
    let bit : (e * 64 + j) % 64 ≡ j = omega arith in
    (λ t. bit_at (get_or words (at t) 0) (bit t) == 1) ∙ ap (λ (v : ℕ). v == 1) one

above_case : (words : List ℕ) (e j place : ℕ) → get_or words e 0 < 2 ^ (j + 1) → ((k : ℕ) → e + 1 ≤ k → get_or words k 0 ≡ 0) → e * 64 + j < place
    → (e < place / 64) ⊎ (place / 64 ≤ e) → j < 64 → packed_bit words place ≡ false
unfolding packed_bit
above_case words e j place high zeros less (inl past) fits = zero_word words place (zeros (place / 64) (omega arith))
above_case words e j place high zeros less (inr within) fits =
    let at : place / 64 ≡ e = omega arith in
    let over : j + 1 ≤ place % 64 = omega arith in
    ap (λ (w : ℕ). bit_at (get_or words w 0) (place % 64) == 1) at
    ∙ ap (λ (v : ℕ). v == 1) (bit_at_above (get_or words e 0) (j + 1) (place % 64) high over)

pub top_found : (words : List ℕ) (e j : ℕ) → 2 ^ j ≤ get_or words e 0 → get_or words e 0 < 2 ^ (j + 1) → j < 64 → ((k : ℕ) → e + 1 ≤ k → get_or words k 0 ≡ 0)
    → (packed_bit words (e * 64 + j) ≡ true) × ((place : ℕ) → e * 64 + j < place → packed_bit words place ≡ false)
top_found words e j low high fits zeros = (
  at_top words e j fits (top_is_one (get_or words e 0) j low high),
  λ place less. above_case words e j place high zeros less (cases_lt e (place / 64)) fits,
)
