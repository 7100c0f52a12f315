-- Packed bits: two words joined, a bit written, and a row as its bits.
use Rattle.std.proofs.Common.{ℕ, false, ◌≡◌, ◌<◌, ◌≤◌, ◌+◌, ◌*◌, ◌-◌, ◌/◌, ◌%◌, ◌^◌, ◌⊎◌, inl, inr, max, List, length, get_or, sym, ap, arith, ◌∙◌, add-zero}
use Rattle.std.specs.Prelude.{◌==◌, bit_or}
use Rattle.std.specs.Int.{bit_at as bit_of_word}
use Rattle.std.proofs.lemmas.Bool.{cases_lt}
use Rattle.std.proofs.lemmas.Nat.{shr-shr, shr_split, pow_pos}
use Rattle.std.proofs.lemmas.Nat.Bits.{bit_at_cat_low, bit_at_cat_high, bit_at-zero, bit_at_or, bit_at_above}
use Rattle.dft_base.specs.Packed.{packed_bit}
use Rattle.dft_lanes.proofs.RowLemmas.{packed_bit-past}

shr_bit : (x p i : ℕ) → bit_of_word (x / 2 ^ p) i ≡ bit_of_word x (p + i)
shr_bit x p i = ap (λ (v : ℕ). v % 2) (shr-shr x p i)

mod_bit : (x k i : ℕ) → i < k → bit_of_word (x % 2 ^ k) i ≡ bit_of_word x i
mod_bit x k i h = sym (bit_at_cat_low (x / 2 ^ k) k (x % 2 ^ k) i h) ∙ ap (λ (v : ℕ). bit_of_word v i) (shr_split x k)

shl_low : (x k i : ℕ) → i < k → bit_of_word (x * 2 ^ k) i ≡ 0
shl_low x k i h = ap (λ (v : ℕ). bit_of_word v i) (sym (add-zero (x * 2 ^ k))) ∙ bit_at_cat_low x k 0 i h ∙ bit_at-zero i

shl_high : (x k i : ℕ) → k ≤ i → bit_of_word (x * 2 ^ k) i ≡ bit_of_word x (i - k)
shl_high x k i h = ap (λ (v : ℕ). bit_of_word v i) (sym (add-zero (x * 2 ^ k))) ∙ bit_at_cat_high x k 0 i (pow_pos k) h

-- the bits of the lower word, and then those of the upper one
pub joined_low : (low high p i : ℕ) → 0 < p → i + p < 64 → bit_of_word (bit_or (low / 2 ^ p) (high * 2 ^ (64 - p) % 2 ^ 64)) i ≡ bit_of_word low (i + p)
joined_low low high p i some h =
    let upper : bit_of_word (high * 2 ^ (64 - p) % 2 ^ 64) i ≡ 0 = mod_bit (high * 2 ^ (64 - p)) 64 i (omega arith) ∙ shl_low high (64 - p) i (omega arith) in
    let lower : bit_of_word (low / 2 ^ p) i ≡ bit_of_word low (i + p) = shr_bit low p i ∙ ap (bit_of_word low) (omega arith) in
    bit_at_or (low / 2 ^ p) (high * 2 ^ (64 - p) % 2 ^ 64) i ∙ (λ t. max (lower t) (upper t)) ∙ omega arith

pub joined_high : (low high p i : ℕ) → low < 2 ^ 64 → p < 64 → i < 64 → 64 ≤ i + p → bit_of_word (bit_or (low / 2 ^ p) (high * 2 ^ (64 - p) % 2 ^ 64)) i ≡ bit_of_word high (i + p - 64)
joined_high low high p i fits below within h =
    let upper : bit_of_word (high * 2 ^ (64 - p) % 2 ^ 64) i ≡ bit_of_word high (i + p - 64) =
    mod_bit (high * 2 ^ (64 - p)) 64 i within ∙ shl_high high (64 - p) i (omega arith) ∙ ap (bit_of_word high) (omega arith) in
    let lower : bit_of_word (low / 2 ^ p) i ≡ 0 = shr_bit low p i ∙ bit_at_above low 64 (p + i) fits (omega arith) in
    bit_at_or (low / 2 ^ p) (high * 2 ^ (64 - p) % 2 ^ 64) i ∙ (λ t. max (lower t) (upper t)) ∙ omega arith

-- what two neighbouring words hold, where bits are moved down by so many places
moved_case : (words : List ℕ) (word places i r : ℕ) → i < 64 → (i + places % 64 < 64) ⊎ (64 ≤ i + places % 64)
    → ((i + places % 64 < 64) → bit_of_word r i ≡ bit_of_word (get_or words (word + places / 64) 0) (i + places % 64))
    → ((64 ≤ i + places % 64) → bit_of_word r i ≡ bit_of_word (get_or words (word + places / 64 + 1) 0) (i + places % 64 - 64))
    → (bit_of_word r i == 1) ≡ packed_bit words (64 * word + i + places)
unfolding packed_bit
moved_case words word places i r within (inl below) low high =
    let at : (64 * word + i + places) / 64 ≡ word + places / 64 = omega arith in
    let bit : (64 * word + i + places) % 64 ≡ i + places % 64 = omega arith in
    ap (λ (v : ℕ). v == 1) (low below) ∙ (λ t. bit_of_word (get_or words (sym at t) 0) (sym bit t) == 1)
moved_case words word places i r within (inr above) low high =
    let at : (64 * word + i + places) / 64 ≡ word + places / 64 + 1 = omega arith in
    let bit : (64 * word + i + places) % 64 ≡ i + places % 64 - 64 = omega arith in
    ap (λ (v : ℕ). v == 1) (high above) ∙ (λ t. bit_of_word (get_or words (sym at t) 0) (sym bit t) == 1)

pub moved_bit : (words : List ℕ) (word places i r : ℕ) → i < 64
    → ((i + places % 64 < 64) → bit_of_word r i ≡ bit_of_word (get_or words (word + places / 64) 0) (i + places % 64))
    → ((64 ≤ i + places % 64) → bit_of_word r i ≡ bit_of_word (get_or words (word + places / 64 + 1) 0) (i + places % 64 - 64))
    → (bit_of_word r i == 1) ≡ packed_bit words (64 * word + i + places)
moved_bit words word places i r within = moved_case words word places i r within (cases_lt (i + places % 64) 64)

moved_at : (words new : List ℕ) (n places k : ℕ) → (k / 64 < length new) ⊎ (length new ≤ k / 64) → n ≤ 64 * length new
    → ((w i : ℕ) → w < length new → i < 64 → (bit_of_word (get_or new w 0) i == 1) ≡ packed_bit words (64 * w + i + places))
    → ((c : ℕ) → n ≤ c → packed_bit words c ≡ false) → packed_bit new k ≡ packed_bit words (k + places)
unfolding packed_bit
moved_at words new n places k (inl within) room each clear =
    let whole : 64 * (k / 64) + k % 64 + places ≡ k + places = omega arith in
    each (k / 64) (k % 64) within (omega arith) ∙ ap (packed_bit words) whole
moved_at words new n places k (inr past) room each clear = packed_bit-past new k past ∙ sym (clear (k + places) (omega arith))

-- words whose bits are those of others so many places further up
pub moved_all : (words new : List ℕ) (n places k : ℕ) → n ≤ 64 * length new
    → ((w i : ℕ) → w < length new → i < 64 → (bit_of_word (get_or new w 0) i == 1) ≡ packed_bit words (64 * w + i + places))
    → ((c : ℕ) → n ≤ c → packed_bit words c ≡ false) → packed_bit new k ≡ packed_bit words (k + places)
moved_all words new n places k = moved_at words new n places k (cases_lt (k / 64) (length new))
