-- Words and the bits that they hold.
use Rattle.std.proofs.Common.{ℕ, Bool, ◌≡◌, ◌<◌, ◌≤◌, ◌/◌, ◌%◌, ◌⊎◌, inl, inr, List, length, get_or, refl, sym, ap, arith, ◌∙◌}
use Rattle.std.specs.Prelude.{◌&&◌, ◌||◌, ◌==◌, bit_and, bit_or, bit_xor}
use Rattle.std.specs.Int.{bit_at}
use Rattle.std.specs.Simd.Lanes.{zip2}
use Rattle.std.proofs.lemmas.Bool.{cases_lt}
use Rattle.std.proofs.lemmas.List.{get_or_past}
use Rattle.std.proofs.lemmas.Simd.{get_or-zip2, length-zip2}
use Rattle.dft_base.specs.Packed.{packed_bit}
use Rattle.dft_base.specs.Solutions.{xor}
use Rattle.dft_lanes.proofs.BitLemmas.{and_bit, or_bit, xor_bit}

-- a word of two rows joined word by word, past their ends too
zip2_case : (f : ℕ → ℕ → ℕ) → f 0 0 ≡ 0 → (xs ys : List ℕ) (i : ℕ) → length xs ≡ length ys → (i < length xs) ⊎ (length xs ≤ i)
    → get_or (zip2 f xs ys) i 0 ≡ f (get_or xs i 0) (get_or ys i 0)
zip2_case f zeros xs ys i same (inl within) = get_or-zip2 f xs ys i 0 0 0 within (omega arith)
zip2_case f zeros xs ys i same (inr past) =
    get_or_past (zip2 f xs ys) i 0 (omega (arith, length-zip2 f xs ys same)) ∙ sym zeros
    ∙ sym (λ t. f (get_or_past xs i 0 past t) (get_or_past ys i 0 (omega arith) t))

pub zip2_at : (f : ℕ → ℕ → ℕ) → f 0 0 ≡ 0 → (xs ys : List ℕ) (i : ℕ) → length xs ≡ length ys
    → get_or (zip2 f xs ys) i 0 ≡ f (get_or xs i 0) (get_or ys i 0)
zip2_at f zeros xs ys i same = zip2_case f zeros xs ys i same (cases_lt i (length xs))

pub packed_bit-and : (xs ys : List ℕ) (place : ℕ) → length xs ≡ length ys → packed_bit (zip2 bit_and xs ys) place ≡ packed_bit xs place && packed_bit ys place
unfolding packed_bit
packed_bit-and xs ys place same =
    ap (λ (w : ℕ). bit_at w (place % 64) == 1) (zip2_at bit_and refl xs ys (place / 64) same)
    ∙ and_bit (get_or xs (place / 64) 0) (get_or ys (place / 64) 0) (place % 64)

pub packed_bit-or : (xs ys : List ℕ) (place : ℕ) → length xs ≡ length ys → packed_bit (zip2 bit_or xs ys) place ≡ packed_bit xs place || packed_bit ys place
unfolding packed_bit
packed_bit-or xs ys place same =
    ap (λ (w : ℕ). bit_at w (place % 64) == 1) (zip2_at bit_or refl xs ys (place / 64) same)
    ∙ or_bit (get_or xs (place / 64) 0) (get_or ys (place / 64) 0) (place % 64)

pub packed_bit-xor : (xs ys : List ℕ) (place : ℕ) → length xs ≡ length ys → packed_bit (zip2 bit_xor xs ys) place ≡ xor (packed_bit xs place) (packed_bit ys place)
unfolding packed_bit
packed_bit-xor xs ys place same =
    ap (λ (w : ℕ). bit_at w (place % 64) == 1) (zip2_at bit_xor refl xs ys (place / 64) same)
    ∙ xor_bit (get_or xs (place / 64) 0) (get_or ys (place / 64) 0) (place % 64)

-- eight words that hold a table of bits
pub record Holds (words : List ℕ) (bits : ℕ → Bool) : Type 0 where
  pub size : length words ≡ 8
  pub each : (place : ℕ) → packed_bit words place ≡ bits place

pub itself : (words : List ℕ) → length words ≡ 8 → Holds words (packed_bit words)
itself words size = record { size = size; each = λ place. refl }

pub ands : {xs ys : List ℕ} {f g : ℕ → Bool} → Holds xs f → Holds ys g → Holds (zip2 bit_and xs ys) (λ place. f place && g place)
ands {xs} {ys} {f} {g} x y =
    let same : length xs ≡ length ys = x.size ∙ sym y.size in
    record { size = length-zip2 bit_and xs ys same ∙ x.size; each = λ place. packed_bit-and xs ys place same ∙ (λ t. x.each place t && y.each place t) }

pub ors : {xs ys : List ℕ} {f g : ℕ → Bool} → Holds xs f → Holds ys g → Holds (zip2 bit_or xs ys) (λ place. f place || g place)
ors {xs} {ys} {f} {g} x y =
    let same : length xs ≡ length ys = x.size ∙ sym y.size in
    record { size = length-zip2 bit_or xs ys same ∙ x.size; each = λ place. packed_bit-or xs ys place same ∙ (λ t. x.each place t || y.each place t) }
