-- One row more of a table's output bits.
use Rattle.std.proofs.Common.{ℕ, ◌≡◌, ◌+◌, ◌*◌, ◌%◌, ◌^◌, ◌<◌, ◌≤◌, Bool, true, false, cond, List, drop, length, get_or, Option, Some, None, option_map, refl, ap, ◌∙◌, arith}
use Rattle.std.proofs.lemmas.List.{drop_more}
use Rattle.std.proofs.lemmas.Grind.{pow_more}
use Rattle.std.proofs.Math.Pow.{pow_mono}
use Rattle.dft_cells.proofs.Bits.{weigh}
use Rattle.dft_toml.specs.Values.{with_first}
use Rattle.dft_cells.specs.Gates.{number_of}
use Rattle.dft_library_text.specs.Drafts.{bit_of_row, bits_of_rows, number_of_rows}

first_row : (bit : Bool) (found : Option Bool) (bits : Option (List Bool)) → found ≡ Some bit
    → option_map number_of (with_first found bits) ≡ option_map (λ n. cond bit 1 0 + 2 * n) (option_map number_of bits)
first_row bit None bits e = cc
first_row bit (Some b) None e = refl
first_row bit (Some b) (Some bs) e = let same : b ≡ bit = cc in rw same

one_row : (rows : List ℕ) (i d : ℕ) (bit : Bool) → i < length rows → bit_of_row (get_or rows i d) ≡ Some bit
    → number_of_rows (drop i rows) ≡ option_map (λ n. cond bit 1 0 + 2 * n) (number_of_rows (drop (i + 1) rows))
one_row rows i d bit less e =
    ap (λ (l : List ℕ). number_of_rows l) (drop_more rows i d less) ∙ first_row bit (bit_of_row (get_or rows i d)) (bits_of_rows (drop (i + 1) rows)) e

moved : (bit : Bool) (number weight : ℕ) (rest : Option ℕ)
    → option_map (λ n. number + weight * n) (option_map (λ n. cond bit 1 0 + 2 * n) rest) ≡ option_map (λ n. number + cond bit weight 0 + weight * 2 * n) rest
moved bit number weight None = refl
moved bit number weight (Some n) = ap Some (weigh bit number weight n)

pub row_more : (rows : List ℕ) (i d : ℕ) (bit : Bool) (number : ℕ) → i < length rows → bit_of_row (get_or rows i d) ≡ Some bit
    → option_map (λ n. number + 2 ^ i * n) (number_of_rows (drop i rows)) ≡ option_map (λ n. number + cond bit (2 ^ i) 0 + 2 ^ (i + 1) * n) (number_of_rows (drop (i + 1) rows))
row_more rows i d bit number less e =
    ap (option_map (λ n. number + 2 ^ i * n)) (one_row rows i d bit less e) ∙ moved bit number (2 ^ i) (number_of_rows (drop (i + 1) rows))
    ∙ rw (pow_more 2 i)

pub row_small : (bit : Bool) (number i : ℕ) → number < 2 ^ i → number + cond bit (2 ^ i) 0 < 2 ^ (i + 1)
row_small true number i less = omega (arith, pow_more 2 i)
row_small false number i less = omega (arith, pow_more 2 i)

pub rows_within : (n inputs : ℕ) → n ≡ (1 * 2 ^ inputs) % 18446744073709551616 → inputs ≤ 6 → n ≤ 64
rows_within n inputs e small = let up = pow_mono {i = inputs} {j = 6} small in omega (arith, up)
