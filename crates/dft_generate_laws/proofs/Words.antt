-- A letter and a number are a word that is not reserved.
use Rattle.std.proofs.Common.{◌≡◌, ℕ, zero, suc, ◌<◌, ◌≤◌, ◌^◌, Bool, true, false, List, [], ◌∷◌, length, get_or, decimal, refl, sym, ap, subst, ◌∙◌, arith}
use Rattle.std.specs.Prelude.{nat_lt}
use Rattle.std.specs.List.{list_all, list_any, All}
use Rattle.std.specs.Str.{bytes_eq}
use Rattle.std.proofs.lemmas.Bool.Decides.{nat_tests}
use Rattle.std.proofs.lemmas.Bool.{and_parts}
use Rattle.std.proofs.lemmas.List.Sums.{list_all-from_AllPass}
use Rattle.std.proofs.lemmas.List.Elements.{All-from_get_or}
use Rattle.std.proofs.lemmas.Fmt.{digits_decimal, decimal_nonempty}
use Rattle.std.proofs.lemmas.Str.Parse.{numerals_by_value, tells_by_index}
use Rattle.dft_base.specs.Lexing.{Text}
use Rattle.dft_base.specs.Name.{IsName}
use Rattle.dft_base.specs.Words.{begins_word, continues_word, is_word, is_reserved, reserved_words}
use Rattle.dft_base.proofs.TextLemmas.{differ}

-- a byte is a digit
abbrev IsDigit : ℕ → Type 0
IsDigit b = (48 ≤ b) × (b ≤ 57)

digits_in : (n : ℕ) → n < 2 ^ 64 → All IsDigit (decimal n)
digits_in n small = All-from_get_or IsDigit (decimal n) 0 (λ i within. let d = digits_decimal (numerals_by_value _ tells_by_index) n small i within in (omega (arith, d.0), omega (arith, d.1)))

digit_continues : (b : ℕ) → IsDigit b → continues_word b ≡ true
digit_continues b h = let l = h.0 in let r = h.1 in grind (arith, nat_tests)

all_continue : (n : ℕ) → n < 2 ^ 64 → list_all continues_word (decimal n) ≡ true
all_continue n small = list_all-from_AllPass continues_word (decimal n) (λ k d lt. digit_continues (get_or (decimal n) k d) (digits_in n small k d lt))

-- ---- reserved words

-- the second byte of a word is no digit
abbrev no_digit_second : Text → Bool
no_digit_second word = nat_lt 57 (get_or word 1 0)

first_of : (xs : Text) → 0 < length xs → All IsDigit xs → (e : ℕ) × (rest : Text) × (xs ≡ e ∷ rest) × IsDigit e
first_of [] some all = absurd (omega arith)
first_of (e ∷ rest) some all = (e, rest, refl, all 0 0 (omega arith))

other_word : (c e : ℕ) (rest word : Text) → IsDigit e → no_digit_second word ≡ true → bytes_eq word (c ∷ e ∷ rest) ≡ false
other_word c e rest word h second = differ word (c ∷ e ∷ rest) (λ same.
    let at : nat_lt 57 e ≡ true = ap (λ (w : Text). nat_lt 57 (get_or w 1 0)) (sym same) ∙ second in
    let r = h.1 in
    let past : 57 < e = grind (arith, nat_tests) in
    absurd (omega arith))

none_of : (c e : ℕ) (rest : Text) (words : List Text) → IsDigit e → list_all no_digit_second words ≡ true → list_any (λ word. bytes_eq word (c ∷ e ∷ rest)) words ≡ false
none_of c e rest [] h all = refl
none_of c e rest (word ∷ words) h all =
    let parts = and_parts (no_digit_second word) (list_all no_digit_second words) all in
    rw (other_word c e rest word h parts.0, none_of c e rest words h parts.1) refl

letters_second : list_all no_digit_second reserved_words ≡ true
unfolding reserved_words
letters_second = refl

not_reserved : (c n : ℕ) → n < 2 ^ 64 → is_reserved (c ∷ decimal n) ≡ false
not_reserved c n small =
    let f = first_of (decimal n) (decimal_nonempty n small) (digits_in n small) in
    ap (λ (ds : Text). is_reserved (c ∷ ds)) f.2 ∙ none_of c f.0 f.1 reserved_words f.3 letters_second

-- ---- a letter and a number

pub record IsNumbered (c n : ℕ) : Type 0 where
  pub word : is_word (c ∷ decimal n) ≡ true
  pub free : is_reserved (c ∷ decimal n) ≡ false
  pub name : IsName (c ∷ decimal n)

printed_all : (c : ℕ) (ds : Text) → 33 ≤ c → c ≤ 126 → All IsDigit ds → All (λ b. (33 ≤ b) × (b ≤ 126)) (c ∷ ds)
printed_all c ds low high all zero d lt = (omega arith, omega arith)
printed_all c ds low high all (suc k) d lt = let h = all k d (omega arith) in (omega (arith, h.0), omega (arith, h.1))

pub numbered : (c n : ℕ) → 97 ≤ c → c ≤ 122 → n < 2 ^ 64 → IsNumbered c n
numbered c n low high small =
    let begins : begins_word c ≡ true = grind (arith, nat_tests) in
    record {
      word = rw (begins, all_continue n small) refl;
      free = not_reserved c n small;
      name = record { some = omega arith; each = printed_all c (decimal n) (omega arith) (omega arith) (digits_in n small) };
    }

-- its second byte is a digit
pub first_digit : (n : ℕ) → n < 2 ^ 64 → get_or (decimal n) 0 0 ≤ 57
first_digit n small =
    let f = first_of (decimal n) (decimal_nonempty n small) (digits_in n small) in
    let high = f.3.1 in
    subst (λ (ds : Text). get_or ds 0 0 ≤ 57) (sym f.2) high
