-- Texts that are equal, and printed bytes.
use Rattle.std.proofs.Common.{◌≡◌, sym, true, refl, ◌≢◌, ℕ, false, List, [], ◌+◌, Bool, cond, ◌∷◌, ◌++◌, length, ap, ◌∙◌, arith, ◌≤◌, ◌<◌, ◌^◌}
use Rattle.std.specs.Str.{bytes_eq}
use Rattle.std.proofs.lemmas.Slice.Eq.{bytes_eq-Decides}
use Rattle.std.proofs.lemmas.Bool.Decides.{same_from_decides, Decides-like, nat_tests}
use Rattle.std.specs.Bool.{Decides}
use Rattle.std.specs.List.{prefix_len, list_all, All}
use Rattle.std.proofs.lemmas.Bool.{and_parts}
use Rattle.std.specs.Fmt.{decimal}
use Rattle.std.proofs.lemmas.List.Elements.{All-from_get_or}
use Rattle.std.proofs.lemmas.Fmt.{digits_decimal}
use Rattle.std.proofs.lemmas.Str.Parse.{numerals_by_value, tells_by_index}
use Rattle.dft_base.specs.Lexing.{Text}
use Rattle.dft_base.specs.Words.{begins_word, continues_word}
use Rattle.dft_base.specs.Bytes.{is_printed}

pub bytes_eq-comm : (xs ys : Text) → bytes_eq xs ys ≡ bytes_eq ys xs
bytes_eq-comm xs ys = same_from_decides (bytes_eq xs ys) (bytes_eq ys xs) (bytes_eq-Decides xs ys) (Decides-like (bytes_eq ys xs) sym sym (bytes_eq-Decides ys xs))

pub same_text : (x y : Text) → bytes_eq x y ≡ true → x ≡ y
same_text x y h = (bytes_eq-Decides x y).0 h

pub bytes_eq-self : (x : Text) → bytes_eq x x ≡ true
bytes_eq-self x = (bytes_eq-Decides x x).1 refl

pub differ : (xs ys : List ℕ) → xs ≢ ys → bytes_eq xs ys ≡ false
differ xs ys ne =
    let no : Decides false (xs ≡ ys) = (λ t. absurd (cc), λ e. absurd (ne e)) in
    same_from_decides (bytes_eq xs ys) false (bytes_eq-Decides xs ys) no

-- how far a test passes, over a text all of whose bytes pass, and one that does not
pub prefix_len-run : (p : ℕ → Bool) (xs : Text) (b : ℕ) (rest : Text) → list_all p xs ≡ true → p b ≡ false → prefix_len p (xs ++ b ∷ rest) ≡ length xs
prefix_len-run p [] b rest all stops = ap (λ t. cond t (1 + prefix_len p rest) 0) stops
prefix_len-run p (x ∷ xs) b rest all stops =
    let parts = and_parts (p x) (list_all p xs) all in
    ap (λ t. cond t (1 + prefix_len p (xs ++ b ∷ rest)) 0) parts.0 ∙ (let ih = prefix_len-run p xs b rest parts.1 stops in omega arith)

pub begins_goes_on : (b : ℕ) → begins_word b ≡ true → continues_word b ≡ true
begins_goes_on b e = grind (arith, nat_tests)

-- a byte that may stand in a name
abbrev pub IsPrinted : ℕ → Type 0
IsPrinted b = (33 ≤ b) × (b ≤ 126)

pub printed : (b : ℕ) → is_printed b ≡ true → IsPrinted b
printed b e = grind (arith, nat_tests)

pub digits_printed : (index : ℕ) → index < 2 ^ 64 → All IsPrinted (decimal index)
digits_printed index lt = All-from_get_or IsPrinted (decimal index) 0 (λ i within. let d = digits_decimal (numerals_by_value _ tells_by_index) index lt i within in (omega (arith, d.0), omega (arith, d.1)))

-- a byte from 33 to 126 is printed
pub printed_byte : (b : ℕ) → 33 ≤ b → b ≤ 126 → is_printed b ≡ true
printed_byte b low high = grind (arith, nat_tests)
