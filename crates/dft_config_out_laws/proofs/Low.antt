-- Texts of bytes below 127 are ASCII.
use Rattle.std.proofs.Common.{◌≡◌, ℕ, zero, suc, ◌<◌, ◌≤◌, ◌^◌, ◌&&◌, Bool, true, false, cond, List, [], ◌∷◌, ◌++◌, map, codes, decimal, IsAscii, refl, ◌∙◌, ap, arith}
use Rattle.std.specs.Prelude.{nat_le}
use Rattle.std.specs.List.{AllByRecursion, list_all}
use Rattle.std.proofs.lemmas.Bool.{and_parts}
use Rattle.std.proofs.lemmas.Bool.Decides.{nat_tests}
use Rattle.std.proofs.lemmas.List.Folds.{list_all-append}
use Rattle.std.proofs.lemmas.List.Elements.{recursion_from_All}
use Rattle.dft_base.specs.Lexing.{Text}
use Rattle.dft_base.specs.Name.{IsName}
use Rattle.dft_base.proofs.TextLemmas.{IsPrinted, digits_printed}
use Rattle.dft_config_out.specs.Written.{byte_text, bytes_text, is_escaped, items_text, list_text, name_text, separator}

abbrev low : ℕ → Bool
low b = nat_le b 126

abbrev pub IsLow : Text → Type 0
IsLow text = list_all low text ≡ true

low_is : (b : ℕ) → b ≤ 126 → low b ≡ true
low_is b less = grind (arith, nat_tests)

pub both_low : (a b : Text) → IsLow a → IsLow b → IsLow (a ++ b)
both_low a b first second = list_all-append low a b ∙ (λ i. first i && second i)

each_low : (bytes : Text) → AllByRecursion IsPrinted bytes → IsLow bytes
each_low [] all = refl
each_low (b ∷ bytes) all = (λ i. low_is b (let most = all.0.1 in omega (arith, most)) i && each_low bytes all.1 i)

pub digits_low : (n : ℕ) → n < 2 ^ 64 → IsLow (decimal n)
digits_low n less = each_low (decimal n) (recursion_from_All IsPrinted (decimal n) (digits_printed n less))

-- ---- names

byte_by : (b : ℕ) (t : Bool) → is_escaped b ≡ t → b ≤ 126 → IsLow (byte_text b)
byte_by b true is less = ap (λ (t : Bool). list_all low (cond t (92 ∷ b ∷ []) (b ∷ []))) is ∙ (λ i. low_is b less i && true)
byte_by b false is less = ap (λ (t : Bool). list_all low (cond t (92 ∷ b ∷ []) (b ∷ []))) is ∙ (λ i. low_is b less i && true)

bytes_low : (bytes : Text) → AllByRecursion (λ b. (33 ≤ b) × (b ≤ 126)) bytes → IsLow (bytes_text bytes)
bytes_low [] all = refl
bytes_low (b ∷ bytes) all = both_low (byte_text b) (bytes_text bytes) (byte_by b (is_escaped b) refl all.0.1) (bytes_low bytes all.1)

pub name_low : (name : Text) → IsName name → IsLow (name_text name)
name_low name is = both_low (bytes_text name) (codes "\"") (bytes_low name (recursion_from_All (λ b. (33 ≤ b) × (b ≤ 126)) name is.each)) refl

-- ---- lists

separator_low : (is_first : Bool) → IsLow (separator is_first)
separator_low true = refl
separator_low false = refl

items_low : (is_first : Bool) (items : List Text) → AllByRecursion IsLow items → IsLow (items_text is_first items)
items_low is_first [] all = refl
items_low is_first (item ∷ items) all =
    both_low (separator is_first) (item ++ items_text false items) (separator_low is_first) (both_low item (items_text false items) all.0 (items_low false items all.1))

map_low : {X : Type 0} (f : X → Text) (xs : List X) → AllByRecursion (λ x. IsLow (f x)) xs → AllByRecursion IsLow (map f xs)
map_low f [] all = tt
map_low f (x ∷ xs) all = (all.0, map_low f xs all.1)

pub list_low : {X : Type 0} (f : X → Text) (xs : List X) → AllByRecursion (λ x. IsLow (f x)) xs → IsLow (list_text (map f xs))
list_low f xs all = items_low true (map f xs) (map_low f xs all)

-- ---- ASCII

byte_less : (b : ℕ) → low b ≡ true → b < 128
byte_less b is = grind (arith, nat_tests)

pub low_ascii : (text : Text) → IsLow text → IsAscii text
low_ascii [] all i = omega arith
low_ascii (b ∷ bytes) all zero = byte_less b (and_parts (low b) (list_all low bytes) all).0
low_ascii (b ∷ bytes) all (suc i) = low_ascii bytes (and_parts (low b) (list_all low bytes) all).1 i
