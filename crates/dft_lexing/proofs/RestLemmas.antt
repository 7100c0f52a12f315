-- The rest of a text to a word, a byte further on.
use Rattle.std.proofs.Common.{◌≡◌, ℕ, suc, ◌+◌, ◌-◌, ◌<◌, ◌≤◌, Bool, true, false, cond, [], ◌∷◌, length, drop, Option, Some, None, refl, ap, sym, ◌∙◌, arith}
use Rattle.std.specs.Prelude.{option_map}
use Rattle.dft_base.specs.Lexing.{Text}
use Rattle.dft_lexing.specs.Blanks.{begins_with, rest_to}

passed : (t : Bool) (n : ℕ) (rest : Option ℕ) → t ≡ false → cond t (Some n) (option_map suc rest) ≡ option_map suc rest
passed true n rest e = absurd (cc)
passed false n rest e = refl

longer : (whole len : ℕ) (rest : Option ℕ) → suc len ≤ whole → option_map (λ n. whole - suc len + n) (option_map suc rest) ≡ option_map (λ n. whole - len + n) rest
longer whole len None within = refl
longer whole len (Some n) within = ap Some (omega arith)

front_passed : (word : Text) (whole : ℕ) (text : Text) → 0 < length text → length text ≤ whole → begins_with word text ≡ false
    → option_map (λ n. whole - length text + n) (rest_to word text) ≡ option_map (λ n. whole - length (drop 1 text) + n) (rest_to word (drop 1 text))
front_passed word whole [] some within e = absurd (omega arith)
front_passed word whole (b ∷ text) some within e =
    ap (option_map (λ n. whole - suc (length text) + n)) (passed (begins_with word (b ∷ text)) (length word) (rest_to word text) e) ∙ longer whole (length text) (rest_to word text) within

-- where the word does not stand at the front, it is looked for behind the first byte
pub rest_behind : (word : Text) (whole : ℕ) (text behind : Text) → 0 < length text → length text ≤ whole → begins_with word text ≡ false → behind ≡ drop 1 text
    → option_map (λ n. whole - length text + n) (rest_to word text) ≡ option_map (λ n. whole - length behind + n) (rest_to word behind)
rest_behind word whole text behind some within e is =
    front_passed word whole text some within e ∙ ap (λ rest. option_map (λ n. whole - length rest + n) (rest_to word rest)) (sym is)
