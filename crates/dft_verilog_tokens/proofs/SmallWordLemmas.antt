-- Each reserved word begins with two small letters.
use Rattle.std.proofs.Common.{◌≡◌, ℕ, List, [], ◌∷◌, Bool, true, false, refl, sym, ◌∙◌, ap}
use Rattle.std.specs.List.{list_all, list_any}
use Rattle.std.specs.Str.{bytes_eq}
use Rattle.std.proofs.lemmas.Slice.Eq.{bytes_eq-Decides}
use Rattle.std.proofs.lemmas.Bool.{and_parts, or_from}
use Rattle.dft_base.specs.Words.{is_reserved, reserved_words}
use Rattle.dft_verilog_tokens.specs.SmallWords.{begins_small}

is_other : (t : Bool) (known word : List ℕ) → bytes_eq known word ≡ t → begins_small known ≡ true → begins_small word ≡ false → t ≡ false
is_other true known word same small other = sym small ∙ ap begins_small ((bytes_eq-Decides known word).0 same) ∙ other
is_other false known word same small other = refl

-- a word that begins otherwise is none of these
not_among : (known : List (List ℕ)) (word : List ℕ) → list_all begins_small known ≡ true → begins_small word ≡ false → list_any (λ k. bytes_eq k word) known ≡ false
not_among [] word all other = refl
not_among (k ∷ ks) word all other =
    let parts = and_parts (begins_small k) (list_all begins_small ks) all in
    or_from (bytes_eq k word) (list_any (λ x. bytes_eq x word) ks) (is_other (bytes_eq k word) k word refl parts.0 other) (not_among ks word parts.1 other)

-- a word that begins otherwise is not reserved
pub is_reserved-other : (word : List ℕ) → begins_small word ≡ false → is_reserved word ≡ false
unfolding reserved_words
is_reserved-other word other = not_among reserved_words word refl other

pub ruleset small_words = (is_reserved-other)
