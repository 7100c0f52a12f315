-- The shape of a word by its first byte and the others.
use Rattle.std.proofs.Common.{◌≡◌, ℕ, ◌<◌, List, [], ◌∷◌, ◌&&◌, length, get_or, drop, refl, arith}
use Rattle.std.specs.List.{list_all}
use Rattle.dft_base.specs.Words.{is_word, begins_word, continues_word}

pub is_word-first : (bytes : List ℕ) (d : ℕ) → 0 < length bytes
    → is_word bytes ≡ (begins_word (get_or bytes 0 d) && list_all continues_word (drop 1 bytes))
is_word-first [] d some = absurd (omega arith)
is_word-first (b ∷ bs) d some = refl

pub ruleset first_byte = (is_word-first)
