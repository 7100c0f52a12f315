-- Words by their first letter.
use Rattle.std.proofs.Common.{◌≡◌, ℕ, ◌<◌, List, [], ◌∷◌, length, drop, eqb, false, get_or, refl, arith}
use Rattle.std.proofs.lemmas.Bool.Decides.{nat_tests}
use Rattle.dft_base.specs.Words.{is_reserved, reserved_words}

other : (n b : ℕ) → (b ≡ n → ⊥) → eqb n b ≡ false
other n b differs = grind (arith, nat_tests, differs)

-- no reserved word begins with another byte
pub unreserved : (b : ℕ) (behind : List ℕ) → (b ≡ 97 → ⊥) → (b ≡ 98 → ⊥) → (b ≡ 99 → ⊥) → (b ≡ 100 → ⊥) → (b ≡ 101 → ⊥) → (b ≡ 102 → ⊥) → (b ≡ 103 → ⊥) → (b ≡ 104 → ⊥) → (b ≡ 105 → ⊥) → (b ≡ 106 → ⊥) → (b ≡ 108 → ⊥) → (b ≡ 109 → ⊥) → (b ≡ 110 → ⊥) → (b ≡ 111 → ⊥) → (b ≡ 112 → ⊥) → (b ≡ 114 → ⊥) → (b ≡ 115 → ⊥) → (b ≡ 116 → ⊥) → (b ≡ 117 → ⊥) → (b ≡ 118 → ⊥) → (b ≡ 119 → ⊥) → (b ≡ 120 → ⊥) → is_reserved (b ∷ behind) ≡ false
unfolding reserved_words
unreserved b behind n97 n98 n99 n100 n101 n102 n103 n104 n105 n106 n108 n109 n110 n111 n112 n114 n115 n116 n117 n118 n119 n120 = rw (other 97 b n97, other 98 b n98, other 99 b n99, other 100 b n100, other 101 b n101, other 102 b n102, other 103 b n103, other 104 b n104, other 105 b n105, other 106 b n106, other 108 b n108, other 109 b n109, other 110 b n110, other 111 b n111, other 112 b n112, other 114 b n114, other 115 b n115, other 116 b n116, other 117 b n117, other 118 b n118, other 119 b n119, other 120 b n120) refl

pub is_reserved-first : (bytes : List ℕ) (d : ℕ) → 0 < length bytes → is_reserved (get_or bytes 0 d ∷ drop 1 bytes) ≡ is_reserved bytes
is_reserved-first [] d some = absurd (omega arith)
is_reserved-first (b ∷ bytes) d some = refl

pub is_reserved-none : (bytes : List ℕ) → length bytes < 1 → is_reserved bytes ≡ false
unfolding reserved_words
is_reserved-none [] none = refl
is_reserved-none (b ∷ bytes) none = absurd (omega arith)

pub ruleset by_first_byte = (is_reserved-first, is_reserved-none)
