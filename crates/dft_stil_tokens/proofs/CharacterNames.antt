-- A run of letters and digits is a name, and so is one of them alone.
use Rattle.std.proofs.Common.{◌≡◌, ℕ, ◌<◌, ◌≤◌, true, nat_lt, [], ◌∷◌, length, length-take, take, sym, subst, arith}
use Rattle.std.specs.Prelude.{slice_index}
use Rattle.std.specs.List.{prefix_len}
use Rattle.std.specs.Char.{is_ascii_alphanumeric}
use Rattle.std.proofs.lemmas.Bool.Decides.{nat_tests}
use Rattle.std.proofs.lemmas.List.{get_or-take}
use Rattle.dft_base.specs.Lexing.{Text}
use Rattle.dft_base.specs.Name.{IsName}

-- the begin of a name is one
part_named : (word : Text) (n : ℕ) → IsName word → 0 < length (take n word) → IsName (take n word)
part_named word n named some = record {
  some = some;
  each = (λ k d below.
      let inside : k < n = omega (arith, length-take n word) in
      subst (λ (b : ℕ). (33 ≤ b) × (b ≤ 126)) (sym (get_or-take n word k d inside)) (named.each k d (omega (arith, length-take n word))));
}

pub run_named : (word : Text) → IsName word → nat_lt 0 (length (take (prefix_len is_ascii_alphanumeric word) word)) ≡ true
    → IsName (take (prefix_len is_ascii_alphanumeric word) word)
run_named word named some = part_named word (prefix_len is_ascii_alphanumeric word) named (grind (arith, nat_tests))

pub first_alone : (word : Text) → IsName word → length word ≡ 1 → IsName (slice_index word 0 ∷ [])
first_alone [] n e = absurd (omega arith)
first_alone (b ∷ []) n e = n
first_alone (b ∷ c ∷ word) n e = absurd (omega arith)

pub ruleset characters_are_names = (first_alone)
