-- Texts in byte order.
use Rattle.std.proofs.Common.{ℕ, ◌≡◌, true, false, List, Ordering, Less, Equal, Greater, nat_cmp, is_eq, is_lt, refl, sym, ap, ◌∙◌}
use Rattle.std.specs.Str.{bytes_eq}
use Rattle.std.specs.Cmp.Lexicographic.{slice_cmp}
use Rattle.std.proofs.lemmas.Map.Text.{is_eq-slice_cmp}

abbrev pub order_of : List ℕ → List ℕ → Ordering
order_of a b = slice_cmp nat_cmp a b

pub less_from : (o : Ordering) → is_lt o ≡ true → o ≡ Less
less_from Less e = refl
less_from Equal e = cc
less_from Greater e = cc

-- texts that differ in order are not the same
pub differ_less : (a b : List ℕ) → order_of a b ≡ Less → bytes_eq a b ≡ false
differ_less a b e = sym (is_eq-slice_cmp a b) ∙ ap is_eq e
