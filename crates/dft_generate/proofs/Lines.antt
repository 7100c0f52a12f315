-- The lines of numbered things.
use Rattle.std.proofs.Common.{ℕ, zero, suc, ◌+◌, ◌≡◌, List, ◌++◌, flat_map, sym, ap, arith, ◌∙◌, append_assoc}
use Rattle.std.specs.List.{range_with_len}
use Rattle.std.proofs.lemmas.List.{append-nil}

more_from : (f : ℕ → List ℕ) (from count last : ℕ) → from + count ≡ last → flat_map f (range_with_len from (suc count)) ≡ flat_map f (range_with_len from count) ++ f last
more_from f from zero last e = let same : from ≡ last = omega (arith, e) in append-nil (f from) ∙ ap f same
more_from f from (suc count) last e =
    ap (λ (text : List ℕ). f from ++ text) (more_from f (from + 1) count last (omega (arith, e))) ∙ sym (append_assoc (f from) (flat_map f (range_with_len (from + 1) count)) (f last))

-- one of them more
pub lines_more : (f : ℕ → List ℕ) (count : ℕ) (start before after : List ℕ) → before ≡ start ++ flat_map f (range_with_len 0 count) → after ≡ before ++ f count → after ≡ start ++ flat_map f (range_with_len 0 (count + 1))
lines_more f count start before after h k =
    let next : suc count ≡ count + 1 = omega arith in
    let last : 0 + count ≡ count = omega arith in
    k ∙ ap (λ (text : List ℕ). text ++ f count) h ∙ append_assoc start (flat_map f (range_with_len 0 count)) (f count)
    ∙ ap (λ (text : List ℕ). start ++ text) (sym (more_from f 0 count count last) ∙ ap (λ (k : ℕ). flat_map f (range_with_len 0 k)) next)

-- all of them
pub lines_all : (f : ℕ → List ℕ) (count at : ℕ) (start now : List ℕ) → at ≡ count → now ≡ start ++ flat_map f (range_with_len 0 at) → now ≡ start ++ flat_map f (range_with_len 0 count)
lines_all f count at start now e h = h ∙ ap (λ (k : ℕ). start ++ flat_map f (range_with_len 0 k)) e
