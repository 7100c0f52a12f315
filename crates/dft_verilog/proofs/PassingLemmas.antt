-- Bytes of a text that were passed, and the place behind them.
use Rattle.std.proofs.Common.{◌≡◌, ℕ, zero, suc, ◌+◌, ◌-◌, ◌≤◌, List, [], ◌∷◌, ◌++◌, length, take, drop, min, max, refl, sym, ap, subst, ◌∙◌, arith}
use Rattle.std.proofs.lemmas.List.{length-take, take_min}
use Rattle.dft_base.specs.Lexing.{Text, place_after, next_place}
use Rattle.dft_base.specs.declared.place.Place.{Place}
use Rattle.dft_base.proofs.PlaceLemmas.{IsBelow, next_place_below}
use Rattle.dft_verilog.specs.declared.places.Passed.{Passed}
use Rattle.dft_verilog.specs.Passing.{IsNear, HasPassed}

-- where a text begins
abbrev pub first_place : Place
first_place = record { line = 1; column = 1 }

pub place_after-append : (p : Place) (a b : Text) → place_after p (a ++ b) ≡ place_after (place_after p a) b
unfolding place_after
place_after-append p [] b = refl
place_after-append p (x ∷ a) b = place_after-append (next_place p x) a b

-- bytes lead no further than there are
pub near_after : (p : Place) (n : ℕ) (bytes : Text) → IsBelow p n → IsBelow (place_after p bytes) (n + length bytes)
unfolding place_after
near_after p n [] h = record { line = omega (arith, h.line); column = omega (arith, h.column) }
near_after p n (b ∷ bytes) h = let rest = near_after (next_place p b) (n + 1) bytes (next_place_below p b n h) in record { line = omega (arith, rest.line); column = omega (arith, rest.column) }

pub take_none : {A : Type 0} (n : ℕ) → take {A = A} n [] ≡ []
take_none zero = refl
take_none (suc n) = refl

-- the front of a text, and what comes up to a later place, is the longer front
pub take_between : {A : Type 0} (a b : ℕ) (xs : List A) → a ≤ b → take a xs ++ take (b - a) (drop a xs) ≡ take b xs
take_between zero b xs le = let all : b - 0 ≡ b = omega arith in ap (λ n. take n xs) all
take_between (suc a) zero xs le = absurd (omega arith)
take_between (suc a) (suc b) [] le = take_none (suc b - suc a)
take_between (suc a) (suc b) (x ∷ xs) le =
    let same : suc b - suc a ≡ b - a = omega arith in
    ap (λ n. x ∷ (take a xs ++ take n (drop a xs))) same ∙ ap (λ ys. x ∷ ys) (take_between a b xs (omega arith))

pub drop_none : {A : Type 0} (n : ℕ) → drop {A = A} n [] ≡ []
drop_none zero = refl
drop_none (suc n) = refl

-- places past the end of a list leave out nothing of what lies between them
pub between_is : {A : Type 0} (from to first last : ℕ) (xs : List A) → first ≡ min from (length xs) → last ≡ max (min to (length xs)) first → take (last - first) (drop first xs) ≡ take (to - from) (drop from xs)
between_is zero to first last xs e l =
    let none : first ≡ 0 = omega arith in
    let same : min (last - 0) (length xs) ≡ min (to - 0) (length xs) = omega arith in
    ap (λ n. take (last - n) (drop n xs)) none ∙ sym (take_min (last - 0) xs) ∙ ap (λ n. take n xs) same ∙ take_min (to - 0) xs
between_is (suc from) to first last [] e l =
    ap (take (last - first)) (drop_none first) ∙ take_none (last - first) ∙ sym (ap (take (to - suc from)) (drop_none (suc from)) ∙ take_none (to - suc from))
between_is (suc from) to zero last (x ∷ xs) e l = absurd (omega arith)
between_is (suc from) to (suc first) last (x ∷ xs) e l =
    let long : last - suc first ≡ (last - 1) - first = omega arith in
    let wanted : (to - 1) - from ≡ to - suc from = omega arith in
    ap (λ n. take n (drop first xs)) long ∙ between_is from (to - 1) first (last - 1) xs (omega arith) (omega arith) ∙ ap (λ n. take n (drop from xs)) wanted

-- nothing was passed
pub passed_none : (text : Text) (p : Passed) → p.bytes ≡ 0 → p.place ≡ first_place → HasPassed text p
unfolding place_after
passed_none text p none at = record {
  within = omega arith;
  place = at ∙ ap (λ n. place_after first_place (take n text)) (sym none);
  near = record { line = omega (arith, ap (λ (q : Place). q.line) at); column = omega (arith, ap (λ (q : Place). q.column) at) };
}

-- more bytes were passed
pub passed_more : (text : Text) (p q : Passed) → HasPassed text p → p.bytes ≤ q.bytes → q.bytes ≤ length text → q.place ≡ place_after p.place (take (q.bytes - p.bytes) (drop p.bytes text)) →
    q.place ≡ place_after first_place (take q.bytes text)
passed_more text p q h le within at =
    at ∙ ap (λ s. place_after s (take (q.bytes - p.bytes) (drop p.bytes text))) h.place
    ∙ sym (place_after-append first_place (take p.bytes text) (take (q.bytes - p.bytes) (drop p.bytes text)))
    ∙ ap (place_after first_place) (take_between p.bytes q.bytes text le)

-- and neither line nor column is above how many
pub passed_on : (text : Text) (p q : Passed) → HasPassed text p → p.bytes ≤ q.bytes → q.bytes ≤ length text → q.place ≡ place_after p.place (take (q.bytes - p.bytes) (drop p.bytes text)) → HasPassed text q
passed_on text p q h le within at =
    let between = take (q.bytes - p.bytes) (drop p.bytes text) in
    let few = length-take (q.bytes - p.bytes) (drop p.bytes text) in
    let near = near_after p.place (p.bytes + 1) between (record { line = h.near.line; column = h.near.column }) in
    record {
      within = within;
      place = passed_more text p q h le within at;
      near = subst (λ (place : Place). IsNear place (q.bytes + 1)) (sym at) (record { line = omega (arith, near.line, few); column = omega (arith, near.column, few) });
    }
