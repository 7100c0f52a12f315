-- Decimal digits behind a value make it no smaller.
use Rattle.std.proofs.Common.{◌≡◌, ℕ, ◌<◌, ◌≤◌, ◌+◌, ◌*◌, ◌-◌, [], ◌∷◌, length, drop, get_or, inl, inr, ◌⊎◌, refl, sym, ap, ◌∙◌, arith}
use Rattle.std.proofs.lemmas.Bool.{cases_lt}
use Rattle.std.proofs.lemmas.List.{at_drop_more}
use Rattle.dft_base.specs.Lexing.{Text}
use Rattle.dft_stil_tokens.specs.Steps.{number_from}

grows : (n : ℕ) (digits : Text) → n ≤ number_from n digits
unfolding number_from
grows n [] = omega arith
grows n (b ∷ digits) = let more = grows (n * 10 + (b - 48)) digits in omega arith

-- what the loop over the digits keeps
pub record Counts (digits : Text) (value place : ℕ) : Type 0 where
  pub same : value < 1000000000 → number_from value (drop place digits) ≡ number_from 0 digits
  pub large : 1000000000 ≤ value → 1000000000 ≤ number_from 0 digits

one_less_more : (digits : Text) (value place d new : ℕ) → place < length digits → value < 1000000000 → new ≡ value * 10 + (get_or digits place d - 48) → Counts digits value place → Counts digits new (place + 1)
unfolding number_from
one_less_more digits value place d new less small e h =
    let step : number_from new (drop (place + 1) digits) ≡ number_from 0 digits = ap (λ n. number_from n (drop (place + 1) digits)) e ∙ sym (at_drop_more (number_from value) digits place d less) ∙ h.same small in
    record { same = λ _. step; large = λ big. (let more = grows new (drop (place + 1) digits) in omega arith) }

digit_more' : (digits : Text) (value place d new : ℕ) → ((value < 1000000000) ⊎ (1000000000 ≤ value)) → place < length digits → (value < 1000000000 → new ≡ value * 10 + (get_or digits place d - 48)) → (1000000000 ≤ value → new ≡ value)
    → Counts digits value place → Counts digits new (place + 1)
digit_more' digits value place d new (inl small) less s l h = one_less_more digits value place d new less small (s small) h
digit_more' digits value place d new (inr big) less s l h = let same = l big in record { same = λ small. absurd (omega arith); large = λ _. h.large big }

pub digit_more : (digits : Text) (value place d new : ℕ) → place < length digits → (value < 1000000000 → new ≡ value * 10 + (get_or digits place d - 48)) → (1000000000 ≤ value → new ≡ value)
    → Counts digits value place → Counts digits new (place + 1)
digit_more digits value place d new less s l h = digit_more' digits value place d new (cases_lt value 1000000000) less s l h

pub none_counted : (digits : Text) → Counts digits 0 0
none_counted digits = record { same = λ _. refl; large = λ big. absurd (omega arith) }

pub ruleset digits_add = (digit_more, none_counted)
