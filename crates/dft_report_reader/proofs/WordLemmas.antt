-- Digits, one after the other.
use Rattle.std.proofs.Common.{ℕ, ◌+◌, ◌≡◌, ◌<◌, length, drop, get_or, Option, None, Some, option_and_then, sym, ap, ◌∙◌}
use Rattle.std.proofs.lemmas.List.{drop_more}
use Rattle.dft_base.specs.Lexing.{Text}
use Rattle.dft_report_reader.specs.Words.{next_value, value_from}

-- one digit more
pub digit_more : (value next i d : ℕ) (word : Text) (total : Option ℕ) → i < length word → value_from value (drop i word) ≡ total → next_value value (get_or word i d) ≡ Some next → value_from next (drop (i + 1) word) ≡ total
digit_more value next i d word total less e is =
    sym (ap (option_and_then (λ k. value_from k (drop (i + 1) word))) is) ∙ sym (ap (value_from value) (drop_more word i d less)) ∙ e

-- no digit
pub digit_none : (value i d : ℕ) (word : Text) (total : Option ℕ) → i < length word → value_from value (drop i word) ≡ total → next_value value (get_or word i d) ≡ None → total ≡ None
digit_none value i d word total less e is =
    sym e ∙ ap (value_from value) (drop_more word i d less) ∙ ap (option_and_then (λ k. value_from k (drop (i + 1) word))) is
