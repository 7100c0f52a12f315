-- Flags of signals, one after the other.
use Rattle.std.proofs.Common.{◌≡◌, ◌≢◌, ℕ, ◌<◌, ◌+◌, Bool, true, false, ◌||◌, ◌==◌, List, [], ◌∷◌, length, drop, get_or, slice_set, get_or-set_same, get_or-set_other, refl, sym, ap, ◌∙◌, arith}
use Rattle.std.proofs.lemmas.Bool.Decides.{nat_tests}
use Rattle.std.proofs.lemmas.List.{drop_more}
use Rattle.dft_base.proofs.BitLemmas.{or_swap, or_assoc}
use Rattle.dft_stil_text.specs.SignalGroups.{has_signal}
use Rattle.dft_stil_text.specs.Statements.{with_told}
use Rattle.dft_stil.specs.VectorShown.{flagged_in}

flag_at : (told : List Bool) (n k : ℕ) (t : Bool) → n < length told → (n == k) ≡ t → get_or (slice_set told n true) k false ≡ (t || get_or told k false)
flag_at told n k true less e =
    let same : n ≡ k = grind (arith, nat_tests) in
    ap (λ j. get_or (slice_set told n true) j false) (sym same) ∙ get_or-set_same told n true false less
flag_at told n k false less e =
    let other : k ≢ n = grind (arith, nat_tests) in
    get_or-set_other told n k true false other

flagged : (told : List Bool) (n : ℕ) (rest : List ℕ) → n < length told → (k : ℕ) → with_told rest (flagged_in (slice_set told n true)) k ≡ with_told (n ∷ rest) (flagged_in told) k
flagged told n rest less k = ap (λ t. has_signal rest k || t) (flag_at told n k (n == k) less refl) ∙ or_swap (has_signal rest k) (n == k) (get_or told k false) ∙ sym (or_assoc (n == k) (has_signal rest k) (get_or told k false))

-- one signal more is flagged
pub flag_more : (told : List Bool) (signals : List ℕ) (at n d : ℕ) (whole : ℕ → Bool) → at < length signals → n ≡ get_or signals at d → n < length told
    → with_told (drop at signals) (flagged_in told) ≡ whole → with_told (drop (at + 1) signals) (flagged_in (slice_set told n true)) ≡ whole
flag_more told signals at n d whole less is inside h =
    (λ i k. flagged told n (drop (at + 1) signals) inside k i)
    ∙ ap (λ m. with_told (m ∷ drop (at + 1) signals) (flagged_in told)) is
    ∙ ap (λ ns. with_told ns (flagged_in told)) (sym (drop_more signals at d less)) ∙ h

-- when all are flagged
pub flag_all : (told : List Bool) (signals : List ℕ) (at : ℕ) (whole : ℕ → Bool) → drop at signals ≡ [] → with_told (drop at signals) (flagged_in told) ≡ whole → flagged_in told ≡ whole
flag_all told signals at whole none h = ap (λ ns. with_told ns (flagged_in told)) (sym none) ∙ h
