-- One number, list or pair more of a reading that may end in a fault.
use Rattle.std.proofs.Common.{ℕ, ℤ, ◌≡◌, ◌+◌, ◌<◌, List, [], ◌∷◌, ◌++◌, length, drop, get_or, Result, Ok, Err, refl, sym, ap, ◌∙◌, append_assoc}
use Rattle.std.proofs.lemmas.List.{drop_more}
use Rattle.dft_config_text.specs.declared.fault.Key.{Key}
use Rattle.dft_config_text.specs.declared.fault.Fault.{Fault}
use Rattle.dft_config_text.specs.Faults.{after, cons_ok}
use Rattle.dft_config_text.specs.Settings.{below, all_below}

cons_after : {A : Type 0} (rest : Result (List A) Fault) (done : List A) (x : A)
    → after (cons_ok (Ok x) rest) (λ xs. Ok (done ++ xs)) ≡ after rest (λ xs. Ok ((done ++ x ∷ []) ++ xs))
cons_after (Ok xs) done x = ap Ok (sym (append_assoc done (x ∷ []) xs))
cons_after (Err e) done x = refl

pub all_step : (k : Key) (bound : ℕ) (zs : List ℤ) (i : ℕ) (d : ℤ) (done : List ℕ) (n : ℕ) → i < length zs → below k bound (get_or zs i d) ≡ Ok n
    → after (all_below k bound (drop i zs)) (λ rest. Ok (done ++ rest)) ≡ after (all_below k bound (drop (i + 1) zs)) (λ rest. Ok ((done ++ n ∷ []) ++ rest))
all_step k bound zs i d done n less e =
    ap (λ (l : List ℤ). after (all_below k bound l) (λ rest. Ok (done ++ rest))) (drop_more zs i d less)
    ∙ ap (λ (first : Result ℕ Fault). after (cons_ok first (all_below k bound (drop (i + 1) zs))) (λ rest. Ok (done ++ rest))) e
    ∙ cons_after (all_below k bound (drop (i + 1) zs)) done n
