-- One more of a list, chosen or not.
use Rattle.std.proofs.Common.{ℕ, ◌+◌, ◌≡◌, ◌<◌, Bool, true, false, List, [], ◌∷◌, ◌++◌, length, get_or, take, filter, sym, ap, ◌∙◌, append-nil}
use Rattle.std.specs.Prelude.{if◌then◌else◌}
use Rattle.std.proofs.lemmas.List.{take_more}
use Rattle.std.proofs.lemmas.List.Elements.{filter-append}

chosen_more : {A : Type 0} (f : A → Bool) (xs : List A) (k : ℕ) (d : A) → k < length xs → filter f (take (k + 1) xs) ≡ filter f (take k xs) ++ (if f (get_or xs k d) then get_or xs k d ∷ [] else [])
chosen_more f xs k d less = ap (filter f) (take_more xs k d less) ∙ filter-append f (take k xs) (get_or xs k d ∷ [])

pub chosen_push : {A : Type 0} (f : A → Bool) (xs : List A) (k : ℕ) (d : A) (left out : List A) → k < length xs → f (get_or xs k d) ≡ true → out ≡ left ++ get_or xs k d ∷ [] → left ≡ filter f (take k xs) → out ≡ filter f (take (k + 1) xs)
chosen_push {A} f xs k d left out less yes_it push before =
    push ∙ ap (λ (ys : List A). ys ++ get_or xs k d ∷ []) before ∙ sym (chosen_more f xs k d less ∙ ap (λ (b : Bool). filter f (take k xs) ++ (if b then get_or xs k d ∷ [] else [])) yes_it)

pub chosen_skip : {A : Type 0} (f : A → Bool) (xs : List A) (k : ℕ) (d : A) (left out : List A) → k < length xs → f (get_or xs k d) ≡ false → out ≡ left → left ≡ filter f (take k xs) → out ≡ filter f (take (k + 1) xs)
chosen_skip {A} f xs k d left out less no_it same before =
    same ∙ before ∙ sym (chosen_more f xs k d less ∙ ap (λ (b : Bool). filter f (take k xs) ++ (if b then get_or xs k d ∷ [] else [])) no_it ∙ append-nil (filter f (take k xs)))
