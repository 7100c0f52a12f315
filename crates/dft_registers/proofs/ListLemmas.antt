-- Lists that grow by one, and whose elements are all the same.
use Rattle.std.proofs.Common.{ℕ, List, [], ◌∷◌, ◌++◌, ◌≡◌, ◌<◌, ◌+◌, ◌∙◌, length, get_or, below_more, arith}
use Rattle.std.proofs.lemmas.List.{get_or_append_left, get_or_push}

-- the first n elements are those of a function, and the next one is too
pub more_same : {X : Type 0} (f : ℕ → X) (xs : List X) (x d : X) (n : ℕ) → length xs ≡ n → x ≡ f n → ((k : ℕ) → k < n → get_or xs k d ≡ f k) → (k : ℕ) → k < n + 1 → get_or (xs ++ x ∷ []) k d ≡ f k
more_same f xs x d n size is each = below_more _ n (λ k h. get_or_append_left xs (x ∷ []) d k (omega (arith, size, h)) ∙ each k h) (get_or_push xs x d n size ∙ is)
