-- The words of a generator, one after another.
use Rattle.std.proofs.Common.{ℕ, zero, suc, List, [], ◌∷◌, ◌++◌, ◌≡◌, ◌+◌, ◌-◌, ◌<◌, ◌≤◌, length, refl, sym, ap, arith, ◌∙◌, append_assoc}
use Rattle.std.proofs.lemmas.List.{append-nil}
use Rattle.rand_core.specs.Steps.{first_words}
use Rattle.rand_pcg.specs.Lcg.{Lcg}
use Rattle.rand_pcg.specs.Pcg.{pcg32}

pub words_count : {S : Type 0} (step : S → ℕ × S) (k : ℕ) (s : S) → length (first_words step k s) ≡ k
unfolding first_words
words_count step zero s = refl
words_count step (suc k) s = ap suc (words_count step k (step s).1)

words_step : (k m : ℕ) (s : Lcg) → k ≡ suc m → first_words pcg32 k s ≡ (pcg32 s).0 ∷ first_words pcg32 m (pcg32 s).1
unfolding first_words
words_step k m s is = ap (λ (j : ℕ). first_words pcg32 j s) is

words_end : (k : ℕ) (s : Lcg) → k ≡ 0 → first_words pcg32 k s ≡ []
unfolding first_words
words_end k s is = ap (λ (j : ℕ). first_words pcg32 j s) is

-- one word more
pub words_more : (count turn word : ℕ) (words all : List ℕ) (now next : Lcg) → turn < count → (word, next) ≡ pcg32 now → words ++ first_words pcg32 (count - turn) now ≡ all →
    (words ++ word ∷ []) ++ first_words pcg32 (count - (turn + 1)) next ≡ all
words_more count turn word words all now next less is before =
    let k : count - turn ≡ suc (count - (turn + 1)) = omega arith in
    append_assoc words (word ∷ []) (first_words pcg32 (count - (turn + 1)) next)
    ∙ ap (λ (l : List ℕ). words ++ l) ((λ i. (is i).0 ∷ first_words pcg32 (count - (turn + 1)) (is i).1) ∙ sym (words_step (count - turn) (count - (turn + 1)) now k))
    ∙ before

pub words_all : (count turn : ℕ) (words all : List ℕ) (now : Lcg) → count ≤ turn → words ++ first_words pcg32 (count - turn) now ≡ all → words ≡ all
words_all count turn words all now past before = sym (append-nil words) ∙ ap (λ (l : List ℕ). words ++ l) (sym (words_end (count - turn) now (omega arith))) ∙ before
