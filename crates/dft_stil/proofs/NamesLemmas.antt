-- The signals of a text, found by name and by number.
use Rattle.std.proofs.Common.{◌≡◌, ℕ, zero, suc, ◌<◌, ◌≤◌, ◌+◌, ◌-◌, List, [], ◌∷◌, ◌++◌, length, take, drop, drop-cons, get_or, length-append, inl, inr, ◌⊎◌, sym, ap, ap₂, subst, ◌∙◌, arith}
use Rattle.std.proofs.Math.Seq.{get_or-append_seam}
use Rattle.std.proofs.lemmas.Bool.{cases_lt}
use Rattle.std.proofs.lemmas.List.{map-append, get_or_append_left}
use Rattle.dft_base.specs.Lexing.{Text}
use Rattle.dft_patterns.specs.declared.signal.StilSignal.{StilSignal}
use Rattle.dft_stil_text.specs.SignalGroups as spec
use Rattle.dft_stil.specs.MembersShown.{AreBelow}
use Rattle.dft_stil.specs.NamesShown.{AreNumbered, AreInside}

-- a signal's number, alone
pub one_alone : (names : List Text) (signals : List StilSignal) (numbers : List ℕ) (n : ℕ) → AreNumbered names signals numbers → n < length numbers → take (n + 1 - n) (drop n numbers) ≡ n ∷ []
one_alone names signals numbers n a less =
    let one : n + 1 - n ≡ 1 = omega arith in
    ap (λ k. take k (drop n numbers)) one ∙ ap (take 1) (drop-cons numbers n 0 less) ∙ ap (λ x. x ∷ []) (a.each n less)

pub below_one : (count n : ℕ) (ns : List ℕ) → ns ≡ n ∷ [] → n < count → AreBelow count ns
below_one count n ns e less = subst (λ ns. AreBelow count ns) (sym e) one where
  one : AreBelow count (n ∷ [])
  one zero d h = less
  one (suc k) d h = absurd (omega arith)

pub numbered_same : (names more : List Text) (signals others : List StilSignal) (numbers counts : List ℕ) → more ≡ names → others ≡ signals → counts ≡ numbers → AreNumbered names signals numbers → AreNumbered more others counts
numbered_same names more signals others numbers counts e f g a = record {
  known = e ∙ a.known ∙ ap spec.names_of_signals (sym f);
  count = ap length g ∙ a.count ∙ ap length (sym f);
  each = λ k h. ap (λ ns. get_or ns k 0) g ∙ a.each k (omega (arith, ap length g));
}

each_more : (numbers : List ℕ) (n k : ℕ) → ((j : ℕ) → j < length numbers → get_or numbers j 0 ≡ j) → n ≡ length numbers → k < length numbers + 1 → ((k < length numbers) ⊎ (length numbers ≤ k)) → get_or (numbers ++ n ∷ []) k 0 ≡ k
each_more numbers n k each e h (inl less) = get_or_append_left numbers (n ∷ []) 0 k less ∙ each k less
each_more numbers n k each e h (inr far) =
    let at : k ≡ length numbers = omega arith in
    ap (λ j. get_or (numbers ++ n ∷ []) j 0) at ∙ get_or-append_seam numbers n [] 0 ∙ e ∙ sym at

pub numbered_more : (names more : List Text) (signals first others : List StilSignal) (numbers start counts : List ℕ) (word : Text) (s : StilSignal) (n : ℕ) → more ≡ names ++ word ∷ [] → (f' : first ≡ signals) → others ≡ first ++ s ∷ []
    → (g' : start ≡ numbers) → counts ≡ start ++ n ∷ [] → (named : s.name ≡ word) → (at : n ≡ length signals) → AreNumbered names signals numbers → AreNumbered more others counts
numbered_more names more signals first others numbers start counts word s n e f' f g' g named at a =
    let long = length-append start (n ∷ []) in
    let long' = length-append first (s ∷ []) in
    let l = ap length g in
    let l' = ap length g' in
    let m = ap length f in
    let m' = ap length f' in
    record {
      known = e ∙ ap₂ (λ ns w. ns ++ w ∷ []) (a.known ∙ ap spec.names_of_signals (sym f')) (sym named) ∙ sym (map-append (λ s. s.name) first (s ∷ [])) ∙ ap spec.names_of_signals (sym f);
      count = omega (arith, l, l', m, m', long, long', a.count);
      each = λ k h. ap (λ ns. get_or ns k 0) (g ∙ ap (λ ns. ns ++ n ∷ []) g') ∙ each_more numbers n k a.each (omega (arith, at, a.count)) (omega (arith, l, l', long)) (cases_lt k (length numbers));
    }

pub longer : (signals first others : List StilSignal) (s : StilSignal) → first ≡ signals → others ≡ first ++ s ∷ [] → length signals ≤ length others
longer signals first others s e f = let l = ap length e in let m = ap length f in let long = length-append first (s ∷ []) in omega arith

-- more signals leave groups inside
pub inside_more : (count larger : ℕ) (groups : List spec.Members) → count ≤ larger → AreInside count groups → AreInside larger groups
inside_more count larger groups le h k d g = λ j e i. (let below = h k d g j e i in omega arith)
