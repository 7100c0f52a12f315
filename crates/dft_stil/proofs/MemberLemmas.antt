-- Signals that are flagged are no more than flags.
use Rattle.std.proofs.Common.{◌≡◌, ℕ, zero, suc, ◌<◌, ◌≤◌, Bool, true, false, true≢false, eqb, List, [], ◌∷◌, replicate, length, get_or, inl, inr, ◌⊎◌, sym, ◌∙◌, arith}
use Rattle.std.proofs.lemmas.Bool.{cases_lt, or_left, or_right}
use Rattle.std.proofs.lemmas.Bool.Decides.{nat_tests}
use Rattle.std.proofs.lemmas.List.{get_or_past}
use Rattle.dft_base.proofs.ListLemmas.{none_marked}
use Rattle.dft_stil_text.specs.SignalGroups as spec
use Rattle.dft_stil.specs.MembersShown.{Sees, AreBelow}

has_element : (ns : List ℕ) (k d : ℕ) → k < length ns → spec.has_signal ns (get_or ns k d) ≡ true
has_element [] k d h = absurd (omega arith)
has_element (n ∷ ns) zero d h = or_left (eqb n n) (spec.has_signal ns n) (grind (arith, nat_tests))
has_element (n ∷ ns) (suc k) d h = or_right (eqb n (get_or ns k d)) (spec.has_signal ns (get_or ns k d)) (has_element ns k d (omega arith))

flag_inside : (seen : List Bool) (n : ℕ) → get_or seen n false ≡ true → ((n < length seen) ⊎ (length seen ≤ n)) → n < length seen
flag_inside seen n e (inl less) = less
flag_inside seen n e (inr far) = absurd (true≢false (sym e ∙ get_or_past seen n false far))

pub sees_below : (m : spec.Members) (seen : List Bool) → Sees m seen → AreBelow (length seen) m.signals
sees_below m seen s k d h = let n = get_or m.signals k d in flag_inside seen n (s n ∙ has_element m.signals k d h) (cases_lt n (length seen))

pub sees_none : (n : ℕ) → Sees spec.no_members (replicate n false)
sees_none n k = none_marked n k

pub ruleset flags = (sees_none)
