-- The signals that a text declares have names that differ.
use Rattle.std.proofs.Common.{◌≡◌, ◌≢◌, ℕ, zero, suc, ◌<◌, ◌≤◌, ◌+◌, Bool, true, false, not, true≢false, List, [], ◌∷◌, ◌++◌, length, get_or, length-append, AllPairs, All, Option, Some, None, is_some, Ok, inl, inr, ◌⊎◌, refl, sym, ap, subst₂, ◌∙◌, arith}
use Rattle.std.specs.List.{list_any}
use Rattle.std.specs.Str.{bytes_eq}
use Rattle.std.proofs.Math.Seq.{get_or-append_seam}
use Rattle.std.proofs.lemmas.Bool.{cases_lt, or_parts}
use Rattle.std.proofs.lemmas.List.{get_or_append_left}
use Rattle.std.proofs.lemmas.Slice.Eq.{bytes_eq-Decides}
use Rattle.dft_base.specs.Lexing.{Text}
use Rattle.dft_base.specs.declared.dir.Dir.{Dir}
use Rattle.dft_base.proofs.BitLemmas.{neither}
use Rattle.dft_stil_tokens.specs.declared.text.TokenKind.TheVariants as kind
use Rattle.dft_patterns.specs.declared.signal.StilSignal.{StilSignal}
use Rattle.dft_stil_tokens.specs.Steps.{left, no_token, expect, eat, keyword, name}
use Rattle.dft_stil_text.specs.SignalGroups as spec
use Rattle.dft_stil_text.specs.SignalGroups.{direction, signal, signals_from, signals_block, members, group, groups_from, name_if_any, group_block, group_blocks_from, group_blocks}
use Rattle.dft_stil_text.proofs.GivenRules.{Gives, after_any, then_gives, pure_gives, refuse_gives, if_gives, needed_gives}
use Rattle.dft_stil_text.proofs.KnownNameLemmas.{position_none, position_map}

-- no two signals have one name
abbrev pub Differ : spec.Names → Type 0
Differ names = AllPairs (λ s t. s.name ≢ t.name) names.signals

pairs_at : {X : Type 0} (R : X → X → Type 0) (xs : List X) (x : X) → AllPairs R xs → All (λ y. R y x) xs → (i j : ℕ) (d : X) → i < j → j < length xs + 1 → ((j < length xs) ⊎ (length xs ≤ j))
    → R (get_or (xs ++ x ∷ []) i d) (get_or (xs ++ x ∷ []) j d)
pairs_at R xs x h a i j d less inside (inl here) =
    subst₂ R (sym (get_or_append_left xs (x ∷ []) d i (omega arith))) (sym (get_or_append_left xs (x ∷ []) d j here)) (h i j d less here)
pairs_at R xs x h a i j d less inside (inr far) =
    let at : j ≡ length xs = omega arith in
    subst₂ R (sym (get_or_append_left xs (x ∷ []) d i (omega arith))) (sym (ap (λ k. get_or (xs ++ x ∷ []) k d) at ∙ get_or-append_seam xs x [] d)) (a i d (omega arith))

pairs_more : {X : Type 0} (R : X → X → Type 0) (xs : List X) (x : X) → AllPairs R xs → All (λ y. R y x) xs → AllPairs R (xs ++ x ∷ [])
pairs_more R xs x h a i j d less inside = let long = length-append xs (x ∷ []) in pairs_at R xs x h a i j d less (omega arith) (cases_lt j (length xs))

none_named : {X : Type 0} (p : X → Bool) (xs : List X) → list_any p xs ≡ false → All (λ x. p x ≡ false) xs
none_named p [] e k d h = absurd (omega arith)
none_named p (x ∷ xs) e zero d h = neither (p x) (list_any p xs) e
none_named p (x ∷ xs) e (suc k) d h = none_named p xs ((or_parts (p x) (list_any p xs) e).1) k d (omega arith)

not_some : (o : Option ℕ) → not (is_some o) ≡ true → o ≡ None
not_some None e = refl
not_some (Some n) e = absurd (true≢false (sym e))

differ_more : (signals : List StilSignal) (word : Text) (d : Dir) → AllPairs (λ s t. s.name ≢ t.name) signals → not (spec.is_declared (spec.names_of_signals signals) word) ≡ true
    → AllPairs (λ (s t : StilSignal). s.name ≢ t.name) (signals ++ record { name = word; dir = d } ∷ [])
differ_more signals word d h fresh =
    let none = sym (position_map (λ known. bytes_eq known word) (λ (s : StilSignal). s.name) signals) ∙ not_some (spec.number_of (spec.names_of_signals signals) word) fresh in
    let each = none_named (λ (s : StilSignal). bytes_eq s.name word) signals (position_none (λ (s : StilSignal). bytes_eq s.name word) signals none) in
    pairs_more (λ (s t : StilSignal). s.name ≢ t.name) signals (record { name = word; dir = d }) h
    (λ k e g same. true≢false (sym ((bytes_eq-Decides (get_or signals k e).name word).1 same) ∙ each k e g))

signal_differ : (names : spec.Names) → Differ names → Gives Differ (signal names)
unfolding signal
signal_differ names h ts =
    after_any Differ name _ (λ word. needed_gives Differ _ _ _ _ (λ fresh. after_any Differ direction _ (λ d. after_any Differ (expect kind.Semicolon) _ (λ u.
    pure_gives Differ (spec.with_new_signal names word d) (differ_more names.signals word d h fresh))))) ts

signals_differ : (n : ℕ) (names : spec.Names) → Differ names → Gives Differ (signals_from n names)
unfolding signals_from
signals_differ zero names h = refuse_gives Differ no_token
signals_differ (suc n) names h =
    after_any Differ (eat kind.CloseBrace) _ (λ end. if_gives Differ end _ _ (λ _. pure_gives Differ names h) (λ _. then_gives Differ Differ (signal names) _ (signal_differ names h) (λ more g. signals_differ n more g)))

pub block_differs : Gives Differ signals_block
unfolding signals_block
block_differs = after_any Differ (keyword _) _ (λ u. after_any Differ (expect kind.OpenBrace) _ (λ v ts. signals_differ (left ts) spec.no_names none ts)) where
  none : Differ spec.no_names
  none i j d less inside = absurd (omega arith)

-- ---- groups leave the signals as they are

abbrev pub Keeps : spec.Names → spec.Names → Type 0
Keeps names more = more.signals ≡ names.signals

group_keeps : (names : spec.Names) → Gives (Keeps names) (group names)
unfolding group
group_keeps names ts =
    after_any (Keeps names) name _ (λ word. needed_gives (Keeps names) _ _ _ _ (λ fresh. after_any (Keeps names) (expect kind.Equals) _ (λ u. after_any (Keeps names) (expect kind.Quote) _ (λ v.
    after_any (Keeps names) (members names) _ (λ m. after_any (Keeps names) (expect kind.Quote) _ (λ w. after_any (Keeps names) (expect kind.Semicolon) _ (λ x. pure_gives (Keeps names) (spec.with_group names word m) refl))))))) ts

groups_keep : (n : ℕ) (first names : spec.Names) → Keeps first names → Gives (Keeps first) (groups_from n names)
unfolding groups_from
groups_keep zero first names h = refuse_gives (Keeps first) no_token
groups_keep (suc n) first names h =
    after_any (Keeps first) (eat kind.CloseBrace) _ (λ end. if_gives (Keeps first) end _ _ (λ _. pure_gives (Keeps first) names h) (λ _. then_gives (Keeps names) (Keeps first) (group names) _ (group_keeps names) (λ more g. groups_keep n first more (g ∙ h))))

block_keeps : (names : spec.Names) → Gives (Keeps names) (group_block names)
unfolding group_block
block_keeps names = after_any (Keeps names) name_if_any _ (λ u. after_any (Keeps names) (expect kind.OpenBrace) _ (λ v ts. groups_keep (left ts) names names refl ts))

blocks_keep : (n : ℕ) (first names : spec.Names) → Keeps first names → Gives (Keeps first) (group_blocks_from n names)
unfolding group_blocks_from
blocks_keep zero first names h = refuse_gives (Keeps first) no_token
blocks_keep (suc n) first names h =
    after_any (Keeps first) (λ ts. Ok (spec.sees_groups ts, spec.after_groups ts)) _ (λ more. if_gives (Keeps first) more _ _ (λ _. then_gives (Keeps names) (Keeps first) (group_block names) _ (block_keeps names) (λ grown g. blocks_keep n first grown (g ∙ h))) (λ _. pure_gives (Keeps first) names h))

pub groups_kept : (names : spec.Names) → Gives (Keeps names) (group_blocks names)
unfolding group_blocks
groups_kept names ts = blocks_keep (left ts) names names refl ts
