-- Spaces and comments in front of a text, one after the other.
use Rattle.std.proofs.Common.{◌≡◌, ℕ, zero, suc, ◌+◌, ◌-◌, ◌<◌, ◌≤◌, eqb, false, cond, [], ◌∷◌, length, drop, refl, ap, ◌∙◌, arith}
use Rattle.std.proofs.lemmas.Bool.Decides.{nat_tests}
use Rattle.dft_base.specs.Lexing.{Text}
use Rattle.dft_stil_tokens.specs.Lexemes.{gap_len, gaps_from, gaps}

gaps_from-drop : (n : ℕ) (text : Text) → n ≤ length text → gaps_from n text ≡ n + gaps_from 0 (drop n text)
unfolding gaps_from
gaps_from-drop zero [] h = refl
gaps_from-drop zero (b ∷ text) h = omega arith
gaps_from-drop (suc n) [] h = absurd (omega arith)
gaps_from-drop (suc n) (b ∷ text) h = ap suc (gaps_from-drop n text (omega arith)) ∙ omega arith

one_less : (b g : ℕ) (text : Text) → 0 < g → drop (g - 1) text ≡ drop g (b ∷ text)
one_less b zero text h = absurd (omega arith)
one_less b (suc g) text h = let e : suc g - 1 ≡ g = omega arith in ap (λ k. drop k text) e

-- a gap in front is passed
pub gap_passed : (text : Text) (g : ℕ) → gap_len text ≡ g → 0 < g → g ≤ length text → gaps text ≡ g + gaps (drop g text)
unfolding gaps_from
gap_passed [] g e some within = absurd (omega arith)
gap_passed (b ∷ text) g e some within =
    let full : eqb (gap_len (b ∷ text)) 0 ≡ false = grind (arith, nat_tests) in
    ap (λ t. cond t 0 (suc (gaps_from (gap_len (b ∷ text) - 1) text))) full ∙ ap (λ k. suc (gaps_from (k - 1) text)) e
    ∙ ap suc (gaps_from-drop (g - 1) text (omega arith)) ∙ ap (λ z. suc (g - 1 + gaps_from 0 z)) (one_less b g text some) ∙ omega arith

-- where there is no gap
pub no_gap : (text : Text) → gap_len text ≡ 0 → gaps text ≡ 0
unfolding gaps_from
no_gap [] e = refl
no_gap (b ∷ text) e = ap (λ k. cond (eqb k 0) 0 (suc (gaps_from (k - 1) text))) e

pub ruleset gaps_in_front = (gap_passed, no_gap)
