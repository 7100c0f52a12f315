-- A replay of a text that stands for more vectors than are read is refused for their number.
use Rattle.std.proofs.Common.{ℕ, ◌≡◌, ◌<◌, ◌≤◌, ◌∙◌, inl, inr, List, codes, length, sym, ap, subst, arith, Some, Err}
use Rattle.std.proofs.lemmas.Option.{same_Some}
use Rattle.dft_base.specs.Lexing.{place_of}
use Rattle.dft_patterns.specs.Patterns.{Patterns}
use Rattle.dft_stil_tokens.specs.declared.text.Cause.{Cause}
use Rattle.dft_stil_text.specs.declared.error.StilError.{StilError}
use Rattle.dft_stil_text.specs.declared.error.StilError.TheVariants as stil
use Rattle.dft_stil_text.specs.declared.limits.TheConstants.{MAX_VECTORS}
use Rattle.dft_stil_text.specs.PatternText.{At, StandsFor, patterns_in}
use Rattle.dft_stil_text.proofs.BeyondLemmas.{refused_beyond}
use Rattle.dft_stil.specs.Refusals.{IsFirstRefusal, told_at, told_of}
use Rattle.dft_answers.specs.declared.answer.Code.TheVariants.{P4}
use Rattle.dft_answers.specs.declared.answer.Refusal.{Refusal}
use Rattle.dft_answers.specs.declared.outcome.Outcome.{Outcome}
use Rattle.dft_answers.specs.declared.outcome.Outcome.TheVariants.{Refused}
use Rattle.dft_answers.specs.Refusals.{placed, stil_refusal}
use Rattle.dft_answers.specs.Texts.{FileGives}
use Rattle.dft_top.specs.declared.limits.TheConstants.{MAX_PATTERN_BYTES}
use Rattle.dft_top.specs.Checks.{ArePatternsOf, PatternText}
use Rattle.dft_top.specs.Courses.{Then}
use Rattle.dft_top.proofs.Readings.{err_same, first_refusal, patterns_one}

-- how its first refusal is told
told_many : (text : List ℕ) (p : Patterns) (error : StilError) (refusal : Refusal) → StandsFor text p → MAX_VECTORS < length p.vectors → IsFirstRefusal text error → stil_refusal error ≡ Some refusal → refusal.code ≡ P4
told_many text p error refusal stands many x is =
    let beyond = refused_beyond MAX_VECTORS text p stands many in
    let same = err_same (patterns_in MAX_VECTORS text) x.refusal (At beyond.0) x.first beyond.1.0 in
    let place = place_of text beyond.0.left in
    let told : error ≡ stil.P4 place = x.told ∙ ap (told_of text) same ∙ ap (λ (cause : Cause). told_at cause place) beyond.1.1 in
    ap (λ (r : Refusal). r.code) (same_Some refusal (placed P4 place) (sym is ∙ ap stil_refusal told))

text_many : (text : List ℕ) (p : Patterns) (refusal : Refusal) → StandsFor text p → MAX_VECTORS < length p.vectors → PatternText text (Err refusal) → refusal.code ≡ P4
text_many text p refusal stands many x = told_many text p x.0 refusal stands many (first_refusal text x.0 refusal x.1.0 x.1.1) x.1.1

file_many : (text : List ℕ) (p : Patterns) (refusal : Refusal) → length text ≤ MAX_PATTERN_BYTES → StandsFor text p → MAX_VECTORS < length p.vectors → FileGives MAX_PATTERN_BYTES (codes "patterns") PatternText (Some text) (Err refusal) → refusal.code ≡ P4
file_many text p refusal short stands many (inl x) = let long = x.0 in absurd (omega (arith, short, long))
file_many text p refusal short stands many (inr x) = text_many text p refusal stands many x.1

not_read : (text : List ℕ) (p q : Patterns) → StandsFor text p → MAX_VECTORS < length p.vectors → ArePatternsOf text q → ⊥
not_read text p q stands many x = let few : length p.vectors ≤ MAX_VECTORS = subst (λ (r : Patterns). length r.vectors ≤ MAX_VECTORS) (patterns_one text q p x.stands stands) x.few in omega (arith, many, few)

pub replay_many : (next : Patterns → Outcome → Type 0) (text : List ℕ) (p : Patterns) (o : Outcome) → length text ≤ MAX_PATTERN_BYTES → StandsFor text p → MAX_VECTORS < length p.vectors →
    Then (FileGives MAX_PATTERN_BYTES (codes "patterns") PatternText (Some text)) next o → (refusal : Refusal) × ((refusal.code ≡ P4) × (o ≡ Refused refusal))
replay_many next text p o short stands many (inl x) = absurd (not_read text p x.0 stands many x.1.0.1)
replay_many next text p o short stands many (inr x) = (x.0, (file_many text p x.0 short stands many x.1.0, x.1.1))
