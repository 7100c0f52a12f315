-- The front of a text: the blanks that are passed, and the token that begins there.
use Rattle.std.proofs.Common.{◌≡◌, ℕ, ◌<◌, false, cond, eqb, List, [], ◌∷◌, length, drop, refl, sym, ap, ◌∙◌, arith}
use Rattle.std.proofs.lemmas.Bool.Decides.{nat_tests}
use Rattle.dft_base.specs.Lexing.{Text, Token, Front, Blank, Cut, tokens_from}
use Rattle.dft_base.proofs.LexingLemmas.{tokens_from-blank, tokens_from-cut}
use Rattle.dft_lexing.specs.Blanks.{blank_or}
use Rattle.dft_lexing.specs.Steps as steps

-- what a token in front shows of the tokens of a text, and the tokens behind it
pub record Shows {Kind : Type 0} (end : Kind) (t : Token Kind) (ts behind : List (Token Kind)) : Type 0 where
  pub kind : t.kind ≡ steps.kind_or end ts
  pub bytes : t.bytes ≡ steps.bytes ts
  pub left : t.left ≡ steps.left ts
  pub next : behind ≡ steps.next ts

-- the first token
pub first_shows : {Kind : Type 0} (end : Kind) (t : Token Kind) (ts behind : List (Token Kind)) → ts ≡ t ∷ behind → Shows end t ts behind
unfolding steps.bytes steps.left steps.next
first_shows end t ts behind e =
    record { kind = sym (ap (steps.kind_or end) e); bytes = sym (ap steps.bytes e); left = sym (ap steps.left e); next = sym (ap steps.next e) }

-- the end of the text
pub end_shows : {Kind : Type 0} (end : Kind) → Shows end (record { kind = end; bytes = []; left = 0 }) [] []
unfolding steps.bytes steps.left steps.next
end_shows end = record { kind = refl; bytes = refl; left = refl; next = refl }

blank_or-some : {Kind Mode : Type 0} (len : ℕ) (cut : Front Kind Mode) → 0 < len → blank_or len cut ≡ Blank len
blank_or-some len cut some = let blank : eqb len 0 ≡ false = grind (arith, nat_tests) in ap (λ t. cond t cut (Blank len)) blank

-- blanks in front are passed
pub tokens-blank : {Kind Mode : Type 0} (blank_len : Text → ℕ) (cut : Mode → Text → Front Kind Mode) (mode : Mode) (text : Text) (len : ℕ) → 0 < length text → blank_len text ≡ len → 0 < len
    → tokens_from (λ m t. blank_or (blank_len t) (cut m t)) mode 0 (drop len text) ≡ tokens_from (λ m t. blank_or (blank_len t) (cut m t)) mode 0 text
tokens-blank blank_len cut mode text len full e some =
    sym (tokens_from-blank (λ m t. blank_or (blank_len t) (cut m t)) mode text len full some (ap (λ n. blank_or n (cut mode text)) e ∙ blank_or-some len (cut mode text) some))

-- the tokens of a text that begins with one
pub tokens-cut : {Kind Mode : Type 0} (blank_len : Text → ℕ) (cut : Mode → Text → Front Kind Mode) (mode : Mode) (text : Text) (t : Token Kind) (len : ℕ) (behind : Mode)
    → blank_len text ≡ 0 → cut mode text ≡ Cut t len behind → 0 < length text → 0 < len
    → tokens_from (λ m t. blank_or (blank_len t) (cut m t)) mode 0 text ≡ t ∷ tokens_from (λ m t. blank_or (blank_len t) (cut m t)) behind 0 (drop len text)
tokens-cut blank_len cut mode text t len behind none is full moves =
    tokens_from-cut (λ m t. blank_or (blank_len t) (cut m t)) mode text t len behind full moves (ap (λ n. blank_or n (cut mode text)) none ∙ is)
