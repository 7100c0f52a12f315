-- The cut of a text at its front, for any reader.
use Rattle.std.proofs.Common.{◌≡◌, ℕ, zero, suc, ◌-◌, ◌<◌, [], ◌∷◌, length, drop, refl, ap, ◌∙◌, arith}
use Rattle.dft_base.specs.Lexing.{Text, Token, Front, Blank, Cut, spread, tokens_from}

-- the bytes that are passed over may be dropped first
pub tokens_from-drop : {Kind Mode : Type 0} (front : Mode → Text → Front Kind Mode) (mode : Mode) (n : ℕ) (text : Text)
    → tokens_from front mode n text ≡ tokens_from front mode 0 (drop n text)
tokens_from-drop front mode zero text = refl
tokens_from-drop front mode (suc n) [] = refl
tokens_from-drop front mode (suc n) (b ∷ text) = tokens_from-drop front mode n text

-- the bytes behind the first are passed over, or all dropped with it
passed : {Kind Mode : Type 0} (front : Mode → Text → Front Kind Mode) (mode : Mode) (b : ℕ) (text : Text) (len : ℕ)
    → 0 < len → tokens_from front mode (len - 1) text ≡ tokens_from front mode 0 (drop len (b ∷ text))
passed front mode b text zero some = absurd (omega arith)
passed front mode b text (suc n) some =
    let less : suc n - 1 ≡ n = omega arith in ap (λ k. tokens_from front mode k text) less ∙ tokens_from-drop front mode n text

-- blanks at the front are passed
pub tokens_from-blank : {Kind Mode : Type 0} (front : Mode → Text → Front Kind Mode) (mode : Mode) (text : Text) (len : ℕ)
    → 0 < length text → 0 < len → front mode text ≡ Blank len → tokens_from front mode 0 text ≡ tokens_from front mode 0 (drop len text)
tokens_from-blank front mode [] len full some e = absurd (omega arith)
tokens_from-blank front mode (b ∷ text) len full some e =
    ap (λ f. spread f mode (λ m n. tokens_from front m n text)) e ∙ passed front mode b text len some

-- a token at the front stands before those behind it
pub tokens_from-cut : {Kind Mode : Type 0} (front : Mode → Text → Front Kind Mode) (mode : Mode) (text : Text) (token : Token Kind) (len : ℕ) (next : Mode)
    → 0 < length text → 0 < len → front mode text ≡ Cut token len next → tokens_from front mode 0 text ≡ token ∷ tokens_from front next 0 (drop len text)
tokens_from-cut front mode [] token len next full some e = absurd (omega arith)
tokens_from-cut front mode (b ∷ text) token len next full some e =
    ap (λ f. spread f mode (λ m n. tokens_from front m n text)) e ∙ ap (λ ts. token ∷ ts) (passed front next b text len some)
