-- The front of a pattern text: the blanks that are passed, and the token that begins there.
use Rattle.std.proofs.Common.{◌≡◌, ℕ, ◌-◌, ◌<◌, ◌≤◌, Bool, [], ◌∷◌, length, take, drop, sym, ap, ◌∙◌, subst, arith}
use Rattle.dft_base.specs.Lexing.{Text, Front, Cut, tokens_from}
use Rattle.dft_lexing.proofs.PartLemmas.{part}
use Rattle.dft_lexing.proofs.FrontLemmas.{Shows, first_shows, end_shows}
use Rattle.dft_lexing.proofs.FrontLemmas as fronts
use Rattle.dft_stil_tokens.specs.declared.text.TokenKind.{TokenKind}
use Rattle.dft_stil_tokens.specs.declared.text.TokenKind.TheVariants as kind
use Rattle.dft_stil_tokens.specs.Lexemes.{Lexeme, front, lexeme, token_of, blank_len, quoted_behind}
use Rattle.dft_stil_tokens.specs.Steps.{kind_of, bytes}

-- the token of this lexeme
abbrev cut_as : Bool → Text → Lexeme → Front TokenKind Bool
cut_as mode text l = Cut (token_of l text) l.len (quoted_behind l.kind mode)

-- blanks in front are passed
pub tokens-blank : (mode : Bool) (text : Text) (len : ℕ) → 0 < length text → blank_len text ≡ len → 0 < len
    → tokens_from front mode 0 (drop len text) ≡ tokens_from front mode 0 text
tokens-blank mode text len full e some = fronts.tokens-blank blank_len (λ m t. cut_as m t (lexeme m t)) mode text len full e some

-- the tokens of a text that begins with one
tokens-front : (mode : Bool) (text : Text) (l : Lexeme) → blank_len text ≡ 0 → l ≡ lexeme mode text → 0 < length text → 0 < l.len
    → tokens_from front mode 0 text ≡ token_of l text ∷ tokens_from front (quoted_behind l.kind mode) 0 (drop l.len text)
tokens-front mode text l e cut full moves =
    fronts.tokens-cut blank_len (λ m t. cut_as m t (lexeme m t)) mode text (token_of l text) l.len (quoted_behind l.kind mode) e (ap (cut_as mode text) (sym cut)) full moves

-- what the token that is cut shows of all, and the text behind it
pub front_shows : (mode : Bool) (text : Text) (l : Lexeme) → blank_len text ≡ 0 → l ≡ lexeme mode text → (0 < length text → 0 < l.len)
    → Shows kind.End (token_of l text) (tokens_from front mode 0 text) (tokens_from front (quoted_behind l.kind mode) 0 (drop l.len text))
unfolding lexeme
front_shows mode [] l e cut moves =
    subst (λ (m : Lexeme). Shows kind.End (token_of m []) [] (tokens_from front (quoted_behind m.kind mode) 0 (drop m.len []))) (sym cut) (end_shows kind.End)
front_shows mode (b ∷ text) l e cut moves = first_shows kind.End _ _ _ (tokens-front mode (b ∷ text) l e cut (omega arith) (moves (omega arith)))

pub kind_at : (mode : Bool) (text : Text) (l : Lexeme) → blank_len text ≡ 0 → l ≡ lexeme mode text → (0 < length text → 0 < l.len)
    → l.kind ≡ kind_of (tokens_from front mode 0 text)
unfolding kind_of
kind_at mode text l e cut moves = (front_shows mode text l e cut moves).kind

pub bytes_at : (mode : Bool) (text : Text) (l : Lexeme) → blank_len text ≡ 0 → l ≡ lexeme mode text → (0 < length text → 0 < l.len) → l.prefix ≤ l.end
    → take (l.end - l.prefix) (drop l.prefix text) ≡ bytes (tokens_from front mode 0 text)
bytes_at mode text l e cut moves named = part text l.prefix l.end named ∙ (front_shows mode text l e cut moves).bytes

pub ruleset blanks_in_front = (tokens-blank)

pub ruleset front_of_text = (kind_at)
