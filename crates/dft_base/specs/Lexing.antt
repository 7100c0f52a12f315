-- Texts cut into tokens, and places in texts. Each reader says what stands at the front of a text;
-- the cut of the whole text, and where a token begins, are the same for all.
use Rattle.std.specs.Prelude.{ℕ, zero, suc, ◌+◌, ◌-◌, List, [], ◌∷◌, length, take, ◌==◌, if◌then◌else◌}
use Rattle.dft_base.specs.declared.place.Place.{Place}

-- a text, as its bytes
abbrev pub Text : Type 0
Text = List ℕ

-- a token: what it is, its bytes, and how many bytes there are from its place to the end of the text
pub record Token (Kind : Type 0) : Type 0 where
  pub kind : Kind
  pub bytes : Text
  pub left : ℕ

-- what stands at the front of a text: blanks of so many bytes; or a token of so many bytes, and how the text behind it is read
pub data Front (Kind Mode : Type 0) : Type 0 where
  Blank : (len : ℕ) → Front Kind Mode
  Cut : (token : Token Kind) → (len : ℕ) → (next : Mode) → Front Kind Mode

-- blanks are passed, and a token stands before those behind it
abbrev pub spread : {Kind Mode : Type 0} → Front Kind Mode → Mode → (Mode → ℕ → List (Token Kind)) → List (Token Kind)
spread (Blank len) mode rest = rest mode (len - 1)
spread (Cut token len next) mode rest = token ∷ rest next (len - 1)

-- The tokens of a text. The number counts the bytes that are left of one, or of blanks.
abbrev pub tokens_from : {Kind Mode : Type 0} → (Mode → Text → Front Kind Mode) → Mode → ℕ → Text → List (Token Kind)
tokens_from front mode zero [] = []
tokens_from front mode (suc n) [] = []
tokens_from front mode (suc n) (b ∷ text) = tokens_from front mode n text
tokens_from front mode zero (b ∷ text) = spread (front mode (b ∷ text)) mode (λ m n. tokens_from front m n text)

-- ---- places

-- the place behind this byte
unfoldable pub next_place : Place → ℕ → Place
next_place p byte = if byte == 10 then record { line = p.line + 1; column = 1 } else record { line = p.line; column = p.column + 1 }

-- the place behind these bytes
unfoldable pub place_after : Place → Text → Place
place_after p [] = p
place_after p (b ∷ text) = place_after (next_place p b) text

-- the place with so many bytes from it to the end of the text; the first place is line 1, column 1
abbrev pub place_of : Text → ℕ → Place
place_of text left = place_after (record { line = 1; column = 1 }) (take (length text - left) text)
