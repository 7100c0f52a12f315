-- Text for a person: lines of printed bytes and blanks, so that no byte of a word, a file or the host drives a terminal.
use Rattle.std.specs.Prelude.{ℕ, ◌+◌, suc, [], ◌∷◌, Bool, ◌||◌, ◌==◌, List, length, map, if◌then◌else◌}
use Rattle.std.specs.List.{list_all}
use Rattle.dft_base.specs.Bytes.{is_printed}

-- a blank, or a printed byte (32 to 126)
abbrev pub is_clear : (byte : ℕ) → Bool
is_clear b = (b == 32) || is_printed b

-- another byte is shown as `?`
abbrev pub clear : (byte : ℕ) → ℕ
clear b = if is_clear b then b else 63

-- a text as it is shown
abbrev pub shown : List ℕ → List ℕ
shown text = map clear text

-- how many lines a text ends
abbrev pub ends_of : List ℕ → ℕ
ends_of [] = 0
ends_of (b ∷ bs) = if b == 10 then suc (ends_of bs) else ends_of bs

-- whether a text is lines of such bytes
abbrev pub is_told : List ℕ → Bool
is_told text = list_all (λ b. (b == 10) || is_clear b) text

-- how many bytes these texts have
abbrev pub bytes_of : List (List ℕ) → ℕ
bytes_of [] = 0
bytes_of (text ∷ texts) = length text + bytes_of texts
