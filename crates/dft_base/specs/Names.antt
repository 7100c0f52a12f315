-- Bytes that are a name, and bytes as a refusal shows them.
use Rattle.std.specs.Prelude.{ℕ, Bool, true, ◌&&◌, List, [], ◌∷◌, map, length, Option, Some, None, nat_lt, if◌then◌else◌}
use Rattle.dft_base.specs.Bytes.{is_printed}

-- whether each byte is printed
abbrev pub all_printed : List ℕ → Bool
all_printed [] = true
all_printed (byte ∷ bytes) = is_printed byte && all_printed bytes

-- whether the bytes are a name: at least one byte, each printed and no blank
abbrev pub is_name : List ℕ → Bool
is_name bytes = nat_lt 0 (length bytes) && all_printed bytes

-- the name with these bytes, where they are one
abbrev pub name_of : List ℕ → Option (List ℕ)
name_of bytes = if is_name bytes then Some bytes else None

-- a byte as it is shown: itself where it is printed, otherwise `?`
abbrev pub shown : ℕ → ℕ
shown byte = if is_printed byte then byte else 63

-- bytes as they are shown in a refusal; no byte at all is shown as `?`
abbrev pub printable : List ℕ → List ℕ
printable [] = 63 ∷ []
printable (byte ∷ bytes) = map shown (byte ∷ bytes)
