-- Lines of texts.
use Rattle.std.specs.Prelude.{ℕ, Bool, ◌==◌, not, List, [], ◌∷◌, Option, None, Some, option_and_then, suc, take, zero, if◌then◌else◌}
use Rattle.std.specs.List.{prefix_len}

-- a byte that ends no line
abbrev pub is_inside : (byte : ℕ) → Bool
is_inside b = not (b == 10)

-- the bytes before the first end of a line
abbrev pub first_line : (text : List ℕ) → List ℕ
first_line text = take (prefix_len is_inside text) text

-- what stands behind the first end of a line
abbrev pub behind_line : (text : List ℕ) → Option (List ℕ)
behind_line [] = None
behind_line (b ∷ bs) = if b == 10 then Some bs else behind_line bs

-- what stands behind so many lines
abbrev pub behind_lines : (count : ℕ) → (text : List ℕ) → Option (List ℕ)
behind_lines zero text = Some text
behind_lines (suc n) text = option_and_then (behind_lines n) (behind_line text)
