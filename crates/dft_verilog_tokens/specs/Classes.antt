-- Bytes with which no blank begins, and those that are tokens of their own.
use Rattle.std.specs.Prelude.{ℕ, Bool, not, ◌&&◌, ◌==◌, List, [], ◌∷◌}
use Rattle.std.specs.List.{list_any}
use Rattle.dft_netlist_text.specs.Lexemes.{is_printed}

-- the bytes that are tokens of their own, whatever stands behind them
abbrev pub marks : List ℕ
marks = 41 ∷ 44 ∷ 59 ∷ 46 ∷ 61 ∷ 91 ∷ 93 ∷ 58 ∷ 123 ∷ 125 ∷ []

-- whether a byte is one of these
abbrev pub is_mark : ℕ → Bool
is_mark b = list_any (λ mark. b == mark) marks

-- printed, and no blank begins with it, whatever stands behind it
abbrev pub is_plain : ℕ → Bool
is_plain b = is_printed b && not (b == 47) && not (b == 96) && not (b == 40)

-- a bracket that opens no attribute
abbrev pub is_lone_paren : ℕ → ℕ → Bool
is_lone_paren first second = first == 40 && not (second == 42)
