-- The names of what is made: `dft_n0`, `dft_n1` and so on for nets, `dft_i0`, `dft_i1` and so on for instances.
use Rattle.std.specs.Prelude.{codes, ℕ, ◌++◌}
use Rattle.std.specs.Fmt.{decimal}
use Rattle.dft_base.specs.Lexing.{Text}

-- a name with a number behind it, in decimal
abbrev pub numbered : Text → (number : ℕ) → Text
numbered name number = name ++ decimal number

abbrev pub made_net : (number : ℕ) → Text
made_net number = numbered (codes "dft_n") number

abbrev pub made_instance : (number : ℕ) → Text
made_instance number = numbered (codes "dft_i") number
