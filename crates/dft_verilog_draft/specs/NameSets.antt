-- Sets of names.
use Rattle.std.specs.Prelude.{Bool, List}
use Rattle.std.specs.List.{list_any}
use Rattle.std.specs.Str.{bytes_eq}
use Rattle.dft_base.specs.Lexing.{Text}

-- whether a name is one of these
abbrev pub has_word : List Text → Text → Bool
has_word names word = list_any (λ name. bytes_eq name word) names
