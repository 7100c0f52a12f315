-- Names in quotes as values of a table.
use Rattle.std.specs.Prelude.{ℕ, ◌≡◌, ◌==◌, false, ◌++◌, Some}
use Rattle.dft_base.specs.Lexing.{Text}
use Rattle.dft_base.specs.Name.{IsName}
use Rattle.toml_parser.specs.Lexical.{first}
use Rattle.toml.specs.Data.{string}
use Rattle.toml.specs.Parse.{val}
use Rattle.dft_config_out.specs.Written.{name_text}

-- no quote of either kind follows
abbrev pub EndsString : Text → Type 0
EndsString rest = ((first rest == 34) ≡ false) × ((first rest == 39) ≡ false)

-- A name as it is written is read as that name, whatever follows that is no quote.
abbrev pub NamesAreRead : Type 0
NamesAreRead = (depth : ℕ) (name rest : Text) → IsName name → EndsString rest → val depth (name_text name ++ rest) ≡ Some (string name, rest)
