-- Values of a table as they are written.
use Rattle.std.specs.Prelude.{ℕ, ◌≡◌, ◌<◌, ◌+◌, ◌==◌, ◌^◌, ◌&&◌, ◌||◌, Bool, true, false, List, ◌++◌, Some, length, map, decimal, slice_index}
use Rattle.std.specs.Char.{is_ascii_digit}
use Rattle.std.specs.List.{AllByRecursion}
use Rattle.dft_base.specs.Lexing.{Text}
use Rattle.toml_parser.specs.Lexical.{first, is_word}
use Rattle.dft_base.specs.Name.{IsName}
use Rattle.toml.specs.Data.{Data, array, string}
use Rattle.toml.specs.Parse.{val}
use Rattle.dft_config_out.specs.Written.{list_text, name_text}
use Rattle.dft_config_out_laws.specs.Names.{EndsString}
use Rattle.dft_config_out_laws.specs.Tables.{items_of, number_data}

-- no quote follows, and nothing with which a number or a date goes on
abbrev pub EndsAny : Text → Type 0
EndsAny rest = EndsString rest × ((is_word (first rest) ≡ false) × ((first rest == 32 && is_ascii_digit (slice_index rest 1)) ≡ false))

-- whether a byte begins a value
abbrev pub begins_value : ℕ → Bool
begins_value c = (((is_word c || c == 34) || c == 39) || c == 91) || c == 123

-- a text is read as a value, with lists at most so deep
pub record IsReadAs (depth : ℕ) (text : Text) (value : Data) : Type 0 where
  pub some : 0 < length text
  pub start : (rest : Text) → begins_value (first (text ++ rest)) ≡ true
  pub read : (rest : Text) → EndsAny rest → val depth (text ++ rest) ≡ Some (value, rest)

-- Where each text is read as its value, the written list of the texts is read as the list of the values.
abbrev pub ListsAreRead : Type 0
ListsAreRead =
    (depth : ℕ) (pairs : List (Text × Data)) → AllByRecursion (λ p. IsReadAs depth p.0 p.1) pairs → IsReadAs (depth + 1) (list_text (map (λ p. p.0) pairs)) (array (items_of (λ p. p.1) pairs))

-- A number below 2^63 in decimal is read as it, and a name in quotes as it.
abbrev pub ItemsAreRead : Type 0
ItemsAreRead = ((depth n : ℕ) → n < 2 ^ 63 → IsReadAs depth (decimal n) (number_data n)) × ((depth : ℕ) (name : Text) → IsName name → IsReadAs depth (name_text name) (string name))
