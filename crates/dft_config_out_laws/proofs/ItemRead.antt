-- Written numbers and names are read as they are.
use Rattle.std.proofs.Common.{ℕ, ◌<◌, ◌^◌, false, [], decimal, refl, arith}
use Rattle.dft_base.specs.Lexing.{Text}
use Rattle.dft_base.specs.Name.{IsName}
use Rattle.toml.proofs.ReadValues.{read_value, value_start}
use Rattle.toml.specs.Data.{string}
use Rattle.dft_config_out.specs.Written.{name_text}
use Rattle.dft_config_out_laws.specs.Lists.{IsReadAs, ItemsAreRead}
use Rattle.dft_config_out_laws.specs.Tables.{number_data}
use Rattle.dft_config_out_laws.proofs.Quoted.{name_read}

number_is_read : (depth n : ℕ) → n < 2 ^ 63 → IsReadAs depth (decimal n) (number_data n)
number_is_read depth n less = record {
  some = (value_start false (number_data n) (decimal n) [] (refl, omega arith) refl).0;
  start = λ rest. (value_start false (number_data n) (decimal n) rest (refl, omega arith) refl).1;
  read = λ rest ends. read_value false (number_data n) depth (decimal n) rest (refl, omega arith) (omega arith) refl ends;
}

name_is_read : (depth : ℕ) (name : Text) → IsName name → IsReadAs depth (name_text name) (string name)
name_is_read depth name is = record { some = omega arith; start = λ rest. refl; read = λ rest ends. name_read depth name rest is ends.0 }

pub items_read : ItemsAreRead
items_read = (number_is_read, name_is_read)
