-- The table that the bytes of a text stand for (TOML 1.0).
use Rattle.std.specs.Prelude.{◌≡◌, ℕ, List, Some, IsUtf8}
use Rattle.toml.specs.Data.{Members}
use Rattle.toml.specs.Parse.{parse_document}
use Rattle.dft_toml.specs.declared.text.TableError.{TableError}
use Rattle.dft_toml.specs.declared.text.TableError.TheVariants.{NotToml, Memory}

-- the bytes are UTF-8, and the text is this table
abbrev pub IsTable : List ℕ → Members → Type 0
IsTable bytes table = IsUtf8 bytes × (parse_document bytes ≡ Some table)

-- no table is the text
abbrev pub IsNoTable : List ℕ → Type 0
IsNoTable bytes = (table : Members) → IsTable bytes table → ⊥

-- the refusal comes only where the bytes are no table, but for want of memory
abbrev pub IsRefused : List ℕ → TableError → Type 0
IsRefused bytes NotToml = IsNoTable bytes
IsRefused bytes (Memory a) = Unit {0}
