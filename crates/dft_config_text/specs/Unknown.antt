-- The keys of a table that no configuration has.
use Rattle.std.specs.Prelude.{codes, ℕ, Bool, true, false, ◌&&◌, ◌||◌, List, [], ◌∷◌, ◌++◌, Option, Some, None, is_some, option_map, if◌then◌else◌}
use Rattle.std.specs.Str.{bytes_eq}
use Rattle.std.specs.Ordering.{is_lt, nat_cmp}
use Rattle.std.specs.Cmp.Lexicographic.{slice_cmp}
use Rattle.toml.specs.Data.{Data, Members, no_members, member, as_table}
use Rattle.dft_base.specs.Names.{printable}
use Rattle.dft_toml.specs.Values.{table_at}
use Rattle.dft_config_text.specs.declared.section.Section.{Section}
use Rattle.dft_config_text.specs.declared.section.Section.TheVariants.{Ring, Compactor, Names}
use Rattle.dft_config_text.specs.Sections.{key_of, prefix_of, has_key, is_always_key}
use Rattle.dft_config.specs.declared.config.FillRule.{FillRule}
use Rattle.dft_config.specs.declared.config.FillRule.TheVariants.{Zeros, Ones, Seed}

-- whether the bits are filled from a seed
abbrev pub is_seeded : FillRule → Bool
is_seeded Zeros = false
is_seeded Ones = false
is_seeded (Seed seed) = true

-- whether a key outside of the tables is known: the seed only where the fill has one, and `names` only as a table
abbrev pub is_top_key : FillRule → List ℕ → Data → Bool
is_top_key fill key value =
    is_always_key key || (bytes_eq key (codes "seed") && is_seeded fill) || (bytes_eq key (codes "names") && is_some (as_table value))

-- the unknown keys outside of the tables
abbrev pub unknown_on_top : FillRule → Members → List (List ℕ)
unknown_on_top fill no_members = []
unknown_on_top fill (member key value rest) = if is_top_key fill key value then unknown_on_top fill rest else key ∷ unknown_on_top fill rest

-- the unknown keys of a table, each behind the table's own key and a point
abbrev pub unknown_in : Section → Members → List (List ℕ)
unknown_in section no_members = []
unknown_in section (member key value rest) =
    if has_key section key then unknown_in section rest else (prefix_of section ++ key) ∷ unknown_in section rest

-- the same for a table that may not be there
abbrev pub unknown_of : Section → Option Members → List (List ℕ)
unknown_of section None = []
unknown_of section (Some table) = unknown_in section table

-- the unknown keys of one of the tables that a table has
abbrev pub unknown_under : Section → Members → List (List ℕ)
unknown_under section table = unknown_of section (table_at (key_of section) table)

-- the unknown keys, dotted
abbrev pub unknown_keys : FillRule → Members → List (List ℕ)
unknown_keys fill table = unknown_on_top fill table ++ unknown_under Ring table ++ unknown_under Compactor table ++ unknown_under Names table

-- the lesser of two names in byte order
abbrev pub lesser : Option (List ℕ) → List ℕ → List ℕ
lesser None name = name
lesser (Some least) name = if is_lt (slice_cmp nat_cmp name least) then name else least

-- the least of names, and of one more
abbrev pub least_of : Option (List ℕ) → List (List ℕ) → Option (List ℕ)
least_of least [] = least
least_of least (name ∷ names) = least_of (Some (lesser least name)) names

-- the first unknown key in byte order, as it is shown
unfoldable pub first_unknown : FillRule → Members → Option (List ℕ)
first_unknown fill table = option_map printable (least_of None (unknown_keys fill table))
