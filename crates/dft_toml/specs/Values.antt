-- What the keys of a table hold.
use Rattle.std.specs.Prelude.{ℕ, ℤ, Bool, true, false, ◌&&◌, ◌||◌, List, [], ◌∷◌, Option, Some, None, is_some, option_map, option_and_then}
use Rattle.std.specs.Str.{bytes_eq}
use Rattle.dft_base.specs.Names.{name_of}
use Rattle.toml.specs.Data.{Data, Items, no_items, item, Members, no_members, member, get_member, as_str, as_integer, as_array, as_table}

-- the text, the number or the name at a key
abbrev pub text_at : List ℕ → Members → Option (List ℕ)
text_at key table = option_and_then as_str (get_member key table)

abbrev pub integer_at : List ℕ → Members → Option ℤ
integer_at key table = option_and_then as_integer (get_member key table)

abbrev pub name_at : List ℕ → Members → Option (List ℕ)
name_at key table = option_and_then name_of (text_at key table)

-- the name that a value is
abbrev pub name_in : Data → Option (List ℕ)
name_in value = option_and_then name_of (as_str value)

-- a first value before the others, where both are there
abbrev pub with_first : {A : Type 0} → Option A → Option (List A) → Option (List A)
with_first None values = None
with_first (Some value) values = option_map (λ rest. value ∷ rest) values

-- the names that the items of a list are, where each is one
abbrev pub names_in : Items → Option (List (List ℕ))
names_in no_items = Some []
names_in (item value rest) = with_first (name_in value) (names_in rest)

-- the names of a value that is a list of names
abbrev pub names_of_value : Data → Option (List (List ℕ))
names_of_value value = option_and_then names_in (as_array value)

-- the names of the list at a key
abbrev pub names_at : List ℕ → Members → Option (List (List ℕ))
names_at key table = option_and_then names_in (option_and_then as_array (get_member key table))

-- the value at a key of a table that may not be there
abbrev pub value_in : List ℕ → Option Members → Option Data
value_in key None = None
value_in key (Some table) = get_member key table

-- the table at a key
abbrev pub table_at : List ℕ → Members → Option Members
table_at key table = option_and_then as_table (get_member key table)

-- whether a table has a key
abbrev pub has_key : List ℕ → Members → Bool
has_key key table = is_some (get_member key table)

-- whether a word stands among these
abbrev pub has_word : List (List ℕ) → List ℕ → Bool
has_word [] word = false
has_word (other ∷ words) word = bytes_eq other word || has_word words word

-- whether each key of a table is one of these words
abbrev pub has_only : List (List ℕ) → Members → Bool
has_only words no_members = true
has_only words (member key value rest) = has_word words key && has_only words rest
