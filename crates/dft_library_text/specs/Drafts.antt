-- The cell that a name and its value in a library file stand for, with its scan cell still by name.
use Rattle.std.specs.Prelude.{codes, ℕ, ◌==◌, ◌+◌, ◌^◌, Bool, true, false, not, List, [], ◌∷◌, ◌++◌, map, length, Option, Some, None, option_map, Result, Ok, if◌then◌else◌}
use Rattle.dft_base.specs.Words.{is_reserved}
use Rattle.toml.specs.Data.{Data, Members, as_table}
use Rattle.dft_base.specs.Names.{name_of}
use Rattle.dft_toml.specs.Values.{name_at, names_at, text_at, has_key, has_only, with_first}
use Rattle.dft_cells.specs.declared.kind.Kind.{Kind}
use Rattle.dft_cells.specs.declared.kind.Kind.TheVariants as kind
use Rattle.dft_cells.specs.declared.kind.Gate.TheVariants.{Table}
use Rattle.dft_cells.specs.declared.kind.Role.{Role}
use Rattle.dft_library_text.specs.declared.keys.PinKey.{PinKey}
use Rattle.dft_library_text.specs.declared.keys.PinKey.TheVariants as key
use Rattle.dft_cells.specs.declared.cell.Pin.{Pin}
use Rattle.dft_library_text.specs.declared.draft.Draft.{Draft}
use Rattle.dft_library_text.specs.declared.refusal.Flaw.{Flaw}
use Rattle.dft_library_text.specs.declared.refusal.Flaw.TheVariants as flaw
use Rattle.dft_cells.specs.Gates.{number_of}
pub use Rattle.dft_cells.specs.Pins.{is_input, kind_takes_inputs}
use Rattle.dft_cells.specs.WellFormed.{all_differ, pin_name}
use Rattle.dft_library_text.specs.Keys.{role_of_key, pin_keys, keys_of, kind_named}
use Rattle.dft_library_text.specs.Refusals.{needed, checked, after}

-- the one name at a key, as a list
abbrev pub one_name : List ℕ → Members → Option (List (List ℕ))
one_name text table = option_map (λ name. name ∷ []) (name_at text table)

-- the names that stand at a key: a list for inputs and outputs, one name for each other; the inverted output may be left out
abbrev pub names_of_key : PinKey → Members → Option (List (List ℕ))
names_of_key key.Inputs table = names_at (codes "inputs") table
names_of_key key.Outputs table = names_at (codes "outputs") table
names_of_key key.Inverted table = if has_key (codes "inverted") table then one_name (codes "inverted") table else Some []
names_of_key key.Output table = one_name (codes "output") table
names_of_key key.Clock table = one_name (codes "clock") table
names_of_key key.Din table = one_name (codes "din") table
names_of_key key.Reset table = one_name (codes "reset") table
names_of_key key.Set table = one_name (codes "set") table
names_of_key key.ScanIn table = one_name (codes "scan_in") table
names_of_key key.ScanEnable table = one_name (codes "scan_enable") table

-- a pin with a role and a name
abbrev pub pin_with : Role → List ℕ → Pin
pin_with role name = record { name = name; role = role }

-- the pins of some names before others, where both are there
abbrev pub before_pins : Role → Option (List (List ℕ)) → Option (List Pin) → Option (List Pin)
before_pins role None pins = None
before_pins role (Some names) pins = option_map (λ more. map (pin_with role) names ++ more) pins

-- the pins that the keys of a table name, in the order of the keys
abbrev pub pins_of : List PinKey → Members → Option (List Pin)
pins_of [] table = Some []
pins_of (k ∷ keys) table = before_pins (role_of_key k) (names_of_key k table) (pins_of keys table)

-- the name of the scan cell, where the table has one
abbrev pub scan_name : Members → Result (Option (List ℕ)) Flaw
scan_name table =
    if has_key (codes "scan") table then needed flaw.Keys (name_at (codes "scan") table) (λ name. Ok (Some name)) else Ok None

-- whether a kind is a table
abbrev pub is_table : Kind → Bool
is_table (kind.Gate (Table number)) = true
is_table _ = false

-- the text of a table's output bits; a kind that is no table has none
abbrev pub rows_of : Kind → Members → Result (List ℕ) Flaw
rows_of kind table =
    if is_table kind then needed flaw.Keys (text_at (codes "table") table) (λ rows. Ok rows) else Ok []

-- how many of the pins are inputs
abbrev pub input_count : List Pin → ℕ
input_count [] = 0
input_count (pin ∷ pins) = if is_input pin.role then 1 + input_count pins else input_count pins

-- the bits that characters 0 and 1 write, where each is one of these
abbrev pub bit_of_row : ℕ → Option Bool
bit_of_row row = if row == 48 then Some false else (if row == 49 then Some true else None)

abbrev pub bits_of_rows : List ℕ → Option (List Bool)
bits_of_rows [] = Some []
bits_of_rows (row ∷ rows) = with_first (bit_of_row row) (bits_of_rows rows)

-- the number with these bits, the lowest first
abbrev pub number_of_rows : List ℕ → Option ℕ
number_of_rows rows = option_map number_of (bits_of_rows rows)

-- a table with a row for each assignment of bits to the inputs
abbrev pub table_kind : ℕ → List ℕ → Result Kind Flaw
table_kind inputs rows =
    checked (length rows == 2 ^ inputs) flaw.Pins (needed flaw.Pins (number_of_rows rows) (λ number. Ok (kind.Gate (Table number))))

-- the kind with its number, where it is a table
abbrev pub with_number : Kind → ℕ → List ℕ → Result Kind Flaw
with_number (kind.Gate (Table number)) inputs rows = table_kind inputs rows
with_number kind inputs rows = Ok kind

-- the kind, where the number of inputs, the names of the pins and the rows fit it
abbrev pub fitted : Kind → List Pin → List ℕ → Result Kind Flaw
fitted kind pins rows =
    checked (kind_takes_inputs kind (input_count pins)) flaw.Pins
    (checked (all_differ (map pin_name pins)) flaw.Pins
    (with_number kind (input_count pins) rows))

-- the draft of a cell of this kind. First come the keys and their values, then what fits, then the cell's name.
unfoldable pub draft_of_kind : List ℕ → Kind → Members → Result Draft Flaw
draft_of_kind name kind table =
    checked (has_only (keys_of kind) table) flaw.Keys
    (needed flaw.Keys (pins_of (pin_keys kind) table) (λ pins.
    after (scan_name table) (λ scan.
    after (rows_of kind table) (λ rows.
    after (fitted kind pins rows) (λ fitting.
    checked (not (is_reserved name)) flaw.Reserved
    (Ok (record { name = name; kind = fitting; pins = pins; scan = scan })))))))

-- the draft of a cell: its name and the word for its kind come first
unfoldable pub draft_of : List ℕ → Data → Result Draft Flaw
draft_of name value =
    needed flaw.Keys (name_of name) (λ name.
    needed flaw.Keys (as_table value) (λ table.
    needed flaw.Keys (text_at (codes "kind") table) (λ word.
    needed flaw.Kind (kind_named word) (λ kind.
    draft_of_kind name kind table))))
