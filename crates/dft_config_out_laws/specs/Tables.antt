-- The table that the text of a made configuration stands for, and what is asked of one.
use Rattle.std.specs.Prelude.{ℕ, ◌≡◌, pos, List, [], ◌∷◌, codes, Ok}
use Rattle.std.specs.List.{All}
use Rattle.dft_base.specs.Name.{IsName}
use Rattle.toml.specs.Data.{Data, Items, Members, array, integer, item, member, no_items, no_members, string, table}
use Rattle.dft_config.specs.declared.config.Tap.{Tap}
use Rattle.dft_config.specs.declared.config.Injector.{Injector}
use Rattle.dft_config.specs.declared.config.RingConfig.{RingConfig}
use Rattle.dft_config.specs.declared.config.CompactorConfig.{CompactorConfig}
use Rattle.dft_config.specs.declared.config.PortNames.{PortNames}
use Rattle.dft_config.specs.Range.{IsInRange, names_of}
use Rattle.dft_config_text.specs.Reading.{reading}
use Rattle.dft_config_out.specs.declared.made.Made.{Made}
use Rattle.dft_config_out.specs.Written.{config_of}

-- ---- values

-- the items that a list gives
abbrev pub items_of : {X : Type 0} → (X → Data) → List X → Items
items_of f [] = no_items
items_of f (x ∷ xs) = item (f x) (items_of f xs)

abbrev pub number_data : ℕ → Data
number_data n = integer (pos n)

abbrev pub numbers_data : List ℕ → Data
numbers_data numbers = array (items_of number_data numbers)

abbrev pub lists_data : List (List ℕ) → Data
lists_data lists = array (items_of numbers_data lists)

abbrev pub names_data : List (List ℕ) → Data
names_data names = array (items_of string names)

-- a tap and an injector as their numbers
abbrev pub tap_numbers : Tap → List ℕ
tap_numbers tap = tap.from ∷ tap.to ∷ []

abbrev pub injector_numbers : Injector → List ℕ
injector_numbers injector = injector.channel ∷ injector.stage ∷ []

abbrev pub taps_data : List Tap → Data
taps_data taps = array (items_of (λ tap. numbers_data (tap_numbers tap)) taps)

abbrev pub injectors_data : List Injector → Data
injectors_data injectors = array (items_of (λ injector. numbers_data (injector_numbers injector)) injectors)

-- ---- tables, by their keys in byte order

abbrev pub ring_table : RingConfig → Members
ring_table ring =
    member (codes "channels") (number_data ring.channels) (member (codes "injectors") (injectors_data ring.injectors) (member (codes "phase") (lists_data ring.phase)
    (member (codes "stages") (number_data ring.stages) (member (codes "taps") (taps_data ring.taps) no_members))))

abbrev pub compactor_table : CompactorConfig → Members
compactor_table compactor = member (codes "groups") (lists_data compactor.groups) (member (codes "mask_inputs") (number_data compactor.mask_inputs) no_members)

abbrev pub names_table : PortNames → Members
names_table names =
    member (codes "channel") (string names.channel) (member (codes "edt_clock") (string names.edt_clock) (member (codes "edt_update") (string names.edt_update) (member (codes "mask") (string names.mask)
    (member (codes "output") (string names.output) (member (codes "scan_enable") (string names.scan_enable) (member (codes "scan_in") (string names.scan_in) (member (codes "scan_out") (string names.scan_out) no_members)))))))

abbrev pub table_of : Made → Members
table_of made =
    member (codes "chains") (number_data made.chains) (member (codes "compactor") (table (compactor_table made.compactor)) (member (codes "domains") (names_data made.domains) (member (codes "fill") (string (codes "seed"))
    (member (codes "names") (table (names_table made.names)) (member (codes "resets") (names_data made.resets) (member (codes "ring") (table (ring_table made.ring)) (member (codes "seed") (number_data 1) (member (codes "version") (number_data 1)
    (member (codes "warm") (number_data made.warm) (member (codes "window") (number_data 16) no_members))))))))))

-- ---- what is asked

-- the configuration is in range, and its names are names
pub record IsWritable (made : Made) : Type 0 where
  pub range : IsInRange (config_of made)
  pub clocks : All IsName made.domains
  pub resets : All IsName made.resets
  pub names : All IsName (names_of made.names)

-- The table gives the made configuration: no check of its keys fails.
abbrev pub TableIsRead : Type 0
TableIsRead = (made : Made) → IsWritable made → reading (table_of made) ≡ Ok (config_of made)
