-- The text of a made configuration (TOML 1.0).
use Rattle.std.specs.Prelude.{ℕ, Bool, true, false, ◌==◌, ◌||◌, List, [], ◌∷◌, ◌++◌, codes, decimal, map, if◌then◌else◌}
use Rattle.dft_base.specs.Lexing.{Text}
use Rattle.dft_config.specs.declared.config.FillRule.TheVariants.{Seed}
use Rattle.dft_config.specs.declared.config.Tap.{Tap}
use Rattle.dft_config.specs.declared.config.Injector.{Injector}
use Rattle.dft_config.specs.declared.config.RingConfig.{RingConfig}
use Rattle.dft_config.specs.declared.config.CompactorConfig.{CompactorConfig}
use Rattle.dft_config.specs.declared.config.PortNames.{PortNames}
use Rattle.dft_config.specs.Config.{Config}
use Rattle.dft_config_out.specs.declared.made.Made.{Made}

-- ---- lists

-- what stands before an item
abbrev pub separator : (is_first : Bool) → Text
separator is_first = if is_first then [] else codes ", "

-- the items of a list, and the bracket behind them
abbrev pub items_text : (is_first : Bool) → List Text → Text
items_text is_first [] = codes "]"
items_text is_first (item ∷ items) = separator is_first ++ (item ++ items_text false items)

-- a list
abbrev pub list_text : List Text → Text
list_text items = codes "[" ++ items_text true items

-- a list of numbers, and a list of such lists
abbrev pub numbers_text : List ℕ → Text
numbers_text numbers = list_text (map decimal numbers)

abbrev pub lists_text : List (List ℕ) → Text
lists_text lists = list_text (map numbers_text lists)

-- a tap, and an injector
abbrev pub tap_text : Tap → Text
tap_text tap = numbers_text (tap.from ∷ tap.to ∷ [])

abbrev pub injector_text : Injector → Text
injector_text injector = numbers_text (injector.channel ∷ injector.stage ∷ [])

abbrev pub taps_text : List Tap → Text
taps_text taps = list_text (map tap_text taps)

abbrev pub injectors_text : List Injector → Text
injectors_text injectors = list_text (map injector_text injectors)

-- ---- names

-- whether a backslash stands before a byte: it is a quote or a backslash
abbrev pub is_escaped : (byte : ℕ) → Bool
is_escaped byte = (byte == 34) || (byte == 92)

abbrev pub byte_text : (byte : ℕ) → Text
byte_text byte = if is_escaped byte then 92 ∷ byte ∷ [] else byte ∷ []

abbrev pub bytes_text : Text → Text
bytes_text [] = []
bytes_text (byte ∷ bytes) = byte_text byte ++ bytes_text bytes

-- a name in quotes
abbrev pub name_text : Text → Text
name_text name = codes "\"" ++ (bytes_text name ++ codes "\"")

abbrev pub names_text : List Text → Text
names_text names = list_text (map name_text names)

-- ---- the parts

-- a line that tells what the configuration is for
unfoldable pub head_text : (cells chains : ℕ) → Text
head_text cells chains = codes "# Made by dft configure: " ++ (decimal cells ++ (codes " flip-flops in " ++ (decimal chains ++ codes " chains.\n")))

-- a key, with the number or the names behind it
abbrev pub number_line : (key : Text) (number : ℕ) → Text
number_line key number = key ++ decimal number

abbrev pub names_line : (key : Text) (names : List Text) → Text
names_line key names = key ++ names_text names

-- the lines above the tables
unfoldable pub clocking_text : Made → Text
clocking_text made = names_line (codes "version = 1\ndomains = ") made.domains ++ names_line (codes "\nresets = ") made.resets

unfoldable pub loading_text : Made → Text
loading_text made = number_line (codes "\nchains = ") made.chains ++ (number_line (codes "\nwarm = ") made.warm ++ codes "\nwindow = 16\nfill = \"seed\"\nseed = 1\n")

-- the tables of the ring and of the compactor
unfoldable pub sizes_text : RingConfig → Text
sizes_text ring = number_line (codes "\n[ring]\nstages = ") ring.stages ++ number_line (codes "\nchannels = ") ring.channels

unfoldable pub wires_text : RingConfig → Text
wires_text ring = codes "\ntaps = " ++ (taps_text ring.taps ++ (codes "\ninjectors = " ++ injectors_text ring.injectors))

unfoldable pub phase_text : RingConfig → Text
phase_text ring = codes "\nphase = " ++ (lists_text ring.phase ++ codes "\n")

unfoldable pub groups_text : CompactorConfig → Text
groups_text compactor = codes "\n[compactor]\ngroups = " ++ lists_text compactor.groups

unfoldable pub compactor_text : CompactorConfig → Text
compactor_text compactor = groups_text compactor ++ (number_line (codes "\nmask_inputs = ") compactor.mask_inputs ++ codes "\n")

-- the line of a port's name
abbrev pub port_line : (key name : Text) → Text
port_line key name = key ++ (name_text name ++ codes "\n")

-- the table of the names of ports
unfoldable pub steering_text : PortNames → Text
steering_text names =
    port_line (codes "\n[names]\nscan_enable = ") names.scan_enable ++ (port_line (codes "edt_clock = ") names.edt_clock ++ port_line (codes "edt_update = ") names.edt_update)

unfoldable pub carrying_text : PortNames → Text
carrying_text names =
    port_line (codes "channel = ") names.channel ++ (port_line (codes "mask = ") names.mask ++ port_line (codes "output = ") names.output)

unfoldable pub scanning_text : PortNames → Text
scanning_text names = port_line (codes "scan_in = ") names.scan_in ++ port_line (codes "scan_out = ") names.scan_out

-- ---- the whole

unfoldable pub front_text : (cells : ℕ) → Made → Text
front_text cells made = head_text cells made.chains ++ (clocking_text made ++ loading_text made)

unfoldable pub ring_text : RingConfig → Text
ring_text ring = sizes_text ring ++ (wires_text ring ++ phase_text ring)

unfoldable pub ports_text : PortNames → Text
ports_text names = steering_text names ++ (carrying_text names ++ scanning_text names)

-- The text of a made configuration for so many flip-flops.
unfoldable pub made_text : (cells : ℕ) → Made → Text
made_text cells made = front_text cells made ++ (ring_text made.ring ++ (compactor_text made.compactor ++ ports_text made.names))

-- the configuration that it stands for
abbrev pub config_of : Made → Config
config_of made = record {
  domains = made.domains;
  resets = made.resets;
  keep = [];
  chains = made.chains;
  warm = made.warm;
  window = 16;
  fill = Seed 1;
  always_masked = [];
  ring = made.ring;
  compactor = made.compactor;
  names = made.names;
}
