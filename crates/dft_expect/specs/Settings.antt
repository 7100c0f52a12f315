-- What each net is set to before a capture settles.
use Rattle.std.specs.Prelude.{ℕ, Bool, true, false, ◌≡◌, ◌<◌, ◌⊎◌, List, length, Option, None, Some, slice_get, slice_index_or}
use Rattle.std.specs.List.{list_any}
use Rattle.dft_base.specs.declared.tri.Tri.{Tri}
use Rattle.dft_base.specs.declared.tri.Tri.TheVariants.{Zero, One, Unknown}
use Rattle.dft_base.specs.Lexing.{Text}
use Rattle.dft_base.specs.Solutions.{bit_at}
use Rattle.dft_base.specs.Tri.{known}
use Rattle.dft_netlist.specs.declared.ids.InstanceId.{InstanceId}
use Rattle.dft_netlist.specs.declared.net_driver.NetDriver.{NetDriver}
use Rattle.dft_netlist.specs.declared.net_driver.NetDriver.TheVariants as by
use Rattle.dft_netlist.specs.Netlist.{Netlist}
use Rattle.dft_netlist.specs.Connections.{input_net}
use Rattle.dft_netlist.specs.Drivers.{driver}
use Rattle.dft_netlist.specs.NetDrivers.{driver_at, is_inverted, roles_at}
use Rattle.dft_behavior.specs.Settled.{inverse}
use Rattle.dft_rules.specs.Rules.{is_net}
use Rattle.dft_expect.specs.declared.settings.Setting.{Setting}
use Rattle.dft_expect.specs.declared.settings.Setting.TheVariants as setting
use Rattle.dft_expect.specs.Loaded.{or_unknown}
use Rattle.dft_expect.specs.Captures.{port_value}

-- for each net whether one of these names stands for it, as the bit of an input port
pub record AreFlags (n : Netlist) (names : List Text) (flags : List Bool) : Type 0 where
  pub nets : length flags ≡ length n.nets
  pub each : (net : ℕ) → bit_at flags net ≡ list_any (λ name. is_net net (input_net n name)) names

-- ---- which setting a net has

abbrev pub port_setting : (clock reset : Bool) → Setting
port_setting true reset = setting.Clock
port_setting false true = setting.Reset
port_setting false false = setting.Input

-- the cell stands at a number in the list of all cells, or it is none of them
abbrev pub IsCellSetting : List InstanceId → (instance : ℕ) → (inverted : Bool) → Setting → Type 0
IsCellSetting cells i inverted s =
    ((number : ℕ) × (s ≡ setting.Cell number inverted) × (slice_get cells number ≡ Some (record { 0 = i })))
    ⊎ ((s ≡ setting.Unknown) × ((number : ℕ) → slice_get cells number ≡ Some (record { 0 = i }) → ⊥))

-- by what drives a net
abbrev pub IsSetBy : Netlist → (clocks resets : List Bool) → List InstanceId → (net : ℕ) → NetDriver → Setting → Type 0
IsSetBy n clocks resets cells net by.Input s = s ≡ port_setting (bit_at clocks net) (bit_at resets net)
IsSetBy n clocks resets cells net (by.Pin instance pin) s = IsCellSetting cells instance.0 (is_inverted (slice_get (roles_at n instance.0) pin)) s
IsSetBy n clocks resets cells net (by.Join number) s = s ≡ setting.Unknown
IsSetBy n clocks resets cells net by.Nothing s = s ≡ setting.Unknown

pub record IsSetting (n : Netlist) (clocks resets : List Bool) (cells : List InstanceId) (net : ℕ) (s : Setting) : Type 0 where
  pub drives : NetDriver
  pub is : driver n net ≡ driver_at n drives
  pub set : IsSetBy n clocks resets cells net drives s

-- past the end nothing is known
abbrev pub setting_at : List Setting → (net : ℕ) → Setting
setting_at settings net = slice_index_or settings net setting.Unknown

pub record AreSettings (n : Netlist) (clocks resets : List Bool) (cells : List InstanceId) (settings : List Setting) : Type 0 where
  pub nets : length settings ≡ length n.nets
  pub each : (net : ℕ) → net < length n.nets → IsSetting n clocks resets cells net (setting_at settings net)

-- ---- what a setting is in a pattern

-- a value, or its inverse
abbrev pub turned : (inverted : Bool) → Tri → Tri
turned true value = inverse value
turned false value = value

-- the value of a cell, by its loaded bit
abbrev pub cell_value : (inverted : Bool) → Option Bool → Tri
cell_value inverted bit = turned inverted (or_unknown bit)

-- the value that is set, by the bit that the pattern gives the net's port, and the loaded bits
abbrev pub value_by : Setting → Option Bool → (loaded : List Bool) → Tri
value_by setting.Input given loaded = port_value false given
value_by setting.Reset given loaded = One
value_by setting.Clock given loaded = Zero
value_by (setting.Cell number inverted) given loaded = cell_value inverted (slice_get loaded number)
value_by setting.Unknown given loaded = Unknown

-- whether a pattern may give the net a bit
abbrev pub is_input : Setting → Bool
is_input setting.Input = true
is_input setting.Reset = false
is_input setting.Clock = false
is_input (setting.Cell number inverted) = false
is_input setting.Unknown = false

-- the bit that a pattern gives a port, where it may have one, and else what was set before
abbrev pub port_or : (may_have : Bool) → Option Bool → (before : Tri) → Tri
port_or true (Some bit) before = known bit
port_or true None before = before
port_or false given before = before

-- ---- what a setting is once the rising cells have moved

-- a cell has its value among these, and all else is as before
abbrev pub moved_by : Setting → (cells : List Tri) → (before : Tri) → Tri
moved_by (setting.Cell number inverted) cells before = turned inverted (slice_index_or cells number Unknown)
moved_by setting.Input cells before = before
moved_by setting.Reset cells before = before
moved_by setting.Clock cells before = before
moved_by setting.Unknown cells before = before
