-- What is looked up once, before flip-flops are judged.
use Rattle.std.specs.Prelude.{ℕ, ◌≡◌, ◌==◌, ◌<◌, ◌≤◌, Bool, true, false, ◌&&◌, List, length, map, Option, None, Some, is_some, option_map, option_and_then, position, slice_index_or}
use Rattle.std.specs.List.{list_any}
use Rattle.dft_base.specs.Lexing.{Text}
use Rattle.dft_cells.specs.declared.cell.Cell.{Cell}
use Rattle.dft_netlist.specs.declared.ids.NetId.{NetId}
use Rattle.dft_netlist.specs.declared.instance.Signal.{Signal}
use Rattle.dft_netlist.specs.declared.instance.Instance.{Instance}
use Rattle.dft_netlist.specs.declared.limits.TheConstants.{MAX_INSTANCES}
use Rattle.dft_behavior.specs.declared.root.ClockRoot.{ClockRoot}
use Rattle.dft_behavior.specs.declared.root.Root.{Root}
use Rattle.dft_behavior.specs.declared.root.Root.TheVariants.{Port, Constant, Other}
use Rattle.dft_netlist.specs.Netlist.{Netlist}
use Rattle.dft_config.specs.Config.{Config}
use Rattle.dft_rules.specs.declared.findings.Findings.{Findings}
use Rattle.dft_rules.specs.Refusals.{is_data_of}
use Rattle.dft_netlist.specs.Connections.{input_net}
use Rattle.dft_rules.specs.Rules.{is_kept}
use Rattle.dft_behavior.specs.declared.root.NetRoot.{NetRoot}
use Rattle.dft_behavior.specs.Roots.{clock_shown}
use Rattle.dft_behavior.specs.RootTables.{AreRoots, root_at, root_in, clock_in}

-- these are the nets that the names stand for
abbrev pub AreNets : Netlist → (names : List Text) → List NetId → Type 0
AreNets n names nets = map (input_net n) names ≡ map Some nets

-- the place of a root among nets
abbrev pub place_among : List NetId → Root → Option ℕ
place_among nets (Port net) = position (λ other. other.0 == net.0) nets
place_among nets (Constant bit) = None
place_among nets Other = None

-- the place of a shown clock's port among nets, and whether the clock is inverted
abbrev pub clock_place : List NetId → Option ClockRoot → Option (ℕ × Bool)
clock_place nets None = None
clock_place nets (Some clock) = option_map (λ place. (place, clock.inverted)) (place_among nets (Port clock.port))

-- there is a mark for each instance, and those with these names are marked
pub record AreKept (n : Netlist) (names : List Text) (marks : List Bool) : Type 0 where
  pub count : length marks ≡ length n.instances
  pub each : (i : ℕ) → i < length n.instances → slice_index_or marks i false ≡ is_kept n names i

-- what is at hand fits the design
pub record IsFor (n : Netlist) (f : Findings) : Type 0 where
  pub domains : length f.domains.items ≤ 16
  pub resets : length f.resets.items ≤ 16
  pub kept : length f.kept.items ≡ length n.instances
  pub few : length n.instances ≤ MAX_INSTANCES

-- it is what the names of the configuration stand for, and the roots of the nets
pub record AreFindings (n : Netlist) (config : Config) (f : Findings) : Type 0 where
  pub domains : AreNets n config.domains f.domains.items
  pub resets : AreNets n config.resets f.resets.items
  pub kept : AreKept n config.keep f.kept.items
  pub roots : AreRoots n f.roots.items

-- ---- what the rules ask, by what is at hand

-- the clock at a clock pin: the place of its domain, and whether it is inverted
abbrev pub clock_at : List NetId → List NetRoot → Option Signal → Option (ℕ × Bool)
clock_at domains roots pin = option_and_then (λ s. clock_place domains (clock_in roots s)) pin

-- whether a set or reset with this root is held
abbrev pub is_held_at : List NetId → Root → Bool
is_held_at resets (Port net) = is_some (place_among resets (Port net))
is_held_at resets (Constant bit) = bit
is_held_at resets Other = false

abbrev pub is_signal_held : List NetId → List NetRoot → Option Signal → Bool
is_signal_held resets roots None = true
is_signal_held resets roots (Some signal) = is_held_at resets (root_in roots signal)

-- the reset and the set
abbrev pub are_held_by : List NetId → List NetRoot → (reset preset : Option Signal) → Bool
are_held_by resets roots reset preset = is_signal_held resets roots reset && is_signal_held resets roots preset

-- there is a mark for each net, and those that these instances take as data are marked
pub record AreUsed (library : List Cell) (instances : List Instance) (nets : ℕ) (marks : List Bool) : Type 0 where
  pub count : length marks ≡ nets
  pub each : (net : ℕ) → net < nets → slice_index_or marks net false ≡ list_any (is_data_of library net) instances

-- whether a net that is marked shows the clock of one of these nets or its inverse
abbrev pub is_marked_clock : List NetId → List NetRoot → List Bool → (net : ℕ) → Bool
is_marked_clock domains roots used net = is_some (clock_place domains (clock_shown (root_at roots net))) && slice_index_or used net false
