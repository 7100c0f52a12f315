-- Which ports of a netlist are the scan clocks and the resets of its made configuration. All is said of the netlist alone.
use Rattle.std.specs.Prelude.{ℕ, ◌==◌, Bool, true, false, not, ◌&&◌, ◌||◌, List, ◌++◌, map, length, filter, count_by, nat_lt, Option, None, Some, is_some, option_map, option_and_then, if◌then◌else◌}
use Rattle.std.specs.List.{list_any, range_with_len}
use Rattle.dft_cells.specs.declared.kind.Role.{Role}
use Rattle.dft_cells.specs.declared.kind.Role.TheVariants as role
use Rattle.dft_netlist.specs.Netlist.{Netlist}
use Rattle.dft_netlist.specs.Drivers.{Source, Net, pins_of, kind_at}
use Rattle.dft_netlist.specs.Connections.{pin_of}
use Rattle.dft_behavior.specs.Traces.{Root, Port, Constant, Other, root_of}
use Rattle.dft_behavior.specs.ClockRoots.{ClockRoot, clock_root_of}
use Rattle.dft_rules.specs.Refusals.{is_data_of}
use Rattle.dft_rules.specs.Rules.{may_be_scanned, scan_cell_of}

-- ---- flip-flops that a scan clock of their own would scan

-- whether a flip-flop is of a kind that is judged and its cell names a scan cell
abbrev pub is_fit : Netlist → (instance : ℕ) → Bool
is_fit n i = may_be_scanned (kind_at n i) && is_some (scan_cell_of n i)

-- whether there is a port, and it is this one
abbrev pub is_port : (port : ℕ) → Option ℕ → Bool
is_port port None = false
is_port port (Some other) = other == port

-- the port whose clock a source shows, or its inverse
abbrev pub port_of_clock : Option ClockRoot → Option ℕ
port_of_clock clock = option_map (λ root. root.port) clock

abbrev pub port_shown : Netlist → Source → Option ℕ
port_shown n source = port_of_clock (clock_root_of n source)

-- whether a net shows the clock of a port or its inverse, and some instance takes it as data
abbrev pub is_tapped : Netlist → (port net : ℕ) → Bool
is_tapped n port net = is_port port (port_shown n (Net net)) && list_any (is_data_of n.library net) n.instances

-- whether a net of the netlist is clean: no instance takes its clock as data
unfoldable pub is_clean : Netlist → (port : ℕ) → Bool
is_clean n port = nat_lt port (length n.nets) && not (list_any (is_tapped n port) (range_with_len 0 (length n.nets)))

-- a port, where it is clean
abbrev pub clean_only : Netlist → Option ℕ → Option ℕ
clean_only n None = None
clean_only n (Some port) = if is_clean n port then Some port else None

-- the clock of an instance, if it is a clean port's
abbrev pub clean_clock : Netlist → (instance : ℕ) → Option ℕ
clean_clock n i = clean_only n (option_and_then (port_shown n) (pin_of role.Clock i (pins_of n i)))

-- the root of the reset of an instance or of its set, if it has one
abbrev pub hold_root : Netlist → (hold : Role) → (instance : ℕ) → Option Root
hold_root n hold i = option_map (root_of n) (pin_of hold i (pins_of n i))

-- whether a set or reset with this root can be kept at 1: at an input port, or at constant 1
abbrev pub can_hold : Option Root → Bool
can_hold None = true
can_hold (Some (Port net)) = true
can_hold (Some (Constant bit)) = bit
can_hold (Some Other) = false

-- whether the reset of an instance and its set can, as far as it has them
abbrev pub can_hold_both : Netlist → (instance : ℕ) → Bool
can_hold_both n i = can_hold (hold_root n role.Reset i) && can_hold (hold_root n role.Preset i)

-- the port at which it is kept
abbrev pub port_of_root : Option Root → Option ℕ
port_of_root None = None
port_of_root (Some (Port net)) = Some net
port_of_root (Some (Constant bit)) = None
port_of_root (Some Other) = None

-- A flip-flop is open where it is fit, its clock is a clean port's, and its reset and its set, as far as it has them, can be kept at
-- 1. This is its clock then.
unfoldable pub open_clock : Netlist → (instance : ℕ) → Option ℕ
open_clock n i = if is_fit n i && can_hold_both n i then clean_clock n i else None

-- the clocks of all instances
abbrev pub open_clocks : Netlist → List (Option ℕ)
open_clocks n = map (open_clock n) (range_with_len 0 (length n.instances))

-- ---- the most used ports

-- how many of these are this port
abbrev pub uses : List (Option ℕ) → (port : ℕ) → ℕ
uses ports port = count_by (is_port port) ports

-- whether a port comes before another: it is used more, or as much and its number is lower
abbrev pub comes_before : (uses : ℕ → ℕ) → (port other : ℕ) → Bool
comes_before uses port other = nat_lt (uses other) (uses port) || ((uses port == uses other) && nat_lt port other)

-- how many of so many nets come before a port
abbrev pub rank : (uses : ℕ → ℕ) → (nets port : ℕ) → ℕ
rank uses nets port = count_by (λ other. comes_before uses other port) (range_with_len 0 nets)

-- whether a port is used, and fewer than 16 come before it
abbrev pub is_most_used : (uses : ℕ → ℕ) → (nets port : ℕ) → Bool
is_most_used uses nets port = nat_lt 0 (uses port) && nat_lt (rank uses nets port) 16

-- The most used ports, at most 16, in the order of their numbers.
unfoldable pub most_used : (uses : ℕ → ℕ) → (nets : ℕ) → List ℕ
most_used uses nets = filter (is_most_used uses nets) (range_with_len 0 nets)

-- ---- domains and resets

-- the scan clocks: the most used clocks of open flip-flops
unfoldable pub domains_of : Netlist → List ℕ
domains_of n = most_used (uses (open_clocks n)) (length n.nets)

-- whether there is a port, and it is among these
abbrev pub is_among : (ports : List ℕ) → Option ℕ → Bool
is_among ports None = false
is_among ports (Some port) = list_any (λ other. other == port) ports

-- the port of the reset, or of the set, of an open flip-flop whose clock is among these
abbrev pub open_reset : Netlist → (domains : List ℕ) → (hold : Role) → (instance : ℕ) → Option ℕ
open_reset n domains hold i = if is_among domains (open_clock n i) then port_of_root (hold_root n hold i) else None

abbrev pub resets_by : Netlist → (domains : List ℕ) → (hold : Role) → List (Option ℕ)
resets_by n domains hold = map (open_reset n domains hold) (range_with_len 0 (length n.instances))

-- those of all resets, then those of all sets
unfoldable pub open_resets : Netlist → (domains : List ℕ) → List (Option ℕ)
open_resets n domains = resets_by n domains role.Reset ++ resets_by n domains role.Preset

-- the resets: the most used ones of the open flip-flops in these domains
unfoldable pub resets_of : Netlist → (domains : List ℕ) → List ℕ
resets_of n domains = most_used (uses (open_resets n domains)) (length n.nets)
