-- The scan rules: which flip-flops are scanned, in which domain and at which edge of its clock. A flip-flop is judged by the first rule that fails
-- (Bushnell and Agrawal, Essentials of Electronic Testing).
use Rattle.std.specs.Prelude.{ℕ, ◌==◌, Bool, true, false, not, ◌&&◌, List, [], ◌∷◌, map, length, Option, None, Some, is_some, is_none, option_and_then, option_map, position, slice_get, find, if◌then◌else◌}
use Rattle.std.specs.List.{list_any, range_with_len}
use Rattle.dft_base.specs.Lexing.{Text}
use Rattle.dft_cells.specs.declared.kind.Kind.{Kind}
use Rattle.dft_cells.specs.declared.kind.Kind.TheVariants as kind
use Rattle.dft_cells.specs.declared.kind.Role.TheVariants as role
use Rattle.dft_cells.specs.declared.cell.Cell.{Cell}
use Rattle.dft_cells.specs.declared.cell.CellId.{CellId}
use Rattle.dft_netlist.specs.declared.ids.NetId.{NetId}
use Rattle.dft_netlist.specs.declared.ids.InstanceId.{InstanceId}
use Rattle.dft_netlist.specs.declared.instance.CellRef.{CellRef}
use Rattle.dft_netlist.specs.declared.instance.CellRef.TheVariants as cell_ref
use Rattle.dft_netlist.specs.Netlist.{Netlist}
use Rattle.dft_netlist.specs.Drivers.{Source, pins_of, kind_at}
use Rattle.dft_netlist.specs.Connections.{input_net, pin_of}
use Rattle.dft_netlist.specs.Names.{find_instance}
use Rattle.dft_behavior.specs.Traces.{Root, Port, Constant, Other, root_of}
use Rattle.dft_behavior.specs.ClockRoots.{ClockRoot, clock_root_of}
use Rattle.dft_config.specs.Config.{Config}
use Rattle.dft_base.specs.declared.rule.Rule.{Rule}
use Rattle.dft_base.specs.declared.rule.Rule.TheVariants.{S1, S2, S3, S4}
use Rattle.dft_rules.specs.declared.judged.Judged.{Judged}
use Rattle.dft_rules.specs.declared.judged.Judged.TheVariants.{Scanned, Unscanned}

-- ---- configured names

-- the flip-flops that are judged
abbrev pub may_be_scanned : Kind → Bool
may_be_scanned (kind.Flop flop) = not flop.scan
may_be_scanned (kind.Gate gate) = false
may_be_scanned kind.Lockup = false
may_be_scanned kind.Opaque = false

-- the flip-flop with this name
abbrev pub flip_flop_named : Netlist → (name : Text) → Option InstanceId
flip_flop_named n name = option_and_then (λ instance. if may_be_scanned (kind_at n instance.0) then Some instance else None) (find_instance n name)

-- whether a name stands for this net, or for this instance
abbrev pub is_net : (net : ℕ) → Option NetId → Bool
is_net net None = false
is_net net (Some other) = other.0 == net

abbrev pub is_instance : (instance : ℕ) → Option InstanceId → Bool
is_instance i None = false
is_instance i (Some other) = other.0 == i

-- the place, among these names, of an input port's bit
abbrev pub place_of_port : Netlist → (names : List Text) → (net : ℕ) → Option ℕ
place_of_port n names net = position (λ name. is_net net (input_net n name)) names

-- the place of the input port's bit that a root is
abbrev pub place_of_root : Netlist → (names : List Text) → Root → Option ℕ
place_of_root n names (Port net) = place_of_port n names net
place_of_root n names (Constant bit) = None
place_of_root n names Other = None

-- ---- what the rules ask

-- the place of a shown clock's port among these names, and whether the clock is inverted
abbrev pub place_of_clock : Netlist → (names : List Text) → Option ClockRoot → Option (ℕ × Bool)
place_of_clock n names None = None
place_of_clock n names (Some clock) = option_map (λ place. (place, clock.inverted)) (place_of_port n names clock.port)

-- the clock that a source shows
abbrev pub clock_of_source : Netlist → (names : List Text) → Source → Option (ℕ × Bool)
clock_of_source n names source = place_of_clock n names (clock_root_of n source)

-- the configured domain whose clock an instance has, by its place, and whether it has the inverse
abbrev pub clocked_by : Netlist → Config → (instance : ℕ) → Option (ℕ × Bool)
clocked_by n config i = option_and_then (clock_of_source n config.domains) (pin_of role.Clock i (pins_of n i))

-- a reset or set may act where it traces to a configured reset; it never acts at constant 1
abbrev pub is_held : Netlist → (resets : List Text) → Root → Bool
is_held n resets (Port net) = is_some (place_of_root n resets (Port net))
is_held n resets (Constant bit) = bit
is_held n resets Other = false

-- so is a pin that the instance has not
abbrev pub is_pin_held : Netlist → (resets : List Text) → Option Source → Bool
is_pin_held n resets None = true
is_pin_held n resets (Some source) = is_held n resets (root_of n source)

-- the reset of an instance and its set
abbrev pub are_held : Netlist → (resets : List Text) → (reset preset : Option Source) → Bool
are_held n resets reset preset = is_pin_held n resets reset && is_pin_held n resets preset

-- the scan cell that a cell of a library names; a gate primitive has none
abbrev pub scan_cell_in : List Cell → CellRef → Option CellId
scan_cell_in library (cell_ref.Library cell) = option_and_then (λ c. c.scan) (slice_get library cell.0)
scan_cell_in library (cell_ref.Gate kind inputs) = None

abbrev pub scan_cell_of : Netlist → (instance : ℕ) → Option CellId
scan_cell_of n i = option_and_then (λ instance. scan_cell_in n.library instance.cell) (slice_get n.instances i)

-- whether one of these names is a flip-flop's, which is this instance
abbrev pub is_kept : Netlist → (names : List Text) → (instance : ℕ) → Bool
is_kept n names i = list_any (λ name. is_instance i (flip_flop_named n name)) names

-- ---- judgement

-- Whether a rule fails, by the clock's domain and edge, whether set and reset are held, whether there is a scan cell, and whether the
-- flip-flop is kept.
abbrev pub fails : (clock : Option (ℕ × Bool)) → (held scans kept : Bool) → Rule → Bool
fails clock held scans kept S1 = is_none clock
fails clock held scans kept S2 = not held
fails clock held scans kept S3 = not scans
fails clock held scans kept S4 = kept

-- a flip-flop that no rule keeps out is scanned in the domain of its clock, at the falls where it has the inverse
abbrev pub judgement : (clock : Option (ℕ × Bool)) → (failing : Option Rule) → Option Judged
judgement None None = None
judgement (Some clock) None = Some (Scanned clock.0 clock.1)
judgement None (Some rule) = Some (Unscanned rule)
judgement (Some clock) (Some rule) = Some (Unscanned rule)

-- the first rule that fails decides
abbrev pub judged_by : (clock : Option (ℕ × Bool)) → (held scans kept : Bool) → Option Judged
judged_by clock held scans kept = judgement clock (find (fails clock held scans kept) (S1 ∷ S2 ∷ S3 ∷ S4 ∷ []))

-- the set or the reset of an instance is held where it traces to a configured reset or to constant 1
abbrev pub are_held_at : Netlist → Config → (instance : ℕ) → Bool
are_held_at n config i = are_held n config.resets (pin_of role.Reset i (pins_of n i)) (pin_of role.Preset i (pins_of n i))

-- how an instance is judged; one that is no such flip-flop is not
abbrev pub judged : Netlist → Config → (instance : ℕ) → Option Judged
judged n config i =
    if may_be_scanned (kind_at n i) then judged_by (clocked_by n config i) (are_held_at n config i) (is_some (scan_cell_of n i)) (is_kept n config.keep i) else None

-- how all instances are judged, by their numbers
abbrev pub judgements : Netlist → Config → List (Option Judged)
judgements n config = map (judged n config) (range_with_len 0 (length n.instances))
