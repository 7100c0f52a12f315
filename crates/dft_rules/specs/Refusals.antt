-- Why a design cannot be scanned: the first check that fails.
use Rattle.std.specs.Prelude.{ℕ, pos, ◌≡◌, ◌==◌, nat_lt, Bool, true, false, ◌&&◌, List, [], ◌∷◌, length, map, find, count_by, Option, None, Some, is_some, is_none, option_map, slice_index_or, if◌then◌else◌}
use Rattle.std.specs.List.{list_any, range_with_len}
use Rattle.dft_base.specs.Lexing.{Text}
use Rattle.dft_cells.specs.declared.kind.Kind.{Kind}
use Rattle.dft_cells.specs.declared.kind.Kind.TheVariants as kind
use Rattle.dft_cells.specs.declared.kind.Gate.{Gate}
use Rattle.dft_cells.specs.declared.kind.Gate.TheVariants.{Buf, Inv}
use Rattle.dft_cells.specs.declared.kind.Role.{Role}
use Rattle.dft_cells.specs.declared.kind.Role.TheVariants as role
use Rattle.dft_cells.specs.declared.cell.Cell.{Cell}
use Rattle.dft_netlist.specs.declared.instance.Instance.{Instance}
use Rattle.dft_netlist.specs.declared.instance.Signal.{Signal}
use Rattle.dft_netlist.specs.declared.instance.Signal.TheVariants as signal
use Rattle.dft_netlist.specs.declared.port.Port.{Port}
use Rattle.dft_netlist.specs.Netlist.{Netlist}
use Rattle.dft_netlist.specs.Drivers.{Connection, Net, connections_of, shape_of}
use Rattle.dft_config.specs.Config.{Config}
use Rattle.dft_rules.specs.declared.error.RuleError.{RuleError}
use Rattle.dft_rules.specs.declared.error.RuleError.TheVariants.{ClockAsData, ScanCellPresent, TooFewCells, UnknownName, LockupPresent, PortName, Memory}
use Rattle.dft_rules.specs.declared.judged.Judged.{Judged}
use Rattle.dft_rules.specs.declared.judged.Judged.TheVariants.{Scanned, Unscanned}
use Rattle.dft_netlist.specs.Connections.{input_net}
use Rattle.dft_rules.specs.Rules.{flip_flop_named, clock_of_source, judgements}

-- ---- names that are not there

-- the first of these names that is no input port's bit
abbrev pub unknown_port : Netlist → (names : List Text) → Option RuleError
unknown_port n names = option_map UnknownName (find (λ name. is_none (input_net n name)) names)

-- the first of these names that is no flip-flop's
abbrev pub unknown_cell : Netlist → (names : List Text) → Option RuleError
unknown_cell n names = option_map UnknownName (find (λ name. is_none (flip_flop_named n name)) names)

-- ---- the first check that fails

abbrev pub first_failing : List (Option RuleError) → Option RuleError
first_failing [] = None
first_failing (None ∷ checks) = first_failing checks
first_failing (Some error ∷ checks) = Some error

-- ---- what is there already

-- a scan cell or a lock-up; both have names
abbrev pub present_as : Kind → (name : Option Text) → Option RuleError
present_as (kind.Flop flop) (Some name) = if flop.scan then Some (ScanCellPresent name) else None
present_as kind.Lockup (Some name) = Some (LockupPresent name)
present_as _ _ = None

abbrev pub present : List Cell → Instance → Option RuleError
present library i = present_as (shape_of library i.cell).kind i.name

-- the first scan cell or lock-up
abbrev pub first_present : List Cell → List Instance → Option RuleError
first_present library instances = first_failing (map (present library) instances)

-- ---- clocks used as data

-- whether a pin of this role is an input, but for clocks
abbrev pub takes_data : Role → Bool
takes_data role.Input = true
takes_data role.Din = true
takes_data role.Reset = true
takes_data role.Preset = true
takes_data role.ScanIn = true
takes_data role.ScanEnable = true
takes_data role.Clock = false
takes_data role.Output = false
takes_data role.Inverted = false

-- a buffer or an inverter passes a clock on
abbrev pub uses_inputs : Gate → Bool
uses_inputs Buf = false
uses_inputs Inv = false
uses_inputs _ = true

-- whether a cell of this kind uses its inputs as data; nothing is known of an opaque cell
abbrev pub uses_data : Kind → Bool
uses_data (kind.Gate gate) = uses_inputs gate
uses_data kind.Opaque = false
uses_data _ = true

abbrev pub is_joined_to : (net : ℕ) → Signal → Bool
is_joined_to net (signal.Net other) = other.0 == net
is_joined_to net (signal.Constant bit) = false
is_joined_to net signal.Unconnected = false

-- whether a pin takes a net as data
abbrev pub takes : (net : ℕ) → Connection → Bool
takes net c = takes_data c.role && is_joined_to net c.to

-- whether an instance takes a net as data
abbrev pub is_data_of : List Cell → (net : ℕ) → Instance → Bool
is_data_of library net i = uses_data (shape_of library i.cell).kind && list_any (takes net) (connections_of library i)

-- whether a net shows the clock of a configured domain or its inverse, and some instance takes it as data
abbrev pub is_clock_as_data : Netlist → (domains : List Text) → (net : ℕ) → Bool
is_clock_as_data n domains net = is_some (clock_of_source n domains (Net net)) && list_any (is_data_of n.library net) n.instances

-- the first such net
abbrev pub clock_as_data : Netlist → (domains : List Text) → Option RuleError
clock_as_data n domains = option_map (λ net. ClockAsData (slice_index_or n.nets net [])) (find (is_clock_as_data n domains) (range_with_len 0 (length n.nets)))

-- ---- ports and cells

-- whether a name has the byte of a double quote
abbrev pub has_quote : Text → Bool
has_quote name = list_any (λ byte. byte == 34) name

-- the first port with such a name
abbrev pub quoted_port : List Port → Option RuleError
quoted_port ports = option_map (λ port. PortName port.name) (find (λ port. has_quote port.name) ports)

abbrev pub is_scanned : Option Judged → Bool
is_scanned None = false
is_scanned (Some (Scanned domain falling)) = true
is_scanned (Some (Unscanned rule)) = false

-- fewer cells are scanned than this
abbrev pub too_few : List (Option Judged) → (chains : ℕ) → Option RuleError
too_few verdicts chains =
    let found = count_by is_scanned verdicts in if nat_lt found chains then Some (TooFewCells (pos found) (pos chains)) else None

-- ---- the refusal

-- The checks in their order: names that are not there, scan cells and lock-ups that are there already, clocks used as data, names of
-- ports that no pattern text can name, too few cells for the chains.
abbrev pub checks : Netlist → Config → List (Option RuleError)
checks n config =
    unknown_port n config.domains ∷ unknown_port n config.resets ∷ unknown_cell n config.keep ∷ first_present n.library n.instances
    ∷ clock_as_data n config.domains ∷ quoted_port n.ports ∷ too_few (judgements n config) config.chains ∷ []

-- the first that fails
unfoldable pub refusal : Netlist → Config → Option RuleError
refusal n config = first_failing (checks n config)

-- all checks pass but for the last, which is left
abbrev pub IsLeftToCount : Netlist → Config → Type 0
IsLeftToCount n config = refusal n config ≡ first_failing (too_few (judgements n config) config.chains ∷ [])

-- the error is this refusal, but for want of memory
abbrev pub IsRefusal : Option RuleError → RuleError → Type 0
IsRefusal refused (ClockAsData net) = refused ≡ Some (ClockAsData net)
IsRefusal refused (ScanCellPresent instance) = refused ≡ Some (ScanCellPresent instance)
IsRefusal refused (TooFewCells found wanted) = refused ≡ Some (TooFewCells found wanted)
IsRefusal refused (UnknownName name) = refused ≡ Some (UnknownName name)
IsRefusal refused (LockupPresent instance) = refused ≡ Some (LockupPresent instance)
IsRefusal refused (PortName name) = refused ≡ Some (PortName name)
IsRefusal refused (Memory error) = Unit {0}
