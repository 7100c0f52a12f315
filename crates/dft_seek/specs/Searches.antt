-- What is sought: values of scanned cells and ports with which a capture in one domain shows a stuck net.
use Rattle.std.specs.Prelude.{ℕ, Bool, true, false, not, ◌&&◌, ◌||◌, ◌==◌, ◌≡◌, List, [], ◌++◌, map, filter, flat_map, Option, None, Some, if◌then◌else◌}
use Rattle.std.specs.Bool.{beq}
use Rattle.std.specs.List.{list_any}
use Rattle.dft_base.specs.declared.tri.Tri.{Tri}
use Rattle.dft_base.specs.declared.tri.Tri.TheVariants.{Zero, One}
use Rattle.dft_base.specs.Tri.{AboveTri, is_known}
use Rattle.dft_base.specs.declared.dir.Dir.{Dir}
use Rattle.dft_base.specs.declared.dir.Dir.TheVariants as dir
use Rattle.dft_netlist.specs.declared.ids.NetId.{NetId}
use Rattle.dft_netlist.specs.declared.ids.InstanceId.{InstanceId}
use Rattle.dft_netlist.specs.declared.port.Port.{Port}
use Rattle.dft_netlist.specs.Netlist.{Netlist}
use Rattle.dft_netlist.specs.Connections.{is_input}
use Rattle.dft_netlist.specs.Drivers.{driver}
use Rattle.dft_config.specs.Config.{Config}
use Rattle.dft_rules.specs.ConfigPorts.{config_ports}
use Rattle.dft_rules.specs.Rules.{judgements}
use Rattle.dft_stitch.specs.declared.places.CellClock.{CellClock}
use Rattle.dft_stitch.specs.Chains.{clock_of, plan_of}
use Rattle.dft_faults.specs.declared.fault.Fault.{Fault}
use Rattle.dft_faults.specs.Faulty.{faulty}
use Rattle.dft_expect.specs.Captures.{output_bits}
use Rattle.dft_expect.specs.Loaded.{all_cells}
use Rattle.dft_capture.specs.Captures.{Moving, Settled, AreSettled, captured}

-- a fault of a design, and the domain whose clock pulses once, by its place in the configuration
pub record Search : Type 0 where
  pub design : Netlist
  pub config : Config
  pub domain : ℕ
  pub fault : Fault

-- ---- cells and ports

-- the scanned cells of the design, by chain and place
abbrev pub cells_in : Search → List InstanceId
cells_in s = all_cells (plan_of s.design s.config).chains

abbrev pub has_cell : List InstanceId → (cell : ℕ) → Bool
has_cell cells c = list_any (λ cell. cell.0 == c) cells

-- a clock is that of a domain, with this edge
abbrev pub is_of : (domain : ℕ) → (falling : Bool) → Option CellClock → Bool
is_of domain falling None = false
is_of domain falling (Some clock) = clock.domain == domain && beq clock.falling falling

-- a scanned cell of the domain takes its next value at the fall of the clock, or at its rise
abbrev pub takes_at : Search → (falling : Bool) → (cell : ℕ) → Bool
takes_at s falling c = has_cell (cells_in s) c && is_of s.domain falling (clock_of (judgements s.design s.config) (record { 0 = c }))

-- whether the domain has a falling scanned cell
abbrev pub has_falling : Search → Bool
has_falling s = list_any (λ cell. takes_at s true cell.0) (cells_in s)

-- What moves in the capture, in the design and in the design with the fault alike: the scanned cells hold values, and those of the domain take
-- their next ones.
abbrev pub moving_of : Search → Moving
moving_of s = record { is_clock = (config_ports s.design s.config).is_clock; holds = has_cell (cells_in s); rises = takes_at s false; falls = takes_at s true }

-- the bits of the input ports, in order
abbrev pub bits_in : Dir → List NetId → List NetId
bits_in dir.Input bits = bits
bits_in dir.Output bits = []

abbrev pub input_bits : List Port → List NetId
input_bits ports = flat_map (λ port. bits_in port.dir port.bits) ports

-- a drivable port is an input port's bit that is no clock and no reset
abbrev pub is_drivable : Search → (net : ℕ) → Bool
is_drivable s net = is_input (driver s.design net) && (not ((config_ports s.design s.config).is_clock net) && not ((config_ports s.design s.config).is_reset net))

abbrev pub drivable_ports : Search → List NetId
drivable_ports s = filter (λ net. is_drivable s net.0) (input_bits s.design.ports)

-- ---- the captures of an assignment

-- values of cells and ports, Unknown where none is given
pub record Given : Type 0 where
  pub cells : ℕ → Tri
  pub ports : ℕ → Tri

-- resets are 1, where they do not act
abbrev pub port_values : Search → Given → (net : ℕ) → Tri
port_values s g net = if (config_ports s.design s.config).is_reset net then One else g.ports net

-- the settled values of the design, and those of the design with the fault
pub record Both : Type 0 where
  pub good : Settled
  pub faulty : Settled

pub record AreBoth (s : Search) (g : Given) (b : Both) : Type 0 where
  pub good : AreSettled s.design (moving_of s) (port_values s g) g.cells b.good
  pub faulty : AreSettled (faulty s.design s.fault) (moving_of s) (port_values s g) g.cells b.faulty

-- ---- points

-- where a fault can be seen: at an output port's bit before the clock rises, or at what a cell captures
pub data Point : Type 0 where
  Output : (net : ℕ) → Point
  Response : (cell : ℕ) → Point

-- the output ports' bits in order, and the scanned cells of the domain
abbrev pub points_of : Search → List Point
points_of s = map (λ net. Output net.0) (output_bits s.design.ports) ++ map (λ cell. Response cell.0) (filter (λ cell. takes_at s false cell.0 || takes_at s true cell.0) (cells_in s))

-- the value at a point
abbrev pub value_at : Search → Netlist → Given → Settled → Point → Tri
value_at s n g settled (Output net) = settled.first net
value_at s n g settled (Response cell) = captured n (moving_of s) g.cells settled cell

abbrev pub good_at : Search → Given → Both → Point → Tri
good_at s g b point = value_at s s.design g b.good point

abbrev pub faulty_at : Search → Given → Both → Point → Tri
faulty_at s g b point = value_at s (faulty s.design s.fault) g b.faulty point

-- both values are known, and they differ, or are the same
abbrev pub differ : Tri → Tri → Bool
differ Zero One = true
differ One Zero = true
differ _ _ = false

abbrev pub agree : Tri → Tri → Bool
agree Zero Zero = true
agree One One = true
agree _ _ = false

-- a point detects the fault
abbrev pub detects_at : Search → Given → Both → Point → Bool
detects_at s g b point = differ (good_at s g b point) (faulty_at s g b point)

-- an assignment detects the fault: some point does in its captures
abbrev pub Detects : Search → Given → Type 0
Detects s g = (b : Both) × (AreBoth s g b × (list_any (detects_at s g b) (points_of s) ≡ true))

-- the second assignment gives what the first one gives, and maybe more
pub record Completes (g h : Given) : Type 0 where
  pub cells : (cell : ℕ) → AboveTri (g.cells cell) (h.cells cell)
  pub ports : (net : ℕ) → AboveTri (g.ports net) (h.ports net)

-- every scanned cell and every drivable port has a bit
pub record IsFull (s : Search) (g : Given) : Type 0 where
  pub cells : (cell : ℕ) → has_cell (cells_in s) cell ≡ true → is_known (g.cells cell) ≡ true
  pub ports : (net : ℕ) → is_drivable s net ≡ true → is_known (g.ports net) ≡ true
