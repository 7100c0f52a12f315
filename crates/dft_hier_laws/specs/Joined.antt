-- Modules side by side, joined at their ports: what nets mean and what cells take, and what each net's bit is, by paths.
use Rattle.std.specs.Prelude.{◌≡◌, ℕ, ◌<◌, Bool, false, if◌then◌else◌, List, [], ◌∷◌, length, Option, Some, None, slice_get}
use Rattle.std.specs.Option.{option_or}
use Rattle.dft_base.specs.declared.dir.Dir.{Dir}
use Rattle.dft_base.specs.declared.dir.Dir.TheVariants as dir
use Rattle.dft_cells.specs.declared.kind.Gate.{Gate}
use Rattle.dft_cells.specs.declared.kind.Role.TheVariants as role
use Rattle.dft_cells.specs.declared.cell.Cell.{Cell}
use Rattle.dft_cells.specs.FlipFlops.{is_flip_flop, Forces}
use Rattle.dft_netlist.specs.declared.port.Port.{Port}
use Rattle.dft_netlist.specs.declared.instance.Signal.{Signal}
use Rattle.dft_netlist.specs.declared.instance.Signal.TheVariants as signal
use Rattle.dft_netlist.specs.Netlist.{Netlist}
use Rattle.dft_netlist.specs.Drivers.{Source, Net, Tied, Connection, Driver, source_of, pins_of, kind_at, driver}
use Rattle.dft_netlist.specs.Drivers as drivers
use Rattle.dft_netlist.specs.NetDrivers.{times_driven}
use Rattle.dft_behavior.specs.NetRoots.{From, Bit, passed_by_gate, turned}
use Rattle.dft_behavior.specs.Traces.{Root, Port as PortRoot, Constant, Other}
use Rattle.dft_behavior.specs.ClockRoots.{ClockRoot, turn_of}
use Rattle.dft_behavior.specs.Logic as logic
use Rattle.dft_netlist.specs.Connections.{pin_of}
use Rattle.dft_behavior.specs.Logic.{Ports, Meaning, or_loose, domain_of, force_of, both_forces, takes_of, forces_of, modelled, is_lockup, locked, cell_or_none, flop_meaning, lockup_meaning}
use Rattle.dft_behavior.specs.Settled.{Sources, bit_given}
use Rattle.dft_modules.specs.declared.connections.Connection as modules
use Rattle.dft_modules.specs.declared.module.SubInstance.{SubInstance}
use Rattle.dft_modules.specs.Modules.{Module}
use Rattle.dft_hier.specs.Hierarchy.{joins_of, cells_of, subs_of, find_module}
use Rattle.dft_hier.specs.Flat.{joined_to}
use Rattle.dft_hier.specs.Paths.{Path, module_at, below}

-- ---- what is inside a module

-- the ports that drive nets of the module at a path: the top's alone
abbrev pub outer_ports : Path → List Port → List Port
outer_ports [] ports = ports
outer_ports (place ∷ path) ports = []

-- the cells, gates and joins of the module at a path, without its module instances
abbrev pub alone : List Cell → Path → Module → Netlist
alone library path m = record { name = m.name; library = library; ports = outer_ports path m.ports; nets = m.nets; instances = cells_of m.items; joins = joins_of m.items }

-- this drives the net inside the module at a path
pub record DrivenInside (ms : List Module) (library : List Cell) (top : Module) (path : Path) (net : ℕ) (d : Driver) : Type 0 where
  pub m : Module
  pub at : module_at ms path top ≡ Some m
  pub some : 0 < times_driven (alone library path m) net
  pub driver_is : driver (alone library path m) net ≡ d

-- ---- where modules meet

-- an instance joins this bit of a port, by its net inside, to this signal outside
pub record JoinsBit (ports : List Port) (connections : List modules.Connection) (d : Dir) (net : ℕ) (to : Signal) : Type 0 where
  pub place : ℕ
  pub port : Port
  pub port_at : slice_get ports place ≡ Some port
  pub dir_is : port.dir ≡ d
  pub bit : ℕ
  pub within : slice_get port.bits bit ≡ Some (record { 0 = net })
  pub outside : slice_get (joined_to connections port.name) bit ≡ Some to

-- the module instance at a place of the module at a path joins a net inside, a bit of a port of this direction, to a signal at the path
pub record Meets (ms : List Module) (top : Module) (path : Path) (place : ℕ) (d : Dir) (net : ℕ) (to : Signal) : Type 0 where
  pub outer : Module
  pub outer_at : module_at ms path top ≡ Some outer
  pub sub : SubInstance
  pub sub_at : slice_get (subs_of outer.items) place ≡ Some sub
  pub inner : Module
  pub inner_is : find_module ms sub.of ≡ Some inner
  pub joins : JoinsBit inner.ports sub.connections d net to

-- no instance joins the net: neither the module's own, at an input bit, nor one inside the module, at an output bit
pub record IsUnmet (ms : List Module) (top : Module) (path : Path) (net : ℕ) : Type 0 where
  pub input : (front : Path) (place : ℕ) (to : Signal) → path ≡ below front place → Meets ms top front place dir.Input net to → ⊥
  pub output : (place inner : ℕ) → Meets ms top path place dir.Output inner (signal.Net (record { 0 = net })) → ⊥

-- ---- where a net traces to, over joined modules

-- A source at a path traces to a root where buffers, joins and joined ports lead to it.
pub data JoinedTraces (ms : List Module) (library : List Cell) (top : Module) : Path → Source → Root → Type 0 where
  AtPort : {path : Path} {net : ℕ} → DrivenInside ms library top path net drivers.Input → JoinedTraces ms library top path (Net net) (PortRoot net)
  AtConstant : {path : Path} {bit : Bool} → JoinedTraces ms library top path (Tied bit) (Constant bit)
  AtTie : {path : Path} {net : ℕ} {kind : Gate} {inputs : List Source} {bit : Bool} →
      DrivenInside ms library top path net (drivers.Gate kind inputs) → passed_by_gate kind inputs ≡ Bit bit → JoinedTraces ms library top path (Net net) (Constant bit)
  ThroughBuffer : {path : Path} {net : ℕ} {kind : Gate} {inputs : List Source} {source : Source} {root : Root} →
      DrivenInside ms library top path net (drivers.Gate kind inputs) → passed_by_gate kind inputs ≡ From source false →
      JoinedTraces ms library top path source root → JoinedTraces ms library top path (Net net) root
  ThroughJoin : {path : Path} {net : ℕ} {source : Source} {root : Root} →
      DrivenInside ms library top path net (drivers.Joined source) → JoinedTraces ms library top path source root → JoinedTraces ms library top path (Net net) root
  Inwards : {path : Path} {place net : ℕ} {to : Signal} {root : Root} →
      Meets ms top path place dir.Input net to → JoinedTraces ms library top path (source_of 0 0 to) root → JoinedTraces ms library top (below path place) (Net net) root
  Outwards : {path : Path} {place inner net : ℕ} {root : Root} →
      Meets ms top path place dir.Output inner (signal.Net (record { 0 = net })) → JoinedTraces ms library top (below path place) (Net inner) root →
      JoinedTraces ms library top path (Net net) root

-- the root that a source traces to, or another where it traces to none
pub data HasRoot (ms : List Module) (library : List Cell) (top : Module) (path : Path) (source : Source) : Root → Type 0 where
  Traced : {root : Root} → JoinedTraces ms library top path source root → HasRoot ms library top path source root
  Untraced : ((root : Root) → JoinedTraces ms library top path source root → ⊥) → HasRoot ms library top path source Other

-- ---- which clock a net shows, over joined modules

-- A source at a path shows a port's bit of the top or its inverse where buffers, inverters, joins and joined ports lead to it.
pub data JoinedClocks (ms : List Module) (library : List Cell) (top : Module) : Path → Source → (port : ℕ) → (inverted : Bool) → Type 0 where
  ClockAtPort : {path : Path} {net : ℕ} → DrivenInside ms library top path net drivers.Input → JoinedClocks ms library top path (Net net) net false
  ClockThroughGate : {path : Path} {net : ℕ} {kind : Gate} {source : Source} {turns : Bool} {port : ℕ} {inverted : Bool} →
      DrivenInside ms library top path net (drivers.Gate kind (source ∷ [])) → turn_of kind ≡ Some turns →
      JoinedClocks ms library top path source port inverted → JoinedClocks ms library top path (Net net) port (turned turns inverted)
  ClockThroughJoin : {path : Path} {net : ℕ} {source : Source} {port : ℕ} {inverted : Bool} →
      DrivenInside ms library top path net (drivers.Joined source) → JoinedClocks ms library top path source port inverted → JoinedClocks ms library top path (Net net) port inverted
  ClockInwards : {path : Path} {place net : ℕ} {to : Signal} {port : ℕ} {inverted : Bool} →
      Meets ms top path place dir.Input net to → JoinedClocks ms library top path (source_of 0 0 to) port inverted → JoinedClocks ms library top (below path place) (Net net) port inverted
  ClockOutwards : {path : Path} {place inner net : ℕ} {port : ℕ} {inverted : Bool} →
      Meets ms top path place dir.Output inner (signal.Net (record { 0 = net })) → JoinedClocks ms library top (below path place) (Net inner) port inverted →
      JoinedClocks ms library top path (Net net) port inverted

-- the clock that a source shows, or none
pub data ShowsClock (ms : List Module) (library : List Cell) (top : Module) (path : Path) (source : Source) : Option ClockRoot → Type 0 where
  Shown : {port : ℕ} {inverted : Bool} → JoinedClocks ms library top path source port inverted → ShowsClock ms library top path source (Some (record { port = port; inverted = inverted }))
  NotShown : ((port : ℕ) (inverted : Bool) → JoinedClocks ms library top path source port inverted → ⊥) → ShowsClock ms library top path source None

-- ---- what cells store and nets mean, where the roots and the clocks of sources are given

pub record Roots : Type 0 where
  pub root : Source → Root
  pub clock : Source → Option ClockRoot

-- those that the sources at each path have
pub record AreRoots (ms : List Module) (library : List Cell) (top : Module) (roots : Path → Roots) : Type 0 where
  pub root : (path : Path) (source : Source) → HasRoot ms library top path source ((roots path).root source)
  pub clock : (path : Path) (source : Source) → ShowsClock ms library top path source ((roots path).clock source)

abbrev pub domain_by : Roots → Ports → Option Source → Option ClockRoot
domain_by roots ports None = None
domain_by roots ports (Some source) = domain_of ports (roots.clock source)

abbrev pub force_by : Roots → Ports → Option Source → Option (Option ℕ)
force_by roots ports None = Some None
force_by roots ports (Some source) = force_of ports (roots.root source)

abbrev pub forcing_by : Roots → Ports → Forces Source → Option (Forces ℕ)
forcing_by roots ports pins = both_forces (force_by roots ports pins.clear) (force_by roots ports pins.preset)

-- the modelled flip-flop that an instance is, if it is one
abbrev pub modelled_by : Roots → Ports → (instance : ℕ) → List Connection → Option logic.Cell
modelled_by roots ports i pins =
    modelled (domain_by roots ports (pin_of role.Clock i pins)) (forcing_by roots ports (forces_of i pins)) (takes_of i pins)

abbrev pub flip_flop_by : Roots → Netlist → Ports → (instance : ℕ) → Option logic.Cell
flip_flop_by roots n ports i = if is_flip_flop (kind_at n i) then modelled_by roots ports i (pins_of n i) else None

-- the lock-up on a clock port that an instance is, if it is one
abbrev pub locked_by : Roots → Ports → (instance : ℕ) → List Connection → Option logic.Cell
locked_by roots ports i pins = locked (domain_by roots ports (pin_of role.Clock i pins)) (or_loose i (pin_of role.Din i pins))

abbrev pub lock_up_by : Roots → Netlist → Ports → (instance : ℕ) → Option logic.Cell
lock_up_by roots n ports i = if is_lockup (kind_at n i) then locked_by roots ports i (pins_of n i) else None

-- what an instance stores a bit in: its clock and edge, what it takes, and what forces it
abbrev pub cell_by : Roots → Netlist → Ports → (instance : ℕ) → logic.Cell
cell_by roots n ports i = cell_or_none i (option_or (flip_flop_by roots n ports i) (lock_up_by roots n ports i))

-- what a net means by its driver
abbrev pub meaning_by : Roots → Netlist → Ports → (net : ℕ) → Driver → Meaning
meaning_by roots n ports net drivers.Input = if ports.is_clock net then logic.Clock else logic.Input
meaning_by roots n ports net (drivers.Gate kind inputs) = logic.Gate kind inputs
meaning_by roots n ports net (drivers.Joined source) = logic.Joined source
meaning_by roots n ports net (drivers.Flop i inverted) = flop_meaning i inverted (flip_flop_by roots n ports i)
meaning_by roots n ports net (drivers.Lockup i) = lockup_meaning i (domain_by roots ports (pin_of role.Clock i (pins_of n i))) (or_loose i (pin_of role.Din i (pins_of n i)))
meaning_by roots n ports net drivers.Free = logic.Free

-- ---- what nets of joined modules mean

-- A net at a path means this, over sources at a second path: what its driver inside means; where modules meet, the signal outside for an input bit,
-- and the bit inside for the net outside; and where nothing drives it and no instance joins it, it is free.
pub data JoinedMeans (ms : List Module) (library : List Cell) (top : Module) (ports : Ports) (roots : Path → Roots) : (path : Path) → (net : ℕ) → (over : Path) → Meaning → Type 0 where
  MeansInside : {path : Path} {net : ℕ} {d : Driver} →
      (inside : DrivenInside ms library top path net d) → JoinedMeans ms library top ports roots path net path (meaning_by (roots path) (alone library path inside.m) ports net d)
  MeansOutside : {path : Path} {place net : ℕ} {to : Signal} →
      Meets ms top path place dir.Input net to → JoinedMeans ms library top ports roots (below path place) net path (logic.Joined (source_of 0 0 to))
  MeansBelow : {path : Path} {place inner net : ℕ} →
      Meets ms top path place dir.Output inner (signal.Net (record { 0 = net })) → JoinedMeans ms library top ports roots path net (below path place) (logic.Joined (Net inner))
  MeansNothing : {path : Path} {m : Module} {net : ℕ} →
      module_at ms path top ≡ Some m → net < length m.nets → times_driven (alone library path m) net ≡ 0 → IsUnmet ms top path net → JoinedMeans ms library top ports roots path net path logic.Free

-- ---- settled joined assignments

-- what the bits of nets come from: of the top's ports and clocks by net, and of flip-flops, nets and unconnected pins by path
pub record JoinedSources : Type 0 where
  pub ports : ℕ → Bool
  pub high : ℕ → Bool
  pub flops : Path → ℕ → Bool
  pub free : Path → ℕ → Bool
  pub loose : Path → ℕ → ℕ → Bool

abbrev pub sources_at : JoinedSources → Path → Sources
sources_at s path = record { ports = s.ports; high = s.high; flops = s.flops path; free = s.free path; loose = s.loose path }

-- A joined assignment gives a bit to each net at each path. It is settled where each net has the bit of what it means: with a driver inside, that
-- driver's bit; joined bits are equal at both sides; and every other net has its free bit.
pub record IsJoinedSettled (ms : List Module) (library : List Cell) (top : Module) (ports : Ports) (s : JoinedSources) (bits : Path → ℕ → Bool) : Type 0 where
  pub roots : Path → Roots
  pub are_roots : AreRoots ms library top roots
  pub each : (path : Path) (net : ℕ) (over : Path) (meaning : Meaning) → JoinedMeans ms library top ports roots path net over meaning →
      bits path net ≡ bit_given (sources_at s over) (bits over) net meaning
