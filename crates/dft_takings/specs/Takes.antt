-- Where a next value is the value of one net, and where a net shows one flip-flop.
use Rattle.std.specs.Prelude.{ℕ, Bool, ◌≡◌, Option, None, Some, if◌then◌else◌}
use Rattle.dft_base.specs.declared.tri.Tri.{Tri}
use Rattle.dft_base.specs.declared.tri.Tri.TheVariants.{Zero, One, Unknown}
use Rattle.dft_cells.specs.FlipFlops.{Scan, Forces}
use Rattle.dft_netlist.specs.Drivers.{Source, Net, Tied, Loose}
use Rattle.dft_behavior.specs.Settled.{is_wire}
use Rattle.dft_behavior.specs.Logic.{Logic, Cell, Meaning, Input, Clock, Gate, Joined, Flop, Lockup, Free}

-- ---- flip-flops

abbrev pub chosen_source : (enable : Tri) → (scan_in data_in : Source) → Option Source
chosen_source Zero scan_in data_in = Some data_in
chosen_source One scan_in data_in = Some scan_in
chosen_source Unknown scan_in data_in = None

abbrev pub taken_source : Option (Scan Source) → (at : Source → Tri) → (data_in : Source) → Option Source
taken_source None at data_in = Some data_in
taken_source (Some scan) at data_in = chosen_source (at scan.enable) scan.input data_in

-- a reset or set lets all through where its port is 1
abbrev pub source_at : (port : Tri) → Option Source → Option Source
source_at Zero source = None
source_at One source = source
source_at Unknown source = None

abbrev pub source_where : (pin : Option ℕ) → (ports : ℕ → Tri) → Option Source → Option Source
source_where None ports source = source
source_where (Some port) ports source = source_at (ports port) source

abbrev pub forced_source : Forces ℕ → (ports : ℕ → Tri) → Option Source → Option Source
forced_source forces ports source = source_where forces.clear ports (source_where forces.preset ports source)

-- the one source whose value a flip-flop takes, where no reset or set may act and its scan enable is known
abbrev pub next_source : Cell → (ports : ℕ → Tri) → (at : Source → Tri) → Option Source
next_source cell ports at = forced_source cell.forces ports (taken_source cell.takes.scan at cell.takes.input)

-- ---- nets

abbrev pub origin_of : (origin : ℕ → Option ℕ) → Source → Option ℕ
origin_of origin (Net net) = origin net
origin_of origin (Tied bit) = None
origin_of origin (Loose i pin) = None

-- while clocks have these levels
abbrev pub origin_given : (level : ℕ → Bool) → (origin : ℕ → Option ℕ) → Meaning → Option ℕ
origin_given level origin Input = None
origin_given level origin Clock = None
origin_given level origin (Gate kind inputs) = None
origin_given level origin (Joined source) = origin_of origin source
origin_given level origin (Flop cell inverted) = if inverted then None else Some cell
origin_given level origin (Lockup cell domain high source) = if is_wire high (level domain) then origin_of origin source else Some cell
origin_given level origin Free = None

-- of each net the cell that it shows through joins and lock-ups, where it shows one
abbrev pub AreOrigins : Logic → (level : ℕ → Bool) → (origin : ℕ → Option ℕ) → Type 0
AreOrigins l level origin = (net : ℕ) → origin net ≡ origin_given level origin (l.net net)
