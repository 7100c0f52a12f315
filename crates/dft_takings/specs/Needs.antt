-- What has to be settled: sets of nets that are closed under reading, and what a next value is read from.
use Rattle.std.specs.Prelude.{ℕ, Bool, true, false, not, ◌||◌, ◌≡◌, ◌==◌, if◌then◌else◌, List, [], ◌∷◌, Option, None, Some, map}
use Rattle.std.specs.List.{AllByRecursion}
use Rattle.dft_base.specs.declared.tri.Tri.{Tri}
use Rattle.dft_base.specs.declared.tri.Tri.TheVariants.{Zero, One, Unknown}
use Rattle.dft_base.specs.Tri.{known}
use Rattle.dft_cells.specs.FlipFlops.{Scan, Forces}
use Rattle.dft_netlist.specs.declared.ids.NetId.{NetId}
use Rattle.dft_netlist.specs.Drivers.{Source, nets_of}
use Rattle.dft_behavior.specs.Logic.{Logic, Cell, Meaning, Input, Clock, Gate, Joined, Flop, Lockup, Free, reads}
use Rattle.dft_behavior.specs.Settled.{TriSources, is_wire, value_from, value_given, IsTriSettled}
use Rattle.dft_behavior.specs.Runs.{takes}
use Rattle.dft_abstract.specs.Cycle.{Pulse, level_before, view_sources}

-- these nets are in the set
abbrev pub HasAll : (needs : ℕ → Bool) → List ℕ → Type 0
HasAll needs nets = AllByRecursion (λ net. needs net ≡ true) nets

-- ---- views

-- whether a lock-up shows its input in a view of a phase: by its edge, whether its clock pulses, and whether that is the view's own
abbrev pub shows_input : (rising pulsed own high : Bool) → Bool
shows_input rising pulsed own high = if takes rising high then rising || pulsed else (if pulsed then not own else not high)

-- the view that a net is settled from: the input of a lock-up that takes its bit in the phase is read in the view of its own clock, pulsing or
-- not, and all else in the view at hand
abbrev pub read_in : Pulse → (view : ℕ) → Meaning → ℕ
read_in p d Input = d
read_in p d Clock = d
read_in p d (Gate kind inputs) = d
read_in p d (Joined source) = d
read_in p d (Flop cell inverted) = d
read_in p d (Lockup cell domain high source) = if takes p.rising high then domain else d
read_in p d Free = d

-- the nets that it is settled from there
abbrev pub reads_in : Pulse → (view : ℕ) → Meaning → List ℕ
reads_in p d Input = []
reads_in p d Clock = []
reads_in p d (Gate kind inputs) = nets_of inputs
reads_in p d (Joined source) = nets_of (source ∷ [])
reads_in p d (Flop cell inverted) = []
reads_in p d (Lockup cell domain high source) = if shows_input p.rising (p.pulsed domain) (domain == d) high then nets_of (source ∷ []) else []
reads_in p d Free = []

-- A set of pairs of a view and a net is closed under reading: with each net of a view it has the nets that this one is settled from, in the view where they are read.
abbrev pub IsReadClosed : Logic → Pulse → (needs : (view net : ℕ) → Bool) → Type 0
IsReadClosed l p needs = (d net : ℕ) → needs d net ≡ true → HasAll (needs (read_in p d (l.net net))) (reads_in p d (l.net net))

-- an assignment gives each net of the set its driver's value in its view
abbrev pub AreViewsOn : Logic → Pulse → (poss : ℕ → Tri) → (needs : (view net : ℕ) → Bool) → (values : ℕ → ℕ → Tri) → Type 0
AreViewsOn l p poss needs values = (d net : ℕ) → needs d net ≡ true → values d net ≡ value_given (view_sources l p poss values d) (values d) net (l.net net)

-- ---- before the edges of a phase, and at a strobe

-- what nets are settled from while clocks have these levels: ports and cells have their values, and lock-ups are wires or hold
abbrev pub still_from : (level : ℕ → Bool) → (ports flops values : ℕ → Tri) → TriSources
still_from level ports flops values = record {
  ports = ports;
  clocks = λ e. known (level e);
  flops = flops;
  lockups = λ c e high source. if is_wire high (level e) then value_from values source else flops c;
}

-- at a strobe all clocks are low
abbrev pub strobe_from : (ports flops values : ℕ → Tri) → TriSources
strobe_from ports flops values = still_from (λ e. false) ports flops values

-- before the edges of a phase they are as these leave them
abbrev pub before_from : Pulse → (values : ℕ → Tri) → TriSources
before_from p values = still_from (level_before p) p.ports p.old values

abbrev pub IsStillFrom : Logic → (level : ℕ → Bool) → (ports flops values : ℕ → Tri) → Type 0
IsStillFrom l level ports flops values = IsTriSettled l (still_from level ports flops values) values

abbrev pub IsStrobe : Logic → (ports flops values : ℕ → Tri) → Type 0
IsStrobe l ports flops values = IsTriSettled l (strobe_from ports flops values) values

abbrev pub IsBefore : Logic → Pulse → (values : ℕ → Tri) → Type 0
IsBefore l p values = IsTriSettled l (before_from p values) values

-- a set of nets is closed under reading: with each net it has those that this one is settled from
abbrev pub IsStrobeClosed : Logic → (needs : (net : ℕ) → Bool) → Type 0
IsStrobeClosed l needs = (net : ℕ) → needs net ≡ true → HasAll needs (reads (l.net net))

-- an assignment gives each net of the set its driver's value while clocks have these levels
abbrev pub IsStillOn : Logic → (level : ℕ → Bool) → (ports flops : ℕ → Tri) → (needs : (net : ℕ) → Bool) → (values : ℕ → Tri) → Type 0
IsStillOn l level ports flops needs values = (net : ℕ) → needs net ≡ true → values net ≡ value_given (still_from level ports flops values) values net (l.net net)

-- the same at a strobe, and before the edges of a phase
abbrev pub IsStrobeOn : Logic → (ports flops : ℕ → Tri) → (needs : (net : ℕ) → Bool) → (values : ℕ → Tri) → Type 0
IsStrobeOn l ports flops needs values = IsStillOn l (λ e. false) ports flops needs values

abbrev pub IsBeforeOn : Logic → Pulse → (needs : (net : ℕ) → Bool) → (values : ℕ → Tri) → Type 0
IsBeforeOn l p needs values = IsStillOn l (level_before p) p.ports p.old needs values

-- for each of the nets its value in every settled assignment of the strobe
abbrev pub AreSeen : Logic → (ports flops : ℕ → Tri) → List NetId → (seen : List Tri) → Type 0
AreSeen l ports flops nets seen = (values : ℕ → Tri) → IsStrobe l ports flops values → seen ≡ map (λ net. values net.0) nets

-- ---- a next value

-- a scan cell takes SI where its scan enable is 1, D where it is 0, and may take either where it is Unknown
abbrev pub chosen_reads : (enable : Tri) → (scan_in data_in : Source) → List Source
chosen_reads Zero scan_in data_in = data_in ∷ []
chosen_reads One scan_in data_in = scan_in ∷ []
chosen_reads Unknown scan_in data_in = scan_in ∷ data_in ∷ []

-- the scan enable, and what it lets through
abbrev pub taken_reads : Option (Scan Source) → (at : Source → Tri) → (data_in : Source) → List Source
taken_reads None at data_in = data_in ∷ []
taken_reads (Some scan) at data_in = scan.enable ∷ chosen_reads (at scan.enable) scan.input data_in

-- nothing is read where the port of a reset or set is 0
abbrev pub reads_at : (port : Tri) → List Source → List Source
reads_at Zero sources = []
reads_at One sources = sources
reads_at Unknown sources = sources

abbrev pub reads_where : (pin : Option ℕ) → (ports : ℕ → Tri) → List Source → List Source
reads_where None ports sources = sources
reads_where (Some port) ports sources = reads_at (ports port) sources

abbrev pub forced_reads : Forces ℕ → (ports : ℕ → Tri) → List Source → List Source
forced_reads forces ports sources = reads_where forces.clear ports (reads_where forces.preset ports sources)

-- what the next value of a flip-flop is read from
abbrev pub next_reads : Cell → (ports : ℕ → Tri) → (at : Source → Tri) → List Source
next_reads cell ports at = forced_reads cell.forces ports (taken_reads cell.takes.scan at cell.takes.input)

-- in the view of its domain, the set has the nets that a flip-flop's next value is read from
abbrev pub HasNextReads : Logic → Pulse → (needs : (view net : ℕ) → Bool) → (values : ℕ → ℕ → Tri) → (cell : ℕ) → Type 0
HasNextReads l p needs values c =
    let d = (l.cell c).domain in
    HasAll (needs d) (nets_of (next_reads (l.cell c) p.ports (value_from (values d))))
