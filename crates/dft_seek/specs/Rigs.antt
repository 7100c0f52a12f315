-- A planned design made ready for searches.
use Rattle.std.specs.Prelude.{ℕ, Bool, true, false, ◌≡◌, ◌<◌, ◌^◌, ◌||◌, List, [], ◌∷◌, Option, None, Some, filter, length, map, slice_index_or, ◌==◌, if◌then◌else◌}
use Rattle.std.specs.List.{AllByRecursion}
use Rattle.dft_base.specs.declared.tri.Tri.{Tri}
use Rattle.dft_base.specs.declared.tri.Tri.TheVariants.{One, Unknown, Zero}
use Rattle.dft_cells.specs.WellFormed.{IsWellFormed}
use Rattle.dft_netlist.specs.declared.ids.InstanceId.{InstanceId}
use Rattle.dft_netlist.specs.Drivers.{driver, IsOrdered}
use Rattle.dft_behavior.specs.Logic.{Meaning, Input, Clock, Gate, Joined, Flop, Lockup, Free}
use Rattle.dft_netlist.specs.Orders.{AreOnce, numbers_of}
use Rattle.dft_behavior.specs.Settled.{TriSources}
use Rattle.dft_rules.specs.ConfigPorts.{config_ports}
use Rattle.dft_expect.specs.Captures.{output_bits}
use Rattle.dft_logic.specs.Circuit.{Circuit, flag_at, meaning, op_at}
use Rattle.dft_logic.specs.Tables.{IsTable}
use Rattle.dft_sweep.specs.declared.field.Stuck.{Stuck}
use Rattle.dft_sweep.specs.Places.{ArePlaces}
use Rattle.dft_sweep.specs.Fields.{IsGivenBy, IsGivenIf, bit_at, with_bit}
use Rattle.dft_capture.specs.Captures.{meaning_in}
use Rattle.dft_faults.specs.declared.fault.Fault.{Fault}
use Rattle.dft_seek.specs.Searches.{Search, cells_in, drivable_ports, has_cell, has_falling, moving_of, takes_at}
use Rattle.dft_seek.specs.Walks.{is_output_of, walked_from}
use Rattle.dft_seek.specs.Marks.{steps_at}
use Rattle.dft_seek.specs.Pins.{ArePins}
use Rattle.dft_seek.specs.declared.rig.Rig.{Rig}

-- the search of a fault in the rig's design and domain
abbrev pub search_in : Rig → Fault → Search
search_in r f = record { design = r.design.now; config = r.config.now; domain = r.domain; fault = f }

-- a search of no fault, for what is the same for all
abbrev pub search_of : Rig → Search
search_of r = search_in r (record { net = record { 0 = 0 }; value = false })

-- what a net means where only flagged flip-flops hold a value
abbrev pub held_meaning : (holds : ℕ → Bool) → Meaning → Meaning
held_meaning holds Input = Input
held_meaning holds Clock = Clock
held_meaning holds (Gate kind inputs) = Gate kind inputs
held_meaning holds (Joined source) = Joined source
held_meaning holds (Flop i inverted) = if holds i then Flop i inverted else Free
held_meaning holds (Lockup i e high source) = Free
held_meaning holds Free = Free

-- what the nets of a circuit mean where one may be stuck
abbrev pub means_of : Circuit → Option Stuck → ℕ → Meaning
means_of x stuck net = with_bit (bit_at stuck net) (meaning (op_at x.ops net))

-- the flip-flop that a net shows, if it shows one
abbrev pub cells_shown : Meaning → List ℕ
cells_shown Input = []
cells_shown Clock = []
cells_shown (Gate kind inputs) = []
cells_shown (Joined source) = []
cells_shown (Flop i inverted) = i ∷ []
cells_shown (Lockup i e high source) = []
cells_shown Free = []

-- whether a net shows a flip-flop
abbrev pub shows_in : Option InstanceId → (cell : ℕ) → Bool
shows_in None c = false
shows_in (Some i) c = i.0 == c

abbrev pub shows_at : List (Option InstanceId) → (net cell : ℕ) → Bool
shows_at shows net c = shows_in (slice_index_or shows net None) c

-- the needed nets have the values that they have from some sources
pub record IsSettledSome (needed : List Bool) (means : ℕ → Meaning) (values : List Tri) : Type 0 where
  pub sources : TriSources
  pub given : (k : ℕ) → IsGivenIf needed means sources values k

-- what nets are settled from: these values of ports, where resets are 1, and of the cells that hold one
abbrev pub sources_by : (resets holds : List Bool) → (ports cells : ℕ → Tri) → TriSources
sources_by resets holds ports cells = record {
  ports = λ net. if flag_at resets net then One else ports net;
  clocks = λ net. Zero;
  flops = λ c. if flag_at holds c then cells c else Unknown;
  lockups = λ c e high source. Unknown;
}

-- the values of all nets, where no cell and no port has one
pub record IsBase (x : Circuit) (resets holds : List Bool) (values : List Tri) : Type 0 where
  pub size : length values ≡ length x.ops
  pub given : (k : ℕ) → IsGivenBy (means_of x None) (sources_by resets holds (λ net. Unknown) (λ c. Unknown)) values k

-- each table is what its name says
pub record IsRig (r : Rig) : Type 0 where
  pub rank : ℕ → ℕ
  pub ordered : IsOrdered r.design.now rank
  pub library : IsWellFormed r.design.now.library
  pub places : ArePlaces r.circuit r.places.items
  pub nets : length r.circuit.ops ≡ length r.design.now.nets
  pub means : (k : ℕ) → held_meaning (flag_at r.holds.items) (meaning (op_at r.circuit.ops k)) ≡ meaning_in (moving_of (search_of r)) k (driver r.design.now k)
  pub resets : (net : ℕ) → flag_at r.resets.items net ≡ (config_ports r.design.now r.config.now).is_reset net
  pub shows : (net c : ℕ) → shows_at r.shows.items net c ≡ is_output_of c (driver r.design.now net)
  pub shown : length r.shows.items ≡ length r.design.now.nets
  pub showing : IsTable (length r.design.now.instances) (length r.circuit.ops) (λ net. cells_shown (meaning (op_at r.circuit.ops net))) r.showing.items
  pub table : length r.steps.items ≡ length r.design.now.nets
  pub steps : (net : ℕ) → steps_at r.steps.items net ≡ walked_from (search_of r) (driver r.design.now net)
  pub few : length r.design.now.instances < 2 ^ 32
  pub instances : length r.holds.items ≡ length r.design.now.instances
  pub holds : (c : ℕ) → flag_at r.holds.items c ≡ has_cell (cells_in (search_of r)) c
  pub rises : (c : ℕ) → flag_at r.rises.items c ≡ takes_at (search_of r) false c
  pub falls : (c : ℕ) → flag_at r.falls.items c ≡ takes_at (search_of r) true c
  pub pins : ArePins r.design.now r.pins.items
  pub any_falls : r.any_falls ≡ has_falling (search_of r)
  pub cells : r.cells.items ≡ cells_in (search_of r)
  pub once_cells : AreOnce (map (λ cell. cell.0) r.cells.items)
  pub ports : r.ports.items ≡ drivable_ports (search_of r)
  pub once_ports : AreOnce (numbers_of r.ports.items)
  pub live_ports : AllByRecursion (λ net. net.0 < length r.design.now.nets) r.ports.items
  pub outputs : r.outputs.items ≡ output_bits r.design.now.ports
  pub responses : r.responses.items ≡ filter (λ cell. takes_at (search_of r) false cell.0 || takes_at (search_of r) true cell.0) (cells_in (search_of r))
  pub live : AllByRecursion (λ cell. cell.0 < length r.design.now.instances) r.cells.items
  pub base : IsBase r.circuit r.resets.items r.holds.items r.base.items
