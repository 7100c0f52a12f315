-- What the calls of the machine come to over vectors.
use Rattle.std.specs.Prelude.{ℕ, Bool, ◌≡◌, List}
use Rattle.dft_base.specs.declared.tri.Tri.{Tri}
use Rattle.dft_cells.specs.FlipFlops.{tri_forced_by}
use Rattle.dft_netlist.specs.declared.ids.NetId.{NetId}
use Rattle.dft_netlist.specs.Netlist.{Netlist}
use Rattle.dft_behavior.specs.Runs.{Vector}
use Rattle.dft_abstract.specs.Cycle.{Round, IsRound, after_round}
use Rattle.dft_cycle.specs.Machine.{Machine, value_at, logic, IsStart, IsSet, IsStrobed, pulses, IsPulsed}

-- every flip-flop has what its reset or set leaves
abbrev pub IsForced : Machine → Type 0
IsForced m = (c : ℕ) → value_at m.cells c ≡ tri_forced_by ((logic m).cell c).forces (value_at m.inputs) (value_at m.cells c)

-- since then only inputs were set: every flip-flop has what its reset or set leaves of its value from then
pub record StandsSince (start m : Machine) : Type 0 where
  pub netlist : m.netlist ≡ start.netlist
  pub clocks : m.clocks ≡ start.clocks
  pub cells : (c : ℕ) → value_at m.cells c ≡ tri_forced_by ((logic start).cell c).forces (value_at m.inputs) (value_at start.cells c)

abbrev pub StartIsForced : Type 0
StartIsForced = (n : Netlist) (clocks : List NetId) (m : Machine) → IsStart n clocks m → IsForced m × StandsSince m m

-- Where a machine stands forced, and so does one since which only inputs were set, setting an input that was not set since keeps that.
abbrev pub SetStands : Type 0
SetStands =
    (start m after : Machine) (net : ℕ) (value : Tri) → IsForced start → StandsSince start m → value_at m.inputs net ≡ value_at start.inputs net → IsSet (logic m) m net value after → StandsSince start after

-- Setting the inputs of a vector, a strobe and a pulse come to the vector's round, and leave every flip-flop forced.
abbrev pub CallsAreRound : Type 0
CallsAreRound =
    (start set strobed after : Machine) (x : Vector) (pulsed : List Bool) → StandsSince start set → ((net : ℕ) → value_at set.inputs net ≡ x.ports net) → ((e : ℕ) → pulses set.clocks pulsed e ≡ x.pulsed e) →
    IsStrobed (logic set) set strobed → IsPulsed (logic strobed) strobed pulsed after →
    (r : Round) × (IsRound (logic start) x (value_at start.cells) r × (r.strobe ≡ value_at strobed.shown) × ((c : ℕ) → value_at after.cells c ≡ after_round (logic start) x (value_at start.cells) r c) × IsForced after)
