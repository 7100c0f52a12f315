-- From which nets walks go on to a net, by what it takes its value from and which flip-flop it shows.
use Rattle.std.specs.Prelude.{ℕ, Bool, true, false, List, [], ◌∷◌, Option, None, Some, map, slice_index_or, if◌then◌else◌}
use Rattle.dft_netlist.specs.declared.ids.InstanceId.{InstanceId}
use Rattle.dft_netlist.specs.Drivers.{nets_of}
use Rattle.dft_behavior.specs.Logic as meanings
use Rattle.dft_behavior.specs.Logic.{Meaning}
use Rattle.dft_logic.specs.declared.circuit.Op.{Op}
use Rattle.dft_logic.specs.declared.circuit.Op.TheVariants.{Input, Clock, Gate, Joined, Flop, Lockup, Free}
use Rattle.dft_logic.specs.Circuit.{flag_at, source_at}
use Rattle.dft_seek.specs.Pins.{pins_at, taken_by}
use Rattle.dft_seek.specs.declared.pins.Pins.{Pins}

-- the flip-flop that a net shows, if it shows one
abbrev pub shown_at : List (Option InstanceId) → (net : ℕ) → Option InstanceId
shown_at shows net = slice_index_or shows net None

-- the nets at the pins of a flip-flop that is passed
abbrev pub cell_steps : Option InstanceId → List Pins → (passed : List Bool) → List ℕ
cell_steps None pins passed = []
cell_steps (Some i) pins passed = if flag_at passed i.0 then taken_by (pins_at pins i.0) else []

-- the nets that a gate or join reads, or those at the pins of the flip-flop that is shown
abbrev pub op_steps : Op → Option InstanceId → List Pins → (passed : List Bool) → List ℕ
op_steps Input shown pins passed = cell_steps shown pins passed
op_steps Clock shown pins passed = cell_steps shown pins passed
op_steps (Gate kind inputs) shown pins passed = nets_of (map source_at inputs)
op_steps (Joined source) shown pins passed = nets_of (source_at source ∷ [])
op_steps (Flop i inverted) shown pins passed = cell_steps shown pins passed
op_steps (Lockup i domain high source) shown pins passed = cell_steps shown pins passed
op_steps Free shown pins passed = cell_steps shown pins passed

-- whether a net is the bit of an input port that is no clock
abbrev pub is_input_of : Meaning → Bool
is_input_of meanings.Input = true
is_input_of _ = false
