-- What a design with a stuck net does: the net has a constant, and all else is as it was, where no clock, reset or set comes by the net.
use Rattle.std.specs.Prelude.{ℕ, Bool, true, false, ◌≡◌, ◌==◌, List, [], ◌∷◌, Option, None, Some, if◌then◌else◌}
use Rattle.dft_cells.specs.declared.kind.Role.{Role}
use Rattle.dft_cells.specs.declared.kind.Role.TheVariants as role
use Rattle.dft_netlist.specs.Netlist.{Netlist}
use Rattle.dft_netlist.specs.Drivers.{Source, Net, Tied, Driver, Input, Gate, Flop, Free, driver, nets_of, pins_of}
use Rattle.dft_netlist.specs.Drivers as drivers
use Rattle.dft_behavior.specs.ClockRoots.{turn_of}
use Rattle.dft_netlist.specs.Connections.{pin_of}
use Rattle.dft_behavior.specs.Logic.{Logic, Joined}
use Rattle.dft_takings.specs.Needs.{HasAll}
use Rattle.dft_faults.specs.declared.fault.Fault.{Fault}

-- a logic in which a net has a constant
abbrev pub with_fault : (stuck : ℕ) → (value : Bool) → Logic → Logic
with_fault stuck value l = record { net = λ net. if net == stuck then Joined (Tied value) else l.net net; cell = l.cell }

-- ---- the nets by which clocks, resets and sets come

-- a clock, a reset or a set comes in by a pin of this role
abbrev pub is_control : Role → Bool
is_control role.Clock = true
is_control role.Reset = true
is_control role.Preset = true
is_control role.Input = false
is_control role.Din = false
is_control role.ScanIn = false
is_control role.ScanEnable = false
is_control role.Output = false
is_control role.Inverted = false

-- the nets behind a gate, where it passes a clock on
abbrev pub behind_gate : (turns : Option Bool) → List Source → List ℕ
behind_gate None inputs = []
behind_gate (Some turns) inputs = nets_of inputs

-- the nets that a walk back from a net goes on to: those behind a buffer, an inverter or a join
abbrev pub behind : Driver → List ℕ
behind Input = []
behind (Gate kind inputs) = behind_gate (turn_of kind) inputs
behind (drivers.Joined source) = nets_of (source ∷ [])
behind (Flop i inverted) = []
behind (drivers.Lockup i) = []
behind Free = []

-- A set of nets has all by which clocks, resets and sets come: those that their pins are joined to, and with each net those behind it.
pub record IsControl (n : Netlist) (control : ℕ → Bool) : Type 0 where
  pub pins : (i : ℕ) (r : Role) (net : ℕ) → is_control r ≡ true → pin_of r i (pins_of n i) ≡ Some (Net net) → control net ≡ true
  pub back : (net : ℕ) → control net ≡ true → HasAll control (behind (driver n net))

-- No clock, reset or set comes by the stuck net: such a set leaves it out.
abbrev pub IsApart : Netlist → Fault → Type 0
IsApart n f = (control : ℕ → Bool) × (IsControl n control × (control f.net.0 ≡ false))
