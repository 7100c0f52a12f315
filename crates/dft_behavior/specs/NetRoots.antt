-- The root of a source, by one walk back: through buffers, joins and inverters to an input port's bit or its inverse, and through buffers and joins alone to a constant.
use Rattle.std.specs.Prelude.{ℕ, zero, suc, ◌≡◌, Bool, true, false, not, List, [], ◌∷◌, length, if◌then◌else◌}
use Rattle.dft_cells.specs.declared.kind.Gate.{Gate as GateKind}
use Rattle.dft_cells.specs.declared.kind.Gate.TheVariants.{Buf, Inv, Tie0, Tie1}
use Rattle.dft_netlist.specs.Netlist.{Netlist}
use Rattle.dft_netlist.specs.Drivers.{Source, Net, Tied, Loose, Driver, Input, Gate, Joined, Flop, Free, driver}
use Rattle.dft_netlist.specs.Drivers as drivers

pub data NetRoot : Type 0 where
  -- an input port's bit, by its net, or its inverse; straight where no inverter is passed
  Port : (net : ℕ) → (inverted straight : Bool) → NetRoot
  Constant : (bit : Bool) → NetRoot
  Other : NetRoot

-- what a gate passes on: its one input, or the inverse of that; the bit of a tie; and otherwise nothing
pub data Passed : Type 0 where
  From : (source : Source) → (turns : Bool) → Passed
  Bit : (bit : Bool) → Passed
  Nothing : Passed

abbrev pub passed_by_one : (turns : Bool) → List Source → Passed
passed_by_one turns [] = Nothing
passed_by_one turns (source ∷ []) = From source turns
passed_by_one turns (source ∷ more ∷ sources) = Nothing

abbrev pub passed_by_gate : GateKind → List Source → Passed
passed_by_gate Buf inputs = passed_by_one false inputs
passed_by_gate Inv inputs = passed_by_one true inputs
passed_by_gate Tie0 inputs = Bit false
passed_by_gate Tie1 inputs = Bit true
passed_by_gate _ inputs = Nothing

abbrev pub turned : (turns bit : Bool) → Bool
turned turns bit = if turns then not bit else bit

-- the root behind an inverter: it is straight no more, and no constant
abbrev pub inverse_root : NetRoot → NetRoot
inverse_root (Port net inverted straight) = Port net (not inverted) false
inverse_root (Constant bit) = Other
inverse_root Other = Other

abbrev pub turned_root : (turns : Bool) → NetRoot → NetRoot
turned_root turns root = if turns then inverse_root root else root

-- a source has a root where a list of nets leads to it, each driven by a buffer, an inverter or a join from the next
pub data Rooted (n : Netlist) : Source → NetRoot → Type 0 where
  AtPort : {net : ℕ} → driver n net ≡ Input → Rooted n (Net net) (Port net false true)
  AtConstant : {bit : Bool} → Rooted n (Tied bit) (Constant bit)
  AtTie : {net : ℕ} {kind : GateKind} {inputs : List Source} {bit : Bool} → driver n net ≡ Gate kind inputs → passed_by_gate kind inputs ≡ Bit bit → Rooted n (Net net) (Constant bit)
  ThroughGate : {net : ℕ} {kind : GateKind} {inputs : List Source} {source : Source} {turns : Bool} {root : NetRoot} →
      driver n net ≡ Gate kind inputs → passed_by_gate kind inputs ≡ From source turns → Rooted n source root → Rooted n (Net net) (turned_root turns root)
  ThroughJoin : {net : ℕ} {source : Source} {root : NetRoot} → driver n net ≡ Joined source → Rooted n source root → Rooted n (Net net) root

-- ---- the walk back, which finds the root

abbrev pub root_of_passed : (Source → NetRoot) → Passed → NetRoot
root_of_passed walk (From source turns) = turned_root turns (walk source)
root_of_passed walk (Bit bit) = Constant bit
root_of_passed walk Nothing = Other

abbrev pub root_of_driver : (Source → NetRoot) → (net : ℕ) → Driver → NetRoot
root_of_driver walk net Input = Port net false true
root_of_driver walk net (Gate kind inputs) = root_of_passed walk (passed_by_gate kind inputs)
root_of_driver walk net (Joined source) = walk source
root_of_driver walk net (Flop i inverted) = Other
root_of_driver walk net (drivers.Lockup i) = Other
root_of_driver walk net Free = Other

-- a walk of so many nets at most
abbrev pub root_within : Netlist → (steps : ℕ) → Source → NetRoot
root_within n steps (Tied bit) = Constant bit
root_within n steps (Loose i pin) = Other
root_within n zero (Net net) = Other
root_within n (suc steps) (Net net) = root_of_driver (root_within n steps) net (driver n net)

-- the root of a source; no walk without a loop passes more nets than there are
abbrev pub net_root_of : Netlist → Source → NetRoot
net_root_of n source = root_within n (suc (length n.nets)) source
