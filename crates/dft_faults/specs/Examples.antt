-- Worked examples: faults of small designs, and the designs with them.
use Rattle.std.specs.Prelude.{codes, ℕ, Bool, true, false, ◌==◌, ◌≡◌, List, [], ◌∷◌, None, Some}
use Rattle.dft_cells.specs.Standard.{standard_cells}
use Rattle.dft_base.specs.declared.dir.Dir.TheVariants.{Input, Output}
use Rattle.dft_netlist.specs.declared.ids.NetId.{NetId}
use Rattle.dft_netlist.specs.declared.port.Port.{Port}
use Rattle.dft_netlist.specs.declared.instance.Signal.TheVariants.{Net, Constant, Unconnected}
use Rattle.dft_netlist.specs.declared.instance.CellRef.TheVariants.{Library}
use Rattle.dft_netlist.specs.declared.instance.Instance.{Instance}
use Rattle.dft_netlist.specs.declared.instance.Join.{Join}
use Rattle.dft_netlist.specs.Netlist.{Netlist}
use Rattle.dft_faults.specs.declared.fault.Fault.{Fault}
use Rattle.dft_faults.specs.Faults.{faults}
use Rattle.dft_faults.specs.Faulty.{faulty}

abbrev pub id : ℕ → NetId
id net = record { 0 = net }

abbrev pub stuck : (net : ℕ) → Bool → Fault
stuck net value = record { net = id net; value = value }

-- the standard cell INV
abbrev pub inverter : List ℕ → (input output : ℕ) → Instance
inverter name input output = record { name = Some name; cell = Library (record { 0 = 8 }); pins = Net (id input) ∷ Net (id output) ∷ [] }

-- `module m (a, y); input a; output y; INV g (.A(a), .Y(n)); INV h (.A(n), .Y(y)); endmodule`
abbrev pub two_inverters : Netlist
two_inverters = record {
  name = codes "m";
  library = standard_cells;
  ports = record { name = codes "a"; dir = Input; range = None; bits = id 0 ∷ [] } ∷ record { name = codes "y"; dir = Output; range = None; bits = id 1 ∷ [] } ∷ [];
  nets = codes "a" ∷ codes "y" ∷ codes "n" ∷ [];
  instances = inverter (codes "g") 0 2 ∷ inverter (codes "h") 2 1 ∷ [];
  joins = [];
}

-- Its output and the net between have faults, and its input has none. Where the input is a clock, no net has one.
pub record ListsFaults : Type 0 where
  pub all : faults two_inverters (λ net. false) ≡ stuck 1 false ∷ stuck 1 true ∷ stuck 2 false ∷ stuck 2 true ∷ []
  pub of_clock : faults two_inverters (λ net. net == 0) ≡ []

-- The net between at 1: its inverter drives nothing, and a join keeps it.
abbrev pub KeepsNet : Type 0
KeepsNet =
    faulty two_inverters (stuck 2 true) ≡ record two_inverters {
      instances = record { name = Some (codes "g"); cell = Library (record { 0 = 8 }); pins = Net (id 0) ∷ Unconnected ∷ [] } ∷ inverter (codes "h") 2 1 ∷ [];
      joins = record { target = id 2; source = Constant true } ∷ [];
    }
