-- One netlist under two sets of ports: a pattern set makes every input that does not pulse a reset, a configuration only its resets.
use Rattle.std.specs.Prelude.{ℕ, true, ◌≡◌, ◌⊎◌, Some}
use Rattle.dft_netlist.specs.Netlist.{Netlist}
use Rattle.dft_behavior.specs.Logic.{Logic, Ports, Cell, Free, flip_flop, no_cell, logic_of}

-- the second set suits the first: it has the same clocks, and each reset of the first is one of its own
pub record Suits (a b : Ports) : Type 0 where
  pub clocks : (net : ℕ) → b.is_clock net ≡ a.is_clock net
  pub resets : (net : ℕ) → a.is_reset net ≡ true → b.is_reset net ≡ true

-- the second logic means what the first does, or more: a net that is not free in the first means the same, and so does a modelled flip-flop
pub record MeansMore (l m : Logic) : Type 0 where
  pub nets : (net : ℕ) → (l.net net ≡ Free) ⊎ (m.net net ≡ l.net net)
  pub cells : (i : ℕ) → (l.cell i ≡ no_cell i) ⊎ (m.cell i ≡ l.cell i)

-- under the second set of ports each flip-flop that is modelled under the first is the same, and the netlist means as much or more
pub record Widens (n : Netlist) (a b : Ports) : Type 0 where
  pub flops : (i : ℕ) (cell : Cell) → flip_flop n a i ≡ Some cell → flip_flop n b i ≡ Some cell
  pub logic : MeansMore (logic_of n a) (logic_of n b)

-- Ports that suit widen.
abbrev pub PortsWiden : Type 0
PortsWiden = (n : Netlist) (a b : Ports) → Suits a b → Widens n a b
