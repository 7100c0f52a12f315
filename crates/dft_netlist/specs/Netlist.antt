-- What a design is: its ports, nets, instances and joins, each list in order (IEEE 1364, structural part).
use Rattle.std.specs.Prelude.{ℕ, List}
use Rattle.dft_cells.specs.declared.cell.Cell.{Cell}
use Rattle.dft_netlist.specs.declared.port.Port.{Port}
use Rattle.dft_netlist.specs.declared.instance.Instance.{Instance}
use Rattle.dft_netlist.specs.declared.instance.Join.{Join}

pub record Netlist : Type 0 where
  -- the module's name
  pub name : List ℕ
  -- the cells that instances may name
  pub library : List Cell
  pub ports : List Port
  -- the name of each net, by its number
  pub nets : List (List ℕ)
  pub instances : List Instance
  pub joins : List Join
