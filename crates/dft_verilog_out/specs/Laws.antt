-- What holds of netlists and the texts that stand for them.
use Rattle.std.specs.Prelude.{ℕ, ◌<◌, ◌≡◌, List, length}
use Rattle.dft_base.specs.Lexing.{Text}
use Rattle.dft_cells.specs.declared.cell.Cell.{Cell}
use Rattle.dft_cells.specs.WellFormed.{IsWellFormed}
use Rattle.dft_netlist.specs.Netlist.{Netlist}
use Rattle.dft_netlist.specs.NetDrivers.{IsSingle}
use Rattle.dft_netlist.specs.Orders.{IsOrderable}
use Rattle.dft_netlist.specs.Sound.{IsNetlist}
use Rattle.dft_netlist_text.specs.NetlistText.{StandsFor}
use Rattle.dft_verilog_out.specs.Written.{written}
use Rattle.dft_verilog_out.specs.Named.{GatesAreJoined}

-- a netlist that a text stands for has its gates joined at every pin, so it can be written
abbrev pub TextsAreJoined : Type 0
TextsAreJoined = (library : List Cell) (text : Text) (n : Netlist) → StandsFor library text n → GatesAreJoined n

-- and it is over the cells that the text was read with
abbrev pub LibraryIsKept : Type 0
LibraryIsKept = (library : List Cell) (text : Text) (n : Netlist) → StandsFor library text n → n.library ≡ library

-- a netlist that can be written: it is sound, its gates are joined, and it could be finished
pub record CanBeWritten (n : Netlist) : Type 0 where
  pub sound : IsNetlist n
  pub library : IsWellFormed n.library
  pub gates : GatesAreJoined n
  pub single : IsSingle n
  pub orderable : (net : ℕ) → net < length n.nets → IsOrderable n net

-- the written form of such a netlist stands for it
abbrev pub WrittenStands : Type 0
WrittenStands = (n : Netlist) → CanBeWritten n → StandsFor n.library (written n) n
