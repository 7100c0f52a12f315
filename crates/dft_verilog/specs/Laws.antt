-- Laws of what netlist texts stand for.
use Rattle.std.specs.Prelude.{◌≡◌, List}
use Rattle.dft_base.specs.Lexing.{Text}
use Rattle.dft_cells.specs.declared.cell.Cell.{Cell}
use Rattle.dft_netlist.specs.Netlist.{Netlist}
use Rattle.dft_netlist_text.specs.NetlistText.{StandsFor}

-- a text stands for one netlist at most
abbrev pub StandsForOne : Type 0
StandsForOne = (library : List Cell) (text : Text) (a b : Netlist) → StandsFor library text a → StandsFor library text b → a ≡ b
