-- What is saved is one module: read again, its text gives the scanned netlist that it stands for.
use Rattle.std.proofs.Common.{◌≡◌, ◌∙◌, ℕ, List, ap, None, Ok}
use Rattle.dft_files.specs.Outside.{Held}
use Rattle.dft_cells.specs.declared.cell.Cell.{Cell}
use Rattle.dft_cells.specs.Cells.{find_cell}
use Rattle.dft_config.specs.Config.{Config}
use Rattle.dft_netlist.specs.Netlist.{Netlist}
use Rattle.dft_netlist_text.specs.NetlistText.{StandsFor}
use Rattle.dft_hier.specs.Laws.{Gives}
use Rattle.dft_hier.proofs.OneModule.{given_are_over, one_module_gives}
use Rattle.dft_insert.specs.declared.style.Style.{Style}
use Rattle.dft_insert.specs.Statements.{IsKept, scanned}
use Rattle.dft_top.specs.Checks.{NetlistGives}
use Rattle.dft_top.proofs.Promised.{design_of}

-- a design that was loaded has the name of no cell
pub loaded_named : (cells : List Cell) (name : List ℕ) (held : Held) (n : Netlist) → NetlistGives cells name held (Ok n) → find_cell cells n.name ≡ None
loaded_named cells name held n given = let design = design_of cells name held n given in (given_are_over cells design.0 n design.1.stands).named

-- and neither has its scanned netlist, which keeps the name
pub scanned_given : (style : Style) (cells : List Cell) (text : List ℕ) (n : Netlist) (c : Config) → find_cell cells n.name ≡ None → IsKept style n c → StandsFor cells text (scanned style n c) → Gives cells text (scanned style n c)
scanned_given style cells text n c named keeps stands = one_module_gives cells text (scanned style n c) stands (ap (find_cell cells) keeps.design.name ∙ named)
