-- What holds of the flat design that a netlist text stands for, and of why it stands for none.
use Rattle.std.specs.Prelude.{◌≡◌, List}
use Rattle.dft_base.specs.Lexing.{Text}
use Rattle.dft_cells.specs.declared.cell.Cell.{Cell}
use Rattle.dft_netlist.specs.Netlist.{Netlist}
use Rattle.dft_hier.specs.Laws.{Gives}
use Rattle.dft_verilog_out.specs.Named.{GatesAreJoined}
use Rattle.dft_netlist_reader.specs.declared.error.DesignError.{DesignError}
use Rattle.dft_netlist_reader.specs.Refusals.{HasNoDesign, IsReason}

-- ---- the design

-- its gates are joined at every pin, so it can be written again
abbrev pub FlatAreJoined : Type 0
FlatAreJoined = (library : List Cell) (text : Text) (n : Netlist) → Gives library text n → GatesAreJoined n

-- ---- refusals

-- a text is refused for one reason at most
abbrev pub RefusalsAreOne : Type 0
RefusalsAreOne = (library : List Cell) (text : Text) (a b : DesignError) → IsReason a → IsReason b → HasNoDesign library text a → HasNoDesign library text b → a ≡ b

-- and not where it stands for a design
abbrev pub DesignOrRefusal : Type 0
DesignOrRefusal = (library : List Cell) (text : Text) (n : Netlist) (error : DesignError) → IsReason error → Gives library text n → HasNoDesign library text error → ⊥
