-- Why a netlist text stands for no design.
use Rattle.std.specs.Prelude.{◌≡◌, List, Ok}
use Rattle.dft_base.specs.Lexing.{Text}
use Rattle.dft_cells.specs.declared.cell.Cell.{Cell}
use Rattle.dft_netlist.specs.declared.error.NetlistError.TheVariants as netlist
use Rattle.dft_modules.specs.Modules.{Module}
use Rattle.dft_modules.specs.ModuleTexts.{modules_of}
use Rattle.dft_verilog.specs.declared.error.ModulesError.TheVariants as modules
use Rattle.dft_verilog.specs.declared.error.VerilogError.TheVariants as verilog
use Rattle.dft_verilog.specs.ModuleRefusals.{IsModulesRefused}
use Rattle.dft_hier.specs.declared.error.HierError.{HierError}
use Rattle.dft_hier.specs.declared.error.HierError.TheVariants as hier
use Rattle.dft_hier.specs.Refusals.{CannotFlatten}
use Rattle.dft_netlist_reader.specs.declared.error.DesignError.{DesignError}
use Rattle.dft_netlist_reader.specs.declared.error.DesignError.TheVariants as told

-- the text says modules, and these have no flat design
pub record HasNoFlat (library : List Cell) (text : Text) (error : HierError) : Type 0 where
  pub modules : List Module
  pub said : modules_of library text ≡ Ok modules
  pub refused : CannotFlatten modules library error

-- the text is refused by its first fault, or else its modules have no flat design
abbrev pub HasNoDesign : List Cell → Text → DesignError → Type 0
HasNoDesign library text (told.Text error) = IsModulesRefused library text error
HasNoDesign library text (told.Modules error) = HasNoFlat library text error

-- it is no want of memory
abbrev pub IsReason : DesignError → Type 0
IsReason (told.Text (modules.Module (verilog.Memory error))) = ⊥
IsReason (told.Text error) = Unit {0}
IsReason (told.Modules (hier.Memory error)) = ⊥
IsReason (told.Modules (hier.Netlist (netlist.Memory error))) = ⊥
IsReason (told.Modules error) = Unit {0}
