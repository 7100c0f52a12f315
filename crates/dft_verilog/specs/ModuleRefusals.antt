-- What a reader tells of a refused text of several modules.
use Rattle.std.specs.Prelude.{◌≡◌, List, Err}
use Rattle.dft_base.specs.Lexing.{Text, place_of}
use Rattle.dft_cells.specs.declared.cell.Cell.{Cell}
use Rattle.dft_lexing.specs.declared.read_error.ReadError.{ReadError}
use Rattle.dft_lexing.specs.declared.read_error.ReadError.TheVariants as errors
use Rattle.dft_modules.specs.declared.fault.ModulesFault.{ModulesFault}
use Rattle.dft_modules.specs.declared.fault.ModulesFault.TheVariants as fault
use Rattle.dft_modules.specs.ModuleTexts.{modules_of}
use Rattle.dft_verilog.specs.declared.error.ModulesError.{ModulesError}
use Rattle.dft_verilog.specs.declared.error.ModulesError.TheVariants as told
use Rattle.dft_verilog.specs.declared.error.VerilogError.TheVariants as verilog
use Rattle.dft_verilog.specs.Refusals as one

-- how a fault is told, with the line and column of its place
abbrev pub told_of : Text → ModulesFault → ModulesError
told_of text (fault.Module f) = told.Module (one.told_of f.cause (place_of text f.left))
told_of text (fault.Repeated name) = told.Repeated name

abbrev pub told_of_error : Text → ReadError ModulesFault → ModulesError
told_of_error text (errors.Fault f) = told_of text f
told_of_error text (errors.Memory e) = told.Module (verilog.Memory e)

-- the first fault of the text is told so
pub record IsFirstOfModules (library : List Cell) (text : Text) (error : ModulesError) : Type 0 where
  pub fault : ModulesFault
  pub first : modules_of library text ≡ Err fault
  pub told : error ≡ told_of text fault

-- Why a text of several modules is refused: by its first fault. Nothing is said where memory runs out.
abbrev pub IsModulesRefused : List Cell → Text → ModulesError → Type 0
IsModulesRefused library text (told.Module (verilog.Memory error)) = Unit {0}
IsModulesRefused library text error = IsFirstOfModules library text error
