-- Laws of what texts of several modules say.
use Rattle.std.specs.Prelude.{◌≡◌, false, List, [], ◌∷◌, ◌++◌, None, Ok}
use Rattle.std.specs.List.{All}
use Rattle.std.specs.Str.{bytes_eq}
use Rattle.dft_base.specs.Lexing.{Text}
use Rattle.dft_cells.specs.declared.cell.Cell.{Cell}
use Rattle.dft_cells.specs.Cells.{find_cell}
use Rattle.dft_modules.specs.Modules.{Module}
use Rattle.dft_modules.specs.ModuleTexts.{modules_of}
use Rattle.dft_modules.specs.Sound.{AreModules}

-- no module has the name of a cell or of a module before it
abbrev pub AreNew : List Cell → (before : List Module) → List Module → Type 0
AreNew library before [] = Unit {0}
AreNew library before (m ∷ ms) = (find_cell library m.name ≡ None) × All (λ (other : Module). bytes_eq other.name m.name ≡ false) before × AreNew library (before ++ m ∷ []) ms

-- what a text says is sound, over any library
abbrev pub SaidAreModules : Type 0
SaidAreModules = (library : List Cell) (text : Text) (ms : List Module) → modules_of library text ≡ Ok ms → AreModules library ms × AreNew library [] ms
