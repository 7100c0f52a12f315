-- What a text of one module or of several says.
use Rattle.std.specs.Prelude.{◌≡◌, List, [], ◌∷◌, None, Ok, true}
use Rattle.dft_base.specs.Lexing.{Text}
use Rattle.dft_cells.specs.declared.cell.Cell.{Cell}
use Rattle.dft_cells.specs.Cells.{find_cell}
use Rattle.dft_netlist_text.specs.declared.text.TokenKind.TheVariants as kind
use Rattle.dft_netlist_text.specs.Lexemes.{Token}
use Rattle.dft_netlist_text.specs.Modules.{Draft}
use Rattle.dft_netlist_text.specs.NetlistText.{module_of}
use Rattle.dft_netlist_text.specs.Steps.{sees}
use Rattle.dft_modules.specs.Modules.{Module}
use Rattle.dft_modules.specs.ModuleTexts.{module_said, modules_of, next_module}
use Rattle.dft_modules.specs.Sound.{AreModules}
use Rattle.dft_verilog.specs.declared.texts.TextSaid.{TextSaid}
use Rattle.dft_verilog.specs.declared.texts.TextSaid.TheVariants as text_said
use Rattle.dft_verilog_module.specs.SaidModules.{said}

-- the text is that of a lone module, which says this and has no cell's name
pub record IsAlone (library : List Cell) (text : Text) (d : Draft) : Type 0 where
  pub said : module_of library text ≡ Ok d
  pub named : find_cell library d.name ≡ None
  pub library_is : d.library ≡ library

-- the text says these modules, which are sound
pub record SaysModules (library : List Cell) (text : Text) (ms : List Module) : Type 0 where
  pub said : modules_of library text ≡ Ok ms
  pub sound : AreModules library ms

-- what a text says: a lone module, or modules
abbrev pub IsSaid : List Cell → Text → TextSaid → Type 0
IsSaid library text (text_said.Alone draft) = IsAlone library text draft
IsSaid library text (text_said.Modules modules) = SaysModules library text modules.items

-- the modules that were said
abbrev pub modules_in : Text → TextSaid → List Module
modules_in text (text_said.Alone draft) = module_said text (said draft []) ∷ []
modules_in text (text_said.Modules modules) = modules.items

-- where one module stands alone, it was read from these tokens, and the text ends behind it
pub record IsReadAlone (library : List Cell) (ts : List Token) (d : Draft) : Type 0 where
  pub behind : List Token
  pub read : next_module library [] ts ≡ Ok (said d [], behind)
  pub ended : sees kind.End behind ≡ true

abbrev pub ReadsAlone : List Cell → (ts : List Token) → TextSaid → Type 0
ReadsAlone library ts (text_said.Alone draft) = IsReadAlone library ts draft
ReadsAlone library ts (text_said.Modules modules) = Unit {0}
