-- What a text says, by the modules that were read.
use Rattle.std.proofs.Common.{◌≡◌, List, Ok}
use Rattle.dft_base.specs.Lexing.{Text}
use Rattle.dft_cells.specs.declared.cell.Cell.{Cell}
use Rattle.dft_netlist_text.specs.Lexemes.{tokens}
use Rattle.dft_modules.specs.Modules.{Module}
use Rattle.dft_modules.specs.ModuleTexts.{modules_of}
use Rattle.dft_verilog.specs.TextsSaid.{IsSaid, ReadsAlone, modules_in}
use Rattle.dft_verilog.specs.declared.texts.TextSaid.{TextSaid}
use Rattle.dft_verilog.specs.declared.texts.TextSaid.TheVariants as text_said
use Rattle.dft_verilog.proofs.AloneLemmas.{alone_of}
use Rattle.dft_verilog.proofs.KeptModuleLemmas.{modules_sound}

-- what was read is what the text says
pub text_said_by : (library : List Cell) (text : Text) (s : TextSaid) → modules_of library text ≡ Ok (modules_in text s) → ReadsAlone library (tokens text) s → IsSaid library text s
text_said_by library text (text_said.Alone draft) said alone = alone_of library text draft alone
text_said_by library text (text_said.Modules modules) said alone = record { said = said; sound = modules_sound library text modules.items said }
