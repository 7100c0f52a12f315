-- What one of several modules says, by the steps in which it is read.
use Rattle.std.specs.Prelude.{List, [], Option, Some, None, slice_get, Err, if◌then◌else◌}
use Rattle.dft_base.specs.Lexing.{Text}
use Rattle.dft_base.specs.Parser.{pure, ◌>>=◌, ◌>>◌}
use Rattle.dft_cells.specs.declared.cell.Cell.{Cell}
use Rattle.dft_netlist_text.specs.declared.text.TokenKind.TheVariants as kind
use Rattle.dft_netlist_text.specs.Steps.{Rule, expect}
use Rattle.dft_netlist_text.specs.Modules.{Draft, empty_draft}
use Rattle.dft_netlist_text.specs.NetlistText.{header, module_end}
use Rattle.dft_lexing.specs.declared.read_error.ReadError.{ReadError}
use Rattle.dft_lexing.specs.declared.read_error.ReadError.TheVariants as errors
use Rattle.dft_netlist_text.specs.declared.text.Fault.{Fault}
use Rattle.dft_modules.specs.declared.fault.ModulesFault.{ModulesFault}
use Rattle.dft_modules.specs.declared.fault.ModulesFault.TheVariants as fault
use Rattle.dft_cells.specs.declared.cell.CellId.{CellId}
use Rattle.dft_cells.specs.Cells.{find_cell}
use Rattle.dft_netlist_text.specs.Items.{instances_of}
use Rattle.dft_modules.specs.ModuleTexts.{ModulesRule, in_module, is_repeated}
use Rattle.dft_modules.specs.SubInstances.{DraftSub, Said, sub_instances, module_items}

-- what a module has said, and its module instances
abbrev pub said : Draft → List DraftSub → Said
said draft subs = record { draft = draft; subs = subs }

-- the instances of the cell of a name, or of a module where no cell has it
abbrev pub named_as : (word : Text) → Said → Option CellId → Rule Said
named_as word m None = sub_instances word m
named_as word m (Some id) = instances_of id (slice_get m.draft.library id.0) m.draft >>= (λ d. pure (said d m.subs))

-- an item behind the name that it begins with
abbrev pub behind_item_name : (word : Text) → Said → Rule Said
behind_item_name word m = named_as word m (find_cell m.draft.library word)

-- `module` and its name
abbrev pub module_name : Rule Text
module_name = expect kind.Module >> expect kind.Name

-- the header of the module with this name
unfoldable pub headed : Text → List Cell → Rule Draft
headed word library = do
  d ← header (empty_draft word library)
  expect kind.Semicolon
  pure d

-- a module behind its name, to its `endmodule`
unfoldable pub behind_name : Text → List Cell → Rule Said
behind_name word library = do
  start ← headed word library
  m ← module_items (said start [])
  whole ← module_end m.draft
  pure (record m { draft = whole })

-- how the fault of a module is told of a text of several
abbrev pub in_module_error : ReadError Fault → ReadError ModulesFault
in_module_error (errors.Fault f) = errors.Fault (fault.Module f)
in_module_error (errors.Memory e) = errors.Memory e

-- the next module of a text behind its name, which is none of a cell or of these
abbrev pub next_named : List Cell → (names : List Text) → (word : Text) → ModulesRule Said
next_named library names word = λ ts. if is_repeated library names word then Err (fault.Repeated word) else in_module (behind_name word library ts)
