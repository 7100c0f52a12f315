-- What a text stands for, or why it stands for none, by what was read of it.
use Rattle.std.proofs.Common.{List}
use Rattle.dft_base.specs.Lexing.{Text}
use Rattle.dft_cells.specs.declared.cell.Cell.{Cell}
use Rattle.dft_netlist.specs.declared.error.NetlistError.{NetlistError}
use Rattle.dft_netlist.specs.Netlist.{Netlist}
use Rattle.dft_netlist_text.specs.Modules.{Draft}
use Rattle.dft_netlist_text.specs.NetlistText.{built}
use Rattle.dft_modules.specs.Modules.{Module}
use Rattle.dft_verilog.specs.Built.{CannotBuild, IsBuilt, IsGrown}
use Rattle.dft_verilog.specs.TextsSaid.{IsAlone, SaysModules}
use Rattle.dft_verilog.proofs.KeptModuleLemmas.{said_are_modules}
use Rattle.dft_verilog.proofs.ReaderLemmas.{all_grown}
use Rattle.dft_verilog_out.specs.Named.{GatesAreJoined}
use Rattle.dft_hier.specs.declared.error.HierError.{HierError}
use Rattle.dft_hier.specs.Hierarchy.{HaveOwnNames}
use Rattle.dft_hier.specs.Laid.{told_of}
use Rattle.dft_hier.specs.Laws.{Gives}
use Rattle.dft_hier.specs.Refusals.{CannotFlatten, IsFlat}
use Rattle.dft_hier.proofs.NewNames.{own_names}
use Rattle.dft_hier.proofs.OneModule.{alone_gives, alone_refused, alone_says}
use Rattle.dft_netlist_reader.specs.Refusals.{HasNoFlat}
use Rattle.dft_netlist_reader.proofs.JoinedDesigns.{flat_joined}

-- ---- a module that stands alone

pub alone_grown : (library : List Cell) (text : Text) (d : Draft) → IsAlone library text d → IsGrown (built d)
alone_grown library text d a = all_grown library text d a.said

pub alone_stands : (library : List Cell) (text : Text) (d : Draft) (design : Netlist) → IsAlone library text d → IsBuilt d design → Gives library text design × GatesAreJoined design
alone_stands library text d design a b = let gives = alone_gives library text d design a b in (gives, flat_joined library text design gives)

pub alone_none : (library : List Cell) (text : Text) (d : Draft) (why : NetlistError) → IsAlone library text d → CannotBuild d why → HasNoFlat library text (told_of why)
alone_none library text d why a h = record { modules = _; said = alone_says library text d a; refused = alone_refused library text d why a h }

-- ---- modules

pub own_modules : (library : List Cell) (text : Text) (ms : List Module) → SaysModules library text ms → HaveOwnNames ms
own_modules library text ms m = own_names _ _ (said_are_modules library text ms m.said).1

pub modules_stand : (library : List Cell) (text : Text) (ms : List Module) (design : Netlist) → SaysModules library text ms → IsFlat ms library design → Gives library text design × GatesAreJoined design
modules_stand library text ms design m flat =
    let gives : Gives library text design = record { modules = ms; said = m.said; flat = flat } in
    (gives, flat_joined library text design gives)

pub modules_none : (library : List Cell) (text : Text) (ms : List Module) (error : HierError) → SaysModules library text ms → CannotFlatten ms library error → HasNoFlat library text error
modules_none library text ms error m h = record { modules = ms; said = m.said; refused = h }

pub ruleset read_texts = (alone_grown, alone_stands, alone_none, own_modules, modules_stand, modules_none)
