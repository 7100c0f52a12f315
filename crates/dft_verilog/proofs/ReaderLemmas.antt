-- What a text stands for, and why it is refused.
use Rattle.std.proofs.Common.{◌≡◌, List, Ok, sym, ap, ◌∙◌}
use Rattle.dft_base.specs.Lexing.{Text}
use Rattle.dft_cells.specs.declared.cell.Cell.{Cell}
use Rattle.dft_netlist_text.specs.Modules.{Draft}
use Rattle.dft_netlist_text.specs.NetlistText.{module_of, built}
use Rattle.dft_verilog.specs.Built.{IsGrown}
use Rattle.dft_verilog.specs.Laws.{StandsForOne}
use Rattle.dft_verilog.proofs.BuildableLemmas.{buildable_are_built}
use Rattle.dft_verilog.proofs.GrammarLemmas.{modules_buildable}

-- a text stands for one netlist
pub one_netlist : StandsForOne
one_netlist library text x y a b =
    let draft : a.draft ≡ b.draft = cc (a.said, b.said) in
    let grown : a.grown ≡ b.grown = cc (a.parts, b.parts, ap built draft) in
    a.finished.same ∙ grown ∙ sym b.finished.same

-- of a module that the grammar gives no part is refused
pub all_grown : (library : List Cell) (text : Text) (d : Draft) → module_of library text ≡ Ok d → IsGrown (built d)
all_grown library text d said = buildable_are_built d (modules_buildable library text d said)
