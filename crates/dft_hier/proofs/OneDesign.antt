-- A text gives one flat design at most.
use Rattle.std.proofs.Common.{◌≡◌, List, [], ◌∷◌, Ok, sym, ap, subst, ◌∙◌}
use Rattle.dft_base.specs.Lexing.{Text}
use Rattle.dft_cells.specs.declared.cell.Cell.{Cell}
use Rattle.dft_netlist.specs.Netlist.{Netlist}
use Rattle.dft_modules.specs.Modules.{Module}
use Rattle.dft_hier.specs.Flat.{flat_netlist}
use Rattle.dft_hier.specs.Laws.{Gives}
use Rattle.dft_hier.specs.Refusals.{IsFlat}

-- modules have one flat design at most
pub flat_is_one : (ms : List Module) (library : List Cell) (a b : Netlist) → IsFlat ms library a → IsFlat ms library b → a ≡ b
flat_is_one ms library a b x y =
    let both : x.top ∷ [] ≡ y.top ∷ [] = sym x.joinable.hierarchy.one ∙ y.joinable.hierarchy.one in
    let top : x.top ≡ y.top = cc in
    let parts : Ok x.grown ≡ Ok y.grown = sym x.parts ∙ ap (flat_netlist ms library) top ∙ y.parts in
    let grown : x.grown ≡ y.grown = cc in
    x.finished.same ∙ grown ∙ sym y.finished.same

pub gives_one : (library : List Cell) (text : Text) (a b : Netlist) → Gives library text a → Gives library text b → a ≡ b
gives_one library text a b x y =
    let both : Ok x.modules ≡ Ok y.modules = sym x.said ∙ y.said in
    let same : x.modules ≡ y.modules = cc in
    flat_is_one y.modules library a b (subst (λ (ms : List Module). IsFlat ms library a) same x.flat) y.flat
