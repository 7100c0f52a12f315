-- A walk through the items of the top begins.
use Rattle.std.proofs.Common.{ℕ, ◌<◌, ◌≤◌, ◌≡◌, List, [], length, get_or, Option, Some, slice_get, sym, ap, subst, ◌∙◌}
use Rattle.std.proofs.lemmas.Option.{slice_get-get_or}
use Rattle.dft_base.specs.Lexing.{Text}
use Rattle.dft_cells.specs.declared.cell.Cell.{Cell}
use Rattle.dft_netlist.specs.declared.limits.TheConstants.{MAX_NETS}
use Rattle.dft_netlist.specs.Netlist.{Netlist}
use Rattle.dft_netlist_text.specs.NetlistText.{Grown}
use Rattle.dft_modules.specs.Modules.{Module}
use Rattle.dft_hier.specs.declared.weights.Weight.{Weight}
use Rattle.dft_hier.specs.Flat.{parts_within}
use Rattle.dft_hier.specs.ItemWalks.{ItemStand, at_top, adds, IsItemWalk}
use Rattle.dft_hier.specs.Laid.{IsLaidOut, parts_in, parts_at}
use Rattle.dft_hier.specs.Weights.{Live}
use Rattle.dft_hier.proofs.ItemWalkLemmas.{items_begin}
use Rattle.dft_hier.proofs.ItemsLaidLemmas.{laid_items}
use Rattle.dft_hier.proofs.PartLemmas.{nets_same}

pub items_start : (library : List Cell) (ms : List Module) (weights : List Weight) (items : List Live) (top : ℕ) (m : Module) (n : Netlist) (count : ℕ) (w : ItemStand) → IsLaidOut library ms weights items → top < length ms → m ≡ get_or ms top m → length n.nets ≡ length (parts_at ms top).nets →
    length n.nets ≤ MAX_NETS → n.library ≡ library → count ≡ length m.nets → w ≡ at_top top count → IsItemWalk ms items weights library (adds (parts_at ms top) n) w n
items_start library ms weights items top m n count w l less read nets few same counted stands =
    let at : slice_get ms top ≡ Some m = slice_get-get_or ms top m less ∙ ap (λ (x : Module). Some x) (sym read) in
    let laid = laid_items library ms weights items l.sound l.known l.apart l.weights l.items in
    let size = nets ∙ ap (λ (o : Option Module). length (parts_in ms o).nets) at ∙ ap (λ (ns : List Text). length ns) (nets_same (length ms) ms [] 0 m) in
    let begins = items_begin ms items weights library top m n laid at size few same in
    let whole : adds (parts_at ms top) n ≡ adds (parts_within (length ms) ms [] 0 m) n = ap (λ (o : Option Module). adds (parts_in ms o) n) at in
    let stand : w ≡ at_top top (length m.nets) = stands ∙ ap (at_top top) counted in
    subst (λ (g : Grown). IsItemWalk ms items weights library g w n) (sym whole) (subst (λ (x : ItemStand). IsItemWalk ms items weights library (adds (parts_within (length ms) ms [] 0 m) n) x n) (sym stand) begins)
