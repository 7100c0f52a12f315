use Rattle.std.proofs.Common.{◌≡◌, ◌<◌, ◌∙◌, Some, ap, length, slice_get, subst, sym}
use Rattle.dft_netlist.proofs.NotesLemmas.{item_at}
use Rattle.dft_stitch.specs.Plans.{Plan}
use Rattle.dft_stitch.proofs.chains.Chains.chain.Goals as goal

pub returns : goal.returns
returns c =
    let chains = c.self.inside.chains.items in
    let P : Plan → Type 0 = λ plan. c.args.c < length plan.chains in
    let less : c.args.c < length chains = subst P (sym c.self.view_is) c.requires in
    let Q : Plan → Type 0 = λ plan. slice_get plan.chains c.args.c ≡ Some c.as_slice.result.now in
    subst Q c.self.view_is (item_at chains c.args.c c.index.result.now less (rw c.from.ensures at c.index.ensures) ∙ ap Some (sym c.as_slice.ensures))
