use Rattle.std.proofs.Common.{◌≡◌, ◌≤◌, ◌+◌, ◌∙◌, ℕ, List, Option, Some, ap, arith, length, refl, rules, slice_get, subst, sym}
use Rattle.dft_netlist.specs.declared.ids.InstanceId.{InstanceId}
use Rattle.dft_netlist.proofs.NotesLemmas.{item_at}
use Rattle.dft_stitch.specs.declared.places.CellPlace.{CellPlace}
use Rattle.dft_stitch.specs.Tables.{AreBelow, Noted}
use Rattle.dft_stitch.proofs.TableLemmas.{KnowsSome, knows_all, knows_more, knows_none, refilled}
use Rattle.dft_stitch.proofs.table.find_places.Goals as goal

pub note_cells-requires-clause-short : goal.note_cells-requires-clause-short
note_cells-requires-clause-short c =
    let P : List InstanceId → Type 0 = λ cells. length cells ≤ 65536 in
    let is = c.as_slice.ensures ∙ c.index-chains-chain.is in
    subst P (sym is) (c.requires.short c.loop-chain.chain c.index-chains-chain.result c.loop-chain-test.true)

pub note_cells-requires-clause-below : goal.note_cells-requires-clause-below
note_cells-requires-clause-below c =
    let size : c.args.count ≡ length c.deref_mut.result.now = sym (ap length c.deref_mut.ensures.value ∙ c.loop-chain.invariant.size) in
    let P : List InstanceId → Type 0 = λ cells. AreBelow (length c.deref_mut.result.now) cells in
    let Q : ℕ → Type 0 = λ m. AreBelow m c.index-chains-chain.result in
    subst P (sym c.as_slice.ensures) (subst Q size (subst (AreBelow c.args.count) (sym c.index-chains-chain.is) (c.requires.below c.loop-chain.chain c.index-chains-chain.result c.loop-chain-test.true)))

pub loop-chain-init : goal.loop-chain-init
loop-chain-init c = knows_none c.args.count c.args.chains.now 0 c.in_ok-places.places.items refl (c.in_ok-places.ensures.items_if_clones_equal (λ y is. search rules))

pub loop-chain-preserved : goal.loop-chain-preserved
loop-chain-preserved c =
    let chains = c.args.chains.now in
    let k = c.loop-chain.chain in
    let old = c.loop-chain.places.items in
    let cells = c.as_slice.result.now in
    let at : slice_get chains k ≡ Some cells = item_at chains k c.index-chains-chain.result c.loop-chain-test.true c.index-chains-chain.is ∙ ap Some (sym c.as_slice.ensures) in
    let same : length c.note_cells.new.places ≡ length old = c.note_cells.auto.places ∙ ap length c.deref_mut.ensures.value in
    let P : List (Option CellPlace) → Type 0 = λ places. Noted k cells (length cells) places c.note_cells.new.places in
    let noted = subst P c.deref_mut.ensures.value c.note_cells.ensures in
    let more = knows_more c.args.count chains k cells old c.note_cells.new.places at c.loop-chain.invariant noted in
    let Q : List (Option CellPlace) → Type 0 = λ places. KnowsSome c.args.count chains (k + 1) places in
    subst Q (sym (refilled old c.note_cells.new.places c.loop-chain.places.len (omega (arith, c.loop-chain.places.ok.0)) same)) more

pub returns : goal.returns
returns c = knows_all c.args.count c.args.chains.now c.loop-chain.chain c.loop-chain.places.items c.loop-chain-test.false c.loop-chain.invariant
