use Rattle.std.proofs.Common.{arith, get_or, refl}
use Rattle.std.proofs.lemmas.Option.{slice_get-get_or}
use Rattle.dft_stitch.proofs.TableLemmas.{all_noted, none_noted, one_noted}
use Rattle.dft_stitch.proofs.table.note_cells.Goals as goal

pub bounds-places-cell : goal.bounds-places-cell
bounds-places-cell c =
    let live = c.requires.below c.loop-place.place (record { 0 = 0 }) c.loop-place-test.true in
    omega (arith, live, c.loop-place.invariant.count)

pub loop-place-init : goal.loop-place-init
loop-place-init c = none_noted c.args.chain c.args.cells.now 0 c.args.places.now refl

pub loop-place-preserved : goal.loop-place-preserved
loop-place-preserved c =
    let cells = c.args.cells.now in
    let k = c.loop-place.place in
    let live = c.requires.below k (record { 0 = 0 }) c.loop-place-test.true in
    one_noted c.args.chain cells k c.args.places.now c.loop-place.places (get_or cells k (record { 0 = 0 })) (omega (arith, live, c.loop-place.invariant.count))
    (slice_get-get_or cells k (record { 0 = 0 }) c.loop-place-test.true) c.loop-place.invariant

pub returns : goal.returns
returns c = all_noted c.args.chain c.args.cells.now c.loop-place.place c.args.places.now c.loop-place.places c.loop-place-test.false c.loop-place.invariant
