use Rattle.std.proofs.Common.{◌≡◌, Bool, false, get_or}
use Rattle.std.proofs.lemmas.List.{get_or_default}
use Rattle.dft_netlist.specs.declared.ids.InstanceId.{InstanceId}
use Rattle.dft_merge.specs.LoadPlan.{columns_by, rows_by}
use Rattle.dft_merge.proofs.PlaceLemmas.{row_wide}
use Rattle.dft_merge.proofs.SlotLemmas.{added_again, scanned_at, size_of}
use Rattle.dft_merge.proofs.adding.system_of.Goals as goal

abbrev none : InstanceId × Bool
none = (record { 0 = 0 }, false)

pub add_cell-requires-clause-scanned : goal.add_cell-requires-clause-scanned
add_cell-requires-clause-scanned c =
    let x : InstanceId × Bool = get_or c.args.cells.now c.loop-given.given-index none in
    let is : x ≡ get_or c.args.cells.now c.loop-given.given-index x = get_or_default c.args.cells.now c.loop-given.given-index none x c.loop-given-test.true in
    scanned_at (rows_by c.args.loads.now) c.args.cells.now c.loop-given.given-index x c.requires.scanned c.loop-given-test.true is

pub loop-given-preserved : goal.loop-given-preserved
loop-given-preserved c =
    let x : InstanceId × Bool = get_or c.args.cells.now c.loop-given.given-index none in
    let is : x ≡ get_or c.args.cells.now c.loop-given.given-index x = get_or_default c.args.cells.now c.loop-given.given-index none x c.loop-given-test.true in
    let row = rows_by c.args.loads.now in
    let size = size_of (columns_by c.args.loads.now) row (λ cell r found. row_wide c.args.loads.now.plan.chains c.args.loads.now.rows cell r c.soundness.ensures.rows found) x.0
    (scanned_at row c.args.cells.now c.loop-given.given-index x c.requires.scanned c.loop-given-test.true is) in
    added_again (columns_by c.args.loads.now) row c.args.cells.now c.loop-given.given-index x c.loop-given.system c.add_cell.new.system c.add_cell.result c.loop-given-test.true is size
    c.add_cell.ensures.columns c.requires.solvable c.loop-given.invariant c.add_cell.ensures.added
