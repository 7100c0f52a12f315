use Rattle.std.proofs.Common.{◌≡◌, Bool, false, get_or}
use Rattle.std.proofs.lemmas.List.{get_or_default}
use Rattle.dft_netlist.specs.declared.ids.InstanceId.{InstanceId}
use Rattle.dft_merge.specs.LoadPlan.{columns_by, rows_by}
use Rattle.dft_merge.proofs.PlaceLemmas.{row_wide}
use Rattle.dft_merge.proofs.SlotLemmas.{refused_cell, run_cell, scanned_at, size_of}
use Rattle.dft_merge.proofs.adding.add_cells.Goals as goal

abbrev none : InstanceId × Bool
none = (record { 0 = 0 }, false)

pub add_cell-requires-clause-scanned : goal.add_cell-requires-clause-scanned
add_cell-requires-clause-scanned c =
    let x : InstanceId × Bool = get_or c.args.cells.now c.loop-id.id none in
    let is : x ≡ get_or c.args.cells.now c.loop-id.id x = get_or_default c.args.cells.now c.loop-id.id none x c.loop-id-test.true in
    scanned_at (rows_by c.args.loads.now) c.args.cells.now c.loop-id.id x c.requires.scanned c.loop-id-test.true is

pub returns-then-not-add_cell-clause-added : goal.returns-then-not-add_cell-clause-added
returns-then-not-add_cell-clause-added c =
    let x : InstanceId × Bool = get_or c.args.cells.now c.loop-id.id none in
    let is : x ≡ get_or c.args.cells.now c.loop-id.id x = get_or_default c.args.cells.now c.loop-id.id none x c.loop-id-test.true in
    refused_cell (columns_by c.args.loads.now) (rows_by c.args.loads.now) c.args.system.now c.loop-id.system c.add_cell.new.system c.args.cells.now c.loop-id.id x c.loop-id-test.true is
    c.loop-id.invariant.run c.if-not-add_cell.ensures.added

pub loop-id-preserved : goal.loop-id-preserved
loop-id-preserved c =
    let x : InstanceId × Bool = get_or c.args.cells.now c.loop-id.id none in
    let is : x ≡ get_or c.args.cells.now c.loop-id.id x = get_or_default c.args.cells.now c.loop-id.id none x c.loop-id-test.true in
    let row = rows_by c.args.loads.now in
    let size = size_of (columns_by c.args.loads.now) row (λ cell r found. row_wide c.args.loads.now.plan.chains c.args.loads.now.rows cell r c.soundness.ensures.rows found) x.0
    (scanned_at row c.args.cells.now c.loop-id.id x c.requires.scanned c.loop-id-test.true is) in
    record {
      columns = c.add_cell.ensures.columns;
      run = run_cell (columns_by c.args.loads.now) row c.args.system.now.kept c.loop-id.system.kept c.add_cell.new.system.kept c.args.cells.now c.loop-id.id x c.loop-id-test.true is size
          c.loop-id.invariant.run c.if-not-add_cell.ensures.added;
    }
