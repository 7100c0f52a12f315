-- One cell more is flagged.
use Rattle.std.proofs.Common.{◌<◌, length, arith}
use Rattle.dft_netlist.specs.declared.ids.InstanceId.{InstanceId}
use Rattle.dft_seek.proofs.Filled.{all_there, flagging_all, flagging_more, flagging_none}
use Rattle.dft_seek.proofs.tables.flag_all.Goals as goal

pub bounds-flags-cell : goal.bounds-flags-cell
bounds-flags-cell c =
    let live = all_there (λ (cell : InstanceId). cell.0 < length c.args.flags.now) c.args.cells.now c.loop-cell.cell-index (record { 0 = 0 }) c.requires c.loop-cell-test.true in
    let e = c.loop-cell.auto.flags in
    omega (arith, live, e)

pub loop-cell-init : goal.loop-cell-init
loop-cell-init c = flagging_none c.args.cells.now c.args.flags.now

pub loop-cell-preserved : goal.loop-cell-preserved
loop-cell-preserved c =
    flagging_more c.args.cells.now c.args.flags.now c.loop-cell.cell-index c.loop-cell.flags (record { 0 = 0 }) c.loop-cell-test.true
    (all_there (λ (cell : InstanceId). cell.0 < length c.args.flags.now) c.args.cells.now c.loop-cell.cell-index (record { 0 = 0 }) c.requires c.loop-cell-test.true) c.loop-cell.invariant

pub returns-clause-each : goal.returns-clause-each
returns-clause-each c = λ k. flagging_all c.args.cells.now c.args.flags.now c.loop-cell.cell-index c.loop-cell.flags k c.loop-cell-test.false c.loop-cell.invariant
