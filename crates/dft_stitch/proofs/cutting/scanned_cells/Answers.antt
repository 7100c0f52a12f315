use Rattle.std.proofs.Common.{◌-◌, ◌+◌, ◌*◌, arith, flat_map}
use Rattle.std.specs.List.{range_with_len}
use Rattle.dft_base.proofs.ListLemmas.{flat_on, flat_over}
use Rattle.dft_stitch.specs.Chains.{cells_in, scanned_cells}
use Rattle.dft_stitch.proofs.RangeLemmas.{begun, ended, flat_start, grown}
use Rattle.dft_stitch.proofs.cutting.scanned_cells.Goals as goal

pub loop-group-init : goal.loop-group-init
loop-group-init c =
    let f = cells_in c.args.verdicts.now c.args.domains in
    let total = 2 * c.args.domains in
    begun c.in_ok-cells.cells.items (flat_map f (range_with_len 0 (total - 0))) (scanned_cells c.args.verdicts.now c.args.domains) c.in_ok-cells.ensures.items (flat_start f total)

pub loop-group-preserved : goal.loop-group-preserved
loop-group-preserved c =
    let f = cells_in c.args.verdicts.now c.args.domains in
    let g = c.loop-group.group in
    let total = 2 * c.args.domains in
    grown c.loop-group.cells.items _ (f g) (flat_map f (range_with_len g (total - g))) (flat_map f (range_with_len (g + 1) (total - (g + 1)))) (scanned_cells c.args.verdicts.now c.args.domains)
    c.in_ok-add_cells.ensures (flat_on f g total (omega (arith, c.from-group-end.ensures, c.loop-group-test.true))) c.loop-group.invariant

pub returns : goal.returns
returns c =
    let f = cells_in c.args.verdicts.now c.args.domains in
    let g = c.loop-group.group in
    let total = 2 * c.args.domains in
    ended c.loop-group.cells.items (flat_map f (range_with_len g (total - g))) (scanned_cells c.args.verdicts.now c.args.domains) (flat_over f g total (omega (arith, c.from-group-end.ensures, c.loop-group-test.false))) c.loop-group.invariant
