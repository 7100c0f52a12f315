use Rattle.std.proofs.Common.{◌≡◌, ◌-◌, ◌+◌, ◌++◌, ◌∙◌, ℕ, Option, ap, arith, length}
use Rattle.std.specs.List.{filter_map, range_with_len}
use Rattle.dft_netlist.specs.declared.ids.InstanceId.{InstanceId}
use Rattle.dft_stitch.specs.Chains.{cell_in, cells_in, listed}
use Rattle.dft_stitch.proofs.RangeLemmas.{ended, filter_on, filter_over, grown}
use Rattle.dft_stitch.proofs.cutting.add_cells.Goals as goal

pub loop-number-init : goal.loop-number-init
loop-number-init c =
    let all : c.args.count - 0 ≡ length c.args.verdicts.now = omega (arith, c.requires) in
    ap (λ (m : ℕ). c.args.cells.now.items ++ filter_map (cell_in c.args.verdicts.now c.args.domains c.args.group) (range_with_len 0 m)) all

pub loop-number-preserved : goal.loop-number-preserved
loop-number-preserved c =
    let h = cell_in c.args.verdicts.now c.args.domains c.args.group in
    let k = c.loop-number.number in
    let total = c.args.count in
    let old = c.loop-number.cells.items in
    grown old _ (listed (h k)) (filter_map h (range_with_len k (total - k))) (filter_map h (range_with_len (k + 1) (total - (k + 1)))) (c.args.cells.now.items ++ cells_in c.args.verdicts.now c.args.domains c.args.group)
    (c.in_ok-add.ensures ∙ ap (λ (o : Option InstanceId). old ++ listed o) c.cell_in.ensures) (filter_on h k total c.loop-number-test.true) c.loop-number.invariant

pub returns : goal.returns
returns c =
    let h = cell_in c.args.verdicts.now c.args.domains c.args.group in
    let k = c.loop-number.number in
    let total = c.args.count in
    ended c.loop-number.cells.items (filter_map h (range_with_len k (total - k))) (c.args.cells.now.items ++ cells_in c.args.verdicts.now c.args.domains c.args.group) (filter_over h k total c.loop-number-test.false) c.loop-number.invariant
