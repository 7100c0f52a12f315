-- One input more.
use Rattle.std.proofs.Common.{◌<◌, length, ◌∙◌}
use Rattle.dft_cells.proofs.Pairs.{and_step}
use Rattle.dft_cells.proofs.gates.and_of.Goals as goal

pub loop-input-preserved : goal.loop-input-preserved
loop-input-preserved c =
    let less : c.loop-input.input-index < length c.args.inputs.now = c.loop-input-test.true in
    c.loop-input.invariant ∙ rw c.and-all.ensures (and_step _ _ _ _ less)
