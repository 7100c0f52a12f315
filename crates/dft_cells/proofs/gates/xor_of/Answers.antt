-- One input more.
use Rattle.std.proofs.Common.{◌<◌, length, ◌∙◌}
use Rattle.dft_cells.proofs.Pairs.{xor_step}
use Rattle.dft_cells.proofs.gates.xor_of.Goals as goal

pub loop-input-preserved : goal.loop-input-preserved
loop-input-preserved c =
    let less : c.loop-input.input-index < length c.args.inputs.now = c.loop-input-test.true in
    c.loop-input.invariant ∙ rw c.xor-odd.ensures (xor_step _ _ _ _ less)
