-- The rest of the pins has what all of them have.
use Rattle.std.proofs.Common.{◌∙◌, sym}
use Rattle.dft_logic.proofs.WireLemmas.{find_more}
use Rattle.dft_logic.proofs.wires.find.Goals as goal

pub loop-wire-preserved : goal.loop-wire-preserved
loop-wire-preserved c = find_more c.args.wires.now c.args.role c.loop-wire.wire-index _ c.loop-wire-test.true (sym c.is_role.ensures ∙ c.if-is_role.false) ∙ c.loop-wire.invariant
