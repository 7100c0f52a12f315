use Rattle.std.proofs.Common.{◌∙◌, sym}
use Rattle.dft_configure.specs.Compacting.{is_of}
use Rattle.dft_configure.proofs.ChoiceLemmas.{kept_more, kept_not}
use Rattle.dft_configure.proofs.compacting.group_of.Goals as goal
use Rattle.dft_configure.proofs.compacting.group_of.Goals.{then-is_of+in_ok-push, else-is_of}

pub loop-chain-preserved : goal.loop-chain-preserved
loop-chain-preserved c = elim c.if-is_of.branch [
  | then-is_of+in_ok-push w ↦ rw w.group-is (kept_more (is_of c.args.outputs c.args.output) c.loop-chain.chain c.loop-chain.group.items w.push.new.self.items (sym c.is_of.ensures ∙ w.if-is_of.true) w.in_ok-push.ensures.items c.loop-chain.invariant)
  | else-is_of w ↦ rw w.group-is (kept_not (is_of c.args.outputs c.args.output) c.loop-chain.chain c.loop-chain.group.items (sym c.is_of.ensures ∙ w.if-is_of.false) c.loop-chain.invariant)
]
