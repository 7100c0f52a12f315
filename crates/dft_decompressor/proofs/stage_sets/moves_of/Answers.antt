use Rattle.std.proofs.Common.{◌∙◌, ◌++◌, ◌∷◌, [], Bool, List, ap}
use Rattle.dft_decompressor.specs.StageSets.{moved, moves_of}
use Rattle.dft_decompressor.proofs.SetLemmas.{moves_more}
use Rattle.dft_decompressor.proofs.stage_sets.moves_of.Goals as goal

pub loop-cycle-preserved : goal.loop-cycle-preserved
loop-cycle-preserved c =
    moves_more c.args.taps.now c.args.stages c.loop-cycle._cycle c.loop-cycle.last c.in_ok-next.next c.loop-cycle.moves.items c.push.new.self.items (moves_of c.args.stages c.args.taps.now c.args.set.now)
    c.loop-cycle-test.true (c.in_ok-push.ensures.items ∙ ap (λ (s : List Bool). c.loop-cycle.moves.items ++ s ∷ []) c.of.ensures) (c.in_ok-next.ensures ∙ ap (moved c.args.taps.now) c.as_slice.ensures) c.loop-cycle.invariant
