-- So many rounds, each with a net that was not marked before.
use Rattle.dft_seek.specs.Marks.{steps_at}
use Rattle.dft_seek.proofs.MarkLemmas.{DrawnFor}
use Rattle.dft_seek.proofs.marking.draw_all.Given as goal

abbrev pub invariant-loop-round : goal.invariant-loop-round
invariant-loop-round l = DrawnFor (steps_at l.paths.steps.now) l.initial.marked l.marked l._round
