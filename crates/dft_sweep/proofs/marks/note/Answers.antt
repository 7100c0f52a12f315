-- The bit of the place is 1, and each bit that was.
use Rattle.dft_sweep.proofs.Placings.{noted_here, noted_other}
use Rattle.dft_sweep.proofs.marks.note.Goals as goal

pub returns-then-place-busy-clause-here : goal.returns-then-place-busy-clause-here
returns-then-place-busy-clause-here c = noted_here c.args.busy.now c.put.new.row c.args.place c.put.ensures

pub returns-then-place-busy-clause-other : goal.returns-then-place-busy-clause-other
returns-then-place-busy-clause-other c = λ p was. noted_other c.args.busy.now c.put.new.row c.args.place p c.put.auto.row c.put.ensures was
