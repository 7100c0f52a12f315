-- One more.
use Rattle.std.proofs.Common.{arith, false}
use Rattle.dft_seek.proofs.CubeLemmas.{paired_all, paired_more}
use Rattle.dft_seek.proofs.searching.given_cells.Goals as goal

pub loop-place-preserved : goal.loop-place-preserved
loop-place-preserved c =
    paired_more c.args.cells.now c.args.bits.now c.loop-place.place (record { 0 = 0 }) false c.loop-place.given.items c.push.new.self.items _ (omega arith) (omega arith)
    c.in_ok-push.ensures.items c.loop-place.invariant

pub returns : goal.returns
returns c = paired_all c.args.cells.now c.args.bits.now c.loop-place.place c.loop-place.given.items _ (omega arith) c.loop-place.invariant
