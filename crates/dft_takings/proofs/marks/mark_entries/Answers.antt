-- What one flip-flop more needs is marked.
use Rattle.std.proofs.Common.{◌<◌, length, arith}
use Rattle.dft_takings.proofs.EntryTableLemmas.{marked_more}
use Rattle.dft_takings.proofs.marks.mark_entries.Goals as goal

pub loop-place-preserved : goal.loop-place-preserved
loop-place-preserved c =
    let less : c.loop-place.place < length c.args.flops.now = omega (arith, c.loop-place-test.true, c.requires) in
    marked_more c.args.flops.now c.args.entries.now c.args.marked.now c.loop-place.marked c.mark_entry.new.marked c.loop-place.place _ _ less c.loop-place-test.true c.mark_entry.ensures c.loop-place.invariant
