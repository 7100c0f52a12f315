-- No pin of the scan cell is left.
use Rattle.std.proofs.Common.{sym, ◌∙◌, arith}
use Rattle.dft_library_text.proofs.ReadingLemmas.{none_left}
use Rattle.dft_library_text.proofs.scans.share_names.Goals as goal

pub returns : goal.returns
returns c =
    sym (c.loop-other.invariant.same
    ∙ none_left c.args.others.now c.args.pins.now c.loop-other.other-index c.loop-other.place (omega arith) c.loop-other.invariant.within)
