-- No pattern, a group more, and all.
use Rattle.std.proofs.Common.{refl, arith}
use Rattle.dft_encode.proofs.FillingLemmas.{none_yet}
use Rattle.dft_encode.proofs.filling.fill.Goals as goal

pub loop-first-init : goal.loop-first-init
loop-first-init c = record { within = omega arith; has = none_yet c.args.finder.now _ c.args.list.now c.requires.list refl refl; capturer = refl }
