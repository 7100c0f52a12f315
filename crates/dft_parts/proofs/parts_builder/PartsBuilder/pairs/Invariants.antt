use Rattle.std.proofs.Common.{length, ◌-◌}
use Rattle.dft_parts.proofs.Levels.{Pairing}
use Rattle.dft_parts.proofs.parts_builder.PartsBuilder.pairs.Given as goal

abbrev pub invariant-loop-place : goal.invariant-loop-place
invariant-loop-place l = Pairing l.fn.self l.self l.nets l.joined.items l.place

abbrev pub decreases-loop-place : goal.decreases-loop-place
decreases-loop-place l = length l.nets - l.place
