-- The bits before this one decided nothing.
use Rattle.std.proofs.Common.{◌≡◌}
use Rattle.dft_replay.specs.Looks.{decided_seen}
use Rattle.dft_replay.proofs.LookLemmas.{seen_from}
use Rattle.dft_replay.proofs.comparing.decide.Given as goal

abbrev pub invariant-loop-place : goal.invariant-loop-place
invariant-loop-place l = decided_seen l.unknowns l.vector l.asked l.seen ≡ seen_from l.unknowns l.vector l.asked l.seen l.place
