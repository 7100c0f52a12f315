-- What the signals before this one compare is listed.
use Rattle.std.proofs.Common.{◌≡◌}
use Rattle.std.specs.Vec.{vec_capacity}
use Rattle.dft_replay.proofs.LookLemmas.{Listed}
use Rattle.dft_replay.proofs.comparing.list_compared.Given as goal

abbrev pub invariant-loop-signal : goal.invariant-loop-signal
invariant-loop-signal l = record {
  listed : Listed l.nets l.acts l.signal l.wanted.items l.asked.items;
  wanted : vec_capacity l.wanted ≡ vec_capacity l.fn.wanted;
  asked : vec_capacity l.asked ≡ vec_capacity l.fn.asked;
}
