-- The bits so far.
use Rattle.std.proofs.Common.{◌≡◌, ◌++◌, map}
use Rattle.std.specs.List.{range_with_len}
use Rattle.dft_expect.specs.States.{brought}
use Rattle.dft_expect.proofs.loading.add_chain.Given as goal

abbrev pub invariant-loop-place : goal.invariant-loop-place
invariant-loop-place l = l.loaded.items ≡ l.initial.loaded.items ++ map (brought l.ring l.states l.late l.chain) (range_with_len 0 l.place)
