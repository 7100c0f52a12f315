-- The rest of the kinds gives what all of them give.
use Rattle.std.proofs.Common.{◌≡◌, drop}
use Rattle.dft_library_text.specs.Keys.{kind_among}
use Rattle.dft_library_text.proofs.keys.kind_among.Given as goal

abbrev pub invariant-loop-kind : goal.invariant-loop-kind
invariant-loop-kind l = kind_among l.kinds l.word ≡ kind_among (drop l.kind-index l.kinds) l.word
