use Rattle.dft_edt.proofs.Masking.{Segmenting}
use Rattle.dft_edt.proofs.masks.make_segment.Given as goal

abbrev pub invariant-loop-chain : goal.invariant-loop-chain
invariant-loop-chain l = Segmenting l.ports l.run l.fn.port l.count l.fn.parts l.parts l.chain l.before l.masks.items
