use Rattle.std.proofs.Common.{◌≡◌, ◌++◌, map, drop}
use Rattle.dft_stil_out.specs.Letters as letters
use Rattle.dft_stil_out.proofs.writer.add_letters.Given as goal

abbrev pub invariant-loop-act : goal.invariant-loop-act
invariant-loop-act l = l.out.items ++ map letters.letter (drop l.act-index l.acts) ≡ l.fn.out.items ++ map letters.letter l.acts
