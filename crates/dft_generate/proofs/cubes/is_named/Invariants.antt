-- No word before this one gives the cell.
use Rattle.std.proofs.Common.{◌≡◌, drop}
use Rattle.dft_generate.specs.Cubes.{is_named}
use Rattle.dft_generate.proofs.cubes.is_named.Given as goal

abbrev pub invariant-loop-word : goal.invariant-loop-word
invariant-loop-word l = is_named l.size (drop l.word-index l.before) l.cell ≡ is_named l.size l.before l.cell
