-- The lines that are left give what all of them give.
use Rattle.std.proofs.Common.{◌≡◌, ◌+◌, ◌-◌, ◌≤◌, length}
use Rattle.dft_cubes.specs.Cubes.{cubes_from, cubes_of}
use Rattle.dft_cubes.specs.Taking.{IsTaken, reading_of}
use Rattle.dft_cubes.proofs.TextLemmas.{lines_at}
use Rattle.dft_cubes.proofs.reader.take_lines.Given as goal

abbrev pub invariant-loop-at : goal.invariant-loop-at
invariant-loop-at l = record {
  within : l.at ≤ length l.bytes + 1;
  number : l.number ≤ l.at;
  taken : IsTaken l.design l.taken;
  rest : cubes_of l.design l.config l.bytes ≡ cubes_from l.design l.config (reading_of l.taken) l.number (lines_at l.at l.bytes);
}

abbrev pub decreases-loop-at : goal.decreases-loop-at
decreases-loop-at l = length l.bytes + 1 - l.at
