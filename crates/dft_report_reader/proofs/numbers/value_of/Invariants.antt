-- The digits that are left give what all of them give.
use Rattle.std.proofs.Common.{◌≡◌, drop}
use Rattle.dft_report_reader.specs.Words.{value_from}
use Rattle.dft_report_reader.proofs.numbers.value_of.Given as goal

abbrev pub invariant-loop-byte : goal.invariant-loop-byte
invariant-loop-byte l = value_from l.value (drop l.byte-index l.word) ≡ value_from 0 l.word
