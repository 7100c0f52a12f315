-- The words that are left give what all of them give.
use Rattle.std.proofs.Common.{◌≡◌, map, drop}
use Rattle.dft_word_lines.specs.Lines.{are_printed, cut}
use Rattle.dft_word_lines.proofs.words.are_printed.Given as goal

abbrev pub invariant-loop-word : goal.invariant-loop-word
invariant-loop-word l = are_printed (map (cut l.line) l.words) ≡ are_printed (map (cut l.line) (drop l.word-index l.words))
