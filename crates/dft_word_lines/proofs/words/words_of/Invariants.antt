use Rattle.std.proofs.Common.{◌-◌, length}
use Rattle.dft_word_lines.specs.Lines.{WordsBefore}
use Rattle.dft_word_lines.proofs.words.words_of.Given as goal

abbrev pub invariant-loop-word : goal.invariant-loop-word
invariant-loop-word l = WordsBefore l.line l.at l.words.items

abbrev pub decreases-loop-word : goal.decreases-loop-word
decreases-loop-word l = length l.line - l.at
