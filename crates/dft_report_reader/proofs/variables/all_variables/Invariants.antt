use Rattle.std.proofs.Common.{◌≡◌, map, drop}
use Rattle.dft_report_reader.specs.Saying.{all_variables}
use Rattle.dft_report_reader.proofs.ReadingLemmas.{with_front}
use Rattle.dft_report_reader.proofs.variables.all_variables.Given as goal

abbrev pub invariant-loop-word : goal.invariant-loop-word
invariant-loop-word l = with_front l.variables.items (all_variables (map (λ word. word.now) (drop l.word-index l.words))) ≡ all_variables (map (λ word. word.now) l.words)
