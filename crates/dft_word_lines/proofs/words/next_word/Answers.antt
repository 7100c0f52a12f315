use Rattle.std.proofs.lemmas.Bool.{ne_eqb}
use Rattle.dft_word_lines.proofs.LineLemmas.{comment_there, ends_there, front_less, word_there}
use Rattle.dft_word_lines.proofs.words.next_word.Goals as goal
use Rattle.dft_word_lines.proofs.words.next_word.Goals.{then-start-line-via-then-start-line, then-start-line-via-else-start-line+then-line-start-eq35}

pub returns-then-start-line : goal.returns-then-start-line
returns-then-start-line c = elim c.then-start-line.branch [
  | then-start-line-via-then-start-line w ↦ ends_there c.args.line.now c.args.at c.gap_len.result c.gap_len.ensures.value w.if-start-line.true
  | then-start-line-via-else-start-line+then-line-start-eq35 w ↦ comment_there c.args.line.now c.args.at c.gap_len.result c.gap_len.ensures.value
      (front_less c.args.line.now c.args.at c.gap_len.result c.requires c.gap_len.ensures.within w.if-start-line.false) w.if-line-start-eq35.true
]

pub returns : goal.returns
returns c = word_there c.args.line.now c.args.at c.gap_len.result c.word_len.result c.gap_len.ensures.value
    (front_less c.args.line.now c.args.at c.gap_len.result c.requires c.gap_len.ensures.within c.if-start-line.false)
    (ne_eqb _ 35 c.if-line-start-eq35.false) c.word_len.ensures.value
