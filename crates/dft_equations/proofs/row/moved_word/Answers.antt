use Rattle.std.proofs.Common.{ℕ, ap, ◌∙◌, ◌+◌, ◌-◌, ◌%◌}
use Rattle.std.specs.Int.{bit_at as bit_of_word}
use Rattle.dft_equations.proofs.RowLemmas.{moved_bit}
use Rattle.dft_equations.proofs.row.moved_word.Goals as goal

pub returns : goal.returns
returns c = λ i within.
    moved_bit c.args.words.now c.args.word c.args.places i c.joined.result within
    (λ below. c.joined.ensures.low i below ∙ ap (λ (w : ℕ). bit_of_word w (i + c.args.places % 64)) c.word_at-low.ensures)
    (λ above. c.joined.ensures.high i within above ∙ ap (λ (w : ℕ). bit_of_word w (i + c.args.places % 64 - 64)) c.word_at-high.ensures)
