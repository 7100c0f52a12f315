use Rattle.std.proofs.Common.{◌+◌, ◌-◌, List, map, take, drop, arith, rules}
use Rattle.std.proofs.lemmas.Result.{err_from_is_err_and}
use Rattle.dft_base.specs.Lexing.{Text}
use Rattle.dft_word_lines.specs.Lines.{cut}
use Rattle.dft_cubes.specs.Taking.{reading_of}
use Rattle.dft_cubes.proofs.TextLemmas.{text_ends, text_fails, text_passes}
use Rattle.dft_cubes.proofs.reader.take_lines.Goals as goal

pub returns-in_err-take_line-clause-refused : goal.returns-in_err-take_line-clause-refused
returns-in_err-take_line-clause-refused c =
    let text : Text = c.args.bytes.now in
    let line : Text = take (c.loop-at.at + c.line_len-len.result - c.loop-at.at) (drop c.loop-at.at text) in
    let words : List Text = map (cut line) c.deref.result.now in
    let p = err_from_is_err_and c.from_residual-in_err-take_line.result c.from_residual-in_err-take_line.ensures.1 in
    rw (p.1, p.2) (text_fails c.args.design.now c.args.config.now text (reading_of c.loop-at.taken) c.loop-at.number c.loop-at.at c.line_len-len.result line words c.in_err-take_line.field-0.0
    (record { begun = c.loop-at-test.true; size = c.line_len-len.ensures.value; same = cc })
    (rw c.deref.ensures.value c.in_ok-words_of.ensures.words) c.loop-at.invariant.rest c.in_err-take_line.ensures.refused)

pub loop-at-preserved : goal.loop-at-preserved
loop-at-preserved c =
    let text : Text = c.args.bytes.now in
    let line : Text = take (c.loop-at.at + c.line_len-len.result - c.loop-at.at) (drop c.loop-at.at text) in
    let words : List Text = map (cut line) c.deref.result.now in
    record {
      within = search rules;
      number = omega arith;
      taken = c.in_ok-take_line.ensures.taken;
      rest = text_passes c.args.design.now c.args.config.now text (reading_of c.loop-at.taken) (reading_of c.take_line.new.taken) c.loop-at.number c.loop-at.at c.line_len-len.result line words
          (record { begun = c.loop-at-test.true; size = c.line_len-len.ensures.value; same = cc })
          (rw c.deref.ensures.value c.in_ok-words_of.ensures.words) c.loop-at.invariant.rest c.in_ok-take_line.ensures.passed c.in_ok-take_line.ensures.reading;
    }

pub returns-clause-ended : goal.returns-clause-ended
returns-clause-ended c =
    text_ends c.args.design.now c.args.config.now c.args.bytes.now (reading_of c.loop-at.taken) c.loop-at.number c.loop-at.at
    (let within = c.loop-at.invariant.within in omega (arith, within, c.loop-at-test.false)) c.loop-at.invariant.rest
