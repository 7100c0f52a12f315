use Rattle.std.proofs.Common.{◌+◌, ◌-◌, length, arith}
use Rattle.std.proofs.lemmas.Result.{err_from_is_err_and}
use Rattle.dft_report_reader.specs.Shown.{reading_of}
use Rattle.dft_report_reader.proofs.ReadingLemmas.{report_fails, report_is, same_report}
use Rattle.dft_report_reader.proofs.reader.read_all.Goals as goal

pub returns-in_err-read_lines-clause-refused : goal.returns-in_err-read_lines-clause-refused
returns-in_err-read_lines-clause-refused c =
    let p = err_from_is_err_and c.from_residual.result c.from_residual.ensures.1 in
    rw (p.1, p.2) (report_fails (λ line. line.now) c.args.lines.now c.in_err-read_lines.field-0.0 c.in_err-read_lines.ensures.refused)

pub returns-clause-report : goal.returns-clause-report
returns-clause-report c =
    same_report c.finish.result _ _
    (report_is (λ line. line.now) c.args.lines.now _ (reading_of c.read_lines.new.draft) (length c.args.lines.now - 1 + 1) c.requires.some (let some = c.requires.some in omega (arith, some)) c.in_ok-read_lines.ensures.read)
    c.finish.ensures.report
