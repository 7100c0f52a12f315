use Rattle.std.proofs.Common.{◌≡◌, IfOk, subst, sym}
use Rattle.dft_answers.specs.Lines as spec
use Rattle.dft_answers.specs.declared.outcome.Work.{Work}
use Rattle.dft_answers.proofs.printing.work_line.Goals as goal

pub returns-in-Compiled : goal.returns-in-Compiled
returns-in-Compiled c = subst (λ (w : Work). IfOk c.compiled_line.result (λ line. line.items ≡ spec.work_line w)) (sym c.in-Compiled.is) c.compiled_line.ensures
