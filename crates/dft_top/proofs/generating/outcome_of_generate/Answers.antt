use Rattle.std.proofs.Common.{◌≡◌, Err, rules, subst, sym}
use Rattle.dft_command_line.specs.Named.{numbers_of}
use Rattle.dft_top.specs.Follows.{ComesTo}
use Rattle.dft_top.specs.Outcomes.{IsOutcomeOfJob, course_of_compile, job_files, job_held}
use Rattle.dft_top.proofs.Following.{still_quiet}
use Rattle.dft_top.proofs.JobLemmas.{job_stops, job_then}
use Rattle.dft_top.proofs.Suited.{compile_suits}
use Rattle.dft_top.proofs.generating.outcome_of_generate.Goals as goal

pub returns-in_err-compilation-clause-outcome : goal.returns-in_err-compilation-clause-outcome
returns-in_err-compilation-clause-outcome c =
    let stops : c.from_residual.result ≡ Err c.in_err-compilation.field-0.0 = search rules in
    subst (ComesTo (IsOutcomeOfJob (numbers_of c.args.numbers))) (sym stops) (job_stops (numbers_of c.args.numbers) c.in_err-compilation.field-0.0 c.in_err-compilation.ensures.reached)

pub returns-in_err-compilation-clause-quiet : goal.returns-in_err-compilation-clause-quiet
returns-in_err-compilation-clause-quiet c = λ is. still_quiet (course_of_compile job_files) (job_held (numbers_of c.args.numbers)) (Err c.in_err-compilation.field-0.0) c.in_err-compilation.ensures (search rules)

pub replayed-requires : goal.replayed-requires
replayed-requires c = compile_suits job_files c.in_ok-compilation.compilation c.in_ok-compilation.ensures.allowed

pub returns-clause-outcome : goal.returns-clause-outcome
returns-clause-outcome c = job_then (numbers_of c.args.numbers) c.in_ok-compilation.compilation _ c.in_ok-compilation.ensures.reached c.replayed.ensures.outcome
