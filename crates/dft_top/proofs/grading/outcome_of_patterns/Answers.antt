-- What passes is graded, and all else is the outcome of the replay.
use Rattle.std.proofs.Common.{◌≡◌, ◌∙◌, Err, List, Option, rules, subst, sym, ℕ}
use Rattle.dft_netlist.specs.Netlist.{Netlist}
use Rattle.dft_patterns.specs.Patterns.{Patterns}
use Rattle.dft_replay.specs.Fits.{first_misfit}
use Rattle.dft_answers.specs.declared.outcome.Outcome.{Outcome}
use Rattle.dft_top.specs.Follows.{ComesTo}
use Rattle.dft_top.specs.Outcomes.{IsOutcomeOfGrading}
use Rattle.dft_top.proofs.Gradings.{passed_comes, passed_on, stops_grading, unpassed_is}
use Rattle.dft_top.proofs.grading.outcome_of_patterns.Goals as goal

pub returns-in_err-outcome-clause-outcome : goal.returns-in_err-outcome-clause-outcome
returns-in_err-outcome-clause-outcome c =
    let n : Netlist = c.args.design.now in
    let p : Patterns = c.args.patterns.now in
    let misfit : Option (List ℕ) = first_misfit n p.signals in
    let stops : c.from_residual.result ≡ Err c.in_err-outcome.field-0.0 = search rules in
    subst (ComesTo (IsOutcomeOfGrading n p misfit)) (sym stops) (stops_grading n p misfit c.in_err-outcome.field-0.0 c.in_err-outcome.ensures.outcome)

pub returns-then-is_pass-clause-outcome : goal.returns-then-is_pass-clause-outcome
returns-then-is_pass-clause-outcome c =
    let n : Netlist = c.args.design.now in
    let p : Patterns = c.args.patterns.now in
    let o : Outcome = c.in_ok-outcome.outcome in
    let misfit : Option (List ℕ) = first_misfit n p.signals in
    passed_comes n p misfit c.outcome_of_faults.result (passed_on n p misfit o c.in_ok-outcome.ensures.outcome (sym c.is_pass.ensures ∙ c.if-is_pass.true)) c.outcome_of_faults.ensures.outcome

pub returns-else-is_pass-clause-outcome : goal.returns-else-is_pass-clause-outcome
returns-else-is_pass-clause-outcome c =
    let n : Netlist = c.args.design.now in
    let p : Patterns = c.args.patterns.now in
    unpassed_is n p (first_misfit n p.signals) c.in_ok-outcome.outcome c.in_ok-outcome.ensures.outcome (sym c.is_pass.ensures ∙ c.if-is_pass.false)
