-- The replay of the design with the fault gives the grade, and that design has an order.
use Rattle.std.proofs.Common.{◌≡◌, ◌∙◌, ℕ, List, None, sym, ap, subst, length}
use Rattle.std.proofs.lemmas.Result.{err_from_is_err_and}
use Rattle.dft_netlist.specs.Netlist.{Netlist}
use Rattle.dft_netlist.specs.Orders.{HasOrder}
use Rattle.dft_netlist.specs.Sound.{IsNetlist}
use Rattle.dft_patterns.specs.Patterns.{Patterns}
use Rattle.dft_replay.specs.declared.verdict.Unknowns.TheVariants.{Skip}
use Rattle.dft_replay.specs.declared.verdict.Verdict.{Verdict}
use Rattle.dft_replay.specs.Fits.{first_misfit, TellsMisfit}
use Rattle.dft_replay.specs.Verdicts.{EndsAt}
use Rattle.dft_faults.specs.declared.fault.Fault.{Fault}
use Rattle.dft_faults.specs.Faulty.{faulty}
use Rattle.dft_grade.specs.declared.found.Grade.{Grade}
use Rattle.dft_grade.specs.Grades.{IsGraded, IsPlaced}
use Rattle.dft_grade.proofs.Fits.{misfit_stays, tells_stays, placed_stays}
use Rattle.dft_grade.proofs.Soundness.{end_grades, grade_holds}
use Rattle.dft_grade.proofs.grading.grade.Goals as goal

pub returns : goal.returns
returns c =
    let n : Netlist = c.args.design.now in
    let p : Patterns = c.args.patterns.now in
    let f : Fault = c.args.fault in
    let v : Verdict = c.in_ok-verdict.verdict in
    let is : c.in_ok-faulty.faulty ≡ faulty n f = c.in_ok-faulty.ensures in
    let ends : EndsAt Skip (faulty n f) p v = subst (λ (m : Netlist). EndsAt Skip m p v) is c.in_ok-verdict.ensures.ends in
    let fit : first_misfit (faulty n f) p.signals ≡ None = subst (λ (m : Netlist). first_misfit m p.signals ≡ None) is c.in_ok-verdict.ensures.fit in
    let graded : IsGraded n p f c.grade_of.result = subst (IsGraded n p f) (sym c.grade_of.ensures) (end_grades (faulty n f) p v ends) in
    let ordered : HasOrder (faulty n f) = subst HasOrder is c.soundness.ensures.ordered in
    record {
      fit = sym (misfit_stays n f p.signals) ∙ fit;
      graded = graded;
      runs = grade_holds n f ordered.order p c.grade_of.result (subst IsNetlist is c.soundness.ensures.netlist) ordered.is graded;
      placed = subst (IsPlaced (length p.vectors) (length p.signals)) (sym c.grade_of.ensures) (placed_stays (length p.vectors) (length p.signals) v c.in_ok-verdict.ensures.placed);
      misfit = tt;
    }

pub returns-in_err-verdict-clause-misfit : goal.returns-in_err-verdict-clause-misfit
returns-in_err-verdict-clause-misfit c =
    let n : Netlist = c.args.design.now in
    let p : Patterns = c.args.patterns.now in
    let f : Fault = c.args.fault in
    let q = err_from_is_err_and c.from_residual-in_err-verdict.result c.from_residual-in_err-verdict.ensures.1 in
    let tells : TellsMisfit (faulty n f) p.signals c.in_err-verdict.field-0.0 = subst (λ (m : Netlist). TellsMisfit m p.signals c.in_err-verdict.field-0.0) c.in_ok-faulty.ensures c.in_err-verdict.ensures.misfit in
    rw (q.1, q.2) (tells_stays n f p.signals c.in_err-verdict.field-0.0 tells)
