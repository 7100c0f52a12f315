-- A design that passes is ready, and an error of planning or insertion is the first check that fails.
use Rattle.std.proofs.Common.{◌≡◌, [], ◌∷◌, ◌∙◌, ap, subst, sym}
use Rattle.std.specs.Prelude.{option_map}
use Rattle.std.proofs.lemmas.Result.{err_from_is_err_and}
use Rattle.dft_stitch.specs.Chains.{plan_of}
use Rattle.dft_stitch.specs.Plans.{Plan}
use Rattle.dft_scan_frame.specs.Refusals as frame
use Rattle.dft_scan_frame.proofs.ReadyLemmas.{ready_of}
use Rattle.dft_insert.specs.declared.style.Style.TheVariants.{Edt}
use Rattle.dft_insert.specs.Refusals as insert
use Rattle.dft_insert.specs.Scanned.{scanned_netlist}
use Rattle.dft_compile.specs.declared.error.CompileError.TheVariants.{Insert}
use Rattle.dft_compile.specs.Refusals.{first_refusal}
use Rattle.dft_compile.proofs.LateLemmas.{err_refused}
use Rattle.dft_compile.proofs.RefusalLemmas.{passed, planning_refused, refused_by_insert}
use Rattle.dft_compile.proofs.prepared.prepare.Goals as goal

pub returns-in_err-planned-clause-refused : goal.returns-in_err-planned-clause-refused
returns-in_err-planned-clause-refused c =
    let n = c.args.design.now in
    let config = c.args.config.now in
    let p = err_from_is_err_and c.from_residual.result c.from_residual.ensures.1 in
    err_refused (first_refusal n config) c.from_residual.result p.0 _ p.1 p.2
    (planning_refused n config (option_map Insert (insert.refusal Edt n config (plan_of n config)) ∷ []) c.in_err-planned.field-0.0 c.in_err-planned.ensures.refused)

pub insert-requires-clause-passed : goal.insert-requires-clause-passed
insert-requires-clause-passed c = rw c.in_ok-planned.ensures.planned at c.soundness-2.ensures.passed

pub insert-requires-clause-planned : goal.insert-requires-clause-planned
insert-requires-clause-planned c = rw c.in_ok-planned.ensures.planned at c.chains-chains.ensures

pub returns-in_err-inserted-clause-refused : goal.returns-in_err-inserted-clause-refused
returns-in_err-inserted-clause-refused c =
    let n = c.args.design.now in
    let config = c.args.config.now in
    let error = c.in_err-inserted.field-0.0 in
    let p = err_from_is_err_and c.from_residual-in_err-inserted.result c.from_residual-in_err-inserted.ensures.1 in
    let known = rw c.in_ok-planned.ensures.planned at c.soundness-2.ensures in
    let planned = rw c.in_ok-planned.ensures.planned at c.chains-chains.ensures in
    let P : Plan → Type 0 = λ q. frame.IsRefusal (insert.refusal Edt n config q) error in
    err_refused (first_refusal n config) c.from_residual-in_err-inserted.result p.0 _ p.1 p.2 (refused_by_insert n config error known.passed known.fits (subst P planned c.in_err-inserted.ensures.refused))

pub returns-in_err-loads-clause-refused : goal.returns-in_err-loads-clause-refused
returns-in_err-loads-clause-refused c =
    let p = err_from_is_err_and c.from_residual-in_err-loads.result c.from_residual-in_err-loads.ensures.1 in
    err_refused (first_refusal c.args.design.now c.args.config.now) c.from_residual-in_err-loads.result p.0 _ p.1 p.2 _

pub invariant_of-result : goal.invariant_of-result
invariant_of-result c =
    let n = c.args.design.now in
    let config = c.args.config.now in
    let planned = rw c.in_ok-planned.ensures.planned at c.chains-chains.ensures in
    let d = rw c.in_ok-planned.ensures.planned at c.in_ok-loads.ensures.design in
    let g = rw c.in_ok-planned.ensures.planned at c.in_ok-loads.ensures.config in
    rw (d, g) (c.in_ok-inserted.ensures.design ∙ ap (scanned_netlist Edt n config) planned)

pub returns-clause-prepared : goal.returns-clause-prepared
returns-clause-prepared c =
    let d = rw c.in_ok-planned.ensures.planned at c.in_ok-loads.ensures.design in
    let g = rw c.in_ok-planned.ensures.planned at c.in_ok-loads.ensures.config in
    λ i. record { design = d i; config = g i }

pub returns-clause-ready : goal.returns-clause-ready
returns-clause-ready c =
    let known = rw c.in_ok-planned.ensures.planned at c.soundness-2.ensures in
    let sound = c.soundness.ensures in
    ready_of c.args.design.now c.args.config.now sound.netlist sound.library sound.single sound.ordered known.range known.passed

pub returns-clause-accepted : goal.returns-clause-accepted
returns-clause-accepted c =
    let n = c.args.design.now in
    let config = c.args.config.now in
    let known = rw c.in_ok-planned.ensures.planned at c.soundness-2.ensures in
    let planned = rw c.in_ok-planned.ensures.planned at c.chains-chains.ensures in
    passed n config known.passed known.fits (ap (insert.refusal Edt n config) (sym planned) ∙ c.in_ok-inserted.ensures.accepted)
