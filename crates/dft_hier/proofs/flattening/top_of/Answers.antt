use Rattle.std.proofs.lemmas.Result.{err_from_is_err_and}
use Rattle.dft_hier.proofs.FlattenSteps.{within_of, top_found, tops_refused, misfit_refused}
use Rattle.dft_hier.proofs.flattening.top_of.Goals as goal

pub top-requires : goal.top-requires
top-requires c = within_of c.args.modules.now c.args.children.now c.requires.children

pub returns-in_err-number-clause-refused : goal.returns-in_err-number-clause-refused
returns-in_err-number-clause-refused c =
    let p = err_from_is_err_and c.from_residual.result c.from_residual.ensures.1 in
    rw (p.1, p.2) (λ library. tops_refused c.args.modules.now c.args.children.now library c.in_err-number.field-0.0 c.requires.names c.requires.known c.requires.apart c.requires.children c.in_err-number.ensures.refused)

pub returns-in_err-check_all-clause-refused : goal.returns-in_err-check_all-clause-refused
returns-in_err-check_all-clause-refused c =
    let p = err_from_is_err_and c.from_residual-in_err-check_all.result c.from_residual-in_err-check_all.ensures.1 in
    rw (p.1, p.2) (λ library. misfit_refused c.args.modules.now c.args.children.now library c.in_ok-number.number c.in_err-check_all.field-0.0 c.requires.names c.requires.known c.requires.apart c.requires.children c.in_ok-number.ensures.ok c.in_ok-number.ensures.live c.in_err-check_all.ensures.refused)

pub returns-clause-ok : goal.returns-clause-ok
returns-clause-ok c = top_found c.args.modules.now c.args.children.now c.in_ok-number.number c.requires.names c.requires.known c.requires.apart c.requires.children c.in_ok-number.ensures.ok c.in_ok-number.ensures.live c.in_ok-check_all.ensures.ok
