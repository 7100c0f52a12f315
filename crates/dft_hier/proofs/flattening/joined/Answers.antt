use Rattle.std.proofs.lemmas.Result.{err_from_is_err_and}
use Rattle.dft_hier.proofs.flattening.joined.Goals as goal

pub returns-in_err-top-clause-refused : goal.returns-in_err-top-clause-refused
returns-in_err-top-clause-refused c =
    let p = err_from_is_err_and c.from_residual-in_err-top.result c.from_residual-in_err-top.ensures.1 in
    rw (p.1, p.2) (c.in_err-top.ensures.refused c.args.library)
