use Rattle.std.proofs.lemmas.Result.{err_from_is_err_and}
use Rattle.dft_configuring.proofs.checking.rooted_config.Goals as goal

pub returns-in_err-written-clause-refused : goal.returns-in_err-written-clause-refused
returns-in_err-written-clause-refused c = let p = err_from_is_err_and c.from_residual.result c.from_residual.ensures.1 in rw (p.1, p.2) c.in_err-written.ensures.refused
