use Rattle.std.proofs.lemmas.Result.{err_from_is_err_and}
use Rattle.dft_insert.proofs.MadeParts.{open_refused, open_made}
use Rattle.dft_insert.proofs.outputs.open_output.Goals as goal

pub returns-in_err-net-clause-makes : goal.returns-in_err-net-clause-makes
returns-in_err-net-clause-makes c =
    let p = err_from_is_err_and c.from_residual.result c.from_residual.ensures.1 in
    rw (p.1, p.2) (open_refused c.args.design.now c.args.cell c.args.parts.now c.in_err-net.field-0.0 c.in_err-net.ensures.makes)

pub returns-clause-makes : goal.returns-clause-makes
returns-clause-makes c = open_made c.args.design.now c.args.cell c.args.parts.now c.net.new.self c.join_role.new.parts c.in_ok-net.net c.in_ok-net.ensures.makes c.join_role.ensures.makes
