use Rattle.std.proofs.lemmas.Result.{err_from_is_err_and}
use Rattle.dft_netlist.specs.declared.ids.NetId.{NetId}
use Rattle.dft_edt.proofs.Masking.{next_made, taken_refused, kept_refused}
use Rattle.dft_edt.proofs.masks.make_next.Goals as goal

pub returns-in_err-taken-clause-makes : goal.returns-in_err-taken-clause-makes
returns-in_err-taken-clause-makes c =
    let p = err_from_is_err_and c.from_residual.result c.from_residual.ensures.1 in
    rw (p.1, p.2) (taken_refused c.args.ports.now c.args.run c.args.nets c.args.parts.now c.in_err-taken.field-0.0 c.in_err-taken.ensures.makes)

pub returns-in_err-kept-clause-makes : goal.returns-in_err-kept-clause-makes
returns-in_err-kept-clause-makes c =
    let p = err_from_is_err_and c.from_residual-in_err-kept.result c.from_residual-in_err-kept.ensures.1 in
    rw (p.1, p.2) (kept_refused c.args.ports.now c.args.run c.args.nets c.args.parts.now c.driving_gate.new.self c.in_ok-taken.taken c.in_err-kept.field-0.0 c.in_ok-taken.ensures.makes c.in_err-kept.ensures.makes)

pub returns-clause-makes : goal.returns-clause-makes
returns-clause-makes c =
    next_made c.args.ports.now c.args.run c.args.nets c.args.parts.now c.driving_gate.new.self c.driving_gate-2.new.self c.in_ok-taken.taken c.in_ok-kept.kept (λ (next : NetId). next) c.driving_gate-3.result c.driving_gate-3.new.self
    c.in_ok-taken.ensures.makes c.in_ok-kept.ensures.makes c.driving_gate-3.ensures.makes
