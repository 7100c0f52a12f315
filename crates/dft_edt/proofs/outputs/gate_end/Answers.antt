use Rattle.std.proofs.lemmas.Result.{err_from_is_err_and}
use Rattle.dft_netlist.specs.declared.ids.NetId.{NetId}
use Rattle.dft_edt.proofs.Making.{gated_made, shown_refused}
use Rattle.dft_edt.proofs.outputs.gate_end.Goals as goal

pub returns-in_err-shown-clause-makes : goal.returns-in_err-shown-clause-makes
returns-in_err-shown-clause-makes c =
    let p = err_from_is_err_and c.from_residual.result c.from_residual.ensures.1 in
    rw (p.1, p.2) (shown_refused c.args.hold c.args.end c.args.parts.now c.in_err-shown.field-0.0 c.in_err-shown.ensures.makes)

pub returns-clause-makes : goal.returns-clause-makes
returns-clause-makes c =
    gated_made c.args.hold c.args.end c.args.parts.now c.driving_gate.new.self c.in_ok-shown.shown (λ (net : NetId). net) c.driving_gate-2.result c.driving_gate-2.new.self c.in_ok-shown.ensures.makes c.driving_gate-2.ensures.makes
