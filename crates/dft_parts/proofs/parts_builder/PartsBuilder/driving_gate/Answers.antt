use Rattle.std.proofs.Common.{◌∙◌, sym, subst}
use Rattle.std.proofs.lemmas.Result.{err_from_is_err_and}
use Rattle.dft_parts.specs.Recipes.{a_net, a_gate, pure, ◌>>◌, IsRefusal}
use Rattle.dft_parts.specs.Sums.{a_driving_gate}
use Rattle.dft_parts.proofs.Outcomes.{then_ok, then_refused, pure_made}
use Rattle.dft_parts.proofs.parts_builder.PartsBuilder.driving_gate.Goals as goal

pub returns-in_err-output-clause-makes : goal.returns-in_err-output-clause-makes
unfolding a_driving_gate
returns-in_err-output-clause-makes c =
    let p = err_from_is_err_and c.from_residual.result c.from_residual.ensures.1 in
    rw (p.1, p.2) (then_refused a_net (λ o. a_gate c.args.kind c.args.inputs.now o >> pure o) c.args.self.now c.in_err-output.field-0.0 c.in_err-output.ensures.makes)

pub returns-in_err-gate-clause-makes : goal.returns-in_err-gate-clause-makes
unfolding a_driving_gate
returns-in_err-gate-clause-makes c =
    let p = err_from_is_err_and c.from_residual-in_err-gate.result c.from_residual-in_err-gate.ensures.1 in
    let o = c.in_ok-output.output in
    rw (p.1, p.2)
    (subst (λ out. IsRefusal out c.in_err-gate.field-0.0) (sym (then_ok a_net (λ o. a_gate c.args.kind c.args.inputs.now o >> pure o) c.args.self.now c.net.new.self o c.in_ok-output.ensures.makes))
    (then_refused (a_gate c.args.kind c.args.inputs.now o) (λ _. pure o) c.net.new.self c.in_err-gate.field-0.0 c.in_err-gate.ensures.makes))

pub returns-clause-makes : goal.returns-clause-makes
unfolding a_driving_gate
returns-clause-makes c =
    let o = c.in_ok-output.output in
    then_ok a_net (λ o. a_gate c.args.kind c.args.inputs.now o >> pure o) c.args.self.now c.net.new.self o c.in_ok-output.ensures.makes
    ∙ then_ok (a_gate c.args.kind c.args.inputs.now o) (λ _. pure o) c.net.new.self c.gate.new.self tt c.in_ok-gate.ensures.makes
    ∙ pure_made o c.gate.new.self
