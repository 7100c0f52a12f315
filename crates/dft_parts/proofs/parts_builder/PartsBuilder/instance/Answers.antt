use Rattle.std.proofs.Common.{◌≡◌, ◌+◌, Ok, subst}
use Rattle.std.proofs.lemmas.Result.{err_from_is_err_and}
use Rattle.dft_parts.specs.Parts.{Making}
use Rattle.dft_parts.specs.Recipes.{an_instance, outcome, IsRefusal}
use Rattle.dft_parts.specs.Shown.{making_of}
use Rattle.dft_parts.proofs.Outcomes.{instance_made, instance_refused}
use Rattle.dft_parts.proofs.parts_builder.PartsBuilder.instance.Goals as goal

pub returns-in_err-instance-clause-makes : goal.returns-in_err-instance-clause-makes
returns-in_err-instance-clause-makes c =
    let p = err_from_is_err_and c.from_residual-in_err-instance.result c.from_residual-in_err-instance.ensures.1 in
    rw (p.1, p.2)
    (subst (λ (s : Making). IsRefusal (outcome (an_instance c.args.cell c.args.pins.now) s) c.in_err-instance.field-0.0) c.self.view_is
    (instance_refused (making_of c.self.inside) c.in_ok-name.name c.args.cell c.args.pins.now c.in_err-instance.field-0.0 c.in_ok-name.ensures c.in_err-instance.ensures.refused))

pub returns-clause-makes : goal.returns-clause-makes
returns-clause-makes c =
    let s = making_of c.self.inside in
    subst (λ (old : Making). outcome (an_instance c.args.cell c.args.pins.now) old ≡ Ok (tt, record { netlist = c.instance.new.self; made = record { nets = s.made.nets; instances = s.made.instances + 1 } })) c.self.view_is
    (instance_made s c.instance.new.self c.args.cell c.args.pins.now c.in_ok-instance.field-0 (rw c.in_ok-name.ensures at c.in_ok-instance.ensures.refused) (rw c.in_ok-name.ensures at c.in_ok-instance.ensures.ok))
