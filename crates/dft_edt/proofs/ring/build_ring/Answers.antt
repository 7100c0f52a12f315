use Rattle.std.proofs.Common.{◌≡◌, List, Ok, sym, subst, ◌∙◌}
use Rattle.std.proofs.lemmas.Result.{err_from_is_err_and}
use Rattle.dft_netlist.specs.declared.ids.NetId.{NetId}
use Rattle.dft_parts.specs.Recipes.{outcome, IsRefusal}
use Rattle.dft_edt.proofs.Made.{stages_of, phases_of, to_end, run_refused, nets_refused, stages_refused, phases_refused}
use Rattle.dft_edt.proofs.ring.build_ring.Goals as goal

pub returns-in_err-run-clause-makes : goal.returns-in_err-run-clause-makes
returns-in_err-run-clause-makes c =
    let p = err_from_is_err_and c.from_residual.result c.from_residual.ensures.1 in
    rw (p.1, p.2) (run_refused c.args.config.now c.args.ports.now c.args.parts.now c.in_err-run.field-0.0 c.in_err-run.ensures.makes)

pub returns-in_err-stages-clause-makes : goal.returns-in_err-stages-clause-makes
returns-in_err-stages-clause-makes c =
    let p = err_from_is_err_and c.from_residual-in_err-stages.result c.from_residual-in_err-stages.ensures.1 in
    rw (p.1, p.2) (nets_refused c.args.config.now c.args.ports.now c.args.parts.now c.driving_gate.new.self c.in_ok-run.run' c.in_err-stages.field-0.0 c.in_ok-run.ensures.makes (rw c.ring-ring.ensures at c.in_err-stages.ensures.makes))

pub returns-in_err-make_stages-clause-makes : goal.returns-in_err-make_stages-clause-makes
returns-in_err-make_stages-clause-makes c =
    let p = err_from_is_err_and c.from_residual-in_err-make_stages.result c.from_residual-in_err-make_stages.ensures.1 in
    let config = c.args.config.now in
    let ports = c.args.ports.now in
    let stages = c.in_ok-stages.stages.items in
    rw (p.1, p.2)
    (stages_refused config ports c.args.parts.now c.driving_gate.new.self c.make_nets.new.parts c.in_ok-run.run' stages c.in_err-make_stages.field-0.0 c.in_ok-run.ensures.makes (rw c.ring-ring.ensures at c.in_ok-stages.ensures.makes)
    (subst (λ (ns : List NetId). IsRefusal (outcome (stages_of config ports c.in_ok-run.run' ns) c.make_nets.new.parts) c.in_err-make_stages.field-0.0) c.deref.ensures.value (rw c.ring-ring.ensures at c.in_err-make_stages.ensures.makes)))

pub returns-in_err-phases-clause-makes : goal.returns-in_err-phases-clause-makes
returns-in_err-phases-clause-makes c =
    let p = err_from_is_err_and c.from_residual-in_err-phases.result c.from_residual-in_err-phases.ensures.1 in
    let config = c.args.config.now in
    let ports = c.args.ports.now in
    let stages = c.in_ok-stages.stages.items in
    rw (p.1, p.2)
    (phases_refused config ports c.args.parts.now c.driving_gate.new.self c.make_nets.new.parts c.make_stages.new.parts c.in_ok-run.run' stages c.in_err-phases.field-0.0 c.in_ok-run.ensures.makes (rw c.ring-ring.ensures at c.in_ok-stages.ensures.makes)
    (subst (λ (ns : List NetId). outcome (stages_of config ports c.in_ok-run.run' ns) c.make_nets.new.parts ≡ Ok (tt, c.make_stages.new.parts)) c.deref.ensures.value (rw c.ring-ring.ensures at c.in_ok-make_stages.ensures.makes))
    (subst (λ (ns : List NetId). IsRefusal (outcome (phases_of config ns) c.make_stages.new.parts) c.in_err-phases.field-0.0) c.deref-2.ensures.value (rw (c.ring-ring.ensures, c.chains.ensures) at c.in_err-phases.ensures.makes)))

pub returns-clause-makes : goal.returns-clause-makes
returns-clause-makes c =
    let config = c.args.config.now in
    let ports = c.args.ports.now in
    let stages = c.in_ok-stages.stages.items in
    let phases = c.in_ok-phases.phases.items in
    let run = c.in_ok-run.run' in
    let end = c.make_phases.new.parts in
    let listed : (phases ≡ c.from_vec.result) = sym c.from_vec.ensures in
    to_end config ports c.args.parts.now c.driving_gate.new.self c.make_nets.new.parts c.make_stages.new.parts end run stages phases c.in_ok-run.ensures.makes (rw c.ring-ring.ensures at c.in_ok-stages.ensures.makes)
    (subst (λ (ns : List NetId). outcome (stages_of config ports run ns) c.make_nets.new.parts ≡ Ok (tt, c.make_stages.new.parts)) c.deref.ensures.value (rw c.ring-ring.ensures at c.in_ok-make_stages.ensures.makes))
    (subst (λ (ns : List NetId). outcome (phases_of config ns) c.make_stages.new.parts ≡ Ok (phases, end)) c.deref-2.ensures.value (rw (c.ring-ring.ensures, c.chains.ensures) at c.in_ok-phases.ensures.makes))
    ∙ (λ i. Ok (record { run = run; phases = listed i }, end))
