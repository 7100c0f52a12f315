use Rattle.std.proofs.Common.{◌<◌, ◌∷◌, [], List, length, sym, subst, arith}
use Rattle.std.proofs.lemmas.Result.{err_from_is_err_and}
use Rattle.dft_cells.specs.declared.kind.Gate.TheVariants.{Buf}
use Rattle.dft_netlist.specs.declared.ids.NetId.{NetId}
use Rattle.dft_parts.specs.Recipes.{a_gate, net_at, Makes}
use Rattle.dft_edt.proofs.Making.{output_made, sum_refused}
use Rattle.dft_edt.proofs.outputs.make_output.Goals as goal

pub gate-requires-clause-output : goal.gate-requires-clause-output
gate-requires-clause-output c =
    let more = c.in_ok-sum.ensures.nets in
    let there = c.requires.shown c.args.output (record { 0 = 0 }) (omega (arith, c.requires.output, c.requires.outputs)) in
    subst (λ (ns : List NetId). (net_at ns c.args.output).0 < length c.sum_group.new.parts.netlist.nets) (sym c.as_slice.ensures) (omega (arith, more, there))

pub returns-in_err-sum-clause-makes : goal.returns-in_err-sum-clause-makes
returns-in_err-sum-clause-makes c =
    let p = err_from_is_err_and c.from_residual.result c.from_residual.ensures.1 in
    rw (p.1, p.2) (sum_refused c.args.config.now c.args.ports.now c.args.gated.now c.args.output c.args.parts.now c.in_err-sum.field-0.0 c.in_err-sum.ensures.makes)

pub returns-clause-makes : goal.returns-clause-makes
returns-clause-makes c =
    output_made c.args.config.now c.args.ports.now c.args.gated.now c.args.output c.args.parts.now c.sum_group.new.parts c.in_ok-sum.sum c.gate.result c.gate.new.self c.in_ok-sum.ensures.makes
    (subst (λ (ns : List NetId). Makes (λ _. tt) (a_gate Buf (c.in_ok-sum.sum ∷ []) (net_at ns c.args.output)) c.sum_group.new.parts c.gate.result c.gate.new.self) c.as_slice.ensures c.gate.ensures.makes)
