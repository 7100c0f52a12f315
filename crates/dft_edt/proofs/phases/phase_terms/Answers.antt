use Rattle.std.proofs.Common.{◌<◌, sym, subst}
use Rattle.std.specs.List.{All}
use Rattle.dft_netlist.specs.declared.ids.NetId.{NetId}
use Rattle.dft_edt.proofs.Terms.{set_below, set_made}
use Rattle.dft_edt.proofs.phases.phase_terms.Goals as goal

pub returns-clause-below : goal.returns-clause-below
returns-clause-below c = λ bound below.
    subst (All (λ (net : NetId). net.0 < bound)) (sym (set_made c.args.stages.now c.loop-stage.terms.items c.args.set.now c.loop-stage.stage-index c.loop-stage-test.false c.loop-stage.invariant)) (set_below bound c.args.stages.now c.args.set.now below c.requires)
