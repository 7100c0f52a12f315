use Rattle.std.proofs.Common.{◌<◌, sym, subst}
use Rattle.std.specs.List.{All}
use Rattle.dft_netlist.specs.declared.ids.NetId.{NetId}
use Rattle.dft_edt.proofs.Terms.{set_below, set_made}
use Rattle.dft_edt.proofs.outputs.group_terms.Goals as goal

pub returns-clause-below : goal.returns-clause-below
returns-clause-below c = λ bound below.
    subst (All (λ (net : NetId). net.0 < bound)) (sym (set_made c.args.gated.now c.loop-chain.terms.items c.args.group.now c.loop-chain.chain-index c.loop-chain-test.false c.loop-chain.invariant)) (set_below bound c.args.gated.now c.args.group.now below c.requires)
