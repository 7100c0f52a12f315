use Rattle.std.proofs.Common.{◌≡◌, ◌∙◌, sym, None, Some}
use Rattle.dft_netlist.specs.Connections.{input_net}
use Rattle.dft_rules.proofs.NameLemmas.{looked_on, looked_here, looked_over, nets_on, nets_over}
use Rattle.dft_rules.proofs.findings.input_nets.Goals as goal

pub returns-in-None-clause-refused : goal.returns-in-None-clause-refused
returns-in-None-clause-refused c =
    let n = c.args.design.now in
    let names = c.args.names.now in
    let k = c.loop-name.name-index in
    let missed : input_net n c.name-item.result ≡ None = sym (rw c.as_slice.ensures.bytes at c.input.ensures.net) ∙ c.in-None.is in
    rw c.in_ok-unknown-in-None.ensures (c.loop-name.invariant.same ∙ looked_here (input_net n) names k c.name-item.result c.loop-name-test.true c.name-item.is missed)

pub loop-name-preserved : goal.loop-name-preserved
loop-name-preserved c =
    let n = c.args.design.now in
    let names = c.args.names.now in
    let k = c.loop-name.name-index in
    let found : input_net n c.name-item.result ≡ Some c.in-Some.net = sym (rw c.as_slice.ensures.bytes at c.input.ensures.net) ∙ c.in-Some.is in
    record {
      same = c.loop-name.invariant.same ∙ looked_on (input_net n) names k c.name-item.result c.in-Some.net c.loop-name-test.true c.name-item.is found;
      found = c.loop-name.invariant.found ∙ nets_on (input_net n) names k c.name-item.result c.in-Some.net c.loop-name.nets.items c.push.new.self.items c.loop-name-test.true c.name-item.is found c.in_ok-push-in-Some.ensures.items;
    }

pub returns-clause-found : goal.returns-clause-found
returns-clause-found c = c.loop-name.invariant.found ∙ nets_over (input_net c.args.design.now) c.args.names.now c.loop-name.name-index c.loop-name.nets.items c.loop-name-test.false

pub returns-clause-known : goal.returns-clause-known
returns-clause-known c = c.loop-name.invariant.same ∙ looked_over (input_net c.args.design.now) c.args.names.now c.loop-name.name-index c.loop-name-test.false
