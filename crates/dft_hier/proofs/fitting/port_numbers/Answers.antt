use Rattle.std.proofs.Common.{◌<◌, ◌≡◌, length, get_or}
use Rattle.dft_netlist.specs.declared.port.Port.{Port}
use Rattle.dft_numbered.proofs.NamedLemmas.{named_next, named_all}
use Rattle.dft_hier.proofs.fitting.port_numbers.Goals as goal

pub loop-number-preserved : goal.loop-number-preserved
loop-number-preserved c =
    let ports = c.args.owner.now.ports in
    let less : c.loop-number.number < length ports = rw (← c.ports-port-items.ensures) c.loop-number-test.true in
    let is : c.port-item.result ≡ get_or ports c.loop-number.number c.port-item.result = rw c.ports-port-items.ensures at c.port-item.is in
    named_next (λ (x : Port). x.name) ports c.port-item.result c.as_slice.result.now c.loop-number.number c.loop-number.numbers c.put.new.self less is c.as_slice.ensures.bytes c.in_ok-put.ensures c.loop-number.invariant

pub returns : goal.returns
returns c = named_all (λ (x : Port). x.name) c.args.owner.now.ports c.loop-number.numbers c.loop-number.number (rw (← c.ports-port-items.ensures) c.loop-number-test.false) c.loop-number.invariant
