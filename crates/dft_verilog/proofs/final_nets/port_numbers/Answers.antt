use Rattle.std.proofs.Common.{◌≡◌, ◌∙◌, ◌+◌, ◌<◌, ◌∷◌, drop, length, ap, ap₂, sym, subst, arith, List, Option}
use Rattle.std.proofs.lemmas.List.{drop_more, drop_all, take_at}
use Rattle.dft_netlist.specs.declared.ids.NetId.{NetId}
use Rattle.dft_netlist_text.specs.declared.text.Declared.{Declared}
use Rattle.dft_netlist_text.specs.Modules.{HeaderPort}
use Rattle.dft_netlist_text.specs.NetlistText.{nets_of_port, nets_of_ports}
use Rattle.dft_verilog.specs.FinalNets.{with_numbers}
use Rattle.dft_verilog.proofs.NumberingLemmas.{NumbersPorts, NumbersPorts-more, with_numbers-all, AreBelow-ports}
use Rattle.dft_verilog.proofs.final_nets.port_numbers.Goals as goal

pub loop-port-preserved : goal.loop-port-preserved
loop-port-preserved c =
    let ports : List HeaderPort = c.args.ports.now in
    let index = c.loop-port.port-index in
    let port : HeaderPort = c.port-item.result in
    let lt : index < length ports = omega arith in
    let ahead : drop index ports ≡ port ∷ drop (index + 1) ports = drop_more ports index port lt ∙ ap (λ (x : HeaderPort). x ∷ drop (index + 1) ports) (sym c.port-item.is) in
    let same : length c.number_port-next.new.numbers ≡ c.loop-port.numbers.len = omega (arith, c.deref_mut.ensures.len) in
    NumbersPorts-more c.args.count ports index port (drop (index + 1) ports) c.loop-port.next c.number_port-next.result c.loop-port.numbers.items _
    (take_at c.number_port-next.new.numbers _ c.loop-port.numbers.len same
    ∙ c.number_port-next.ensures.numbers ∙ ap₂ (λ (d : Option Declared) (xs : List (Option NetId)). with_numbers (nets_of_port d) c.loop-port.next xs) c.declared.ensures c.deref_mut.ensures.value)
    (c.number_port-next.ensures.next ∙ ap (λ (d : Option Declared). c.loop-port.next + length (nets_of_port d)) c.declared.ensures)
    c.number_port-next.ensures.few
    (subst (λ (rest : List HeaderPort). NumbersPorts c.args.count ports index rest c.loop-port.next c.loop-port.numbers.items) ahead c.loop-port.invariant)

pub returns : goal.returns
returns c =
    let none : drop c.loop-port.port-index c.args.ports.now ≡ _ = drop_all c.loop-port.port-index c.args.ports.now (omega arith) in
    sym (ap (λ (ps : List HeaderPort). with_numbers (nets_of_ports ps) c.loop-port.next c.loop-port.numbers.items) none)
    ∙ c.loop-port.invariant.rest
    ∙ with_numbers-all (nets_of_ports c.args.ports.now) c.args.count (AreBelow-ports c.args.count c.args.ports.now c.requires.within)
