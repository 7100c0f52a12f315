use Rattle.std.proofs.Common.{◌≡◌, ◌∙◌, ◌+◌, ◌<◌, ◌∷◌, List, Option, drop, length, ap, ap₂, sym, subst, arith}
use Rattle.std.proofs.lemmas.List.{drop_more, drop_all}
use Rattle.dft_base.specs.Lexing.{Text}
use Rattle.dft_netlist_text.specs.declared.text.Declared.{Declared}
use Rattle.dft_netlist_text.specs.Modules.{HeaderPort}
use Rattle.dft_verilog.specs.SaidParts.{with_port, with_ports}
use Rattle.dft_verilog.proofs.SaidPartLemmas.{PortsToAdd, PortsToAdd-more, with_ports-none}
use Rattle.dft_verilog.proofs.module_nets.add_ports.Goals as goal

pub loop-port-preserved : goal.loop-port-preserved
loop-port-preserved c =
    let ports : List HeaderPort = c.args.ports.now in
    let index = c.loop-port.port-index in
    let port : HeaderPort = c.port-item.result in
    let lt : index < length ports = omega arith in
    let ahead : drop index ports ≡ port ∷ drop (index + 1) ports = drop_more ports index port lt ∙ ap (λ (x : HeaderPort). x ∷ drop (index + 1) ports) (sym c.port-item.is) in
    PortsToAdd-more c.args.names.now ports (drop (index + 1) ports) port index c.args.made.now c.loop-port.made c.add_port.new.made lt
    (c.in_ok-add_port.ensures.made ∙ ap₂ (λ (w : Text) (o : Option Declared). with_port c.args.names.now w o c.loop-port.made) c.name.ensures c.declared.ensures)
    c.in_ok-add_port.ensures.few
    (subst (λ (rest : List HeaderPort). PortsToAdd c.args.names.now ports rest index c.args.made.now c.loop-port.made) ahead c.loop-port.invariant)

pub returns-clause-made : goal.returns-clause-made
returns-clause-made c =
    let none : drop c.loop-port.port-index c.args.ports.now ≡ _ = drop_all c.loop-port.port-index c.args.ports.now (omega arith) in
    sym (with_ports-none c.args.names.now c.loop-port.made) ∙ sym (ap (λ (ps : List HeaderPort). with_ports c.args.names.now ps c.loop-port.made) none) ∙ c.loop-port.invariant.rest

pub returns-clause-few : goal.returns-clause-few
returns-clause-few c = omega (arith, c.loop-port.invariant.few, c.loop-port.invariant.within, c.requires.few)
