-- Its clocks are those of the configuration.
use Rattle.std.proofs.Common.{List, Bool, ◌∙◌, ap, subst}
use Rattle.dft_netlist.specs.Netlist.{Netlist}
use Rattle.dft_config.specs.Config.{Config}
use Rattle.dft_logic.specs.Compiling.{IsCircuitOf, ports_by}
use Rattle.dft_seek.specs.Prepared.{IsCompiled}
use Rattle.dft_seek.specs.SoughtFaults.{is_named}
use Rattle.dft_seek.proofs.preparing.compiled.Goals as goal

pub returns : goal.returns
returns c =
    let n : Netlist = c.args.planned.now.design in
    let config : Config = c.args.planned.now.config in
    let x = c.in_ok-circuit.circuit in
    let names = c.domains.ensures ∙ ap (λ (g : Config). g.domains) c.config.ensures in
    let first : IsCompiled c.design-design.result.now config x = record {
      clocks = c.in_ok-clocks.clocks.items;
      same = λ k. c.in_ok-clocks.ensures.each k ∙ ap (λ (l : List _). is_named c.design-design.result.now l k) names;
      circuit = subst (λ (l : List Bool). IsCircuitOf c.design-design.result.now (ports_by l) x) c.deref.ensures.value c.in_ok-circuit.ensures;
    } in
    subst (λ (m : Netlist). IsCompiled m config x) c.design-design.ensures first
