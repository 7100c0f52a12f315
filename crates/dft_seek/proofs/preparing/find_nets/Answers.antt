-- The drivable ports are chosen from the bits of input ports.
use Rattle.std.proofs.Common.{ℕ, List, Bool, ◌≡◌, ◌<◌, ◌&&◌, ◌∙◌, not, filter, length, sym, subst, ap}
use Rattle.std.specs.List.{AllByRecursion}
use Rattle.dft_netlist.specs.declared.ids.NetId.{NetId}
use Rattle.dft_netlist.specs.Netlist.{Netlist}
use Rattle.dft_config.specs.Config.{Config}
use Rattle.dft_rules.specs.ConfigPorts.{config_ports}
use Rattle.dft_expect.specs.Captures.{output_bits}
use Rattle.dft_logic.specs.Circuit.{Circuit, flag_at, meaning, op_at}
use Rattle.dft_seek.specs.Prepared.{search_for}
use Rattle.dft_seek.specs.Searches.{Search, input_bits}
use Rattle.dft_seek.specs.SoughtFaults.{is_named}
use Rattle.dft_seek.specs.Steps.{is_input_of}
use Rattle.dft_seek.proofs.PreparedLemmas.{ports_all, ports_live}
use Rattle.dft_seek.proofs.preparing.find_nets.Goals as goal

pub returns : goal.returns
returns c =
    let n : Netlist = c.args.planned.now.design in
    let config : Config = c.args.planned.now.config in
    let s : Search = search_for n config 0 in
    let same : c.design-design.result.now ≡ n = c.design-design.ensures in
    let x = c.args.circuit.now in
    let compiled = c.requires in
    let resets : List Bool = c.in_ok-resets.resets.items in
    let of_resets : (k : ℕ) → flag_at resets k ≡ (config_ports n config).is_reset k = λ k.
    c.in_ok-resets.ensures.each k ∙ (λ t. is_named (same t) ((c.resets.ensures ∙ ap (λ (g : Config). g.resets) c.config.ensures) t) k) in
    let inputs = c.in_ok-inputs.ensures ∙ ap input_bits (c.ports-2.ensures.ports ∙ ap (λ (m : Netlist). m.ports) same) in
    let read = c.deref.ensures.value ∙ ap (λ (m : Circuit). m.ops) c.circuit.view_is in
    let found = c.in_ok-ports.ensures ∙ (λ t. filter (λ (net : NetId). is_input_of (meaning (op_at (read t) net.0)) && not (flag_at (c.deref-3.ensures.value t) net.0)) (c.deref-2.ensures.value t)) in
    record {
      resets = of_resets;
      outputs = c.in_ok-outputs.ensures ∙ ap output_bits (c.ports.ensures.ports ∙ ap (λ (m : Netlist). m.ports) same);
      ports = found ∙ ports_all s compiled.clocks resets x c.in_ok-inputs.inputs.items compiled.circuit compiled.same of_resets inputs;
      live = subst (AllByRecursion (λ (net : NetId). net.0 < length n.nets)) (sym found) (ports_live x resets c.in_ok-inputs.inputs.items (length n.nets) compiled.circuit.nets);
    }
