use Rattle.std.proofs.Common.{◌<◌, ◌∙◌, ℕ, sym, ap, subst, map, length, arith}
use Rattle.std.specs.List.{All}
use Rattle.dft_expect.specs.Captures.{output_bits}
use Rattle.dft_vectors.specs.Signals.{input_bits}
use Rattle.dft_vectors.specs.Tables.{nets_named, own_input}
use Rattle.dft_vectors.proofs.OwnLemmas.{found_as, pulsing_inputs, inputs_live}
use Rattle.dft_vectors.proofs.own.own_ports.Goals as goal

pub returns : goal.returns
returns c =
    let n = c.args.design.now in
    let config = c.args.config.now in
    let ports = c.ports-ports.ensures.ports in
    let clocks = c.in_ok-clocks.ensures ∙ ap (nets_named n) c.domains.ensures in
    let resets = c.in_ok-resets.ensures ∙ ap (nets_named n) c.resets.ensures in
    let bits = c.in_ok-nets.ensures ∙ ap input_bits ports in
    let inputs = c.in_ok-inputs.ensures
    ∙ found_as n config c.deref-2.result.now c.deref-3.result.now (c.deref-2.ensures.value ∙ clocks) (c.deref-3.ensures.value ∙ resets) c.deref.result.now
    ∙ ap (map (own_input n config)) (c.deref.ensures.value ∙ bits) in record {
      clocks = clocks;
      inputs = inputs;
      pulsing = c.in_ok-pulsing.ensures ∙ pulsing_inputs n config c.deref-4.result.now (c.deref-4.ensures.value ∙ inputs);
      outputs = omega (arith, c.len-outputs.ensures, c.in_ok-outputs.field-0.ok.0, ap length (c.in_ok-outputs.ensures ∙ ap output_bits ports));
      nets = c.net_count.ensures.count;
      live = subst (λ (k : ℕ). All (λ net. net.0 < k) (input_bits n.ports)) (sym c.net_count.ensures.count) (inputs_live n c.ports-ports.ensures.sound);
    }
