-- The bits of the ports are nets.
use Rattle.std.proofs.Common.{◌<◌, ◌∙◌, length, ap}
use Rattle.std.proofs.lemmas.List.Elements.{All-same}
use Rattle.dft_netlist.specs.declared.ids.NetId.{NetId}
use Rattle.dft_expect.specs.Captures.{output_bits}
use Rattle.dft_vectors.specs.Signals.{input_bits}
use Rattle.dft_vectors.proofs.OwnLemmas.{inputs_live, outputs_live}
use Rattle.dft_vectors.proofs.signals.signals_of.Goals as goal

pub push_signals-requires : goal.push_signals-requires
push_signals-requires c =
    let n = c.args.design.now in
    All-same (λ (net : NetId). net.0 < length n.nets) c.deref.result.now (input_bits n.ports) (c.deref.ensures.value ∙ c.in_ok-inputs.ensures ∙ ap input_bits c.ports-ports.ensures.ports) (inputs_live n c.ports-ports.ensures.sound)

pub push_signals-requires-2 : goal.push_signals-requires-2
push_signals-requires-2 c =
    let n = c.args.design.now in
    All-same (λ (net : NetId). net.0 < length n.nets) c.deref-2.result.now (output_bits n.ports) (c.deref-2.ensures.value ∙ c.in_ok-outputs.ensures ∙ ap output_bits c.ports-ports.ensures.ports) (outputs_live n c.ports-ports.ensures.sound)
