use Rattle.std.proofs.Common.{◌++◌, ◌∙◌, List, Option, None, Bool, map, get_or, ap}
use Rattle.dft_netlist.specs.declared.ids.NetId.{NetId}
use Rattle.dft_patterns.specs.declared.act.Act.{Act}
use Rattle.dft_rules.specs.Rules.{is_net}
use Rattle.dft_expect.specs.Captures.{port_value, bit_of_port}
use Rattle.dft_vectors.specs.declared.own.OwnInput.{OwnInput}
use Rattle.dft_vectors.specs.OwnPorts.{driven}
use Rattle.dft_vectors.proofs.OwnLemmas.{captured_inputs}
use Rattle.dft_vectors.proofs.own.push_captured.Goals as goal

pub returns : goal.returns
returns c = λ n config are.
    let own = c.args.own.now in
    let merged = c.args.merged.now in
    let clock = c.clock_at-clock.result in
    let given = c.deref-3.result.now in
    let f = λ (input : OwnInput). driven (is_net input.net.0 clock) (port_value input.is_reset (get_or given input.net.0 None)) in
    c.in_ok-push_given.ensures ∙ ap (λ (l : List Act). c.args.acts.now.items ++ l) (ap (map f) c.deref-2.ensures.value
    ∙ captured_inputs n config own merged c.args.domain clock given are (c.clock_at-clock.ensures ∙ ap (λ (l : List (Option NetId)). get_or l c.args.domain None) c.deref.ensures.value)
    (λ net less. ap (λ (l : List (Option Bool)). get_or l net None) c.deref-3.ensures.value ∙ c.in_ok-given.ensures net less ∙ ap (λ (l : List (NetId × Bool)). bit_of_port l net) c.as_slice.ensures))
