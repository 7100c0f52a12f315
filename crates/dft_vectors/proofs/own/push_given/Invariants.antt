-- The inputs so far, and the rest.
use Rattle.std.proofs.Common.{◌≡◌, ◌++◌, map, drop, get_or, None}
use Rattle.dft_rules.specs.Rules.{is_net}
use Rattle.dft_expect.specs.Captures.{port_value}
use Rattle.dft_vectors.specs.OwnPorts.{driven}
use Rattle.dft_vectors.proofs.own.push_given.Given as goal

abbrev pub invariant-loop-input : goal.invariant-loop-input
invariant-loop-input l =
    l.acts.items ++ map (λ input. driven (is_net input.net.0 l.clock) (port_value input.is_reset (get_or l.given input.net.0 None))) (drop l.input-index l.inputs)
    ≡ l.fn.acts.items ++ map (λ input. driven (is_net input.net.0 l.clock) (port_value input.is_reset (get_or l.given input.net.0 None))) l.inputs
