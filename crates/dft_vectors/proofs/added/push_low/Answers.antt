-- One port more.
use Rattle.dft_vectors.specs.OwnPorts.{set_to}
use Rattle.dft_vectors.specs.AddedPorts.{no_bits}
use Rattle.dft_vectors.proofs.ListLemmas.{grown}
use Rattle.dft_vectors.proofs.added.push_low.Goals as goal

pub loop-port-preserved : goal.loop-port-preserved
loop-port-preserved c =
    grown (λ port. set_to (no_bits port)) c.args.acts.now.items c.loop-port.acts.items c.push.new.self.items c.loop-port._port c.set_to.result c.loop-port.invariant c.in_ok-push.ensures.items c.set_to.ensures
