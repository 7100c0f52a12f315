-- The nets before this one have their drivers' values.
use Rattle.dft_takings.specs.Views.{before_base, pulse_at}
use Rattle.dft_takings.proofs.Listings.{Listed}
use Rattle.dft_takings.proofs.lists.settle_list.Given as goal

abbrev pub invariant-loop-net : goal.invariant-loop-net
invariant-loop-net l = Listed l.circuit.ops (before_base (pulse_at l.pulse)) l.nets l.values l.net-index
