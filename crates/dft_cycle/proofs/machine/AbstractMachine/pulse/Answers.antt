-- The rises and the falls are the pulse.
use Rattle.std.proofs.Common.{◌∙◌, sym, ap, List, length}
use Rattle.dft_netlist.specs.declared.ids.NetId.{NetId}
use Rattle.dft_cycle.proofs.MachineLemmas.{pulsed_of}
use Rattle.dft_cycle.proofs.machine.AbstractMachine.pulse.Goals as goal

pub fall-requires : goal.fall-requires
fall-requires c = c.requires ∙ sym (ap (λ (l : List NetId). length l) c.phase.ensures.clocks)

pub returns : goal.returns
returns c = pulsed_of c.args.self.now c.phase.new.self c.fall.new.self c.args.pulsed.now c.phase.ensures c.fall.ensures
