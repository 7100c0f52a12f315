-- What is read of the circuit is what it shows.
use Rattle.std.proofs.Common.{◌∙◌, ap, length}
use Rattle.dft_logic.specs.Circuit.{Circuit}
use Rattle.dft_cycle.proofs.machine.cell_count.Goals as goal

pub returns : goal.returns
returns c = c.len.ensures ∙ c.circuit.inside.flops.ok.0 ∙ ap (λ (m : Circuit). length m.flops) c.circuit.view_is
