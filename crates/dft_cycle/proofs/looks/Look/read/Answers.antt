-- The nets of the list have their drivers' values.
use Rattle.std.proofs.Common.{◌∙◌}
use Rattle.dft_logic.specs.Values.{value_at}
use Rattle.dft_cycle.proofs.PassLemmas.{look_read}
use Rattle.dft_cycle.proofs.looks.Look.read.Goals as goal

pub returns : goal.returns
returns c =
    look_read c.args.strobe.circuit.now c.args.self.now (value_at c.args.strobe.ports.now) (value_at c.args.strobe.cells.now.values) c.strobe_steps.new.values c.read_list.new.row c.soundness.ensures c.requires.listed
    (c.strobe_steps.auto.values ∙ c.requires.values) (rw c.deref.ensures.value at c.strobe_steps.ensures) (rw c.deref-2.ensures.value at c.read_list.ensures)
