use Rattle.dft_abstract.proofs.Phases.{phase_above}
use Rattle.dft_abstract.proofs.Turns.{strobe_stands, turn_stands}
use Rattle.dft_abstract.proofs.laws.cycle_is_above.Goals as goal

pub returns : goal.returns
returns c = record { strobe = strobe_stands; phase = phase_above; turn = turn_stands }
