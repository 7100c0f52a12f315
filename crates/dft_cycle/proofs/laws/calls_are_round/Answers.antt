use Rattle.dft_cycle.proofs.MachineRounds.{start_forced, set_stands, calls_round}
use Rattle.dft_cycle.proofs.laws.calls_are_round.Goals as goal

pub returns : goal.returns
returns c = record { start = start_forced; set = set_stands; round = calls_round }
