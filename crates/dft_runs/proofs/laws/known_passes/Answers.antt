use Rattle.dft_runs.proofs.Passing.{round_passes, turn_passes, rounds_pass, turns_pass}
use Rattle.dft_runs.proofs.laws.known_passes.Goals as goal

pub returns : goal.returns
returns c = record { round = round_passes; turn = turn_passes; rounds = rounds_pass; turns = turns_pass }
