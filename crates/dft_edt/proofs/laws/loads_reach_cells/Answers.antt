use Rattle.dft_edt.proofs.Loads.{load_passes, load_in_rounds, load_in_runs}
use Rattle.dft_edt.proofs.laws.loads_reach_cells.Goals as goal

pub returns : goal.returns
returns c = record { passes = load_passes; rounds = load_in_rounds; runs = load_in_runs }
