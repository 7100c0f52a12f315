-- See the lemmas.
use Rattle.dft_chains.proofs.Shiftings.{link_law, entry_law, shift_in_runs, shift_experiment, ends_show, ends_show_before}
use Rattle.dft_chains.proofs.laws.chains_shift.Goals as goal

pub returns : goal.returns
returns c = record { links = link_law; entries = entry_law; runs = shift_in_runs; experiment = shift_experiment; ends = ends_show; ends_before = ends_show_before }
