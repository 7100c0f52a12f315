use Rattle.dft_edt.proofs.Loads.{shift_in_runs, clear_in_runs, masks_in_runs, holds_in_runs}
use Rattle.dft_edt.proofs.Steps.{output_in_runs}
use Rattle.dft_edt.proofs.laws.vectors_act_in_runs.Goals as goal

pub returns : goal.returns
returns c = record { shift = shift_in_runs; clear = clear_in_runs; masks = masks_in_runs; holds = holds_in_runs; outputs = output_in_runs }
