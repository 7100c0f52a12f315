use Rattle.dft_edt.proofs.Unloads.{masks_pass, unload_passes, unload_in_rounds, unload_in_runs}
use Rattle.dft_edt.proofs.laws.unloads_reach_outputs.Goals as goal

pub returns : goal.returns
returns c = record { masks = masks_pass; passes = unload_passes; rounds = unload_in_rounds; runs = unload_in_runs }
