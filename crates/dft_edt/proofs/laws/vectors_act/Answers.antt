use Rattle.dft_edt.proofs.Steps.{shift_law, clear_law, mask_law, hold_law, rest_law, output_law}
use Rattle.dft_edt.proofs.laws.vectors_act.Goals as goal

pub returns : goal.returns
returns c = record { shift = shift_law; clear = clear_law; mask = mask_law; hold = hold_law; rest = rest_law; output = output_law }
