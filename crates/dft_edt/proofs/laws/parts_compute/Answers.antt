use Rattle.dft_edt.proofs.Parts.{stage_bits, phase_bits, hold_bits, output_bits, stage_values, phase_values, hold_values, output_values}
use Rattle.dft_edt.proofs.laws.parts_compute.Goals as goal

pub returns : goal.returns
returns c = record { stage_bits = stage_bits; phase_bits = phase_bits; hold_bits = hold_bits; output_bits = output_bits; stage_values = stage_values; phase_values = phase_values; hold_values = hold_values; output_values = output_values }
