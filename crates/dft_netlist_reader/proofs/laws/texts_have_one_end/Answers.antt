use Rattle.dft_netlist_reader.proofs.Refused.{refusals_one, design_or_refusal}
use Rattle.dft_netlist_reader.proofs.laws.texts_have_one_end.Goals as goal

pub returns : goal.returns
returns c = record { one = refusals_one; either = design_or_refusal }
