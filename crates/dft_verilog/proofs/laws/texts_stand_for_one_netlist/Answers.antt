use Rattle.dft_verilog.proofs.ReaderLemmas.{one_netlist}
use Rattle.dft_verilog.proofs.laws.texts_stand_for_one_netlist.Goals as goal

pub returns : goal.returns
returns c = one_netlist
