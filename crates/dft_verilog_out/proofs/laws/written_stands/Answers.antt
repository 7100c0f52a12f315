-- See the lemma.
use Rattle.dft_verilog_out.proofs.RoundTrip.{written_stands}
use Rattle.dft_verilog_out.proofs.laws.written_stands.Goals as goal

pub returns : goal.returns
returns c = λ n h. written_stands n (record { sound = h.sound; well = h.library; gates = h.gates }) h.single h.orderable
