-- See the lemmas.
use Rattle.dft_verilog_out.proofs.JoinedTexts.{texts_joined, library_kept}
use Rattle.dft_verilog_out.proofs.laws.texts_are_joined.Goals as goal

pub returns : goal.returns
returns c = record { joined = texts_joined; library = library_kept }
