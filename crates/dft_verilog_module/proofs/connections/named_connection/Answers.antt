use Rattle.dft_verilog_module.proofs.ConnectionLemmas.{fits_more, fits_with}
use Rattle.dft_verilog_module.proofs.connections.named_connection.Goals as goal

pub returns-clause-fits : goal.returns-clause-fits
returns-clause-fits c = rw c.join.ensures (fits_with _ _ _ _ _ c.in_ok-to.ensures.to (fits_more _ _ _ _ c.in_ok-to.ensures.grown.nets c.requires))
