use Rattle.dft_insert.proofs.MadeParts.{no_scan_in}
use Rattle.dft_insert.proofs.pins.join_scan_in.Goals as goal

pub returns-in-None-clause-makes : goal.returns-in-None-clause-makes
returns-in-None-clause-makes c = no_scan_in c.args.design.now c.args.cell c.args.net c.args.parts.now c.in-None.is
