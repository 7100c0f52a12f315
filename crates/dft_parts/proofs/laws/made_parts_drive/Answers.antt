use Rattle.dft_parts.proofs.Standing.{gate_stands}
use Rattle.dft_parts.proofs.Stores.{flop_stands, inverse_stands, lockup_stands, port_shows}
use Rattle.dft_parts.proofs.laws.made_parts_drive.Goals as goal

pub returns : goal.returns
returns c = record { gate = gate_stands; flop = flop_stands; port = port_shows; inverse = inverse_stands; lockup = lockup_stands }
