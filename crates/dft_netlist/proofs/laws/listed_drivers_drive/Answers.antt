use Rattle.dft_netlist.proofs.DriverLaws.{listed_drives}
use Rattle.dft_netlist.proofs.laws.listed_drivers_drive.Goals as goal

pub returns : goal.returns
returns c = listed_drives
