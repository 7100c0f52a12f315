-- One source, or what a scan enable lets through.
use Rattle.dft_fault_lanes.proofs.steady.is_steady.Goals as goal

pub returns-in-None : goal.returns-in-None
returns-in-None c = rw c.in-None.is c.reads_still.ensures

pub returns-in-Some : goal.returns-in-Some
returns-in-Some c = rw c.in-Some.is c.scan_still.ensures
