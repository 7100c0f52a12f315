-- A choice of three-valued bits.
use Rattle.dft_fault_lanes.proofs.CellLemmas.{wide_chooses}
use Rattle.dft_fault_lanes.proofs.cells.taken_wide.Goals as goal

pub returns-in-Some : goal.returns-in-Some
returns-in-Some c = rw c.in-Some.is (wide_chooses c.wide_mux.result _ _ _ _ _ _ c.operand.ensures c.operand-in-Some.ensures c.operand-in-Some-2.ensures c.wide_mux.ensures)
