-- Nothing is known.
use Rattle.std.proofs.Common.{length}
use Rattle.dft_registers.specs.Layout.{cells_at}
use Rattle.dft_registers.proofs.CellLemmas.{none_known}
use Rattle.dft_registers.proofs.cells.Cells.new.Goals as goal

pub returns : goal.returns
returns g c = none_known g.V.Value.unknown_value _ _ _ (length c.args.before.now) (λ r. length (cells_at c.in_ok-layout.layout.registers r)) c.in_ok-layout.ensures c.in_ok-resting.ensures c.in_ok-rows.ensures.each
