use Rattle.dft_generate.specs.Netlists.{cell_lines}
use Rattle.dft_generate.proofs.Lines.{lines_more}
use Rattle.dft_generate.proofs.netlist.add_cells.Goals as goal

pub loop-cell-preserved : goal.loop-cell-preserved
loop-cell-preserved c = lines_more (cell_lines c.args.size c.args.words.now) c.loop-cell.cell c.args.out.now.items c.loop-cell.out.items _ c.loop-cell.invariant c.in_ok-add_cell.ensures
