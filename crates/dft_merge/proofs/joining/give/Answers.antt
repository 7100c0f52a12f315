use Rattle.std.proofs.Common.{ap}
use Rattle.dft_cubes.specs.declared.cube.Merged.{Merged}
use Rattle.dft_merge.specs.Placement.{cell_number, port_number}
use Rattle.dft_merge.proofs.BitLemmas.{given_table}
use Rattle.dft_merge.proofs.joining.give.Goals as goal

pub returns-clause-cells : goal.returns-clause-cells
returns-clause-cells c =
    given_table cell_number c.args.pattern.now.cells c.args.cube.now.cells c.extend.new.pattern.cells c.as_slice.result.now c.args.slot.now.cells.items c.grow_for.new.cells c.deref_mut.result.now c.note_cells.new.table
    c.requires.cells c.in_ok-grow_for.ensures.cells (ap (λ (m : Merged). m.cells) c.in_ok-extend.ensures.ok) c.as_slice.ensures c.deref_mut.ensures.value c.note_cells.auto.table c.note_cells.ensures

pub returns-clause-ports : goal.returns-clause-ports
returns-clause-ports c =
    given_table port_number c.args.pattern.now.ports c.args.cube.now.ports c.extend.new.pattern.ports c.as_slice-2.result.now c.args.slot.now.ports.items c.grow_for.new.ports c.deref_mut-2.result.now c.note_ports.new.table
    c.requires.ports c.in_ok-grow_for.ensures.ports (ap (λ (m : Merged). m.ports) c.in_ok-extend.ensures.ok) c.as_slice-2.ensures c.deref_mut-2.ensures.value c.note_ports.auto.table c.note_ports.ensures
