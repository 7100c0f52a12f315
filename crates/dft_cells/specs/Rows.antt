-- A row of the table of the standard cells, and the cell that it stands for.
use Rattle.std.specs.Prelude.{◌&&◌, Bool, map}
use Rattle.std.specs.List.{list_all}
use Rattle.dft_base.specs.Names.{is_name}
use Rattle.dft_cells.specs.declared.cell.Cell.{Cell}
use Rattle.dft_cells.specs.declared.standard.Row.{Row}
use Rattle.dft_cells.specs.Standard.{pin}

-- whether its name and those of its pins are names
abbrev pub is_named : Row → Bool
is_named row = is_name row.name.now && list_all (λ p. is_name p.0.now) row.pins.now

-- its cell
abbrev pub cell_of : Row → Cell
cell_of row = record { name = row.name.now; kind = row.kind; pins = map (λ p. pin p.0.now p.1) row.pins.now; scan = row.scan }
