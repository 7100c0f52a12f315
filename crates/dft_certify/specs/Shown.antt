-- What sets of cells show.
use Rattle.std.specs.Prelude.{List, map}
use Rattle.dft_netlist.specs.declared.ids.InstanceId.{InstanceId}
use Rattle.dft_certify.specs.declared.cell_set.CellSet.TheInside as cell_set

abbrev pub cells_in : cell_set.Inside → List InstanceId
cells_in s = map (λ number. record { 0 = number }) s.numbers.keys
