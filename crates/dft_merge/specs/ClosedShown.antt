-- What closed patterns show, and what holds of them.
use Rattle.dft_merge.specs.declared.closed.Closed.TheInside.{Inside}
use Rattle.dft_merge.specs.Merging.{Merging}
use Rattle.dft_merge.specs.LoadPlan.{rows_by, columns_by}
use Rattle.dft_merge.specs.Slots.{AreLoadable}

abbrev pub closed_of : Inside → Merging
closed_of m = record { loads = m.loads.now; window = m.window; patterns = m.patterns.items }

abbrev pub IsClosed : Inside → Type 0
IsClosed m = AreLoadable (columns_by m.loads.now) (rows_by m.loads.now) m.patterns.items
