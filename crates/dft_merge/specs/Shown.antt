-- What a `Merger` shows, and what holds of it.
use Rattle.std.specs.Prelude.{◌≡◌, ◌-◌, ◌≤◌, length, min}
use Rattle.dft_merge.specs.declared.merger.Merger.TheInside.{Inside}
use Rattle.dft_merge.specs.Merging.{Merging}
use Rattle.dft_merge.specs.LoadPlan.{rows_by, columns_by}
use Rattle.dft_merge.specs.Slots.{AreSlots, AreLoadable}

abbrev pub merging_of : Inside → Merging
merging_of m = record { loads = m.loads.now; window = m.window; patterns = m.patterns.items }

pub record IsMerger (m : Inside) : Type 0 where
  pub window : 1 ≤ m.window
  pub start : m.start ≡ 0
  pub alone : m.alone.columns ≡ columns_by m.loads.now
  pub count : length m.slots.items ≡ min m.window (length m.patterns.items)
  pub slots : AreSlots (columns_by m.loads.now) (rows_by m.loads.now) (length m.patterns.items - length m.slots.items) m.patterns.items m.slots.items
  pub loadable : AreLoadable (columns_by m.loads.now) (rows_by m.loads.now) m.patterns.items
