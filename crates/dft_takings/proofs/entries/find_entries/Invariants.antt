-- The flip-flops before this one have their entries.
use Rattle.std.proofs.Common.{ℕ, ◌<◌, ◌≡◌, map, Some}
use Rattle.dft_logic.specs.Values.{value_at}
use Rattle.dft_logic.specs.Circuit.{cell_of, cell_at}
use Rattle.dft_takings.specs.Views.{pulse_at}
use Rattle.dft_takings.specs.ShownTables.{shown_at}
use Rattle.dft_takings.specs.EntryTables.{origin_at, entry_for, entry_at}
use Rattle.dft_takings.proofs.entries.find_entries.Given as goal

abbrev pub invariant-loop-place : goal.invariant-loop-place
invariant-loop-place l = (c : ℕ) → c < l.place → entry_for (cell_at (map cell_of l.flops) c) (pulse_at l.pulse) (origin_at l.sights.origins.now) (shown_at l.sights.shown.now) (value_at l.values) ≡ Some (entry_at l.entries c)
