-- The keys are the names of the first pins, and these differ.
use Rattle.std.proofs.Common.{◌≡◌, true, map, take}
use Rattle.dft_cells.specs.WellFormed.{all_differ, pin_name}
use Rattle.dft_library_text.proofs.Differing.{AreSeen}
use Rattle.dft_library_text.proofs.draft.all_differ.Given as goal

abbrev pub invariant-loop-pin : goal.invariant-loop-pin
invariant-loop-pin l = record {
  keys : AreSeen l.names.keys (map pin_name (take l.pin-index l.pins));
  differ : all_differ (map pin_name (take l.pin-index l.pins)) ≡ true;
}
