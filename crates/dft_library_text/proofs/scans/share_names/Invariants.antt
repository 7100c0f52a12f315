-- The rest of the pins and the rest of the scan cell have the same names where all of them have.
use Rattle.std.proofs.Common.{◌≡◌, ◌≤◌, drop, map, length}
use Rattle.dft_cells.specs.WellFormed.{pin_name, shared_pins}
use Rattle.dft_library_text.specs.Reading.{same_names}
use Rattle.dft_library_text.proofs.scans.share_names.Given as goal

abbrev pub invariant-loop-other : goal.invariant-loop-other
invariant-loop-other l = record {
  within : l.place ≤ length l.pins;
  same : same_names (map pin_name (shared_pins l.others)) (map pin_name l.pins)
      ≡ same_names (map pin_name (shared_pins (drop l.other-index l.others))) (map pin_name (drop l.place l.pins));
}
