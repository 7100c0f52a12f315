-- How many of the instances before this one are scanned.
use Rattle.std.specs.Prelude.{◌≡◌, ◌≤◌, count_by}
use Rattle.std.specs.List.{range_with_len}
use Rattle.dft_configure.specs.Found.{numbers}
use Rattle.dft_configure.specs.Scanned.{is_taken}
use Rattle.dft_configure.proofs.scanning.scanned_of.Given as goal

abbrev pub invariant-loop-instance : goal.invariant-loop-instance
invariant-loop-instance l = record {
  count : l.count ≡ count_by (is_taken l.design (numbers l.roots.domains.items) (numbers l.roots.resets.items)) (range_with_len 0 l.instance);
  few : l.count ≤ l.instance;
}
