-- Those so far that have no bit are appended, and there is room for the others.
use Rattle.std.proofs.Common.{◌≡◌, ◌≤◌, ◌+◌, ◌-◌, ◌++◌, length, take, vec_len, vec_capacity}
use Rattle.dft_merge.specs.Placement.{cell_number}
use Rattle.dft_merge.specs.Tables.{missing_by}
use Rattle.dft_merge.proofs.tables.push_missing_cells.Given as goal

abbrev pub invariant-loop-given : goal.invariant-loop-given
invariant-loop-given l = record {
  appended : l.list.items ≡ l.initial.list.items ++ missing_by cell_number l.table (take l.given-index l.cells);
  room : vec_len l.list + (length l.cells - l.given-index) ≤ vec_capacity l.list;
}
