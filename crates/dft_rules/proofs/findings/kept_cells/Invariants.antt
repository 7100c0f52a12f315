-- The flip-flops with the names so far are marked, and the rest of the names is known where all of them are.
use Rattle.std.proofs.Common.{◌≡◌, ℕ, ◌<◌, false, length, get_or, take, drop}
use Rattle.dft_rules.specs.Refusals.{unknown_cell}
use Rattle.dft_rules.specs.Rules.{is_kept}
use Rattle.dft_rules.proofs.findings.kept_cells.Given as goal

abbrev pub invariant-loop-name : goal.invariant-loop-name
invariant-loop-name l = record {
  same : unknown_cell l.design l.names ≡ unknown_cell l.design (drop l.name-index l.names);
  count : length l.marks.items ≡ length l.design.instances;
  each : (i : ℕ) → i < length l.design.instances → get_or l.marks.items i false ≡ is_kept l.design (take l.name-index l.names) i;
}
