-- The cells from here on tell what all of them tell.
use Rattle.std.proofs.Common.{◌≡◌, ◌&&◌, drop}
use Rattle.std.specs.List.{list_all, list_any}
use Rattle.dft_seek.specs.Nodes.{captured_at}
use Rattle.dft_seek.specs.Searches.{agree, differ}
use Rattle.dft_seek.proofs.rig.Rig.compare_cells.Given as goal

abbrev pub invariant-loop-cell : goal.invariant-loop-cell
invariant-loop-cell l = record {
  differs : list_any (λ cell. differ (captured_at l.self l.good.first.now l.good.second.now cell.0) (captured_at l.self l.bad.first.now l.bad.second.now cell.0)) l.cells
      ≡ list_any (λ cell. differ (captured_at l.self l.good.first.now l.good.second.now cell.0) (captured_at l.self l.bad.first.now l.bad.second.now cell.0)) (drop l.cell-index l.cells);
  agrees : list_all (λ cell. agree (captured_at l.self l.good.first.now l.good.second.now cell.0) (captured_at l.self l.bad.first.now l.bad.second.now cell.0)) l.cells
      ≡ (l.agrees && list_all (λ cell. agree (captured_at l.self l.good.first.now l.good.second.now cell.0) (captured_at l.self l.bad.first.now l.bad.second.now cell.0)) (drop l.cell-index l.cells));
}
