-- The nets from here on tell what all of them tell.
use Rattle.std.proofs.Common.{◌≡◌, ◌&&◌, drop}
use Rattle.std.specs.List.{list_all, list_any}
use Rattle.dft_logic.specs.Values.{value_at}
use Rattle.dft_seek.specs.Searches.{agree, differ}
use Rattle.dft_seek.proofs.looking.compare_nets.Given as goal

abbrev pub invariant-loop-net : goal.invariant-loop-net
invariant-loop-net l = record {
  differs : list_any (λ net. differ (value_at l.good net.0) (value_at l.bad net.0)) l.nets ≡ list_any (λ net. differ (value_at l.good net.0) (value_at l.bad net.0)) (drop l.net-index l.nets);
  agrees : list_all (λ net. agree (value_at l.good net.0) (value_at l.bad net.0)) l.nets ≡ (l.agrees && list_all (λ net. agree (value_at l.good net.0) (value_at l.bad net.0)) (drop l.net-index l.nets));
}
