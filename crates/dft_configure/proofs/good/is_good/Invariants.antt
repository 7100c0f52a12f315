-- The numbers from here on give what all of them give; the stamps of the chains before were seen.
use Rattle.std.proofs.Common.{◌≡◌, ◌-◌, length}
use Rattle.std.specs.BTreeSet.{contains}
use Rattle.std.specs.List.{list_all, range_with_len}
use Rattle.std.specs.Ordering.{nat_cmp}
use Rattle.dft_configure.specs.Good.{is_good_chain}
use Rattle.dft_configure.specs.Seen.{AreSeen}
use Rattle.dft_configure.proofs.good.is_good.Given as goal

abbrev pub invariant-loop-chain : goal.invariant-loop-chain
invariant-loop-chain l = record {
  rest : list_all (is_good_chain l.equations) (range_with_len l.chain (length l.equations.chains - l.chain)) ≡ list_all (is_good_chain l.equations) (range_with_len 0 (length l.equations.chains));
  seen : AreSeen l.equations l.chain 0 (contains nat_cmp l.seen);
}
