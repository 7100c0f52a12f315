use Rattle.std.proofs.Common.{◌≡◌, ◌-◌, ◌<◌, ◌∙◌, ℕ, Ok, length, sym, ap, arith}
use Rattle.std.specs.BTreeSet.{contains}
use Rattle.std.specs.List.{list_all, range_with_len}
use Rattle.std.specs.Ordering.{nat_cmp}
use Rattle.dft_configure.specs.Good.{is_good_chain}
use Rattle.dft_configure.proofs.RangeLemmas.{all_here, all_on}
use Rattle.dft_configure.proofs.SeenLemmas.{seen_first}
use Rattle.dft_configure.proofs.good.is_good.Goals as goal

pub loop-chain-preserved : goal.loop-chain-preserved
loop-chain-preserved c =
    let rows = c.args.equations.now in
    let count = c.requires.lengths.chains in
    let less : c.loop-chain.chain < length rows.chains = omega (arith, count) in
    record {
      rest = all_on (is_good_chain rows) c.loop-chain.chain (length rows.chains) _ less (sym c.in_ok-good.ensures.good ∙ c.if-not-good.false) c.loop-chain.invariant.rest;
      seen = c.in_ok-good.ensures.seen (ap Ok c.if-not-good.false);
    }

pub loop-chain-init : goal.loop-chain-init
loop-chain-init c =
    let rows = c.args.equations.now in
    let count = length rows.chains in
    let none : count - 0 ≡ count = omega arith in
    record { rest = ap (λ (k : ℕ). list_all (is_good_chain rows) (range_with_len 0 k)) none; seen = seen_first rows (contains nat_cmp c.new-seen.result) }

pub returns-then-not-good : goal.returns-then-not-good
returns-then-not-good c =
    let rows = c.args.equations.now in
    let count = c.requires.lengths.chains in
    let less : c.loop-chain.chain < length rows.chains = omega (arith, count) in
    all_here (is_good_chain rows) c.loop-chain.chain (length rows.chains) _ less (sym c.in_ok-good.ensures.good ∙ c.if-not-good.true) c.loop-chain.invariant.rest
