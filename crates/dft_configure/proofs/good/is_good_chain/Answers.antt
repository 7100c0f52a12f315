use Rattle.std.proofs.Common.{◌≡◌, ◌-◌, ◌<◌, ◌∙◌, ℕ, length, sym, ap, subst, arith}
use Rattle.std.specs.BTreeSet.{contains}
use Rattle.std.specs.List.{list_all, range_with_len}
use Rattle.std.specs.Ordering.{nat_cmp}
use Rattle.dft_equations.specs.LoadRows.{rows_of}
use Rattle.dft_configure.specs.Good.{is_good_cell}
use Rattle.dft_configure.proofs.RangeLemmas.{all_here, all_on}
use Rattle.dft_configure.proofs.SeenLemmas.{seen_next}
use Rattle.dft_configure.proofs.good.is_good_chain.Goals as goal

pub returns-then-not-good-clause-good : goal.returns-then-not-good-clause-good
returns-then-not-good-clause-good c =
    let rows = c.args.equations.now in
    let less : c.loop-place.place < length (rows_of rows c.args.chain) = subst (λ (n : ℕ). c.loop-place.place < n) (sym (c.requires.lengths.cells c.args.chain c.requires.chain)) c.loop-place-test.true in
    all_here (is_good_cell rows c.args.chain) c.loop-place.place (length (rows_of rows c.args.chain)) _ less (sym c.in_ok-good.ensures.good ∙ c.if-not-good.true) c.loop-place.invariant.rest

pub loop-place-preserved : goal.loop-place-preserved
loop-place-preserved c =
    let rows = c.args.equations.now in
    let less : c.loop-place.place < length (rows_of rows c.args.chain) = subst (λ (n : ℕ). c.loop-place.place < n) (sym (c.requires.lengths.cells c.args.chain c.requires.chain)) c.loop-place-test.true in
    record {
      rest = all_on (is_good_cell rows c.args.chain) c.loop-place.place (length (rows_of rows c.args.chain)) _ less (sym c.in_ok-good.ensures.good ∙ c.if-not-good.false) c.loop-place.invariant.rest;
      seen = c.in_ok-good.ensures.seen;
    }

pub loop-place-init : goal.loop-place-init
loop-place-init c =
    let rows = c.args.equations.now in
    let count = length (rows_of rows c.args.chain) in
    let none : count - 0 ≡ count = omega arith in
    record { rest = ap (λ (k : ℕ). list_all (is_good_cell rows c.args.chain) (range_with_len 0 k)) none; seen = c.requires.seen }

pub returns-clause-seen : goal.returns-clause-seen
returns-clause-seen c told =
    let cells = c.requires.lengths.cells c.args.chain c.requires.chain in
    let past = c.loop-place-test.false in
    seen_next c.args.equations.now c.args.chain c.loop-place.place (contains nat_cmp c.loop-place.seen) (omega (arith, cells, past)) c.loop-place.invariant.seen
