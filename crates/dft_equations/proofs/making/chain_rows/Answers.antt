-- What is kept of the rows.
use Rattle.std.proofs.Common.{◌≡◌, ◌*◌, ◌/◌, min, arith, ap, length, sym, subst, ◌∙◌}
use Rattle.std.proofs.lemmas.List.FromFn.{length-map-range_with_len}
use Rattle.dft_config.specs.declared.config.RingConfig.{RingConfig}
use Rattle.dft_config.specs.Loads.{load_equation}
use Rattle.dft_equations.specs.ChainRows.{rows_by, AreMoved}
use Rattle.dft_equations.specs.LoadRows.{AreRowsOf}
use Rattle.dft_equations.proofs.ChainLemmas.{kept_of, rows_kept}
use Rattle.dft_equations.proofs.making.chain_rows.Goals as goal

pub of_bits-requires : goal.of_bits-requires
of_bits-requires c =
    let ring = c.args.config.now.ring in
    let size = ap length c.deref.ensures.value ∙ ap length c.in_ok-bits.ensures ∙ length-map-range_with_len (load_equation ring c.args.cycles c.args.late c.args.chain 0) 0 (c.args.cycles * ring.channels) in
    omega (arith, size, c.requires.columns)

pub kept_rows-requires : goal.kept_rows-requires
kept_rows-requires c =
    let ring = c.args.config.now.ring in
    let first_is = c.in_ok-first.ensures ∙ c.deref.ensures.value ∙ c.in_ok-bits.ensures in
    let size = ap length first_is ∙ length-map-range_with_len (load_equation ring c.args.cycles c.args.late c.args.chain 0) 0 (c.args.cycles * ring.channels) in
    omega (arith, size, c.requires.columns)

pub new-requires : goal.new-requires
new-requires c =
    let ring = c.args.config.now.ring in
    let first_is = c.in_ok-first.ensures ∙ c.deref.ensures.value ∙ c.in_ok-bits.ensures in
    let size = ap length first_is ∙ length-map-range_with_len (load_equation ring c.args.cycles c.args.late c.args.chain 0) 0 (c.args.cycles * ring.channels) in
    let columns : c.from.result * c.from-2.result ≡ c.args.cycles * ring.channels = λ t. c.from.ensures t * (c.from-2.ensures ∙ ap (λ (r : RingConfig). r.channels) c.ring.ensures) t in
    kept_of c.in_ok-first.first (c.from.result * c.from-2.result) c.ring.result.now.channels c.args.cells c.in_ok-kept.kept.items c.in_ok-kept.ensures (size ∙ sym columns)

pub returns : goal.returns
returns c =
    let ring = c.args.config.now.ring in
    let first = c.in_ok-first.first in
    let kept = c.in_ok-kept.kept.items in
    let first_is = c.in_ok-first.ensures ∙ c.deref.ensures.value ∙ c.in_ok-bits.ensures in
    let size = ap length first_is ∙ length-map-range_with_len (load_equation ring c.args.cycles c.args.late c.args.chain 0) 0 (c.args.cycles * ring.channels) in
    let columns : c.from.result * c.from-2.result ≡ c.args.cycles * ring.channels = λ t. c.from.ensures t * (c.from-2.ensures ∙ ap (λ (r : RingConfig). r.channels) c.ring.ensures) t in
    let channels : c.ring.result.now.channels ≡ ring.channels = ap (λ (r : RingConfig). r.channels) c.ring.ensures in
    let moved : AreMoved first ring.channels (ring.channels * (c.args.cells / 64)) (min c.args.cells 64) kept =
    subst (λ k. AreMoved first k (k * (c.args.cells / 64)) (min c.args.cells 64) kept) channels c.in_ok-kept.ensures in
    rw c.new.ensures
    (subst (λ k. AreRowsOf ring c.args.cycles c.args.late c.args.chain c.args.cells (rows_by (c.from.result * c.from-2.result) k kept c.args.cells)) (sym channels)
    (rows_kept ring c.args.cycles c.args.late c.args.chain (c.from.result * c.from-2.result) c.args.cells first kept (omega (arith, c.soundness.ensures.ring.channels)) c.requires.cells first_is (size ∙ sym columns) moved))
