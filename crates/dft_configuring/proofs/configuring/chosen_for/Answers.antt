-- The steps, one after the other.
use Rattle.std.proofs.Common.{◌≤◌, ◌∙◌, ℕ, None, ap, subst, sym}
use Rattle.std.proofs.lemmas.Result.{err_from_is_err_and}
use Rattle.dft_config_out.specs.Written.{made_text}
use Rattle.dft_decompressor.specs.Fits.{IsFitting}
use Rattle.dft_configuring.specs.Causes.{IsNoRing}
use Rattle.dft_configuring.proofs.CheckLemmas.{check_refused, limit_refused, ring_refused}
use Rattle.dft_configuring.proofs.configuring.chosen_for.Goals as goal

pub returns-in_err-base-clause-refused : goal.returns-in_err-base-clause-refused
returns-in_err-base-clause-refused c =
    let p = err_from_is_err_and c.from_residual.result c.from_residual.ensures.1 in
    rw (p.1, p.2) (check_refused c.args.design.now c.args.wanted.now c.in_err-base.field-0.0 c.in_err-base.ensures.refused)

pub ring_for-requires-clause-chains : goal.ring_for-requires-clause-chains
ring_for-requires-clause-chains c = subst (λ (k : ℕ). k ≤ 1024) (sym c.in_ok-base.ensures.base.chains) c.in_ok-base.ensures.base.accepted.few.1

pub returns-in_err-ring-clause-refused : goal.returns-in_err-ring-clause-refused
returns-in_err-ring-clause-refused c =
    let n = c.args.design.now in
    let wanted = c.args.wanted.now in
    let error = c.in_err-ring.field-0.0 in
    let base = c.in_ok-base.ensures.base in
    let p = err_from_is_err_and c.from_residual-in_err-ring.result c.from_residual-in_err-ring.ensures.1 in
    let is = subst (λ (k : ℕ). IsNoRing (IsFitting k wanted.channels None) error) base.chains c.in_err-ring.ensures.refused in
    rw (p.1, p.2) (ring_refused n wanted error base.accepted.none is)

pub returns-in_err-written-clause-refused : goal.returns-in_err-written-clause-refused
returns-in_err-written-clause-refused c =
    let base = c.in_ok-base.ensures.base in
    let p = err_from_is_err_and c.from_residual-in_err-written.result c.from_residual-in_err-written.ensures.1 in
    rw (p.1, p.2) (limit_refused c.args.design.now c.args.wanted.now c.in_err-written.field-0.0 base.accepted.none c.in_err-written.ensures.refused)

pub returns-clause-found : goal.returns-clause-found
returns-clause-found c =
    let base = c.in_ok-base.ensures.base in
    let found = c.in_ok-written.ensures in
    record {
      made = c.search.new.made;
      accepted = base.accepted;
      chosen = found.chosen;
      written = record {
        config = found.written.config;
        text = found.written.text ∙ ap (λ (cells : ℕ). made_text cells c.search.new.made) base.cells;
        read = found.written.read;
        short = found.written.short;
      };
      fits = found.fits;
    }
