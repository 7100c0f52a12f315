use Rattle.std.proofs.lemmas.Result.{err_from_is_err_and}
use Rattle.dft_insert.specs.Chained.{cells_at}
use Rattle.dft_insert.proofs.MadeParts.{entry_refused, latched_refused, latched_made}
use Rattle.dft_insert.proofs.edt.make_latched_chain.Goals as goal

pub returns-in_err-entry-clause-makes : goal.returns-in_err-entry-clause-makes
returns-in_err-entry-clause-makes c =
    let p = err_from_is_err_and c.from_residual.result c.from_residual.ensures.1 in
    let plan = c.args.chains.now in
    rw (p.1, p.2)
    (entry_refused c.args.design.now c.args.config.now c.args.gap.now plan.lockups c.args.chain (cells_at plan.chains c.args.chain) c.args.row.now c.args.ports.now.edt_clock c.args.phase c.args.parts.now c.in_err-entry.field-0.0 c.in_err-entry.ensures.makes)

pub returns-in_err-lockup-clause-makes : goal.returns-in_err-lockup-clause-makes
returns-in_err-lockup-clause-makes c =
    let p = err_from_is_err_and c.from_residual-in_err-lockup.result c.from_residual-in_err-lockup.ensures.1 in
    let plan = c.args.chains.now in
    rw (p.1, p.2)
    (latched_refused c.args.design.now c.args.config.now c.args.gap.now plan.lockups c.args.chain (cells_at plan.chains c.args.chain) c.args.row.now c.args.ports.now.edt_clock c.args.phase c.in_ok-entry.entry c.args.parts.now c.net.new.self c.in_err-lockup.field-0.0
    c.in_ok-entry.ensures.makes c.in_err-lockup.ensures.makes)

pub returns-clause-makes : goal.returns-clause-makes
returns-clause-makes c =
    let plan = c.args.chains.now in
    latched_made c.args.design.now c.args.config.now c.args.gap.now plan.lockups c.args.chain (cells_at plan.chains c.args.chain) c.args.row.now c.args.ports.now.edt_clock c.args.phase c.in_ok-entry.entry c.args.parts.now c.net.new.self c.lockup.new.self
    c.make_chain.result c.make_chain.new.parts c.in_ok-entry.ensures.makes c.in_ok-lockup.ensures.makes c.make_chain.ensures.makes
