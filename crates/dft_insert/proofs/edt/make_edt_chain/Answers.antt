use Rattle.std.proofs.Common.{sym, ◌∙◌}
use Rattle.dft_stitch.specs.Plans.{falling_head}
use Rattle.dft_insert.specs.Chained.{cells_at}
use Rattle.dft_insert.proofs.MadeParts.{fed_by_sum, fed_by_lockup}
use Rattle.dft_insert.proofs.edt.make_edt_chain.Goals as goal

pub returns-then-falling_head-clause-makes : goal.returns-then-falling_head-clause-makes
returns-then-falling_head-clause-makes c =
    let plan = c.args.chains.now in
    fed_by_sum (falling_head plan c.args.chain) c.args.design.now c.args.config.now c.args.gap.now plan.lockups c.args.chain (cells_at plan.chains c.args.chain) c.args.row.now c.args.ports.now.edt_clock c.args.phase c.args.parts.now c.make_chain.result c.make_chain.new.parts
    (sym c.falling_head.ensures ∙ c.if-falling_head.true) c.make_chain.ensures.makes

pub returns-else-falling_head-clause-makes : goal.returns-else-falling_head-clause-makes
returns-else-falling_head-clause-makes c =
    let plan = c.args.chains.now in
    fed_by_lockup (falling_head plan c.args.chain) c.args.design.now c.args.config.now c.args.gap.now plan.lockups c.args.chain (cells_at plan.chains c.args.chain) c.args.row.now c.args.ports.now.edt_clock c.args.phase c.args.parts.now c.make_latched_chain.result c.make_latched_chain.new.parts
    (sym c.falling_head.ensures ∙ c.if-falling_head.false) c.make_latched_chain.ensures.makes
