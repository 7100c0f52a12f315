use Rattle.dft_insert.proofs.MadeParts.{elsewhere}
use Rattle.dft_insert.proofs.chaining.make_crossing_in.Goals as goal

pub returns-clause-makes : goal.returns-clause-makes
returns-clause-makes c =
    elsewhere c.args.design.now c.args.config.now c.args.gap.now c.args.chain c.args.cells.now c.args.row.now c.args.lockup c.args.parts.now c.if-lockup-chain.false
