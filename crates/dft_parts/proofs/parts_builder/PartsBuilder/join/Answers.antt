use Rattle.std.proofs.Common.{sym, ◌∙◌}
use Rattle.dft_parts.proofs.Joining.{pin_stays}
use Rattle.dft_parts.proofs.parts_builder.PartsBuilder.join.Goals as goal

pub returns-then-not-is_open : goal.returns-then-not-is_open
returns-then-not-is_open c = pin_stays c.args.self.now c.args.instance c.args.pin c.args.net (sym c.is_open.ensures ∙ c.if-not-is_open.true)
