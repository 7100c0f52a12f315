-- By whether the chain is late.
use Rattle.std.proofs.Common.{sym, ap, ◌∙◌}
use Rattle.dft_config.specs.Loads.{delay}
use Rattle.dft_config.proofs.Linearity.{delay_late, delay_none}
use Rattle.dft_config.proofs.cycles.delay.Goals as goal

pub returns-then-late : goal.returns-then-late
returns-then-late c = sym (ap delay c.if-late.true ∙ delay_late)

pub returns-else-late : goal.returns-else-late
returns-else-late c = sym (ap delay c.if-late.false ∙ delay_none)
