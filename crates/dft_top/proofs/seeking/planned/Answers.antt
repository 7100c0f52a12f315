use Rattle.std.proofs.Common.{refl}
use Rattle.dft_top.proofs.seeking.planned.Goals as goal

pub returns-in-Ok-clause-given : goal.returns-in-Ok-clause-given
returns-in-Ok-clause-given c = record { is = refl; ready = c.in-Ok.ensures.ready; accepted = c.in-Ok.ensures.accepted }
