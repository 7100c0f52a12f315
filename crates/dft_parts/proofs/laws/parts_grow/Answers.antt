use Rattle.dft_parts.proofs.Growing.{parts_grow, parts_stay}
use Rattle.dft_parts.proofs.laws.parts_grow.Goals as goal

pub returns : goal.returns
returns c = record { grow = parts_grow; stay = parts_stay }
