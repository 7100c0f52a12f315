-- The tables are those of the design and the domain.
use Rattle.dft_seek.proofs.seeker.Seeker.prepare.Goals as goal

pub invariant_of-result : goal.invariant_of-result
invariant_of-result c = c.in_ok-rig.ensures.rig

pub returns : goal.returns
returns c = λ t. record { design = c.in_ok-rig.ensures.design t; config = c.in_ok-rig.ensures.config t; domain = c.in_ok-rig.ensures.domain t }
