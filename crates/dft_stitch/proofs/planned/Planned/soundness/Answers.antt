use Rattle.dft_stitch.proofs.planned.Planned.soundness.Goals as goal

pub returns-clause-fits : goal.returns-clause-fits
returns-clause-fits c = rw (← c.self.view_is) c.self.invariant.fits
