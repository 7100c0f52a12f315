use Rattle.dft_configuring.proofs.wanted.chains_for.Goals as goal

pub returns-in-Some : goal.returns-in-Some
returns-in-Some c = rw c.in-Some.is c.from.ensures

pub returns-in-None : goal.returns-in-None
returns-in-None c = rw c.in-None.is c.chains_by_length.ensures
