use Rattle.dft_configuring.proofs.wanted.chains_by_length.Goals as goal

pub fewest_chains-requires-clause-length : goal.fewest_chains-requires-clause-length
fewest_chains-requires-clause-length c = rw c.in-Some.is at c.requires.length

pub returns-in-Some : goal.returns-in-Some
returns-in-Some c = rw c.in-Some.is c.fewest_chains.ensures
