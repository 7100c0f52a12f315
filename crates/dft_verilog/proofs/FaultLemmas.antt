-- Places of faults.
use Rattle.dft_base.proofs.PlaceLemmas.{placed}

pub ruleset places = (placed)
