use Rattle.dft_parts.proofs.Singles.{times_add_up, stays_single}
use Rattle.dft_parts.proofs.Live.{new_is_free}
use Rattle.dft_parts.proofs.laws.parts_stay_single.Goals as goal

pub returns : goal.returns
returns c = record { times = times_add_up; new = new_is_free; single = stays_single }
