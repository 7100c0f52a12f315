use Rattle.dft_seek_laws.proofs.Detecting.{bad_stands, good_stands}
use Rattle.dft_seek_laws.proofs.laws.captures_stand_above.Goals as goal

pub returns : goal.returns
returns c = record { good = good_stands; faulty = bad_stands }
