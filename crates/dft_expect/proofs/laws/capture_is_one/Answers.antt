use Rattle.dft_expect.proofs.CaptureLemmas.{one_capture}
use Rattle.dft_expect.proofs.laws.capture_is_one.Goals as goal

pub returns : goal.returns
returns c = one_capture
