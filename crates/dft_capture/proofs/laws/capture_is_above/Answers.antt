use Rattle.dft_capture.proofs.Settling.{capture_over}
use Rattle.dft_capture.proofs.laws.capture_is_above.Goals as goal

pub returns : goal.returns
returns c = capture_over
