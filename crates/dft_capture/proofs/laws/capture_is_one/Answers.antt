use Rattle.dft_capture.proofs.Settling.{order_is_rank, capture_there, capture_one}
use Rattle.dft_capture.proofs.laws.capture_is_one.Goals as goal

pub returns : goal.returns
returns c = record { rank = order_is_rank; exists = capture_there; one = capture_one }
