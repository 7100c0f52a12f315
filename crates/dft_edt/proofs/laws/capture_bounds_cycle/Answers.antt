use Rattle.dft_edt.proofs.Captures.{containing_covers, widening_covers, strobe_law, capture_law}
use Rattle.dft_edt.proofs.laws.capture_bounds_cycle.Goals as goal

pub returns : goal.returns
returns c = record { covers = containing_covers; widens = widening_covers; strobe = strobe_law; capture = capture_law }
