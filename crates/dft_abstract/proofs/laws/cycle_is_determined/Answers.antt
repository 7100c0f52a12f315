use Rattle.dft_abstract.proofs.Views.{closed_exists, strobe_exists}
use Rattle.dft_abstract.proofs.Least.{step_below, none_changes, round_one}
use Rattle.dft_abstract.proofs.laws.cycle_is_determined.Goals as goal

pub returns : goal.returns
returns c = record { closed = closed_exists; strobe = strobe_exists; step = step_below; rest = none_changes; one = round_one }
