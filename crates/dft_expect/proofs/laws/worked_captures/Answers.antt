use Rattle.dft_expect.proofs.ExampleLemmas.{cells_in_a_row_hold, behind_unscanned_holds}
use Rattle.dft_expect.proofs.laws.worked_captures.Goals as goal

pub returns : goal.returns
returns c = record { row = cells_in_a_row_hold; unscanned = behind_unscanned_holds }
