use Rattle.dft_cells.proofs.Completions.{forced_above, chosen_above}
use Rattle.dft_cells.proofs.TakesLemmas.{taken_above, left_above}
use Rattle.dft_cells.proofs.laws.next_values_are_above.Goals as goal

pub returns : goal.returns
returns c = record {
  forced = forced_above;
  chosen = chosen_above;
  taken = λ takes own o values bits h at. taken_above takes own o values bits h at;
  left = λ forces value bit values bits h at. left_above forces value bit values bits h at;
}
