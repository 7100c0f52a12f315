-- All places are busy, or no net is marked.
use Rattle.dft_sweep.specs.Places.{place_at}
use Rattle.dft_sweep.proofs.Placings.{all_busy}
use Rattle.dft_sweep.proofs.marks.Marks.new.Goals as goal

pub returns-clause-busy : goal.returns-clause-busy
returns-clause-busy c = λ places k up. all_busy _ _ c.args.marked c.in_ok-flags.field-0.items c.in_ok-words.field-0.items k (place_at places k) c.in_ok-flags.ensures c.in_ok-words.ensures up
