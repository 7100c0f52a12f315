-- Which cubes loads bring.
use Rattle.dft_load_laws.proofs.Bringing.{bits_load, loads_solve, patterns_load, placed_in_runs, unsolvable_in_runs}
use Rattle.dft_load_laws.proofs.Running.{loads_run}
use Rattle.dft_load_laws.proofs.laws.cubes_load.Goals as goal

pub returns-clause-bits : goal.returns-clause-bits
returns-clause-bits c = bits_load

pub returns-clause-solve : goal.returns-clause-solve
returns-clause-solve c = loads_solve

pub returns-clause-run : goal.returns-clause-run
returns-clause-run c = loads_run

pub returns-clause-exact : goal.returns-clause-exact
returns-clause-exact c = unsolvable_in_runs

pub returns-clause-placed : goal.returns-clause-placed
returns-clause-placed c = placed_in_runs

pub returns-clause-patterns : goal.returns-clause-patterns
returns-clause-patterns c = patterns_load
