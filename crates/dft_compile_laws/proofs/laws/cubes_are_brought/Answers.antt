-- Cubes in compiled patterns.
use Rattle.dft_compile_laws.proofs.Brought.{cubes_captured, cubes_loaded}
use Rattle.dft_compile_laws.proofs.Played.{patterns_play}
use Rattle.dft_compile_laws.proofs.Replayed.{cubes_replayed}
use Rattle.dft_compile_laws.proofs.Turns.{runs_load}
use Rattle.dft_compile_laws.proofs.laws.cubes_are_brought.Goals as goal

pub returns-clause-plays : goal.returns-clause-plays
returns-clause-plays c = patterns_play

pub returns-clause-runs : goal.returns-clause-runs
returns-clause-runs c = runs_load

pub returns-clause-loaded : goal.returns-clause-loaded
returns-clause-loaded c = cubes_loaded

pub returns-clause-captured : goal.returns-clause-captured
returns-clause-captured c = cubes_captured

pub returns-clause-replayed : goal.returns-clause-replayed
returns-clause-replayed c = cubes_replayed
