use Rattle.std.proofs.Common.{◌≡◌, ◌++◌, drop}
use Rattle.dft_replay.specs.Vectors.{dirs_of}
use Rattle.dft_replay.proofs.nets.directions.Given as goal

abbrev pub invariant-loop-port : goal.invariant-loop-port
invariant-loop-port l = l.dirs.items ++ dirs_of (drop l.port-index l.ports) ≡ dirs_of l.ports
