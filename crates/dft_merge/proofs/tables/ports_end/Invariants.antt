-- The numbers so far are below the end so far.
use Rattle.std.proofs.Common.{take}
use Rattle.dft_merge.specs.Placement.{port_number}
use Rattle.dft_merge.specs.Tables.{AreBelow}
use Rattle.dft_merge.proofs.tables.ports_end.Given as goal

abbrev pub invariant-loop-given : goal.invariant-loop-given
invariant-loop-given l = AreBelow port_number l.end (take l.given-index l.ports)
