-- The nets before this one are told.
use Rattle.std.proofs.Common.{None}
use Rattle.dft_abstract.specs.Cycle.{level_before}
use Rattle.dft_takings.specs.Views.{pulse_at}
use Rattle.dft_takings.specs.EntryTables.{number_of}
use Rattle.dft_logic.proofs.Fillings.{Filling}
use Rattle.dft_takings.proofs.OriginLemmas.{given}
use Rattle.dft_takings.proofs.origins.find_origins.Given as goal

abbrev pub invariant-loop-net : goal.invariant-loop-net
invariant-loop-net l = Filling number_of None (given (level_before (pulse_at l.pulse))) l.circuit.ops l.circuit.order l.origins l.net-index
