-- The cells so far.
use Rattle.std.proofs.Common.{◌≡◌, map}
use Rattle.std.specs.Prelude.{slice_index_or}
use Rattle.std.specs.List.{range_with_len}
use Rattle.dft_base.specs.declared.tri.Tri.TheVariants.{Unknown}
use Rattle.dft_evaluator.specs.Evaluations.{value_at}
use Rattle.dft_expect.specs.Reads.{read_at, read_value}
use Rattle.dft_expect.proofs.reading.cells_from.Given as goal

abbrev pub invariant-loop-number : goal.invariant-loop-number
invariant-loop-number l = l.cells.items ≡ map (λ number. read_value (value_at l.evaluator l.pattern) l.edge.clock l.edge.rising (slice_index_or l.before number Unknown) (read_at l.reads number)) (range_with_len 0 l.number)
