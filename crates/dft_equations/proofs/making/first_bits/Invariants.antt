-- The bits of the columns so far.
use Rattle.std.proofs.Common.{◌≡◌, map}
use Rattle.std.specs.List.{range_with_len}
use Rattle.dft_config.specs.Loads.{load_equation}
use Rattle.dft_equations.proofs.making.first_bits.Given as goal

abbrev pub invariant-loop-column : goal.invariant-loop-column
invariant-loop-column l = l.bits.items ≡ map (load_equation l.config.ring l.cycles l.late l.chain 0) (range_with_len 0 l.column)
