-- The ports are marked that no net so far takes the mark off.
use Rattle.std.proofs.Common.{◌≡◌, ◌&&◌, not, false, ℕ, length}
use Rattle.std.specs.Prelude.{nat_lt, slice_index_or}
use Rattle.std.specs.List.{list_any, range_with_len}
use Rattle.dft_configure.specs.Roots.{is_tapped}
use Rattle.dft_configure.proofs.cleaning.clean_nets.Given as goal

abbrev pub invariant-loop-net : goal.invariant-loop-net
invariant-loop-net l = record {
  size : length l.marks.items ≡ length l.design.nets;
  each : (port : ℕ) → slice_index_or l.marks.items port false ≡ (nat_lt port (length l.design.nets) && not (list_any (is_tapped l.design port) (range_with_len 0 l.net)));
}
