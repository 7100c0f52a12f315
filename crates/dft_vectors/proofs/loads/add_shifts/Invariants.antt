-- The vectors so far.
use Rattle.std.proofs.Common.{◌≡◌, ◌++◌, map, length, option_map}
use Rattle.std.specs.List.{range_with_len}
use Rattle.dft_base.specs.Packed.{packed_bit}
use Rattle.dft_expect.specs.Loaded.{table_of}
use Rattle.dft_vectors.specs.Shown.{plan_in, shown_at}
use Rattle.dft_vectors.specs.VectorList.{shift_with}
use Rattle.dft_vectors.proofs.loads.add_shifts.Given as goal

abbrev pub invariant-loop-cycle : goal.invariant-loop-cycle
invariant-loop-cycle l =
    l.vectors.items ≡ l.fn.vectors.items
    ++ map (λ cycle. shift_with l.layout.planned.now.design l.layout.planned.now.config (plan_in l.layout) (table_of l.layout.planned.now.config.ring (packed_bit l.bits)) l.masks cycle
    (shown_at (length l.layout.planned.now.config.compactor.groups) (option_map (λ shown. shown.now) l.expected) cycle)) (range_with_len 0 l.cycle)
