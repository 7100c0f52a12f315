-- The nets from here on give what all of them give.
use Rattle.std.proofs.Common.{◌≡◌, ◌-◌, find, length}
use Rattle.std.specs.List.{range_with_len}
use Rattle.dft_rules.specs.Findings.{is_marked_clock}
use Rattle.dft_rules.proofs.clocks.first_clock.Given as goal

abbrev pub invariant-loop-net : goal.invariant-loop-net
invariant-loop-net l =
    find (is_marked_clock l.domains l.roots l.used) (range_with_len 0 (length l.roots))
    ≡ find (is_marked_clock l.domains l.roots l.used) (range_with_len l.net (length l.roots - l.net))
