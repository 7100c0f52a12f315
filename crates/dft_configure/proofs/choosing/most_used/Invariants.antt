-- The most used ones of the nets so far.
use Rattle.std.proofs.Common.{◌≡◌, filter}
use Rattle.std.specs.List.{range_with_len}
use Rattle.dft_configure.specs.Roots.{is_most_used, uses}
use Rattle.dft_configure.specs.Found.{numbers, numbers_of}
use Rattle.dft_configure.proofs.choosing.most_used.Given as goal

abbrev pub invariant-loop-net : goal.invariant-loop-net
invariant-loop-net l = numbers l.chosen.items ≡ filter (is_most_used (uses (numbers_of l.ports)) l.nets) (range_with_len 0 l.net)
