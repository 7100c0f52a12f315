-- The nets so far.
use Rattle.std.proofs.Common.{ℕ, ◌≡◌, ◌<◌, ◌||◌, length, take}
use Rattle.dft_logic.specs.Circuit.{flag_at}
use Rattle.dft_seek.specs.Cones.{shown_in}
use Rattle.dft_seek.proofs.cones.flag_shown.Given as goal

abbrev pub invariant-loop-net : goal.invariant-loop-net
invariant-loop-net l = (c : ℕ) → c < length l.initial.shown → flag_at l.shown c ≡ (flag_at l.initial.shown c || shown_in (take l.net l.shows) (take l.net l.marked) c)
