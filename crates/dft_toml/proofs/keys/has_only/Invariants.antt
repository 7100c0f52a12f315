-- The rest of the keys gives what all of them give.
use Rattle.std.proofs.Common.{◌≡◌, map}
use Rattle.toml.specs.View.{members_view}
use Rattle.dft_toml.specs.Values.{has_only}
use Rattle.dft_toml.proofs.keys.has_only.Given as goal

abbrev pub invariant-loop-key : goal.invariant-loop-key
invariant-loop-key l = has_only (map (λ w. w.now) l.words) (members_view l.table.entries) ≡ has_only (map (λ w. w.now) l.words) (members_view l.key-iterator)
