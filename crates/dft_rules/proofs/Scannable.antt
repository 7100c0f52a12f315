-- What may be scanned is a flip-flop.
use Rattle.std.proofs.Common.{◌≡◌, true, refl}
use Rattle.dft_cells.specs.declared.kind.Kind.{Kind}
use Rattle.dft_cells.specs.FlipFlops.{is_flip_flop}
use Rattle.dft_rules.specs.Rules.{may_be_scanned}
use Rattle.dft_cells.specs.declared.kind.Kind.TheVariants as kind

pub scannable_flop : (k : Kind) → may_be_scanned k ≡ true → is_flip_flop k ≡ true
scannable_flop (kind.Flop flop) e = refl
scannable_flop (kind.Gate gate) e = absurd cc
scannable_flop kind.Lockup e = absurd cc
scannable_flop kind.Opaque e = absurd cc
