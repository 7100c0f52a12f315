use Rattle.std.proofs.Common.{◌≡◌, drop}
use Rattle.std.specs.Prelude.{map}
use Rattle.dft_explain.specs.Faults as spec
use Rattle.dft_explain.proofs.faults.is_before.Given as goal

-- the names that are left decide
abbrev pub invariant-loop-it : goal.invariant-loop-it
invariant-loop-it l = spec.is_among l.name (map (λ it. it.now) (drop l.it-index l.before)) ≡ spec.is_among l.name (map (λ it. it.now) l.before)
