use Rattle.std.proofs.Common.{◌≡◌, drop}
use Rattle.std.specs.Prelude.{map, string_bytes}
use Rattle.dft_explain.specs.Faults as spec
use Rattle.dft_explain.proofs.faults.missing.Given as goal

-- the options that are left decide
abbrev pub invariant-loop-option : goal.invariant-loop-option
invariant-loop-option l =
    spec.missing (map (λ option. option.now) (drop l.option-index l.needed)) (map string_bytes l.words)
    ≡ spec.missing (map (λ option. option.now) l.needed) (map string_bytes l.words)
