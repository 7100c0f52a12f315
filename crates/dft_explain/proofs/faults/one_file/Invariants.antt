use Rattle.std.proofs.Common.{◌≡◌, drop}
use Rattle.std.specs.Prelude.{map, string_bytes}
use Rattle.dft_explain.specs.Faults as spec
use Rattle.dft_explain.proofs.faults.one_file.Given as goal

-- the outputs that are left decide
abbrev pub invariant-loop-second : goal.invariant-loop-second
invariant-loop-second l =
    spec.one_file (map (λ option. option.now) l.saved) (map string_bytes l.words) (map (λ option. option.now) (drop l.second-index l.saved))
    ≡ spec.one_file (map (λ option. option.now) l.saved) (map string_bytes l.words) (map (λ option. option.now) l.saved)
