use Rattle.std.proofs.Common.{◌≡◌, length}
use Rattle.std.specs.Prelude.{map, string_bytes}
use Rattle.dft_explain.specs.Options as spec
use Rattle.dft_explain.proofs.options.value_of.Given as goal

-- the words that are left give the value
abbrev pub invariant-loop-rest : goal.invariant-loop-rest
invariant-loop-rest l = spec.value_of l.option (map string_bytes l.rest) ≡ spec.value_of l.option (map string_bytes l.words)

abbrev pub decreases-loop-rest : goal.decreases-loop-rest
decreases-loop-rest l = length l.rest
