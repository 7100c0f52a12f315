use Rattle.std.proofs.Common.{◌≡◌, length}
use Rattle.dft_explain.specs.Options as spec
use Rattle.dft_explain.proofs.options.behind.Given as goal

-- what is left decides
abbrev pub invariant-loop-front : goal.invariant-loop-front
invariant-loop-front l = spec.behind l.front l.rest ≡ spec.behind l.fn.front l.text

abbrev pub decreases-loop-front : goal.decreases-loop-front
decreases-loop-front l = length l.front
