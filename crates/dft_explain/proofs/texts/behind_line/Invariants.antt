use Rattle.std.proofs.Common.{◌≡◌, length}
use Rattle.dft_explain.specs.Texts as spec
use Rattle.dft_explain.proofs.texts.behind_line.Given as goal

-- what is left decides
abbrev pub invariant-loop-rest : goal.invariant-loop-rest
invariant-loop-rest l = spec.behind_line l.rest ≡ spec.behind_line l.text

abbrev pub decreases-loop-rest : goal.decreases-loop-rest
decreases-loop-rest l = length l.rest
