use Rattle.std.proofs.Common.{◌≡◌}
use Rattle.dft_explain.specs.Texts as spec
use Rattle.dft_explain.proofs.texts.behind_lines.Given as goal

-- the lines that are left to be passed lead to the same
abbrev pub invariant-loop-left : goal.invariant-loop-left
invariant-loop-left l = spec.behind_lines l.left l.rest ≡ spec.behind_lines l.count l.text

abbrev pub decreases-loop-left : goal.decreases-loop-left
decreases-loop-left l = l.left
