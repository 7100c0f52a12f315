-- The outputs so far.
use Rattle.std.proofs.Common.{◌≡◌, ◌++◌, replicate}
use Rattle.dft_patterns.specs.declared.act.Act.TheVariants.{Ignore}
use Rattle.dft_vectors.proofs.acts.push_ignored.Given as goal

abbrev pub invariant-loop-output : goal.invariant-loop-output
invariant-loop-output l = l.acts.items ≡ l.fn.acts.items ++ replicate l._output Ignore
