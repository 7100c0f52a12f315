use Rattle.std.proofs.Common.{arith}
use Rattle.dft_decompressor.proofs.SetLemmas.{same_lengths}
use Rattle.dft_decompressor.proofs.stamps.same_set.Goals as goal

pub returns-then-a-b : goal.returns-then-a-b
returns-then-a-b c = same_lengths c.args.a.now c.args.b.now (λ e. absurd (omega arith))
