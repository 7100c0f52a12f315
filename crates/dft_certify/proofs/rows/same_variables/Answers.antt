-- Lists of two lengths are not the same.
use Rattle.dft_certify.proofs.ListLemmas.{lengths_differ}
use Rattle.dft_certify.proofs.rows.same_variables.Goals as goal

pub returns-then-a-b : goal.returns-then-a-b
returns-then-a-b c = lengths_differ c.args.a.now c.args.b.now c.if-a-b.true
