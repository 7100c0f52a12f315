use Rattle.dft_hier.proofs.ReachLemmas.{first_on_circle}
use Rattle.dft_hier.proofs.reach.first_by_numbers.Goals as goal

pub returns-then-branch : goal.returns-then-branch
returns-then-branch c = first_on_circle c.args.children.now c.args.numbers.now c.in-Some.number (c.never_falls.ensures c.if-not-never_falls.false) c.in-Some.ensures.live c.in-Some.ensures.first (c.in_ok-is_in_itself-in-Some.ensures.yes c.if-branch.true)
