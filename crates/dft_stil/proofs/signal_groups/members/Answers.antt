use Rattle.std.proofs.Common.{arith}
use Rattle.dft_stil.proofs.MemberLemmas.{sees_below}
use Rattle.dft_stil.proofs.signal_groups.members.Goals as goal

pub returns-clause-inside : goal.returns-clause-inside
returns-clause-inside c = λ k d h. (let b = sees_below c.more_members.new.members c.more_members.new.seen c.in_ok-more_members.ensures.sees k d h in omega (arith, b, c.in_ok-more_members.ensures.count))
