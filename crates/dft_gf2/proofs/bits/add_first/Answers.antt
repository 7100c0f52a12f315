use Rattle.dft_gf2.proofs.Firsts.{first_sums}
use Rattle.dft_gf2.proofs.bits.add_first.Goals as goal
use Rattle.std.proofs.Common.{length, ◌≡◌, rules}

pub returns-clause-sums : goal.returns-clause-sums
returns-clause-sums c = λ k.
    let size : length c.xor_into.new.target ≡ c.args.count = search rules in
    first_sums c.args.count c.args.words.now c.args.others.now c.xor_into.new.target k size (c.xor_into.ensures.bits k) (c.requires.end k)
