use Rattle.std.proofs.Common.{ℕ, ◌≤◌, arith, subst, sym}
use Rattle.dft_configuring.proofs.Numbers.{longest_small}
use Rattle.dft_configuring.proofs.making.longest_chain.Goals as goal

pub overflow_add-result : goal.overflow_add-result
overflow_add-result c =
    let some : 1 ≤ c.from-chains.result = subst (λ (k : ℕ). 1 ≤ k) (sym c.from-chains.ensures) c.requires in
    omega (arith, longest_small c.args.cells c.from-chains.result c.one_if.result some c.one_if.ensures.one)

pub returns-clause-small : goal.returns-clause-small
returns-clause-small c =
    let some : 1 ≤ c.from-chains.result = subst (λ (k : ℕ). 1 ≤ k) (sym c.from-chains.ensures) c.requires in
    longest_small c.args.cells c.from-chains.result c.one_if.result some c.one_if.ensures.one
