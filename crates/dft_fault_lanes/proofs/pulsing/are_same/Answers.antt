-- One word more is the same.
use Rattle.std.proofs.Common.{ℕ, ◌≡◌, inl, inr, sym, subst, get_or, arith}
use Rattle.std.proofs.lemmas.Bool.{cases_eq}
use Rattle.dft_fault_lanes.proofs.CompareLemmas.{same_values}
use Rattle.dft_fault_lanes.proofs.pulsing.are_same.Goals as goal

pub loop-word-preserved : goal.loop-word-preserved
loop-word-preserved c = λ k less.
    let one = c.args.one.now in
    let other = c.args.other.now in
    elim (cases_eq k c.loop-word.word) [
      | inl e ↦ subst (λ (j : ℕ). (get_or one.can_zero j 0 ≡ get_or other.can_zero j 0) × (get_or one.can_one j 0 ≡ get_or other.can_one j 0)) (sym e)
          (c.same_at.ensures.zeros c.if-not-same_at.false, c.same_at.ensures.ones c.if-not-same_at.false)
      | inr ne ↦ c.loop-word.invariant k (omega (arith, less, ne))
    ]

pub returns : goal.returns
returns c = λ up lane within. same_values c.args.one.now c.args.other.now (λ k less. c.loop-word.invariant k (omega (arith, less, c.loop-word-test.false))) lane within
