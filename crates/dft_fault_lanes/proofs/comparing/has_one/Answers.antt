-- One word more has no lane that is 1.
use Rattle.std.proofs.Common.{ℕ, ◌≡◌, ◌-◌, ◌/◌, ◌%◌, inl, inr, sym, subst, get_or, min, arith}
use Rattle.std.specs.Int.{bit_at}
use Rattle.std.proofs.lemmas.Bool.{cases_eq}
use Rattle.dft_fault_lanes.proofs.CompareLemmas.{word_none, word_bits}
use Rattle.dft_fault_lanes.proofs.comparing.has_one.Goals as goal

pub loop-word-preserved : goal.loop-word-preserved
loop-word-preserved c = λ k i less within. elim (cases_eq k c.loop-word.word) [
  | inl e ↦ subst (λ (j : ℕ). min (bit_at (get_or c.args.wide.now.can_one j 0) i) (1 - bit_at (get_or c.args.wide.now.can_zero j 0) i) ≡ 0) (sym e) (word_bits c.without.result i _ _ (c.without.ensures i within) c.if-without-ne0.false)
  | inr ne ↦ c.loop-word.invariant k i (omega (arith, less, ne)) within
]

pub returns : goal.returns
returns c = λ e lane within. word_none c.args.wide.now.can_one c.args.wide.now.can_zero lane (c.loop-word.invariant (lane / 64) (lane % 64) (omega arith) (omega arith))
