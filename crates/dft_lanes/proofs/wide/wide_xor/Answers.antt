use Rattle.std.proofs.Common.{ℕ, Bool}
use Rattle.dft_base.specs.Solutions.{xor}
use Rattle.dft_lanes.specs.Choices.{can, some_choice_of_two}
use Rattle.dft_lanes.proofs.Holds.{ands, ors}
use Rattle.dft_lanes.proofs.Gates.{loaded, made, xor_zero, xor_one}
use Rattle.dft_lanes.proofs.wide.wide_xor.Goals as goal

pub returns : goal.returns
returns c =
    let a = c.args.a.now in
    let b = c.args.b.now in
    let a_zero = loaded a.can_zero c.load-a_zero.result c.load-a_zero.ensures.value c.load-a_zero.ensures.size in
    let a_one = loaded a.can_one c.load-a_one.result c.load-a_one.ensures.value c.load-a_one.ensures.size in
    let b_zero = loaded b.can_zero c.load-b_zero.result c.load-b_zero.ensures.value c.load-b_zero.ensures.size in
    let b_one = loaded b.can_one c.load-b_one.result c.load-b_one.ensures.value c.load-b_one.ensures.size in
    let spec : ℕ → Bool → Bool = λ pattern. some_choice_of_two xor (can a pattern) (can b pattern) in
    made _ _ (ors (ands a_zero b_zero) (ands a_one b_one)) (ors (ands a_zero b_one) (ands a_one b_zero)) spec (λ pattern. xor_zero (can a pattern) (can b pattern)) (λ pattern. xor_one (can a pattern) (can b pattern))
