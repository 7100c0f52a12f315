use Rattle.std.proofs.Common.{◌≡◌, ◌++◌, ◌∷◌, [], ◌∙◌, ℕ, List, Option, sym, ap, arith, length, map}
use Rattle.std.specs.List.{range_with_len}
use Rattle.std.proofs.lemmas.List.FromFn.{map-range_with_len_more}
use Rattle.dft_rules.specs.declared.judged.Judged.{Judged}
use Rattle.dft_rules.specs.Rules.{judged}
use Rattle.dft_rules.proofs.judging.judge_each.Goals as goal

pub loop-number-init : goal.loop-number-init
loop-number-init c = λ config found. c.in_ok-verdicts.ensures.items

pub loop-number-preserved : goal.loop-number-preserved
loop-number-preserved c = λ config found.
    (let n = c.args.design.now in
    let k = c.loop-number.number in
    c.in_ok-push.ensures.items
    ∙ ap (λ (xs : List (Option Judged)). xs ++ c.judge_instance.result ∷ []) (c.loop-number.invariant config found)
    ∙ ap (λ (x : Option Judged). map (judged n config) (range_with_len 0 k) ++ x ∷ []) (c.judge_instance.ensures config found)
    ∙ sym (map-range_with_len_more (judged n config) 0 k k (omega arith)))

pub returns : goal.returns
returns c = λ config found.
    (let n = c.args.design.now in
    let past = c.loop-number-test.false in
    let within = c.loop-number.auto.number-end in
    let all : c.loop-number.number ≡ length n.instances = omega (arith, ap length c.instances-count.ensures.instances) in
    c.loop-number.invariant config found ∙ ap (λ (m : ℕ). map (judged n config) (range_with_len 0 m)) all)
