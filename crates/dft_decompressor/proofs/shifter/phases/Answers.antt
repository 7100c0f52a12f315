use Rattle.std.proofs.Common.{◌≡◌, ◌≤◌, ◌<◌, ◌+◌, ◌*◌, ◌∙◌, ℕ, [], length, ap, subst, arith}
use Rattle.dft_decompressor.specs.Phases.{IsPass, Pass, bound, generator, tries}
use Rattle.dft_decompressor.specs.Sizes.{rounded_up}
use Rattle.dft_decompressor.proofs.PassLemmas.{slack_full, slack_more, slack_over}
use Rattle.dft_decompressor.proofs.shifter.phases.Goals as goal

pub returns-then-as_slice-from : goal.returns-then-as_slice-from
returns-then-as_slice-from c =
    let sets = c.in_ok-sets.sets in
    let share = c.rounded_up-share.ensures ∙ (λ i. rounded_up (3 * c.from.ensures i) (c.from-2.ensures i)) in
    let bound_is : c.rounded_up-share.result + c.loop-slack.slack ≡ bound c.args.stages c.args.chains c.loop-slack.slack = ap (λ (n : ℕ). n + c.loop-slack.slack) share in
    let pass : IsPass c.args.stages c.args.chains c.loop-slack.slack sets =
    subst (λ (n : ℕ). Pass (record { stages = c.args.stages; chains = c.args.chains; bound = n }) tries (generator c.args.stages) [] sets) bound_is c.in_ok-sets.ensures.pass in
    let count = ap length c.as_slice.ensures in
    let chains = c.from-in-loop-slack.ensures in
    let least : c.args.chains ≤ length sets = omega (arith, count, chains, c.if-as_slice-from.true) in
    slack_full c.args.stages c.args.chains 4 c.loop-slack.slack sets c.loop-slack-test.true pass least c.in_ok-sets.ensures.few c.loop-slack.invariant

pub loop-slack-preserved : goal.loop-slack-preserved
loop-slack-preserved c =
    let sets = c.in_ok-sets.sets in
    let share = c.rounded_up-share.ensures ∙ (λ i. rounded_up (3 * c.from.ensures i) (c.from-2.ensures i)) in
    let bound_is : c.rounded_up-share.result + c.loop-slack.slack ≡ bound c.args.stages c.args.chains c.loop-slack.slack = ap (λ (n : ℕ). n + c.loop-slack.slack) share in
    let pass : IsPass c.args.stages c.args.chains c.loop-slack.slack sets =
    subst (λ (n : ℕ). Pass (record { stages = c.args.stages; chains = c.args.chains; bound = n }) tries (generator c.args.stages) [] sets) bound_is c.in_ok-sets.ensures.pass in
    let count = ap length c.as_slice.ensures in
    let chains = c.from-in-loop-slack.ensures in
    let less : length sets < c.args.chains = omega (arith, count, chains, c.if-as_slice-from.false) in
    slack_more c.args.stages c.args.chains 4 c.loop-slack.slack sets c.loop-slack-test.true pass less c.loop-slack.invariant

pub returns : goal.returns
returns c = slack_over c.args.stages c.args.chains 4 c.loop-slack.slack c.loop-slack-test.false c.loop-slack.invariant
