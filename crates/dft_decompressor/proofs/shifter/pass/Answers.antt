use Rattle.std.proofs.Common.{◌≡◌, ◌≤◌, ◌<◌, ◌∙◌, ℕ, length, ap, arith}
use Rattle.rand_pcg.specs.Lcg.{Lcg}
use Rattle.dft_decompressor.specs.Phases.{Wish, generator, set_of_word}
use Rattle.dft_decompressor.specs.Taken.{after_set}
use Rattle.dft_decompressor.proofs.PassLemmas.{few_more, leads_more, whole_ended, whole_full}
use Rattle.dft_decompressor.proofs.shifter.pass.Goals as goal

pub returns-then-count-from-clause-pass : goal.returns-then-count-from-clause-pass
returns-then-count-from-clause-pass c =
    let wish : Wish = record { stages = c.args.stages; chains = c.args.chains; bound = c.args.bound } in
    let count = c.count.ensures in
    let chains = c.from-in-loop-turn.ensures in
    let least : c.args.chains ≤ length c.loop-turn.taken.sets = omega (arith, count, chains, c.if-count-from.true) in
    whole_full wish 65536 _ c.new-random.result (generator c.args.stages) c.loop-turn.random c.loop-turn.taken.sets c.into_sets.result (c.new-random.ensures ∙ ap generator c.from.ensures) c.into_sets.ensures least c.loop-turn.invariant.few c.loop-turn.invariant.leads

pub loop-turn-preserved : goal.loop-turn-preserved
loop-turn-preserved c =
    let wish : Wish = record { stages = c.args.stages; chains = c.args.chains; bound = c.args.bound } in
    let count = c.count.ensures in
    let chains = c.from-in-loop-turn.ensures in
    let less : length c.loop-turn.taken.sets < c.args.chains = omega (arith, count, chains, c.if-count-from.false) in
    let step : c.try_take.new.self.sets ≡ after_set c.args.stages c.args.bound c.loop-turn.taken.sets c.in_ok-set.set =
    c.in_ok-try_take.ensures.sets ∙ ap (λ (n : ℕ). after_set n c.args.bound c.loop-turn.taken.sets c.in_ok-set.set) c.loop-turn.invariant.stages in
    record {
      leads = leads_more wish 65536 c.loop-turn._turn c.new-random.result c.loop-turn.random c.next_word.new.self c.loop-turn.taken.sets c.try_take.new.self.sets c.in_ok-set.set c.loop-turn-test.true less
          (c.in_ok-set.ensures ∙ ap (λ (p : ℕ × Lcg). set_of_word c.args.stages p.0) c.next_word.ensures) (ap (λ (p : ℕ × Lcg). p.1) c.next_word.ensures) step c.loop-turn.invariant.leads;
      stages = c.try_take.ensures.stages ∙ c.loop-turn.invariant.stages;
      few = few_more c.args.stages c.args.bound c.args.chains c.loop-turn.taken.sets c.try_take.new.self.sets c.in_ok-set.set less step;
    }

pub returns-clause-pass : goal.returns-clause-pass
returns-clause-pass c =
    let wish : Wish = record { stages = c.args.stages; chains = c.args.chains; bound = c.args.bound } in
    whole_ended wish 65536 c.loop-turn._turn c.new-random.result (generator c.args.stages) c.loop-turn.random c.loop-turn.taken.sets c.into_sets-2.result (c.new-random.ensures ∙ ap generator c.from.ensures) c.into_sets-2.ensures c.loop-turn-test.false
    c.loop-turn.invariant.leads
