use Rattle.std.proofs.Common.{◌≤◌, ◌/◌, ◌∙◌, ℕ, List, length, ap, subst, sym}
use Rattle.dft_config.specs.declared.config.Tap.{Tap}
use Rattle.dft_decompressor.specs.Rings.{first_free, start_of}
use Rattle.dft_decompressor.proofs.InjectorLemmas.{injectors_more, taps_few}
use Rattle.dft_decompressor.proofs.injecting.injectors.Goals as goal

pub stage_of-stage-requires-clause-taps : goal.stage_of-stage-requires-clause-taps
stage_of-stage-requires-clause-taps c = subst (λ (l : List Tap). length l ≤ 3) (sym (c.deref.ensures.value ∙ c.in_ok-taps.ensures)) (taps_few c.args.stages)

pub loop-number-preserved : goal.loop-number-preserved
loop-number-preserved c =
    injectors_more c.args.stages c.args.channels c.loop-number.number c.loop-number.injectors.items c.push.new.self.items (record { channel = c.loop-number.number / c.injectors_each-each.result; stage = c.stage_of-stage.result }) c.in_ok-push.ensures.items c.loop-number.invariant
    (record {
      channel = ap (λ (n : ℕ). c.loop-number.number / n) c.injectors_each-each.ensures;
      stage =
          (λ i. first_free c.args.stages (sym (c.deref.ensures.value ∙ c.in_ok-taps.ensures) i) (sym c.deref-in-loop-number.ensures.value i) (start_of c.args.stages c.args.channels c.loop-number.number))
          ∙ c.stage_of-stage.ensures;
    })
