-- One place more.
use Rattle.std.proofs.Common.{ℕ, ◌≡◌, ◌∙◌, ◌+◌, ◌-◌, ap, arith, length}
use Rattle.dft_base.specs.Solutions.{bit_at}
use Rattle.dft_config.specs.Loads.{moment_of_place}
use Rattle.dft_config.specs.Ring.{phase_sum}
use Rattle.dft_config.proofs.Linearity.{delay_small}
use Rattle.dft_expect.specs.States.{brought, state_at}
use Rattle.dft_expect.proofs.LoadedLemmas.{grown}
use Rattle.dft_expect.proofs.loading.add_chain.Goals as goal

pub overflow_add-moment : goal.overflow_add-moment
overflow_add-moment c = omega (arith, delay_small c.args.late, c.delay.ensures, c.requires.cells)

pub entering-requires-clause-cycle : goal.entering-requires-clause-cycle
entering-requires-clause-cycle c = omega (arith, delay_small c.args.late, c.delay.ensures, c.requires.cells)

pub loop-place-preserved : goal.loop-place-preserved
loop-place-preserved c =
    let at : length c.args.states.now - 2 - c.loop-place.place + c.delay.result ≡ moment_of_place (length c.args.states.now - 1) c.args.late c.loop-place.place = omega (arith, c.delay.ensures) in
    grown (brought c.args.ring.now c.args.states.now c.args.late c.args.chain) c.args.loaded.now.items c.loop-place.loaded.items c.push.new.self.items c.loop-place.place c.entering.result
    c.loop-place.invariant c.in_ok-push.ensures.items (c.entering.ensures ∙ ap (λ (m : ℕ). phase_sum c.args.ring.now c.args.chain (bit_at (state_at c.args.states.now m))) at)
