-- At first the ring is at zero; then each state comes from the one before.
use Rattle.std.proofs.Common.{ℕ, List, [], ◌∷◌, ◌++◌, Bool, ◌≡◌, ◌+◌, ◌*◌, arith, ◌∙◌, ap, length, subst}
use Rattle.dft_base.specs.Packed.{packed_bit}
use Rattle.dft_base.specs.Solutions.{bit_at}
use Rattle.dft_config.specs.Ring.{step}
use Rattle.dft_expect.specs.Loaded.{table_of}
use Rattle.dft_expect.specs.States.{AreStates}
use Rattle.dft_expect.proofs.RingLemmas.{state_starts, state_steps, states_more}
use Rattle.dft_expect.proofs.ring.states.Goals as goal

pub loop-cycle-init : goal.loop-cycle-init
loop-cycle-init c = record {
  so_far = record { count = ap length c.in_ok-states.ensures.items; each = λ t less. absurd (omega arith) };
  now = state_starts c.args.ring.now (table_of c.args.ring.now (packed_bit c.args.bits.now)) c.in_ok-state.state.items c.in_ok-state.ensures;
}

pub returns : goal.returns
returns c =
    let ring = c.args.ring.now in
    let table = table_of ring (packed_bit c.args.bits.now) in
    let states = c.loop-cycle.states.items in
    let state = c.loop-cycle.state.items in
    let same : c.loop-cycle.cycle ≡ c.args.cycles = omega (arith, c.loop-cycle-test.false) in
    rw (c.in_ok-push-2.ensures.items, c.from_vec-2.ensures)
    (subst (λ (n : ℕ). AreStates ring table (n + 1) (states ++ state ∷ [])) same (states_more ring table c.loop-cycle.cycle states state c.loop-cycle.invariant.so_far c.loop-cycle.invariant.now))

pub loop-cycle-preserved : goal.loop-cycle-preserved
loop-cycle-preserved c =
    let before = c.loop-cycle.invariant in
    let ring = c.args.ring.now in
    let bits = packed_bit c.args.bits.now in
    let t = c.loop-cycle.cycle in
    let first = c.from-in-loop-cycle.result * c.from-in-loop-cycle-2.result in
    let at : first ≡ t * ring.channels = λ i. c.from-in-loop-cycle.ensures i * c.from-in-loop-cycle-2.ensures i in
    record {
      so_far = rw (c.in_ok-push.ensures.items, c.from_vec.ensures, c.replace.ensures.value) (states_more ring (table_of ring bits) t c.loop-cycle.states.items c.loop-cycle.state.items before.so_far before.now);
      now = rw c.replace.ensures.after (state_steps ring bits t first c.loop-cycle.state.items c.in_ok-next.next.items at before.now c.in_ok-next.ensures.stages
          (λ stage. c.in_ok-next.ensures.step stage ∙ ap (λ (l : List Bool). step ring (λ channel. bits (first + channel)) (bit_at l) stage) c.deref.ensures.value));
    }
