-- At first the ring is at zero; then each state comes from the one before.
use Rattle.std.proofs.Common.{Bool, List, arith, refl, ◌∙◌, ap, length}
use Rattle.std.specs.Prelude.{◌&&◌, ◌==◌}
use Rattle.std.proofs.lemmas.List.{length-replicate}
use Rattle.dft_base.specs.Solutions.{bit_at}
use Rattle.dft_config.specs.Ring.{step}
use Rattle.dft_equations.proofs.ImpulseLemmas.{impulse_start, impulse_step, impulse_more, bit_at-zeros}
use Rattle.dft_equations.proofs.impulses.impulse.Goals as goal

pub loop-cycle-init : goal.loop-cycle-init
loop-cycle-init c =
    let zeros = rw c.ring.ensures at c.in_ok-state.ensures in record {
      so_far = record { count = ap length c.in_ok-response.ensures.items; stages = λ t less. absurd (omega arith); bits = λ t less. absurd (omega arith) };
      stages = ap length zeros ∙ length-replicate {A = Bool} c.args.config.now.ring.stages _;
      bits = λ stage. ap (λ (l : List Bool). bit_at l stage) zeros ∙ bit_at-zeros c.args.config.now.ring.stages stage ∙ impulse_start c.args.config.now.ring c.args.channel stage;
    }

pub loop-cycle-preserved : goal.loop-cycle-preserved
loop-cycle-preserved c =
    let before = c.loop-cycle.invariant in
    let ring = c.args.config.now.ring in
    let t = c.loop-cycle.cycle in
    record {
      so_far = rw (c.in_ok-push.ensures.items, c.from_vec.ensures, c.replace.ensures.value)
          (impulse_more ring c.args.channel t c.loop-cycle.response.items c.loop-cycle.state.items before.so_far before.stages before.bits);
      stages = rw c.replace.ensures.after c.in_ok-next.ensures.stages;
      bits = rw c.replace.ensures.after
          (impulse_step ring c.args.channel t (t == 0) c.loop-cycle.state.items c.in_ok-next.next.items refl before.bits
          (λ stage. c.in_ok-next.ensures.step stage
          ∙ ap (λ (l : List Bool). step ring (λ other. (other == c.args.channel) && (t == 0)) (bit_at l) stage) c.deref.ensures.value));
    }
