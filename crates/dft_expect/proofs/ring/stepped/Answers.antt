-- The moved bits with what is brought are the next state.
use Rattle.std.proofs.Common.{arith, ℕ, Bool, List, ◌≡◌, ◌++◌, length, take, drop, ◌∙◌, ap}
use Rattle.std.specs.Prelude.{◌+◌}
use Rattle.dft_base.specs.Packed.{packed_bit}
use Rattle.dft_base.specs.Solutions.{bit_at, xor}
use Rattle.dft_config.specs.Ring.{tapped, injected}
use Rattle.dft_equations.proofs.ImpulseLemmas.{step_of_list, take_seam}
use Rattle.dft_expect.proofs.ring.stepped.Goals as goal

pub returns-clause-step : goal.returns-clause-step
returns-clause-step c = λ stage.
    let ring = c.args.ring.now in
    let bits = λ (channel : ℕ). packed_bit c.args.bits.now (c.args.first + channel) in
    let state = c.args.state.now in
    let new = c.bring.new.next in
    let old = c.in_ok-next.next.items in
    let all : take c.in_ok-next.next.len (new ++ drop (length new) old) ≡ new = take_seam c.in_ok-next.next.len new (drop (length new) old) (omega arith) in
    ap (λ (l : List Bool). bit_at l stage) all
    ∙ step_of_list ring bits state new stage c.requires.stages (omega (arith, c.in_ok-next.ensures.stages))
    (λ within. c.bring.ensures stage
    ∙ ap (λ (l : List Bool). xor (xor (bit_at l stage) (tapped ring.taps (bit_at state) stage)) (injected ring.injectors bits stage)) c.deref_mut.ensures.value
    ∙ ap (λ (b : Bool). xor (xor b (tapped ring.taps (bit_at state) stage)) (injected ring.injectors bits stage)) (c.in_ok-next.ensures.bits stage within))
