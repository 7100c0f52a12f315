-- What is read is the state of the channel's response, and the chain's stages.
use Rattle.std.proofs.Common.{ℕ, arith, ap, length, ◌≡◌, ◌∙◌, suc, ◌/◌}
use Rattle.dft_config.specs.declared.config.RingConfig.{RingConfig}
use Rattle.dft_config.proofs.Linearity.{delay_small}
use Rattle.dft_equations.proofs.LoadLemmas.{IsRead, cycle_less, response_length, read_within, read_bit}
use Rattle.dft_equations.proofs.making.first_bit.Goals as goal
use Rattle.dft_equations.proofs.making.first_bit.Goals.{After-as_slice-2, After-phase_sum}

pub overflow_add-moment : goal.overflow_add-moment
overflow_add-moment c = omega (arith, delay_small c.args.late, c.delay.ensures, c.from.ensures)

pub offset_bounds-response-moment : goal.offset_bounds-response-moment
offset_bounds-response-moment c = omega (arith, delay_small c.args.late, c.delay.ensures, c.from.ensures)

pub bounds-response-moment : goal.bounds-response-moment
bounds-response-moment c =
    let config = c.args.config.now in
    let range = c.soundness.ensures.ring in
    let is = rw (c.from-channels.ensures, c.ring.ensures) at c.index-responses-column.is in
    let size : length c.index-responses-column.result ≡ suc c.args.cycles = response_length config c.args.cycles c.args.column c.args.responses.now c.index-responses-column.result range c.requires.responses is in
    let before = cycle_less config c.args.cycles c.args.column range c.requires.column in
    let same : c.args.column / c.from-channels.result ≡ c.args.column / config.ring.channels = ap (λ (k : ℕ). c.args.column / k) (c.from-channels.ensures ∙ ap (λ (r : RingConfig). r.channels) c.ring.ensures) in
    omega (arith, size, before, same, delay_small c.args.late, c.delay.ensures, c.from.ensures, ap length c.as_slice-response.ensures)

read : (c : After-as_slice-2) → IsRead c.args.config.now c.args.cycles c.args.late c.args.chain c.args.column c.args.responses.now c.index-responses-column.result c.index-response-moment.result c.index-as_slice-chain.result
read c =
    record {
      range = c.soundness.ensures.ring;
      impulses = c.requires.responses;
      chain_less = c.requires.chain;
      column_less = c.requires.column;
      response_is = rw (c.from-channels.ensures, c.ring.ensures) at c.index-responses-column.is;
      state_is = rw (c.as_slice-response.ensures, c.from.ensures, c.from-channels.ensures, c.ring.ensures, c.delay.ensures) at c.index-response-moment.is;
      stages_are = rw (c.as_slice.ensures, c.ring-2.ensures) at c.index-as_slice-chain.is;
    }

pub phase_sum-requires : goal.phase_sum-requires
phase_sum-requires c = rw (c.as_slice-2.ensures, c.as_slice-state.ensures) (read_within c.args.config.now c.args.cycles c.args.late c.args.chain c.args.column c.args.responses.now _ _ _ (read c))

read_after : (c : After-phase_sum) → IsRead c.args.config.now c.args.cycles c.args.late c.args.chain c.args.column c.args.responses.now c.index-responses-column.result c.index-response-moment.result c.index-as_slice-chain.result
read_after c =
    record {
      range = c.soundness.ensures.ring;
      impulses = c.requires.responses;
      chain_less = c.requires.chain;
      column_less = c.requires.column;
      response_is = rw (c.from-channels.ensures, c.ring.ensures) at c.index-responses-column.is;
      state_is = rw (c.as_slice-response.ensures, c.from.ensures, c.from-channels.ensures, c.ring.ensures, c.delay.ensures) at c.index-response-moment.is;
      stages_are = rw (c.as_slice.ensures, c.ring-2.ensures) at c.index-as_slice-chain.is;
    }

pub returns : goal.returns
returns c = rw (c.phase_sum.ensures, c.as_slice-2.ensures, c.as_slice-state.ensures) (read_bit c.args.config.now c.args.cycles c.args.late c.args.chain c.args.column c.args.responses.now _ _ _ (read_after c))
