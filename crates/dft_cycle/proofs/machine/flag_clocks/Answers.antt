-- One clock more is flagged.
use Rattle.std.proofs.Common.{ℕ, ◌<◌, ◌||◌, ◌∙◌, Bool, List, ap, length, get_or, arith}
use Rattle.std.proofs.lemmas.Option.{slice_get-get_or}
use Rattle.dft_cycle.specs.Machine.{is_one_of}
use Rattle.dft_logic.specs.Circuit.{flag_at}
use Rattle.dft_logic.proofs.FlagLemmas.{down_all}
use Rattle.dft_cycle.proofs.MachineLemmas.{flag_more, flag_end}
use Rattle.dft_cycle.proofs.machine.flag_clocks.Goals as goal

pub loop-clock-init : goal.loop-clock-init
loop-clock-init c = λ e. ap (λ (b : Bool). b || is_one_of c.args.clocks.now e) (ap (λ (l : List Bool). flag_at l e) c.requires.clear ∙ down_all (length c.args.flags.now) e)

pub loop-clock-preserved : goal.loop-clock-preserved
loop-clock-preserved c = λ e.
    (let j : ℕ = c.loop-clock.clock-index in
    let clock = c.requires.live j _ (slice_get-get_or c.args.clocks.now j (record { 0 = 0 }) c.loop-clock-test.true) in
    let live : (get_or c.args.clocks.now j (record { 0 = 0 })).0 < length c.loop-clock.flags = omega (arith, clock) in
    flag_more c.args.clocks.now c.loop-clock.flags j e _ c.loop-clock-test.true live (c.loop-clock.invariant e))

pub returns : goal.returns
returns c = λ e. flag_end c.args.clocks.now c.loop-clock.flags c.loop-clock.clock-index e _ c.loop-clock-test.false (c.loop-clock.invariant e)
