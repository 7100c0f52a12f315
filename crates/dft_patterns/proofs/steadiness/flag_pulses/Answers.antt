use Rattle.std.proofs.Common.{◌∙◌, ◌<◌, ℕ, length, sym, ap, arith}
use Rattle.std.proofs.lemmas.List.{get_or_default}
use Rattle.dft_patterns.specs.declared.act.Act.TheVariants.{Ignore}
use Rattle.dft_patterns.specs.Steadiness.{is_pulse}
use Rattle.dft_patterns.proofs.SteadyLemmas.{flag_set, flag_left}
use Rattle.dft_patterns.proofs.steadiness.flag_pulses.Goals.{then-is_pulse, else-is_pulse}
use Rattle.dft_patterns.proofs.steadiness.flag_pulses.Goals as goal

pub loop-signal-preserved : goal.loop-signal-preserved
loop-signal-preserved c =
    let acts = c.args.acts.now in
    let place : ℕ = c.loop-signal.signal in
    let less : place < length acts = c.loop-signal-test.true in
    let told = c.is_pulse.ensures ∙ ap is_pulse (get_or_default acts place _ Ignore less) in
    elim c.if-is_pulse.branch [
      | then-is_pulse w ↦ rw w.flags-is (flag_set acts c.args.flags.now c.loop-signal.flags place (omega (arith, c.requires, c.loop-signal.invariant.len)) c.loop-signal.invariant (sym told ∙ w.if-is_pulse.true))
      | else-is_pulse w ↦ rw w.flags-is (flag_left acts c.args.flags.now c.loop-signal.flags place c.loop-signal.invariant (sym told ∙ w.if-is_pulse.false))
    ]
