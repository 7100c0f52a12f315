use Rattle.std.proofs.Common.{rules, arith}
use Rattle.std.proofs.lemmas.Grind.{common_steps}
use Rattle.dft_base.proofs.Turns.{one_more, no_more}
use Rattle.dft_stil_text.specs.WaveformTables.{events_from}
use Rattle.dft_stil_text.specs.WaveformTables as spec
use Rattle.dft_stil.proofs.waveform_table.events.Goals as goal

pub returns-then-sees : goal.returns-then-sees
unfolding events_from
returns-then-sees c =
    let e = one_more (λ n. spec.events_from n c.args.names.now c.args.signals.now c.turns.drawing c.turns.tokens) _ c.turns._turn c.turns-test.true c.turns.invariant in
    first_of (search rules, grind (arith, common_steps))

pub returns-in_err-drawing : goal.returns-in_err-drawing
unfolding events_from
returns-in_err-drawing c =
    let e = one_more (λ n. spec.events_from n c.args.names.now c.args.signals.now c.turns.drawing c.turns.tokens) _ c.turns._turn c.turns-test.true c.turns.invariant in
    first_of (search rules, grind (arith, common_steps))

pub turns-preserved : goal.turns-preserved
unfolding events_from
turns-preserved c =
    let e = one_more (λ n. spec.events_from n c.args.names.now c.args.signals.now c.turns.drawing c.turns.tokens) _ c.turns._turn c.turns-test.true c.turns.invariant in
    first_of (search rules, grind (arith, common_steps))

pub returns : goal.returns
unfolding events_from
returns c =
    let e = no_more (λ n. spec.events_from n c.args.names.now c.args.signals.now c.turns.drawing c.turns.tokens) _ c.turns._turn c.turns-test.false c.turns.invariant in
    first_of (search rules, grind (arith, common_steps))
