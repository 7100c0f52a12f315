use Rattle.std.proofs.Common.{rules, arith}
use Rattle.std.proofs.lemmas.Grind.{common_steps}
use Rattle.dft_base.proofs.Turns.{one_more, no_more}
use Rattle.dft_stil_text.specs.WaveformTables.{waveforms_from}
use Rattle.dft_stil_text.specs.WaveformTables as spec
use Rattle.dft_stil.specs.WaveformTablesShown.{table_as}
use Rattle.dft_stil.proofs.waveform_table.waveforms.Goals as goal

pub returns-then-eat-clause-read : goal.returns-then-eat-clause-read
unfolding waveforms_from
returns-then-eat-clause-read c =
    let e = one_more (λ n. spec.waveforms_from n c.args.names.now c.args.signals.now (table_as c.turns.table) c.turns.tokens) _ c.turns._turn c.turns-test.true c.turns.invariant.same in
    first_of (search rules, grind (arith, common_steps))

pub returns-in_err-waveform-clause-read : goal.returns-in_err-waveform-clause-read
unfolding waveforms_from
returns-in_err-waveform-clause-read c =
    let e = one_more (λ n. spec.waveforms_from n c.args.names.now c.args.signals.now (table_as c.turns.table) c.turns.tokens) _ c.turns._turn c.turns-test.true c.turns.invariant.same in
    first_of (search rules, grind (arith, common_steps))

pub turns-preserved : goal.turns-preserved
unfolding waveforms_from
turns-preserved c =
    let e = one_more (λ n. spec.waveforms_from n c.args.names.now c.args.signals.now (table_as c.turns.table) c.turns.tokens) _ c.turns._turn c.turns-test.true c.turns.invariant.same in
    record { same = first_of (search rules, grind (arith, common_steps)); wide = first_of (search rules, grind (arith, common_steps)) }

pub returns-clause-read : goal.returns-clause-read
unfolding waveforms_from
returns-clause-read c =
    let e = no_more (λ n. spec.waveforms_from n c.args.names.now c.args.signals.now (table_as c.turns.table) c.turns.tokens) _ c.turns._turn c.turns-test.false c.turns.invariant.same in
    first_of (search rules, grind (arith, common_steps))
