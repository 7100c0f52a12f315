use Rattle.std.proofs.Common.{rules, arith}
use Rattle.std.proofs.lemmas.Grind.{common_steps}
use Rattle.dft_base.proofs.Turns.{one_more, no_more}
use Rattle.dft_stil_text.specs.Statements.{runs_from}
use Rattle.dft_stil_text.specs.Statements as spec
use Rattle.std.proofs.Common.{option_map}
use Rattle.dft_stil.specs.CharactersShown.{filling_as}
use Rattle.dft_stil.proofs.characters.runs.Goals as goal

pub returns-in_err-run-clause-read : goal.returns-in_err-run-clause-read
unfolding runs_from
returns-in_err-run-clause-read c =
    let e = one_more (λ n. spec.runs_from n (option_map (λ s. s.now) c.args.waveforms) (filling_as c.turns.filling) c.turns.tokens) _ c.turns._turn c.turns-test.true c.turns.invariant.same in
    first_of (search rules, grind (arith, common_steps))

pub returns-then-sees-clause-read : goal.returns-then-sees-clause-read
unfolding runs_from
returns-then-sees-clause-read c =
    let e = one_more (λ n. spec.runs_from n (option_map (λ s. s.now) c.args.waveforms) (filling_as c.turns.filling) c.turns.tokens) _ c.turns._turn c.turns-test.true c.turns.invariant.same in
    first_of (search rules, grind (arith, common_steps))

pub turns-preserved : goal.turns-preserved
unfolding runs_from
turns-preserved c =
    let e = one_more (λ n. spec.runs_from n (option_map (λ s. s.now) c.args.waveforms) (filling_as c.turns.filling) c.turns.tokens) _ c.turns._turn c.turns-test.true c.turns.invariant.same in
    record { same = first_of (search rules, grind (arith, common_steps)); ahead = first_of (search rules, grind (arith, common_steps)); length = first_of (search rules, grind (arith, common_steps)) }

pub returns-clause-read : goal.returns-clause-read
unfolding runs_from
returns-clause-read c =
    let e = no_more (λ n. spec.runs_from n (option_map (λ s. s.now) c.args.waveforms) (filling_as c.turns.filling) c.turns.tokens) _ c.turns._turn c.turns-test.false c.turns.invariant.same in
    first_of (search rules, grind (arith, common_steps))
