-- One input more.
use Rattle.std.proofs.Common.{◌<◌, ◌+◌, ◌*◌, length, drop, get_or, false, ap, ◌∙◌, arith}
use Rattle.std.proofs.Math.Pow.{pow_mono}
use Rattle.std.proofs.lemmas.Grind.{pow_more}
use Rattle.dft_cells.specs.Gates.{number_of}
use Rattle.dft_cells.proofs.Bits.{number_step, weigh, weigh_small}
use Rattle.dft_cells.proofs.gates.number_of.Goals as goal

pub loop-input-preserved : goal.loop-input-preserved
loop-input-preserved c =
    let less : c.loop-input.input-index < length c.args.inputs.now = c.loop-input-test.true in
    let bit = get_or c.args.inputs.now c.loop-input.input-index false in
    let rest = number_of (drop (c.loop-input.input-index + 1) c.args.inputs.now) in
    record {
      number = c.loop-input.invariant.number
          ∙ ap (λ n. c.loop-input.number + c.loop-input.weight * n) (number_step c.args.inputs.now c.loop-input.input-index false less)
          ∙ rw c.weighed-number.ensures (weigh bit c.loop-input.number c.loop-input.weight rest);
      weight = omega (arith, pow_more 2 c.loop-input.input-index);
      small = rw c.weighed-number.ensures (weigh_small bit c.loop-input.number c.loop-input.weight c.loop-input.invariant.small);
    }

pub returns-clause-small : goal.returns-clause-small
returns-clause-small c = let up = pow_mono {i = c.loop-input.input-index} {j = 6} (omega arith) in omega (arith, up)
