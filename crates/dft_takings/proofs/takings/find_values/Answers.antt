-- One flip-flop more has its value.
use Rattle.std.proofs.Common.{◌<◌, map, length, arith}
use Rattle.dft_logic.specs.Values.{value_at}
use Rattle.dft_logic.specs.Circuit.{cell_of, cell_at}
use Rattle.dft_takings.specs.Views.{pulse_at}
use Rattle.dft_takings.specs.Takings.{taken_by}
use Rattle.dft_takings.proofs.TakingLemmas.{found_more}
use Rattle.dft_takings.proofs.takings.find_values.Goals as goal

pub loop-at-preserved : goal.loop-at-preserved
loop-at-preserved c =
    let less : c.loop-at.at < length c.loop-at.row = omega (arith, c.loop-at.auto.row, c.requires.row, c.loop-at-test.true) in
    found_more c.args.takings.now (taken_by (cell_at (map cell_of c.args.flops.now)) (pulse_at c.args.pulse) (value_at c.args.values.now)) c.loop-at.row c.loop-at.at _ _ c.loop-at-test.true less c.value.ensures c.loop-at.invariant
