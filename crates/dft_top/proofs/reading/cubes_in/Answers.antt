use Rattle.std.proofs.Common.{subst, sym}
use Rattle.dft_top.specs.Checks.{AreFew}
use Rattle.dft_top.proofs.CubeCounts.{cubes_few}
use Rattle.dft_top.proofs.reading.cubes_in.Goals as goal

pub returns-in-Ok-clause-few : goal.returns-in-Ok-clause-few
returns-in-Ok-clause-few c = subst AreFew (sym c.from_vec.ensures) (cubes_few c.args.design.now c.args.config.now c.args.text.now c.in-Ok.cubes.items c.requires.short c.in-Ok.ensures.cubes)
