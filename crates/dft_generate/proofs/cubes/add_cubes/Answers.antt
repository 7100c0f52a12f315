use Rattle.dft_generate.specs.Cubes.{cube_lines}
use Rattle.dft_generate.proofs.Lines.{lines_more}
use Rattle.dft_generate.proofs.cubes.add_cubes.Goals as goal

pub loop-cube-preserved : goal.loop-cube-preserved
loop-cube-preserved c = lines_more (cube_lines c.args.size c.args.words.now) c.loop-cube.cube c.args.out.now.items c.loop-cube.out.items _ c.loop-cube.invariant c.in_ok-add_cube.ensures
