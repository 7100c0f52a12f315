use Rattle.dft_cube_reports.proofs.LineLemmas.{all_reports}
use Rattle.dft_cube_reports.proofs.laws.cubes_have_lines.Goals as goal

pub returns : goal.returns
returns c = all_reports
