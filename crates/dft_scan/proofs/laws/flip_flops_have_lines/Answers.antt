use Rattle.dft_scan.proofs.LineLemmas.{flip_flops_lined}
use Rattle.dft_scan.proofs.laws.flip_flops_have_lines.Goals as goal

pub returns : goal.returns
returns c = flip_flops_lined
