use Rattle.dft_grade.proofs.Soundness.{grade_plain}
use Rattle.dft_grade.proofs.laws.grade_is_plain.Goals as goal

pub returns : goal.returns
returns c = grade_plain
