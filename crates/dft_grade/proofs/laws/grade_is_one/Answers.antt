use Rattle.dft_grade.proofs.Soundness.{grade_one}
use Rattle.dft_grade.proofs.laws.grade_is_one.Goals as goal

pub returns : goal.returns
returns c = grade_one
