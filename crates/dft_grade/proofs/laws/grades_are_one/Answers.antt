use Rattle.dft_grade.proofs.AllOfThem.{all_fail, grades_one, grades_there}
use Rattle.dft_grade.proofs.laws.grades_are_one.Goals as goal

pub returns-clause-one : goal.returns-clause-one
returns-clause-one c = grades_one

pub returns-clause-there : goal.returns-clause-there
returns-clause-there c = grades_there

pub returns-clause-runs : goal.returns-clause-runs
returns-clause-runs c = all_fail
