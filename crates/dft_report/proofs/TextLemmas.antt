-- Texts of lists that may be empty.
use Rattle.std.proofs.Common.{◌≡◌, ◌<◌, List, [], ◌∷◌, length, flat_map, codes, refl, arith}
use Rattle.dft_report.specs.declared.report.Variable.{Variable}
use Rattle.dft_report.specs.Written.{variable_text, variables_text}

pub some_variables : (variables : List Variable) → 0 < length variables → variables_text variables ≡ flat_map variable_text variables
some_variables [] some = absurd (omega arith)
some_variables (variable ∷ variables) some = refl

pub no_variables : (variables : List Variable) → length variables ≡ 0 → variables_text variables ≡ codes " -"
no_variables [] none = refl
no_variables (variable ∷ variables) none = absurd (omega arith)
