-- A vector so far, as the definitions have it.
use Rattle.std.specs.Prelude.{ℕ, List, Bool, false, get_or}
use Rattle.dft_stil.specs.declared.vector.VectorStatement.{VectorStatement}
use Rattle.dft_stil_text.specs.Statements as spec

-- whether a signal is flagged
abbrev pub flagged_in : List Bool → ℕ → Bool
flagged_in flags n = get_or flags n false

abbrev pub vector_as : VectorStatement → spec.VectorStatement
vector_as v = record { acts = v.acts; told = flagged_in v.told.items }
