-- Words that are too few, or too many.
use Rattle.std.proofs.Common.{◌≡◌, ◌<◌, ◌≤◌, List, [], ◌∷◌, length, None, refl, arith}
use Rattle.dft_base.specs.Lexing.{Text}
use Rattle.dft_report_reader.specs.Saying.{variables_by, load_by, counts_of, edge_of}

pub variables_few : (cells chains cycles : Text) (xs : List Text) → length xs < 2 → None ≡ variables_by cells chains cycles xs
variables_few cells chains cycles [] less = refl
variables_few cells chains cycles (a ∷ []) less = refl
variables_few cells chains cycles (a ∷ b ∷ xs) less = absurd (omega (arith, less))

pub variables_many : (cells chains cycles : Text) (xs : List Text) → 3 ≤ length xs → None ≡ variables_by cells chains cycles xs
variables_many cells chains cycles [] many = absurd (omega (arith, many))
variables_many cells chains cycles (a ∷ []) many = absurd (omega (arith, many))
variables_many cells chains cycles (a ∷ b ∷ []) many = absurd (omega (arith, many))
variables_many cells chains cycles (a ∷ b ∷ c ∷ xs) many = refl

pub load_one : (cells chains : Text) (xs : List Text) → 1 ≤ length xs → length xs < 2 → None ≡ load_by cells chains xs
load_one cells chains [] some less = absurd (omega (arith, some))
load_one cells chains (a ∷ []) some less = refl
load_one cells chains (a ∷ b ∷ xs) some less = absurd (omega (arith, less))

pub counts_few : (xs : List Text) → length xs < 3 → None ≡ counts_of xs
counts_few [] less = refl
counts_few (a ∷ []) less = refl
counts_few (a ∷ b ∷ []) less = refl
counts_few (a ∷ b ∷ c ∷ xs) less = absurd (omega (arith, less))

pub edge_many : (xs : List Text) → 2 ≤ length xs → None ≡ edge_of xs
edge_many [] many = absurd (omega (arith, many))
edge_many (a ∷ []) many = absurd (omega (arith, many))
edge_many (a ∷ b ∷ xs) many = refl
