-- The names in a table of the standard cells.
use Rattle.std.proofs.Common.{◌≡◌, ℕ, ◌<◌, true, List, length, get_or}
use Rattle.std.proofs.lemmas.Bool.{and_parts}
use Rattle.std.proofs.lemmas.List.Sums.{AllPass-from_list_all}
use Rattle.std.specs.List.{list_all}
use Rattle.dft_base.specs.Name.{IsName}
use Rattle.dft_base.specs.Names.{is_name}
use Rattle.dft_base.proofs.NameLemmas.{name_tested}
use Rattle.dft_cells.specs.declared.standard.Row.{Row}
use Rattle.dft_cells.specs.Rows.{is_named}

-- the name at each place
pub named_at : {X : Type 0} (name : X → List ℕ) (xs : List X) (k : ℕ) (d : X) → list_all (λ x. is_name (name x)) xs ≡ true → k < length xs → IsName (name (get_or xs k d))
named_at name xs k d all less = name_tested (name (get_or xs k d)) (AllPass-from_list_all (λ x. is_name (name x)) xs all k d less)

-- the name of a row, and those of its pins
pub row_parts : (row : Row) → is_named row ≡ true → IsName row.name.now × (list_all (λ p. is_name p.0.now) row.pins.now ≡ true)
row_parts row is = let (name, pins) = and_parts (is_name row.name.now) (list_all (λ p. is_name p.0.now) row.pins.now) is in (name_tested row.name.now name, pins)
