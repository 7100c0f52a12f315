-- The names of a cell and its pins are names.
use Rattle.std.proofs.Common.{ℕ, zero, suc, ◌≡◌, ◌∙◌, true, List, [], ◌∷◌, map, Some, option_map, slice_get, refl, ap, subst}
use Rattle.std.specs.List.{list_all}
use Rattle.std.proofs.lemmas.Bool.{and_parts}
use Rattle.std.proofs.lemmas.Option.{same_Some, slice_get-map}
use Rattle.dft_base.specs.Name.{IsName}
use Rattle.dft_base.specs.Names.{is_name}
use Rattle.dft_base.proofs.NameLemmas.{name_tested}
use Rattle.dft_cells.specs.declared.cell.Pin.{Pin}
use Rattle.dft_cells.specs.declared.cell.Cell.{Cell}
use Rattle.dft_cells.specs.WellFormed.{IsCell, pin_name}

each_named : (names : List (List ℕ)) → list_all is_name names ≡ true → (k : ℕ) (name : List ℕ) → slice_get names k ≡ Some name → IsName name
each_named [] all k name at = absurd (cc)
each_named (x ∷ names) all zero name at = subst IsName (same_Some x name at) (name_tested x (and_parts (is_name x) (list_all is_name names) all).0)
each_named (x ∷ names) all (suc k) name at = each_named names (and_parts (is_name x) (list_all is_name names) all).1 k name at

pub cell_is_named : (cell : Cell) → IsCell cell → IsName cell.name
cell_is_named cell is = each_named (cell.name ∷ map pin_name cell.pins) is.named 0 cell.name refl

pub pin_is_named : (cell : Cell) (k : ℕ) (pin : Pin) → IsCell cell → slice_get cell.pins k ≡ Some pin → IsName pin.name
pin_is_named cell k pin is at = each_named (cell.name ∷ map pin_name cell.pins) is.named (suc k) pin.name (slice_get-map pin_name cell.pins k ∙ ap (option_map pin_name) at)
