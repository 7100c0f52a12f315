-- The names of nets by the places of their names, with one name more.
use Rattle.std.proofs.Common.{◌≡◌, ℕ, zero, suc, ◌<◌, List, [], ◌∷◌, ◌++◌, length, map, Some, refl, ◌∙◌, ap, arith, slice_get}
use Rattle.std.proofs.lemmas.List.{map-append}
use Rattle.dft_base.specs.Lexing.{Text}
use Rattle.dft_netlist.specs.NameTables.{Entry, name_in, name_at}
use Rattle.dft_netlist.proofs.Places.{get_push}

-- each place is that of a name
abbrev pub AreLivePlaces : List Entry → List ℕ → Type 0
AreLivePlaces es places = (k p : ℕ) → slice_get places k ≡ Some p → p < length es

name_same : (es : List Entry) (e : Entry) (p : ℕ) → p < length es → name_at (es ++ e ∷ []) p ≡ name_at es p
name_same [] e p lt = absurd (omega arith)
name_same (x ∷ es) e zero lt = refl
name_same (x ∷ es) e (suc p) lt = name_same es e p (omega arith)

pub names_same : (es : List Entry) (e : Entry) (places : List ℕ) → AreLivePlaces es places → map (name_at (es ++ e ∷ [])) places ≡ map (name_at es) places
names_same es e [] live = refl
names_same es e (p ∷ places) live = rw (name_same es e p (live 0 p refl), names_same es e places (λ k q at. live (suc k) q at)) refl

pub names_more : (es : List Entry) (e : Entry) (places : List ℕ) → AreLivePlaces es places → map (name_at (es ++ e ∷ [])) (places ++ length es ∷ []) ≡ map (name_at es) places ++ e.0 ∷ []
names_more es e places live =
    map-append (name_at (es ++ e ∷ [])) places (length es ∷ [])
    ∙ ap (λ (names : List Text). names ++ name_at (es ++ e ∷ []) (length es) ∷ []) (names_same es e places live)
    ∙ ap (λ (name : Text). map (name_at es) places ++ name ∷ []) (ap name_in (get_push es e))
