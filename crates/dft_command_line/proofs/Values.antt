-- The values of options that rows show.
use Rattle.std.proofs.Common.{◌≡◌, Bool, true, false, List, [], ◌∷◌, Option, Some, None, if◌then◌else◌, sym, ap, ◌∙◌, subst, refl}
use Rattle.std.specs.List.{AllByRecursion}
use Rattle.std.proofs.lemmas.Option.{same_Some}
use Rattle.clap.specs.Walk.{Row, first_of}
use Rattle.dft_command_line.specs.Words.{Text, list_of}
use Rattle.dft_command_line.specs.CommandLine.{is_empty, perhaps_from, perhaps_in, value_from, value_in}
use Rattle.dft_command_line.proofs.Taken.{Shows}

pub value_shown : (rs : List Row) (name v : Text) → Shows rs (name, Some v) → value_in name rs ≡ Some v
value_shown rs name v shows = ap value_from shows.0 ∙ ap (λ b. if b then None else Some v) shows.1.0

pub perhaps_shown : (rs : List Row) (name : Text) (q : Option Text) → Shows rs (name, q) → perhaps_in name rs ≡ Some q
perhaps_shown rs name None shows = ap perhaps_from shows.0
perhaps_shown rs name (Some v) shows = ap perhaps_from shows.0 ∙ ap (λ b. if b then None else Some (Some v)) shows.1.0

pub shown_value : (rs : List Row) (name v : Text) → value_in name rs ≡ Some v → Shows rs (name, Some v)
shown_value rs name v is = go (first_of name rs) is
  where
    some : (t : Text) (b : Bool) → is_empty t ≡ b → (if b then None else Some t) ≡ Some v → (Some t ≡ Some v) × AllByRecursion (λ w. is_empty w ≡ false) (v ∷ [])
    some t true empty e = absurd cc
    some t false full e = (e, (ap is_empty (sym (same_Some t v e)) ∙ full, tt))

    go : (q : Option Text) → value_from q ≡ Some v → (q ≡ Some v) × AllByRecursion (λ w. is_empty w ≡ false) (v ∷ [])
    go None e = absurd cc
    go (Some t) e = some t (is_empty t) refl e

pub shown_perhaps : (rs : List Row) (name : Text) (q : Option Text) → perhaps_in name rs ≡ Some q → Shows rs (name, q)
shown_perhaps rs name q is = go (first_of name rs) is
  where
    some : (t : Text) (b : Bool) → is_empty t ≡ b → (if b then None else Some (Some t)) ≡ Some q → (Some t ≡ q) × AllByRecursion (λ w. is_empty w ≡ false) (list_of q)
    some t true empty e = absurd cc
    some t false full e =
        let same : Some t ≡ q = same_Some (Some t) q e in
        (same, subst (λ (r : Option Text). AllByRecursion (λ w. is_empty w ≡ false) (list_of r)) same (full, tt))

    go : (r : Option Text) → perhaps_from r ≡ Some q → (r ≡ q) × AllByRecursion (λ w. is_empty w ≡ false) (list_of q)
    go None e =
        let same : None ≡ q = same_Some None q e in
        (same, subst (λ (r : Option Text). AllByRecursion (λ w. is_empty w ≡ false) (list_of r)) same tt)
    go (Some t) e = some t (is_empty t) refl e
