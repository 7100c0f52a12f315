-- Cubes, found by their names.
use Rattle.std.proofs.Common.{ℕ, ◌<◌, ◌≤◌, ◌≡◌, ◌∙◌, List, length, Option, None, Some, option_and_then, option_copied, slice_get, Bor, MatchOption, ap, sym}
use Rattle.std.specs.List.{HoldsAt}
use Rattle.std.proofs.lemmas.Option.{slice_get_past, slice_get-get_or}
use Rattle.dft_base.specs.Lexing.{Text}
use Rattle.dft_cubes.specs.declared.cube.Cube.{Cube}
use Rattle.dft_numbered.specs.Numbers.{Entry, Finds, look_up}
use Rattle.dft_numbered.proofs.NamedLemmas.{named_at}
use Rattle.dft_certify.specs.Certifying.{cube_named, cube_names}

-- what is found is the cube of the name
pub named_none : (entries : List Entry) (cubes : List Cube) (name : Text) → Finds entries (cube_names cubes) → None ≡ look_up entries name → None ≡ cube_named cubes name
named_none entries cubes name finds is = ap (option_and_then (slice_get cubes)) (is ∙ finds name) ∙ named_at (λ (cube : Cube). cube.name) cubes name

pub named_some : (entries : List Entry) (cubes : List Cube) (name : Text) (place : ℕ) → Finds entries (cube_names cubes) → Some place ≡ look_up entries name → slice_get cubes place ≡ cube_named cubes name
named_some entries cubes name place finds is = ap (option_and_then (slice_get cubes)) (is ∙ finds name) ∙ named_at (λ (cube : Cube). cube.name) cubes name

pub cube_at : (cubes : List Cube) (place : ℕ) (o : Option (Bor Cube)) → MatchOption o (length cubes ≤ place) (λ x. (place < length cubes) × HoldsAt (λ y. x.now ≡ y) cubes place) → option_copied o ≡ slice_get cubes place
cube_at cubes place None far = sym (slice_get_past cubes place far)
cube_at cubes place (Some x) at = ap (λ (cube : Cube). Some cube) (at.1 x.now) ∙ sym (slice_get-get_or cubes place x.now at.0)
