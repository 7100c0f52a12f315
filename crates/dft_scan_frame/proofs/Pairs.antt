-- What a library keeps makes a flip-flop and its scan cell a pair.
use Rattle.std.proofs.Common.{◌≡◌, Bool, true, false, List, ◌∷◌, ◌++◌, map, Some, refl, sym, subst, ap, inl, inr, []}
use Rattle.std.specs.Prelude.{if◌then◌else◌}
use Rattle.std.proofs.lemmas.Option.{none-some, same_Some}
use Rattle.dft_cells.specs.declared.kind.Kind.{Kind}
use Rattle.dft_cells.specs.declared.kind.Kind.TheVariants as cell_kind
use Rattle.dft_cells.specs.declared.kind.Forcing.{Forcing}
use Rattle.dft_cells.specs.declared.kind.Forcing.TheVariants as force
use Rattle.dft_cells.specs.declared.kind.Role.{Role}
use Rattle.dft_cells.specs.declared.kind.Role.TheVariants.{Output, Inverted}
use Rattle.dft_cells.specs.declared.cell.Pin.{Pin}
use Rattle.dft_cells.specs.WellFormed.{HasRoles, front_roles, role_of, scan_kind, is_scan_role, shared_pins}
use Rattle.dft_scan_frame.proofs.ScanPairs.{plain_flop, scan_flop, ScanPair, Plain, PlainBoth, Resets, ResetsBoth, Sets, SetsBoth}

-- the roles that are not there for scan alone
abbrev pub shared_roles : List Role → List Role
shared_roles [] = []
shared_roles (r ∷ roles) = if is_scan_role r then shared_roles roles else r ∷ shared_roles roles

shared_more : (b : Bool) (p : Pin) (xs : List Pin) (ys : List Role) → map role_of xs ≡ ys → map role_of (if b then xs else p ∷ xs) ≡ (if b then ys else p.role ∷ ys)
shared_more true p xs ys e = e
shared_more false p xs ys e = ap (λ rs. p.role ∷ rs) e

pub roles_of_shared : (pins : List Pin) → map role_of (shared_pins pins) ≡ shared_roles (map role_of pins)
roles_of_shared [] = refl
roles_of_shared (p ∷ pins) = shared_more (is_scan_role p.role) p (shared_pins pins) (shared_roles (map role_of pins)) (roles_of_shared pins)

-- a flip-flop with one output, and one with both
one_output : (its : Forcing) → ScanPair (plain_flop its) (front_roles (record { force = its; scan = false }) ++ Output ∷ []) (scan_flop its) (front_roles (record { force = its; scan = true }) ++ Output ∷ [])
one_output force.Nothing = Plain
one_output force.Reset = Resets
one_output force.Set = Sets

both_outputs : (its : Forcing) → ScanPair (plain_flop its) (front_roles (record { force = its; scan = false }) ++ Output ∷ Inverted ∷ []) (scan_flop its) (front_roles (record { force = its; scan = true }) ++ Output ∷ Inverted ∷ [])
both_outputs force.Nothing = PlainBoth
both_outputs force.Reset = ResetsBoth
both_outputs force.Set = SetsBoth

shared_front : (its : Forcing) (more : List Role) → front_roles (record { force = its; scan = false }) ++ shared_roles more ≡ shared_roles (front_roles (record { force = its; scan = true }) ++ more)
shared_front force.Nothing more = refl
shared_front force.Reset more = refl
shared_front force.Set more = refl

flop_pair : (its : Forcing) (old new : List Role) → HasRoles (scan_flop its) new → old ≡ shared_roles new → ScanPair (plain_flop its) old (scan_flop its) new
flop_pair its old new roles is = subst (λ (o : List Role). ScanPair (plain_flop its) o (scan_flop its) new) (sym is) (elim roles [
  | inl e ↦ subst (λ (n : List Role). ScanPair (plain_flop its) (shared_roles n) (scan_flop its) n) (sym e)
      (subst (λ (o : List Role). ScanPair (plain_flop its) o (scan_flop its) (front_roles (record { force = its; scan = true }) ++ Output ∷ [])) (shared_front its (Output ∷ [])) (one_output its))
  | inr e ↦ subst (λ (n : List Role). ScanPair (plain_flop its) (shared_roles n) (scan_flop its) n) (sym e)
      (subst (λ (o : List Role). ScanPair (plain_flop its) o (scan_flop its) (front_roles (record { force = its; scan = true }) ++ Output ∷ Inverted ∷ [])) (shared_front its (Output ∷ Inverted ∷ [])) (both_outputs its))
])

pair_by : (its : Forcing) (scan : Bool) (other : Kind) (old new : List Role) → scan_kind (cell_kind.Flop (record { force = its; scan = scan })) ≡ Some other → HasRoles other new → old ≡ shared_roles new
    → ScanPair (cell_kind.Flop (record { force = its; scan = scan })) old other new
pair_by its true other old new fits roles is = absurd (none-some other fits)
pair_by its false other old new fits roles is = subst (λ (k : Kind). HasRoles k new → ScanPair (plain_flop its) old k new) (same_Some (scan_flop its) other fits) (λ r. flop_pair its old new r is) roles

-- a cell and the scan cell that it names
pub pair_of : (kind scan : Kind) (old new : List Role) → scan_kind kind ≡ Some scan → HasRoles scan new → old ≡ shared_roles new → ScanPair kind old scan new
pair_of (cell_kind.Flop flop) scan old new fits roles is = pair_by flop.force flop.scan scan old new fits roles is
pair_of _ scan old new fits roles is = absurd (none-some scan fits)
