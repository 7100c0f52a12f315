-- A scan cell that passes the test shares its pins.
use Rattle.std.proofs.Common.{ℕ, ◌≡◌, Bool, true, false, not, ◌&&◌, List, [], ◌∷◌, ◌++◌, map, length, cond, Some, inl, inr, refl, sym, ap, ap₂, ◌∙◌, arith}
use Rattle.std.specs.Str.{bytes_eq}
use Rattle.std.proofs.lemmas.Bool.{and_parts, false≢true}
use Rattle.std.proofs.lemmas.List.{length-append, length-map}
use Rattle.std.proofs.lemmas.Slice.Eq.{bytes_eq-Decides}
use Rattle.dft_cells.specs.declared.kind.Kind.{Kind}
use Rattle.dft_cells.specs.declared.kind.Kind.TheVariants as kind
use Rattle.dft_cells.specs.declared.kind.Forcing.{Forcing}
use Rattle.dft_cells.specs.declared.kind.Forcing.TheVariants as force
use Rattle.dft_cells.specs.declared.kind.Role.{Role}
use Rattle.dft_cells.specs.declared.kind.Role.TheVariants.{Output, Inverted}
use Rattle.dft_cells.specs.declared.cell.Pin.{Pin}
use Rattle.dft_library_text.specs.declared.draft.Draft.{Draft}
use Rattle.dft_cells.specs.WellFormed.{FlipFlopRoles, HasRoles, front_roles, pin_name, is_scan_role, shared_pins, scan_kind}
use Rattle.dft_library_text.specs.Reading.{same_force, are_scan_kinds, same_names, is_scan_cell}
use Rattle.dft_cells.proofs.KindLemmas.{forces_same}
use Rattle.dft_library_text.proofs.RoleLemmas.{roles_of}

-- the roles that are not there for scan alone
abbrev pub shared_roles : List Role → List Role
shared_roles [] = []
shared_roles (role ∷ roles) = cond (is_scan_role role) (shared_roles roles) (role ∷ shared_roles roles)

shared_by_role : (scan : Bool) (pin : Pin) (pins : List Pin) → is_scan_role pin.role ≡ scan → roles_of (shared_pins pins) ≡ shared_roles (roles_of pins)
    → roles_of (shared_pins (pin ∷ pins)) ≡ shared_roles (roles_of (pin ∷ pins))
shared_by_role true pin pins e h = rw e h
shared_by_role false pin pins e h = rw e (ap (λ (roles : List Role). pin.role ∷ roles) h)

roles_shared : (pins : List Pin) → roles_of (shared_pins pins) ≡ shared_roles (roles_of pins)
roles_shared [] = refl
roles_shared (pin ∷ pins) = shared_by_role (is_scan_role pin.role) pin pins refl (roles_shared pins)

-- of flip-flops that both have an inverted output, or both have none, the shared roles are the same
back_same : (front scan_front roles scan_roles : List Role) → shared_roles (scan_front ++ Output ∷ []) ≡ front ++ Output ∷ []
    → shared_roles (scan_front ++ Output ∷ Inverted ∷ []) ≡ front ++ Output ∷ Inverted ∷ [] → FlipFlopRoles front roles → FlipFlopRoles scan_front scan_roles
    → length (shared_roles scan_roles) ≡ length roles → shared_roles scan_roles ≡ roles
back_same front scan_front roles scan_roles one two (inl a) (inl b) e = rw (b, a) one
back_same front scan_front roles scan_roles one two (inr a) (inr b) e = rw (b, a) two
back_same front scan_front roles scan_roles one two (inl a) (inr b) e =
    let lengths = rw (b, a, two) at e in
    absurd (omega (arith, lengths, length-append front (Output ∷ []), length-append front (Output ∷ Inverted ∷ [])))
back_same front scan_front roles scan_roles one two (inr a) (inl b) e =
    let lengths = rw (b, a, one) at e in
    absurd (omega (arith, lengths, length-append front (Output ∷ []), length-append front (Output ∷ Inverted ∷ [])))

-- what a scan kind shares with the kind that it replaces
pub record IsScanPair (kind other : Kind) (roles scan_roles : List Role) : Type 0 where
  pub kinds : scan_kind kind ≡ Some other
  pub shared : length (shared_roles scan_roles) ≡ length roles → shared_roles scan_roles ≡ roles

-- what a flip-flop and its scan flip-flop share
shared_front : (force : Forcing) (more : List Role) → shared_roles (front_roles (record { force = force; scan = true }) ++ more) ≡ front_roles (record { force = force; scan = false }) ++ shared_roles more
shared_front force.Nothing more = refl
shared_front force.Reset more = refl
shared_front force.Set more = refl

flop_shares : (force : Forcing) (plain scan : Bool) (other : Forcing) (roles scan_roles : List Role) → (not plain && scan && same_force force other) ≡ true
    → HasRoles (kind.Flop (record { force = force; scan = plain })) roles → HasRoles (kind.Flop (record { force = other; scan = scan })) scan_roles
    → IsScanPair (kind.Flop (record { force = force; scan = plain })) (kind.Flop (record { force = other; scan = scan })) roles scan_roles
flop_shares force true scan other roles scan_roles e a b = absurd (false≢true e)
flop_shares force false false other roles scan_roles e a b = absurd (false≢true e)
flop_shares force false true other roles scan_roles e a b =
    let same = forces_same force other e in
    let its = rw (← same) at b in
    rw (← same) record {
      kinds = refl;
      shared = back_same (front_roles (record { force = force; scan = false })) (front_roles (record { force = force; scan = true })) roles scan_roles
          (shared_front force (Output ∷ [])) (shared_front force (Output ∷ Inverted ∷ [])) a its;
    }

pair_shares : (this other : Kind) (roles scan_roles : List Role) → are_scan_kinds this other ≡ true → HasRoles this roles → HasRoles other scan_roles → IsScanPair this other roles scan_roles
pair_shares (kind.Flop flop) (kind.Flop scan) roles scan_roles e a b = flop_shares flop.force flop.scan scan.scan scan.force roles scan_roles e a b
pair_shares _ _ roles scan_roles e a b = absurd (false≢true e)

names_same : (names others : List (List ℕ)) → same_names names others ≡ true → names ≡ others
names_same [] [] e = refl
names_same [] (other ∷ others) e = absurd (false≢true e)
names_same (name ∷ names) [] e = absurd (false≢true e)
names_same (name ∷ names) (other ∷ others) e =
    let (here, more) = and_parts (bytes_eq name other) (same_names names others) e in
    let first = (bytes_eq-Decides name other).0 here in
    let rest = names_same names others more in
    cc

-- pins with the same names and the same roles are the same
pins_same : (pins others : List Pin) → map pin_name pins ≡ map pin_name others → roles_of pins ≡ roles_of others → pins ≡ others
pins_same [] [] n r = refl
pins_same [] (other ∷ others) n r = absurd (cc)
pins_same (pin ∷ pins) [] n r = absurd (cc)
pins_same (pin ∷ pins) (other ∷ others) n r =
    let name : pin.name ≡ other.name = cc in
    let role : pin.role ≡ other.role = cc in
    let first : pin ≡ other = ap₂ (λ (a : List ℕ) (b : Role). let p : Pin = record { name = a; role = b } in p) name role in
    let names : map pin_name pins ≡ map pin_name others = cc in
    let roles : roles_of pins ≡ roles_of others = cc in
    ap₂ (λ (p : Pin) (ps : List Pin). p ∷ ps) first (pins_same pins others names roles)

-- a cell that can replace another has its scan kind and, but for the scan pins, its pins
pub scan_cell_shares : (other draft : Draft) → is_scan_cell other draft ≡ true → HasRoles draft.kind (roles_of draft.pins) → HasRoles other.kind (roles_of other.pins)
    → (scan_kind draft.kind ≡ Some other.kind) × (shared_pins other.pins ≡ draft.pins)
scan_cell_shares other draft e a b =
    let (kinds, names) = and_parts (are_scan_kinds draft.kind other.kind) (same_names (map pin_name (shared_pins other.pins)) (map pin_name draft.pins)) e in
    let pair = pair_shares draft.kind other.kind (roles_of draft.pins) (roles_of other.pins) kinds a b in
    let same = names_same (map pin_name (shared_pins other.pins)) (map pin_name draft.pins) names in
    let by_role = roles_shared other.pins in
    let scan_names : length (map pin_name (shared_pins other.pins)) ≡ length (shared_pins other.pins) = simp length-map in
    let own_names : length (map pin_name draft.pins) ≡ length draft.pins = simp length-map in
    let scan_roles : length (roles_of (shared_pins other.pins)) ≡ length (shared_pins other.pins) = simp length-map in
    let own_roles : length (roles_of draft.pins) ≡ length draft.pins = simp length-map in
    let lengths : length (shared_roles (roles_of other.pins)) ≡ length (roles_of draft.pins) = ap length (sym by_role) ∙ scan_roles ∙ sym scan_names ∙ ap length same ∙ own_names ∙ sym own_roles in
    (pair.kinds, pins_same (shared_pins other.pins) draft.pins same (by_role ∙ pair.shared lengths))
