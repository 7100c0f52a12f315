-- The pins of an instance, one after another.
use Rattle.std.proofs.Common.{ℕ, zero, suc, Bool, false, List, [], ◌∷◌, ◌≡◌, ◌<◌, ◌≤◌, ◌+◌, ◌++◌, None, Some, length, map, drop, add-one, refl, sym, ap, ◌∙◌, subst, get_or, slice_get, append_assoc, arith}
use Rattle.std.specs.Prelude.{if◌then◌else◌}
use Rattle.std.proofs.lemmas.List.{get_or_default, drop_all, drop_more}
use Rattle.std.proofs.lemmas.Option.{get_or_from_slice_get, slice_get-get_or}
use Rattle.dft_cells.specs.declared.kind.Role.{Role}
use Rattle.dft_netlist.specs.declared.instance.Signal.{Signal}
use Rattle.dft_netlist.specs.Drivers.{Connection, source_of, connections_from}
use Rattle.dft_netlist.specs.Connections.{same_role}
use Rattle.dft_logic.specs.declared.circuit.Operand.{Operand}
use Rattle.dft_logic.specs.declared.wires.Wire.{Wire}
use Rattle.dft_logic.specs.Circuit.{source_at}
use Rattle.dft_logic.specs.Compiling.{Wired, wired_at, wired_by, found_in}

-- a pin of another role is passed over
pub find_more : (wires : List Wire) (role : Role) (j : ℕ) (d : Wire) → j < length wires → same_role role (get_or wires j d).role ≡ false →
    found_in role (map wired_at (drop (j + 1) wires)) ≡ found_in role (map wired_at (drop j wires))
find_more wires role j d less other =
    sym (ap (λ (l : List Wire). found_in role (map wired_at l)) (drop_more wires j d less)
    ∙ ap (λ (b : Bool). if b then Some (source_at (get_or wires j d).source) else found_in role (map wired_at (drop (j + 1) wires))) other)

-- one pin more
pub wire_more : (roles : List Role) (signals : List Signal) (j : ℕ) (r : Role) (s : Signal) → j < length roles → j < length signals → get_or roles j r ≡ r → get_or signals j s ≡ s →
    connections_from j (drop j roles) (drop j signals) ≡ record { role = r; pin = j; to = s } ∷ connections_from (j + 1) (drop (j + 1) roles) (drop (j + 1) signals)
wire_more roles signals j r s a b rr ss =
    let f : drop j roles ≡ r ∷ drop (j + 1) roles = drop_more roles j r a ∙ ap (λ (x : Role). x ∷ drop (j + 1) roles) rr in
    let g : drop j signals ≡ s ∷ drop (j + 1) signals = drop_more signals j s b ∙ ap (λ (x : Signal). x ∷ drop (j + 1) signals) ss in
    (λ i. connections_from j (f i) (g i)) ∙ rw (add-one) refl

pub wire_step : (so_far : List Wired) (w : Wired) (whole : List Wired) (number : ℕ) (roles : List Role) (signals : List Signal) (j : ℕ) (r : Role) (s : Signal) → j < length roles → j < length signals → get_or roles j r ≡ r → get_or signals j s ≡ s →
    w ≡ (r, source_of number j s) → so_far ++ map (wired_by number) (connections_from j (drop j roles) (drop j signals)) ≡ whole →
    (so_far ++ w ∷ []) ++ map (wired_by number) (connections_from (j + 1) (drop (j + 1) roles) (drop (j + 1) signals)) ≡ whole
wire_step so_far w whole number roles signals j r s a b rr ss is before =
    append_assoc so_far (w ∷ []) _
    ∙ ap (λ (v : Wired). so_far ++ v ∷ map (wired_by number) (connections_from (j + 1) (drop (j + 1) roles) (drop (j + 1) signals))) is
    ∙ sym (ap (λ (l : List Connection). so_far ++ map (wired_by number) l) (wire_more roles signals j r s a b rr ss))
    ∙ before

map_append : (xs : List Wire) (w : Wire) → map wired_at (xs ++ w ∷ []) ≡ map wired_at xs ++ wired_at w ∷ []
map_append [] w = refl
map_append (x ∷ xs) w = ap (λ (l : List Wired). wired_at x ∷ l) (map_append xs w)

-- the pins so far are these wires
abbrev pub Wiring : (roles : List Role) (pins : List Signal) (number : ℕ) (whole : List Wired) (wires : List Wire) (j : ℕ) → Type 0
Wiring roles pins number whole wires j = map wired_at wires ++ map (wired_by number) (connections_from j (drop j roles) (drop j pins)) ≡ whole

pub wiring_more : (roles : List Role) (pins items : List Signal) (number : ℕ) (whole : List Wired) (old new : List Wire) (j : ℕ) (role : Role) (source : Operand) (d : Signal) → items ≡ pins → (less : j < length items) → (width : length pins ≡ length roles) →
    (named : Some role ≡ slice_get roles j) → (is : source_at source ≡ source_of number j (get_or items j d)) → (grown : new ≡ old ++ record { role = role; source = source } ∷ []) → Wiring roles pins number whole old j → Wiring roles pins number whole new (j + 1)
wiring_more roles pins items number whole old new j role source d e less width named is grown w =
    let s : Signal = get_or items j d in
    let a : j < length pins = omega (arith, ap length e) in
    let b : j < length roles = omega arith in
    let rr : get_or roles j role ≡ role = get_or_from_slice_get roles j role role (sym named) in
    let ss : get_or pins j s ≡ s = sym (ap (λ (l : List Signal). get_or l j s) e) ∙ get_or_default items j s d less in
    let at : slice_get pins j ≡ Some s = slice_get-get_or pins j s a ∙ ap (λ (x : Signal). Some x) ss in
    let wire : Wire = record { role = role; source = source } in
    let P : List Wire → Type 0 = λ l. map wired_at l ++ map (wired_by number) (connections_from (j + 1) (drop (j + 1) roles) (drop (j + 1) pins)) ≡ whole in
    let Q : List Wired → Type 0 = λ l. l ++ map (wired_by number) (connections_from (j + 1) (drop (j + 1) roles) (drop (j + 1) pins)) ≡ whole in
    let pair : wired_at wire ≡ (role, source_of number j s) = λ i. (role, is i) in
    subst P (sym grown) (subst Q (sym (map_append old wire)) (wire_step (map wired_at old) (wired_at wire) whole number roles pins j role s b a rr ss pair w))

pub none_past : (roles : List Role) (j : ℕ) → slice_get roles j ≡ None → j < length roles → ⊥
none_past [] j none less = omega arith
none_past (r ∷ roles) zero none less = cc
none_past (r ∷ roles) (suc j) none less = none_past roles j none (omega arith)

nil_right : (xs : List Wired) → xs ++ [] ≡ xs
nil_right [] = refl
nil_right (x ∷ xs) = ap (λ (l : List Wired). x ∷ l) (nil_right xs)

no_more : (number j : ℕ) (signals : List Signal) → map (wired_by number) (connections_from j [] signals) ≡ []
no_more number j signals = refl

pub wiring_end : (roles : List Role) (pins : List Signal) (number : ℕ) (whole : List Wired) (wires : List Wire) (j : ℕ) → length roles ≤ j → Wiring roles pins number whole wires j → map wired_at wires ≡ whole
wiring_end roles pins number whole wires j past w =
    let e : map (wired_by number) (connections_from j (drop j roles) (drop j pins)) ≡ [] = ap (λ (l : List Role). map (wired_by number) (connections_from j l (drop j pins))) (drop_all j roles past) ∙ no_more number j (drop j pins) in
    sym (nil_right (map wired_at wires)) ∙ sym (ap (λ (l : List Wired). map wired_at wires ++ l) e) ∙ w
