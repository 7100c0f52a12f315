-- The pins that the keys of a kind name have the roles of the kind.
use Rattle.std.proofs.Common.{ℕ, zero, suc, ◌≡◌, ◌+◌, ◌≤◌, ◌==◌, ◌^◌, ◌&&◌, nat_le, Bool, true, false, cond, IsTrue, List, [], ◌∷◌, ◌++◌, map, length, replicate, Option, Some, None, option_map, Result, Ok, ◌⊎◌, inl, inr, codes, subst, refl, sym, ap, ◌∙◌, add-zero, zero-add, append-nil, append_assoc, arith}
use Rattle.std.proofs.lemmas.Bool.{and_parts, eqb-true}
use Rattle.std.proofs.lemmas.Bool.Decides.{nat_tests}
use Rattle.toml.specs.Data.{Members}
use Rattle.dft_toml.specs.Values.{name_at, has_key}
use Rattle.dft_cells.specs.declared.kind.Kind.{Kind}
use Rattle.dft_cells.specs.declared.kind.Kind.TheVariants as kind
use Rattle.dft_cells.specs.declared.kind.Gate.{Gate}
use Rattle.dft_cells.specs.declared.kind.Gate.TheVariants as gate
use Rattle.dft_cells.specs.declared.kind.Flop.{Flop}
use Rattle.dft_cells.specs.declared.kind.Forcing.{Forcing}
use Rattle.dft_cells.specs.declared.kind.Forcing.TheVariants as force
use Rattle.dft_cells.specs.declared.kind.Role.{Role}
use Rattle.dft_cells.specs.declared.kind.Role.TheVariants.{Input, Clock, Din, Reset, Preset, ScanIn, ScanEnable, Output, Inverted}
use Rattle.dft_library_text.specs.declared.keys.PinKey.{PinKey}
use Rattle.dft_library_text.specs.declared.keys.PinKey.TheVariants as key
use Rattle.dft_cells.specs.declared.cell.Pin.{Pin}
use Rattle.dft_library_text.specs.declared.refusal.Flaw.{Flaw}
use Rattle.dft_library_text.specs.declared.refusal.Flaw.TheVariants as flaw
use Rattle.dft_library_text.specs.Keys.{pin_keys, force_keys, scan_keys, flop_keys}
use Rattle.dft_cells.specs.Pins.{takes_inputs, is_tie}
use Rattle.dft_library_text.specs.Drafts.{pin_with, before_pins, pins_of, is_input, input_count, kind_takes_inputs, with_number, table_kind, fitted, number_of_rows}
use Rattle.dft_library_text.specs.Refusals.{needed, checked}
use Rattle.dft_cells.specs.WellFormed.{TakesInputs, GateRoles, FlipFlopRoles, HasRoles, force_roles, scan_roles, front_roles, role_of, pin_name, all_differ}
use Rattle.dft_library_text.proofs.Outcomes.{needed_ok, checked_ok}

abbrev pub roles_of : List Pin → List Role
roles_of pins = map role_of pins

-- pins of one role before others
roles_before : (role : Role) (names : List (List ℕ)) (more : List Pin) → roles_of (map (pin_with role) names ++ more) ≡ replicate (length names) role ++ roles_of more
roles_before role [] more = refl
roles_before role (name ∷ names) more = ap (λ (roles : List Role). role ∷ roles) (roles_before role names more)

-- a list of names at the first key
pub many_first : (role : Role) (found : Option (List (List ℕ))) (rest : Option (List Pin)) (pins : List Pin) → before_pins role found rest ≡ Some pins
    → (n : ℕ) × (more : List Pin) × (rest ≡ Some more) × (roles_of pins ≡ replicate n role ++ roles_of more)
many_first role None rest pins h = absurd (cc)
many_first role (Some names) None pins h = absurd (cc)
many_first role (Some names) (Some more) pins h =
    let same : map (pin_with role) names ++ more ≡ pins = cc in
    (length names, more, refl, ap roles_of (sym same) ∙ roles_before role names more)

-- one name at the first key
pub one_first : (role : Role) (found : Option (List ℕ)) (rest : Option (List Pin)) (pins : List Pin) → before_pins role (option_map (λ name. name ∷ []) found) rest ≡ Some pins
    → (more : List Pin) × (rest ≡ Some more) × (roles_of pins ≡ role ∷ roles_of more)
one_first role None rest pins h = absurd (cc)
one_first role (Some name) None pins h = absurd (cc)
one_first role (Some name) (Some more) pins h =
    let same : pin_with role name ∷ more ≡ pins = cc in
    (more, refl, ap roles_of (sym same))

-- perhaps one name at the first key
pub perhaps_first : (role : Role) (there : Bool) (found : Option (List ℕ)) (rest : Option (List Pin)) (pins : List Pin)
    → before_pins role (cond there (option_map (λ name. name ∷ []) found) (Some [])) rest ≡ Some pins
    → (more : List Pin) × (rest ≡ Some more) × ((roles_of pins ≡ roles_of more) ⊎ (roles_of pins ≡ role ∷ roles_of more))
perhaps_first role true found rest pins h = let (more, is, same) = one_first role found rest pins h in (more, is, inr same)
perhaps_first role false found None pins h = absurd (cc)
perhaps_first role false found (Some more) pins h = let same : more ≡ pins = cc in (more, refl, inl (ap roles_of (sym same)))

-- how many of the roles are inputs
abbrev inputs_among : List Role → ℕ
inputs_among [] = 0
inputs_among (role ∷ roles) = cond (is_input role) (1 + inputs_among roles) (inputs_among roles)

counted_by_role : (pins : List Pin) → input_count pins ≡ inputs_among (roles_of pins)
counted_by_role [] = refl
counted_by_role (pin ∷ pins) = rw (counted_by_role pins)

inputs_before : (n : ℕ) (roles : List Role) → inputs_among (replicate n Input ++ roles) ≡ n + inputs_among roles
inputs_before zero roles = sym (zero-add (inputs_among roles))
inputs_before (suc n) roles = let more = inputs_before n roles in omega (arith, more)

-- the pins of a gate or a table: its inputs and its output
gate_pins : (table : Members) (pins : List Pin) → pins_of (key.Inputs ∷ key.Output ∷ []) table ≡ Some pins
    → (n : ℕ) × (roles_of pins ≡ replicate n Input ++ Output ∷ []) × (input_count pins ≡ n)
gate_pins table pins h =
    let (n, more, rest, roles) = many_first Input _ _ pins h in
    let (last, none, output) = one_first Output _ _ more rest in
    let empty : [] ≡ last = cc in
    let all : roles_of pins ≡ replicate n Input ++ Output ∷ [] = rw (roles, output, ← empty) in
    let count : inputs_among (replicate n Input ++ Output ∷ []) ≡ n = inputs_before n (Output ∷ []) ∙ add-zero n in
    (n, all, counted_by_role pins ∙ ap inputs_among all ∙ count)

gate_roles : (takes : ℕ → Type 0) (table : Members) (pins : List Pin) → pins_of (key.Inputs ∷ key.Output ∷ []) table ≡ Some pins
    → takes (input_count pins) → GateRoles takes (roles_of pins)
gate_roles takes table pins h t =
    let (n, roles, count) = gate_pins table pins h in
    (n, subst takes count t, roles)

-- the output of a tie
tie_roles : (table : Members) (pins : List Pin) → pins_of (key.Output ∷ []) table ≡ Some pins → roles_of pins ≡ Output ∷ []
tie_roles table pins h =
    let (last, none, output) = one_first Output _ _ pins h in
    let empty : [] ≡ last = cc in
    rw (output, ← empty)

-- the outputs of a flip-flop
abbrev BackRoles : List Pin → Type 0
BackRoles pins = (roles_of pins ≡ Output ∷ []) ⊎ (roles_of pins ≡ Output ∷ Inverted ∷ [])

back_from : (pins more : List Pin) → roles_of pins ≡ Output ∷ roles_of more → ((roles_of more ≡ []) ⊎ (roles_of more ≡ Inverted ∷ [])) → BackRoles pins
back_from pins more e (inl none) = inl (rw none at e)
back_from pins more e (inr one) = inr (rw one at e)

back_roles : (table : Members) (pins : List Pin) → pins_of (key.Output ∷ key.Inverted ∷ []) table ≡ Some pins → BackRoles pins
back_roles table pins h =
    let (more, rest, output) = one_first Output _ _ pins h in
    let (last, none, inverted) = perhaps_first Inverted (has_key (codes "inverted") table) (name_at (codes "inverted") table) (Some []) more rest in
    let empty : [] ≡ last = cc in
    back_from pins more output (rw (← empty) at inverted)

-- the clock and the data input, before others
clocked : (keys : List PinKey) (table : Members) (pins : List Pin) → pins_of (key.Clock ∷ key.Din ∷ keys) table ≡ Some pins
    → (more : List Pin) × (pins_of keys table ≡ Some more) × (roles_of pins ≡ Clock ∷ Din ∷ roles_of more)
clocked keys table pins h =
    let (mid, rest, first) = one_first Clock _ _ pins h in
    let (more, others, second) = one_first Din _ _ mid rest in
    (more, others, rw (first, second))

-- the pin of a reset or a set, before others
forced : (force : Forcing) (keys : List PinKey) (table : Members) (pins : List Pin) → pins_of (force_keys force ++ keys) table ≡ Some pins
    → (more : List Pin) × (pins_of keys table ≡ Some more) × (roles_of pins ≡ force_roles force ++ roles_of more)
forced force.Nothing keys table pins h = (pins, h, refl)
forced force.Reset keys table pins h = one_first Reset _ _ pins h
forced force.Set keys table pins h = one_first Preset _ _ pins h

-- the scan pins, before others
scanned : (scan : Bool) (keys : List PinKey) (table : Members) (pins : List Pin) → pins_of (scan_keys scan ++ keys) table ≡ Some pins
    → (more : List Pin) × (pins_of keys table ≡ Some more) × (roles_of pins ≡ scan_roles scan ++ roles_of more)
scanned false keys table pins h = (pins, h, refl)
scanned true keys table pins h =
    let (mid, rest, first) = one_first ScanIn _ _ pins h in
    let (more, others, second) = one_first ScanEnable _ _ mid rest in
    (more, others, rw (first, second))

flip_flop_from : (front : List Role) (pins more : List Pin) → roles_of pins ≡ front ++ roles_of more → BackRoles more → FlipFlopRoles front (roles_of pins)
flip_flop_from front pins more e (inl back) = inl (rw back at e)
flip_flop_from front pins more e (inr back) = inr (rw back at e)

flop_roles : (flop : Flop) (table : Members) (pins : List Pin) → pins_of (flop_keys flop) table ≡ Some pins → FlipFlopRoles (front_roles flop) (roles_of pins)
flop_roles flop table pins h =
    let (mid, rest, front) = clocked (force_keys flop.force ++ (scan_keys flop.scan ++ key.Output ∷ key.Inverted ∷ [])) table pins h in
    let (last, others, force) = forced flop.force (scan_keys flop.scan ++ key.Output ∷ key.Inverted ∷ []) table mid rest in
    let (more, back, scan) = scanned flop.scan (key.Output ∷ key.Inverted ∷ []) table last others in
    let all : roles_of pins ≡ Clock ∷ Din ∷ (force_roles flop.force ++ (scan_roles flop.scan ++ roles_of more)) = rw (front, force, scan) in
    flip_flop_from (front_roles flop) pins more (all ∙ ap (λ (roles : List Role). Clock ∷ Din ∷ roles) (sym (append_assoc (force_roles flop.force) (scan_roles flop.scan) (roles_of more)))) (back_roles table more back)

lockup_roles : (table : Members) (pins : List Pin) → pins_of (pin_keys kind.Lockup) table ≡ Some pins → roles_of pins ≡ Clock ∷ Din ∷ Output ∷ []
lockup_roles table pins h =
    let (more, rest, front) = clocked (key.Output ∷ []) table pins h in
    rw (front, tie_roles table more rest)

opaque_roles : (table : Members) (pins : List Pin) → pins_of (pin_keys kind.Opaque) table ≡ Some pins → HasRoles kind.Opaque (roles_of pins)
opaque_roles table pins h =
    let (n, more, rest, inputs) = many_first Input _ _ pins h in
    let (m, last, none, outputs) = many_first Output _ _ more rest in
    let empty : [] ≡ last = cc in
    let all : roles_of pins ≡ replicate n Input ++ (replicate m Output ++ []) = rw (inputs, outputs, ← empty) in
    (n, m, rw (append-nil (replicate m Output)) at all)

-- numbers that pass a kind's test
up_to_eight : (n : ℕ) → (nat_le 1 n && nat_le n 8) ≡ true → (1 ≤ n) × (n ≤ 8)
up_to_eight n t = let (low, high) = and_parts (nat_le 1 n) (nat_le n 8) t in (grind (arith, nat_tests), grind (arith, nat_tests))

up_to_six : (n : ℕ) → (nat_le 1 n && nat_le n 6) ≡ true → (1 ≤ n) × (n ≤ 6)
up_to_six n t = let (low, high) = and_parts (nat_le 1 n) (nat_le n 6) t in (grind (arith, nat_tests), grind (arith, nat_tests))

-- the number of inputs of a gate or a table that passes its test
takes_them : (gate : Gate) (n : ℕ) → is_tie gate ≡ false → takes_inputs gate n ≡ true → TakesInputs gate n
takes_them gate.Buf n e t = eqb-true n 1 t
takes_them gate.Inv n e t = eqb-true n 1 t
takes_them gate.And n e t = up_to_eight n t
takes_them gate.Nand n e t = up_to_eight n t
takes_them gate.Or n e t = up_to_eight n t
takes_them gate.Nor n e t = up_to_eight n t
takes_them gate.Xor n e t = up_to_eight n t
takes_them gate.Xnor n e t = up_to_eight n t
takes_them gate.Mux2 n e t = eqb-true n 3 t
takes_them (gate.Table number) n e t = up_to_six n t
takes_them gate.Tie0 n e t = absurd (cc)
takes_them gate.Tie1 n e t = absurd (cc)

no_inputs : (gate : Gate) → is_tie gate ≡ true → TakesInputs gate 0
no_inputs gate.Tie0 e = refl
no_inputs gate.Tie1 e = refl
no_inputs _ e = absurd (cc)

gate_has_roles : (tie : Bool) (gate : Gate) (table : Members) (pins : List Pin) → is_tie gate ≡ tie → pins_of (cond tie (key.Output ∷ []) (key.Inputs ∷ key.Output ∷ [])) table ≡ Some pins
    → takes_inputs gate (input_count pins) ≡ true → GateRoles (TakesInputs gate) (roles_of pins)
gate_has_roles true gate table pins e h t = (0, no_inputs gate e, tie_roles table pins h)
gate_has_roles false gate table pins e h t = gate_roles (TakesInputs gate) table pins h (takes_them gate _ e t)

-- the pins that the keys of a kind name, where the number of inputs fits, have the roles of the kind
pub has_roles : (kind : Kind) (table : Members) (pins : List Pin) → pins_of (pin_keys kind) table ≡ Some pins
    → kind_takes_inputs kind (input_count pins) ≡ true → HasRoles kind (roles_of pins)
has_roles (kind.Gate gate) table pins h t = gate_has_roles (is_tie gate) gate table pins refl h t
has_roles (kind.Flop flop) table pins h t = flop_roles flop table pins h
has_roles kind.Lockup table pins h t = lockup_roles table pins h
has_roles kind.Opaque table pins h t = opaque_roles table pins h

-- a kind that is given as it is
abbrev ok_kind : Kind → Result Kind Flaw
ok_kind kind = Ok kind

-- the number of a table leaves the roles as they are
numbered : (inputs : ℕ) (rows : List ℕ) (other : Kind) (roles : List Role) (number : ℕ) → HasRoles (kind.Gate (gate.Table number)) roles → table_kind inputs rows ≡ Ok other → HasRoles other roles
numbered inputs rows other roles number h e =
    let (_, found) = checked_ok (length rows == 2 ^ inputs) flaw.Pins (needed flaw.Pins (number_of_rows rows) (λ n. ok_kind (kind.Gate (gate.Table n)))) other e in
    let (n, _, same) = needed_ok flaw.Pins (number_of_rows rows) (λ n. ok_kind (kind.Gate (gate.Table n))) other found in
    let is : kind.Gate (gate.Table n) ≡ other = cc in
    subst (λ (k : Kind). HasRoles k roles) is h

same_kind : (kind other : Kind) (roles : List Role) → HasRoles kind roles → ok_kind kind ≡ Ok other → HasRoles other roles
same_kind kind other roles h e = let is : kind ≡ other = cc in subst (λ (k : Kind). HasRoles k roles) is h

with_number_roles : (kind : Kind) (inputs : ℕ) (rows : List ℕ) (other : Kind) (roles : List Role) → HasRoles kind roles → with_number kind inputs rows ≡ Ok other → HasRoles other roles
with_number_roles (kind.Gate (gate.Table number)) inputs rows other roles h e = numbered inputs rows other roles number h e
with_number_roles this inputs rows other roles h e = same_kind this other roles h e

-- what fits a kind: the roles of its pins, and names that differ
pub fitted_parts : (kind : Kind) (table : Members) (pins : List Pin) (rows : List ℕ) (other : Kind) → pins_of (pin_keys kind) table ≡ Some pins → fitted kind pins rows ≡ Ok other
    → HasRoles other (roles_of pins) × IsTrue (all_differ (map pin_name pins))
fitted_parts kind table pins rows other h e =
    let number_of_kind = with_number kind (input_count pins) rows in
    let differing = all_differ (map pin_name pins) in
    let (takes, rest) = checked_ok (kind_takes_inputs kind (input_count pins)) flaw.Pins (checked differing flaw.Pins number_of_kind) other e in
    let (differ, number) = checked_ok differing flaw.Pins number_of_kind other rest in
    (with_number_roles kind (input_count pins) rows other (roles_of pins) (has_roles kind table pins h takes) number, differ)
