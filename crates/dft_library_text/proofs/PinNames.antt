-- The names at the keys of a cell's table are names.
use Rattle.std.proofs.Common.{codes, ℕ, ◌≡◌, Bool, true, false, cond, List, [], ◌∷◌, ◌++◌, map, Option, Some, None, option_map, option_and_then, refl, subst}
use Rattle.std.specs.List.{list_all}
use Rattle.std.proofs.lemmas.Bool.{and_parts, and_from}
use Rattle.toml.specs.Data.{Items, Members, no_items, item, as_array, as_str, get_member}
use Rattle.dft_base.specs.Names.{is_name, name_of}
use Rattle.dft_toml.specs.Values.{name_at, name_in, names_in, text_at, has_key, with_first}
use Rattle.dft_cells.specs.declared.kind.Role.{Role}
use Rattle.dft_library_text.specs.declared.keys.PinKey.{PinKey}
use Rattle.dft_library_text.specs.declared.keys.PinKey.TheVariants as key
use Rattle.dft_cells.specs.declared.cell.Pin.{Pin}
use Rattle.dft_library_text.specs.Drafts.{one_name, names_of_key, pin_with, before_pins, pins_of}
use Rattle.dft_library_text.specs.Keys.{role_of_key}
use Rattle.dft_cells.specs.WellFormed.{pin_name}

pub tested : (test : Bool) (name given : List ℕ) → cond test (Some name) None ≡ Some given → (test ≡ true) × (name ≡ given)
tested true name given e = (refl, cc)
tested false name given e = absurd (cc)

-- all of these are names
abbrev Pass : List (List ℕ) → Type 0
Pass names = list_all is_name names ≡ true

name_passes : (o : Option (List ℕ)) (name : List ℕ) → option_and_then name_of o ≡ Some name → is_name name ≡ true
name_passes None name h = absurd (cc)
name_passes (Some x) name h = let (passes, same) = tested (is_name x) x name h in subst (λ q. is_name q ≡ true) same passes

one_passes : (o : Option (List ℕ)) (names : List (List ℕ)) → ((name : List ℕ) → o ≡ Some name → is_name name ≡ true) → option_map (λ name. name ∷ []) o ≡ Some names → Pass names
one_passes None names each h = absurd (cc)
one_passes (Some x) names each h = let same : x ∷ [] ≡ names = cc in subst Pass same (and_from (is_name x) true (each x refl) refl)

at_key : (word : List ℕ) (table : Members) (names : List (List ℕ)) → one_name word table ≡ Some names → Pass names
at_key word table names h = one_passes (name_at word table) names (name_passes (text_at word table)) h

first_passes : (first : Option (List ℕ)) (rest : Option (List (List ℕ))) (names : List (List ℕ)) → ((name : List ℕ) → first ≡ Some name → is_name name ≡ true) → ((more : List (List ℕ)) → rest ≡ Some more → Pass more) →
    with_first first rest ≡ Some names → Pass names
first_passes None rest names here more h = absurd (cc)
first_passes (Some x) None names here more h = absurd (cc)
first_passes (Some x) (Some xs) names here more h = let same : x ∷ xs ≡ names = cc in subst Pass same (and_from (is_name x) (list_all is_name xs) (here x refl) (more xs refl))

items_pass : (items : Items) (names : List (List ℕ)) → names_in items ≡ Some names → Pass names
items_pass no_items names h = let empty : [] ≡ names = cc in subst Pass empty refl
items_pass (item value rest) names h = first_passes (name_in value) (names_in rest) names (name_passes (as_str value)) (items_pass rest) h

list_passes : (o : Option Items) (names : List (List ℕ)) → option_and_then names_in o ≡ Some names → Pass names
list_passes None names h = absurd (cc)
list_passes (Some items) names h = items_pass items names h

perhaps_passes : (there : Bool) (o : Option (List (List ℕ))) (names : List (List ℕ)) → (o ≡ Some names → Pass names) → cond there o (Some []) ≡ Some names → Pass names
perhaps_passes true o names passes h = passes h
perhaps_passes false o names passes h = let empty : [] ≡ names = cc in subst Pass empty refl

key_passes : (k : PinKey) (table : Members) (names : List (List ℕ)) → names_of_key k table ≡ Some names → Pass names
key_passes key.Inputs table names h = list_passes (option_and_then as_array (get_member (codes "inputs") table)) names h
key_passes key.Outputs table names h = list_passes (option_and_then as_array (get_member (codes "outputs") table)) names h
key_passes key.Inverted table names h = perhaps_passes (has_key (codes "inverted") table) (one_name (codes "inverted") table) names (at_key (codes "inverted") table names) h
key_passes key.Output table names h = at_key (codes "output") table names h
key_passes key.Clock table names h = at_key (codes "clock") table names h
key_passes key.Din table names h = at_key (codes "din") table names h
key_passes key.Reset table names h = at_key (codes "reset") table names h
key_passes key.Set table names h = at_key (codes "set") table names h
key_passes key.ScanIn table names h = at_key (codes "scan_in") table names h
key_passes key.ScanEnable table names h = at_key (codes "scan_enable") table names h

-- pins of some names before others
before_pass : (role : Role) (names : List (List ℕ)) (more : List Pin) → Pass names → Pass (map pin_name more) → Pass (map pin_name (map (pin_with role) names ++ more))
before_pass role [] more h g = g
before_pass role (x ∷ names) more h g =
    let (here, rest) = and_parts (is_name x) (list_all is_name names) h in
    and_from (is_name x) (list_all is_name (map pin_name (map (pin_with role) names ++ more))) here (before_pass role names more rest g)

some_pass : (role : Role) (found : Option (List (List ℕ))) (rest : Option (List Pin)) (pins : List Pin) → ((names : List (List ℕ)) → found ≡ Some names → Pass names) → ((more : List Pin) → rest ≡ Some more → Pass (map pin_name more)) →
    before_pins role found rest ≡ Some pins → Pass (map pin_name pins)
some_pass role None rest pins here more h = absurd (cc)
some_pass role (Some names) None pins here more h = absurd (cc)
some_pass role (Some names) (Some others) pins here more h =
    let same : map (pin_with role) names ++ others ≡ pins = cc in
    subst (λ ps. Pass (map pin_name ps)) same (before_pass role names others (here names refl) (more others refl))

pub pins_pass : (keys : List PinKey) (table : Members) (pins : List Pin) → pins_of keys table ≡ Some pins → list_all is_name (map pin_name pins) ≡ true
pins_pass [] table pins h = let empty : [] ≡ pins = cc in subst (λ ps. Pass (map pin_name ps)) empty refl
pins_pass (k ∷ keys) table pins h = some_pass (role_of_key k) (names_of_key k table) (pins_of keys table) pins (key_passes k table) (pins_pass keys table) h
