-- Spots of instances: each stands once, each path has its own, and each has its cell.
use Rattle.std.proofs.Common.{ℕ, zero, suc, ◌+◌, ◌<◌, ◌≤◌, ◌≡◌, ◌⊎◌, inl, inr, List, [], ◌∷◌, ◌++◌, length, Option, None, Some, option_and_then, slice_get, refl, sym, ap, subst, arith, ◌∙◌, append_assoc, append-nil}
use Rattle.dft_base.specs.Lexing.{Text}
use Rattle.dft_netlist.specs.declared.instance.Instance.{Instance}
use Rattle.dft_modules.specs.declared.module.SubInstance.{SubInstance}
use Rattle.dft_modules.specs.declared.module.Item.{Item}
use Rattle.dft_modules.specs.declared.module.Item.TheVariants as item
use Rattle.dft_modules.specs.Modules.{Module}
use Rattle.dft_hier.specs.Hierarchy.{subs_of, cells_of, find_module}
use Rattle.dft_hier.specs.Flat.{Parts, Giving, sub_parts, item_parts, parts_within, inside}
use Rattle.dft_hier.specs.Laws.{IsInstanceAt}
use Rattle.dft_hier.specs.Paths.{Path, Spot, Finding, module_of, module_at, below, sub_spots, item_spots, instance_spots_within}
use Rattle.dft_hier.proofs.PartLemmas.{StandsTall, Rises}
use Rattle.dft_hier.proofs.SpotLemmas.{spot, Among, AreOnce, either, among_left, among_right, once_both, IsUnder, IsThrough, same_place, never_above, module_below, one_under, one_once}

-- a spot stands at this path, from this number on
pub record IsOwn (path : Path) (from : ℕ) (s : Spot) : Type 0 where
  pub same : s.path ≡ path
  pub least : from ≤ s.at

module _ (find : Finding) (ms : List Module) (under : (path : Path) (m : Module) (k : ℕ) (s : Spot) → slice_get (find path m) k ≡ Some s → IsUnder path s) where
  pub items_cases : (path : Path) (cell place : ℕ) (items : List Item) (k : ℕ) (s : Spot) → slice_get (item_spots find ms path cell place items) k ≡ Some s → IsOwn path cell s ⊎ IsThrough path place s
  items_cases path cell place [] k s at = absurd (let f : ⊥ = cc in f)
  items_cases path cell place (item.Join j ∷ items) k s at = items_cases path cell place items k s at
  items_cases path cell place (item.Cell i ∷ items) zero s at =
      let e : spot path cell ≡ s = cc in
      let number = ap (λ (x : Spot). x.at) e in
      inl (record { same = ap (λ (x : Spot). x.path) (sym e); least = omega arith })
  items_cases path cell place (item.Cell i ∷ items) (suc k) s at = elim (items_cases path (suc cell) place items k s at) [
    | inl own ↦ (let less = own.least in inl (record { same = own.same; least = omega arith }))
    | inr deep ↦ inr deep
  ]
  items_cases path cell place (item.Sub x ∷ items) k s at = elim (either (sub_spots find (below path place) (find_module ms x.of)) (item_spots find ms path cell (suc place) items) k s at) [
    | inl front ↦ inr (record { place = place; least = omega arith; under = one_under find ms under (below path place) (find_module ms x.of) front.number s front.at })
    | inr back ↦ elim (items_cases path cell (suc place) items back.number s back.at) [
      | inl own ↦ inl own
      | inr deep ↦ (let less = deep.least in inr (record { place = deep.place; least = omega arith; under = deep.under }))
    ]
  ]

  pub items_once : (path : Path) (cell place : ℕ) (items : List Item) → ((p : Path) (m : Module) → AreOnce (find p m)) → AreOnce (item_spots find ms path cell place items)
  items_once path cell place [] each = tt
  items_once path cell place (item.Join j ∷ items) each = items_once path cell place items each
  items_once path cell place (item.Cell i ∷ items) each = (
    (λ k at. elim (items_cases path (suc cell) place items k (spot path cell) at) [
      | inl own ↦ (let less = own.least in absurd (omega arith))
      | inr deep ↦ never_above path deep.under.more deep.place deep.under.is
    ]),
    items_once path (suc cell) place items each,
  )
  items_once path cell place (item.Sub x ∷ items) each =
      once_both (sub_spots find (below path place) (find_module ms x.of)) (item_spots find ms path cell (suc place) items) (one_once find ms under (below path place) (find_module ms x.of) each) (items_once path cell (suc place) items each)
      (λ a b s p q. (
      let here = one_under find ms under (below path place) (find_module ms x.of) a s p in
      elim (items_cases path cell (suc place) items b s q) [
        | inl own ↦ never_above path here.more place (sym own.same ∙ here.is)
        | inr deep ↦ (
            let same = same_place path here.more deep.under.more place deep.place (sym here.is ∙ deep.under.is) in
            let less = deep.least in
            absurd (omega arith))
      ]))

pub instances_under : (ms : List Module) (depth : ℕ) (path : Path) (m : Module) (k : ℕ) (s : Spot) → slice_get (instance_spots_within depth ms path m) k ≡ Some s → IsUnder path s
instances_under ms zero path m k s at = absurd (let f : ⊥ = cc in f)
instances_under ms (suc depth) path m k s at = elim (items_cases (instance_spots_within depth ms) ms (λ p x i t is. instances_under ms depth p x i t is) path 0 0 m.items k s at) [
  | inl own ↦ record { more = []; is = own.same ∙ sym (append-nil path) }
  | inr deep ↦ record { more = deep.place ∷ deep.under.more; is = deep.under.is ∙ append_assoc path (deep.place ∷ []) deep.under.more }
]

pub instances_once : (ms : List Module) (depth : ℕ) (path : Path) (m : Module) → AreOnce (instance_spots_within depth ms path m)
instances_once ms zero path m = tt
instances_once ms (suc depth) path m = items_once (instance_spots_within depth ms) ms (λ p x i t is. instances_under ms depth p x i t is) path 0 0 m.items (λ p x. instances_once ms depth p x)

-- ---- each path has its own

own_among : (find : Finding) (ms : List Module) (path : Path) (cell place : ℕ) (items : List Item) (at : ℕ) → at < length (cells_of items) → Among (item_spots find ms path cell place items) (spot path (cell + at))
own_among find ms path cell place [] at less = absurd (omega (arith, less))
own_among find ms path cell place (item.Join j ∷ items) at less = own_among find ms path cell place items at less
own_among find ms path cell place (item.Cell i ∷ items) zero less = let e : cell ≡ cell + 0 = omega arith in record { number = 0; at = ap (λ (n : ℕ). Some (spot path n)) e }
own_among find ms path cell place (item.Cell i ∷ items) (suc at) less =
    let e : suc cell + at ≡ cell + suc at = omega arith in
    let r = own_among find ms path (suc cell) place items at (omega (arith, less)) in
    record { number = suc r.number; at = r.at ∙ ap (λ (n : ℕ). Some (spot path n)) e }
own_among find ms path cell place (item.Sub x ∷ items) at less =
    let r = own_among find ms path cell (suc place) items at less in
    among_right (sub_spots find (below path place) (find_module ms x.of)) (item_spots find ms path cell (suc place) items) r.number (spot path (cell + at)) r.at

deep_among : (find : Finding) (ms : List Module) (path : Path) (cell from place : ℕ) (items : List Item) (x : SubInstance) (m : Module) (s : Spot) → slice_get (subs_of items) place ≡ Some x → find_module ms x.of ≡ Some m → Among (find (below path (from + place)) m) s →
    Among (item_spots find ms path cell from items) s
deep_among find ms path cell from place [] x m s at is there = absurd (let f : ⊥ = cc in f)
deep_among find ms path cell from place (item.Join j ∷ items) x m s at is there = deep_among find ms path cell from place items x m s at is there
deep_among find ms path cell from place (item.Cell i ∷ items) x m s at is there = let r = deep_among find ms path (suc cell) from place items x m s at is there in record { number = suc r.number; at = r.at }
deep_among find ms path cell from zero (item.Sub y ∷ items) x m s at is there =
    let e : y ≡ x = cc in
    let start : from + 0 ≡ from = omega arith in
    let here : find (below path (from + 0)) m ≡ sub_spots find (below path from) (find_module ms y.of) =
    ap (λ (n : ℕ). find (below path n) m) start ∙ ap (sub_spots find (below path from)) (sym is) ∙ ap (λ (z : SubInstance). sub_spots find (below path from) (find_module ms z.of)) (sym e) in
    among_left (sub_spots find (below path from) (find_module ms y.of)) (item_spots find ms path cell (suc from) items) there.number s (ap (λ (xs : List Spot). slice_get xs there.number) (sym here) ∙ there.at)
deep_among find ms path cell from (suc place) (item.Sub y ∷ items) x m s at is there =
    let next : from + suc place ≡ suc from + place = omega arith in
    let r = deep_among find ms path cell (suc from) place items x m s at is (subst (λ (n : ℕ). Among (find (below path n) m) s) next there) in
    among_right (sub_spots find (below path from) (find_module ms y.of)) (item_spots find ms path cell (suc from) items) r.number s r.at

pub instances_all : (ms : List Module) (depth : ℕ) (m : Module) → StandsTall ms depth m → (base path : Path) (target : Module) (at : ℕ) → module_at ms path m ≡ Some target → at < length (cells_of target.items) → Among (instance_spots_within depth ms base m) (spot (base ++ path) at)
instances_all ms zero m tall base path target at is less = elim tall [ ]
instances_all ms (suc depth) m (Rises each) base [] target at is less =
    let e : m ≡ target = cc in
    let size = ap (λ (x : Module). length (cells_of x.items)) e in
    let start : 0 + at ≡ at = omega arith in
    let r = subst (λ (n : ℕ). Among (item_spots (instance_spots_within depth ms) ms base 0 0 m.items) (spot base n)) start (own_among (instance_spots_within depth ms) ms base 0 0 m.items at (omega arith)) in
    subst (λ (p : Path). Among (instance_spots_within (suc depth) ms base m) (spot p at)) (sym (append-nil base)) r
instances_all ms (suc depth) m (Rises each) base (place ∷ path) target at is less =
    let b = module_below ms path target (slice_get (subs_of m.items) place) is in
    let start : place ≡ 0 + place = omega arith in
    let rest = instances_all ms depth b.inner (each place b.sub b.inner b.at b.found) (below base place) path target at b.rest less in
    let deep = deep_among (instance_spots_within depth ms) ms base 0 0 place m.items b.sub b.inner (spot (below base place ++ path) at) b.at b.found (subst (λ (n : ℕ). Among (instance_spots_within depth ms (below base n) b.inner) (spot (below base place ++ path) at)) start rest) in
    subst (λ (p : Path). Among (instance_spots_within (suc depth) ms base m) (spot p at)) (append_assoc base (place ∷ []) path) deep

-- ---- each has its cell

abbrev pub AreMatched : (List Module) → (top : Module) → List Spot → List Instance → Type 0
AreMatched ms top [] [] = Unit {0}
AreMatched ms top (s ∷ spots) (i ∷ instances) = IsInstanceAt ms top s i × AreMatched ms top spots instances
AreMatched ms top [] (i ∷ instances) = ⊥
AreMatched ms top (s ∷ spots) [] = ⊥

matched_both : (ms : List Module) (top : Module) (xs ys : List Spot) (is js : List Instance) → AreMatched ms top xs is → AreMatched ms top ys js → AreMatched ms top (xs ++ ys) (is ++ js)
matched_both ms top [] ys [] js h k = k
matched_both ms top (s ∷ xs) ys (i ∷ is) js h k = (h.0, matched_both ms top xs ys is js h.1 k)
matched_both ms top [] ys (i ∷ is) js h k = absurd h
matched_both ms top (s ∷ xs) ys [] js h k = absurd h

pub matched_count : (ms : List Module) (top : Module) (spots : List Spot) (is : List Instance) → AreMatched ms top spots is → length is ≡ length spots
matched_count ms top [] [] h = refl
matched_count ms top (s ∷ spots) (i ∷ is) h = ap suc (matched_count ms top spots is h.1)
matched_count ms top [] (i ∷ is) h = absurd h
matched_count ms top (s ∷ spots) [] h = absurd h

pub matched_at : (ms : List Module) (top : Module) (spots : List Spot) (is : List Instance) (k : ℕ) (s : Spot) (i : Instance) → AreMatched ms top spots is → slice_get spots k ≡ Some s → slice_get is k ≡ Some i → IsInstanceAt ms top s i
matched_at ms top [] is k s i h p q = absurd (let f : ⊥ = cc in f)
matched_at ms top (x ∷ spots) [] k s i h p q = absurd h
matched_at ms top (x ∷ spots) (y ∷ is) zero s i h p q =
    let e : x ≡ s = cc in
    let f : y ≡ i = cc in
    subst (λ (t : Spot). IsInstanceAt ms top t i) e (subst (λ (j : Instance). IsInstanceAt ms top x j) f h.0)
matched_at ms top (x ∷ spots) (y ∷ is) (suc k) s i h p q = matched_at ms top spots is k s i h.1 p q

-- the module of an instance of the module at a path stands at the path below
pub module_on : (ms : List Module) (path : Path) (top m inner : Module) (place : ℕ) (x : SubInstance) → module_at ms path top ≡ Some m → slice_get (subs_of m.items) place ≡ Some x → find_module ms x.of ≡ Some inner → module_at ms (below path place) top ≡ Some inner
module_on ms [] top m inner place x is at found =
    let e : top ≡ m = cc in
    ap (λ (y : Module). option_and_then (module_at ms []) (module_of ms (slice_get (subs_of y.items) place))) e ∙ ap (λ (o : Option SubInstance). option_and_then (module_at ms []) (module_of ms o)) at ∙ ap (option_and_then (module_at ms [])) found
module_on ms (p ∷ path) top m inner place x is at found =
    let b = module_below ms path m (slice_get (subs_of top.items) p) is in
    ap (λ (o : Option SubInstance). option_and_then (module_at ms (below path place)) (module_of ms o)) b.at ∙ ap (option_and_then (module_at ms (below path place))) b.found ∙ module_on ms path b.inner m inner place x b.rest at found

module _ (give : Giving) (find : Finding) (ms : List Module) (top : Module) (deep : (prefix : Text) (first : ℕ) (path : Path) (inner : Module) → module_at ms path top ≡ Some inner → AreMatched ms top (find path inner) (give prefix first inner).instances) where
  one_matched : (prefix : Text) (outside first : ℕ) (path : Path) (x : SubInstance) (o : Option Module) → ((inner : Module) → o ≡ Some inner → module_at ms path top ≡ Some inner) → AreMatched ms top (sub_spots find path o) (sub_parts give prefix outside first x o).instances
  one_matched prefix outside first path x None is = tt
  one_matched prefix outside first path x (Some inner) is = deep (inside prefix x.name) first path inner (is inner refl)

  pub items_matched : (prefix : Text) (first next : ℕ) (path : Path) (m : Module) (cell place : ℕ) (items : List Item) → module_at ms path top ≡ Some m → ((j : ℕ) → slice_get (cells_of m.items) (cell + j) ≡ slice_get (cells_of items) j) →
      ((j : ℕ) → slice_get (subs_of m.items) (place + j) ≡ slice_get (subs_of items) j) → AreMatched ms top (item_spots find ms path cell place items) (item_parts give ms prefix first next items).instances
  items_matched prefix first next path m cell place [] at cells subs = tt
  items_matched prefix first next path m cell place (item.Join j ∷ items) at cells subs = items_matched prefix first next path m cell place items at cells subs
  items_matched prefix first next path m cell place (item.Cell i ∷ items) at cells subs = (
    record { m = m; at = at; there = i; there_at = (let e : cell ≡ cell + 0 = omega arith in ap (slice_get (cells_of m.items)) e ∙ cells 0); cell = refl },
    items_matched prefix first next path m (suc cell) place items at (λ j. (let e : suc cell + j ≡ cell + suc j = omega arith in ap (slice_get (cells_of m.items)) e ∙ cells (suc j))) subs,
  )
  items_matched prefix first next path m cell place (item.Sub x ∷ items) at cells subs =
      let here : Parts = sub_parts give prefix first next x (find_module ms x.of) in
      matched_both ms top (sub_spots find (below path place) (find_module ms x.of)) (item_spots find ms path cell (suc place) items) here.instances (item_parts give ms prefix first (next + length here.nets) items).instances
      (one_matched prefix first next (below path place) x (find_module ms x.of) (λ inner found. module_on ms path top m inner place x at (let e : place ≡ place + 0 = omega arith in ap (slice_get (subs_of m.items)) e ∙ subs 0) found))
      (items_matched prefix first (next + length here.nets) path m cell (suc place) items at cells (λ j. (let e : suc place + j ≡ place + suc j = omega arith in ap (slice_get (subs_of m.items)) e ∙ subs (suc j))))

pub instances_matched : (ms : List Module) (top : Module) (depth : ℕ) (prefix : Text) (first : ℕ) (path : Path) (m : Module) → module_at ms path top ≡ Some m → AreMatched ms top (instance_spots_within depth ms path m) (parts_within depth ms prefix first m).instances
instances_matched ms top zero prefix first path m at = tt
instances_matched ms top (suc depth) prefix first path m at =
    items_matched (parts_within depth ms) (instance_spots_within depth ms) ms top (λ p f q x is. instances_matched ms top depth p f q x is) prefix first (first + length m.nets) path m 0 0 m.items at
    (λ j. (let e : 0 + j ≡ j = omega arith in ap (slice_get (cells_of m.items)) e)) (λ j. (let e : 0 + j ≡ j = omega arith in ap (slice_get (subs_of m.items)) e))
