-- What the live items of a module give is what all its items give.
use Rattle.std.proofs.Common.{ℕ, zero, suc, ◌+◌, ◌<◌, ◌≤◌, ◌≡◌, Bool, true, false, cond, List, [], ◌∷◌, ◌++◌, length, drop, get_or, map, Option, None, Some, slice_get, refl, sym, ap, subst, arith, ◌∙◌, append-nil, append_assoc, length-append}
use Rattle.dft_base.specs.Lexing.{Text}
use Rattle.dft_netlist.specs.declared.limits.TheConstants.{MAX_NETS}
use Rattle.dft_modules.specs.declared.module.SubInstance.{SubInstance}
use Rattle.dft_modules.specs.declared.module.Item.{Item}
use Rattle.dft_modules.specs.declared.module.Item.TheVariants as item
use Rattle.dft_modules.specs.Modules.{Module}
use Rattle.dft_hier.specs.declared.weights.Weight.{Weight}
use Rattle.dft_hier.specs.declared.weights.LiveItem.{LiveItem}
use Rattle.dft_hier.specs.declared.weights.LiveItem.TheVariants.{Own, Sub}
use Rattle.dft_hier.specs.Hierarchy.{subs_of, sub_of, find_module}
use Rattle.dft_hier.specs.Flat.{Parts, Giving, no_parts, and_parts, sub_parts, item_parts, moved_join, moved_instance}
use Rattle.dft_hier.specs.FlatItems.{own_parts, named_parts, live_parts}
use Rattle.dft_hier.specs.Weights.{Live, no_weight, and_item, child_for, left_by, live_from}
use Rattle.dft_hier.proofs.FitLemmas.{numbers}
use Rattle.dft_hier.proofs.LiveLemmas.{first_child}
use Rattle.dft_hier.proofs.NumberLemmas.{module_there, number_within}

-- the live items one after another, without those before
abbrev pub own_or_sub : List Weight → (place : ℕ) → (child : Option ℕ) → List LiveItem
own_or_sub weights place None = Own place ∷ []
own_or_sub weights place (Some c) = cond (get_or weights c no_weight).lives (Sub (record { item = place; child = c }) ∷ []) []

items_added : (weights : List Weight) (place : ℕ) (child : Option ℕ) (live : Live) → (and_item weights place child live).items ≡ live.items ++ own_or_sub weights place child
items_added weights place None live = refl
items_added weights place (Some c) live = by (get_or weights c no_weight).lives
  where
    by : (t : Bool) → cond t (live.items ++ Sub (record { item = place; child = c }) ∷ []) live.items ≡ live.items ++ cond t (Sub (record { item = place; child = c }) ∷ []) []
    by true = refl
    by false = sym (append-nil live.items)

-- a module instance that gives nothing gives no part, and no join of its connections
abbrev pub DeadGive : (give : Giving) (ms : List Module) (weights : List Weight) → Type 0
DeadGive give ms weights = (k : ℕ) (m : Module) → slice_get ms k ≡ Some m → (get_or weights k no_weight).lives ≡ false → (prefix : Text) (outside first : ℕ) (s : SubInstance) → sub_parts give prefix outside first s (Some m) ≡ no_parts

-- how many nets the module instances among items give
abbrev pub NetsExact : (give : Giving) (ms : List Module) (weights : List Weight) → Type 0
NetsExact give ms weights = (k : ℕ) (m : Module) → slice_get ms k ≡ Some m → (prefix : Text) (outside first : ℕ) (s : SubInstance) → length (sub_parts give prefix outside first s (Some m)).nets ≤ MAX_NETS → length (sub_parts give prefix outside first s (Some m)).nets ≡ (get_or weights k no_weight).nets

-- ---- live items give what all give

abbrev pub items_from : List Weight → (place : ℕ) → List Item → (children : List ℕ) → List LiveItem
items_from weights place [] children = []
items_from weights place (i ∷ items) children = own_or_sub weights place (child_for (sub_of i) children) ++ items_from weights (place + 1) items (left_by (sub_of i) children)

pub live_items_from : (weights : List Weight) (place : ℕ) (items : List Item) (children : List ℕ) (live : Live) → (live_from weights place items children live).items ≡ live.items ++ items_from weights place items children
live_items_from weights place [] children live = sym (append-nil live.items)
live_items_from weights place (i ∷ items) children live =
    live_items_from weights (place + 1) items (left_by (sub_of i) children) (and_item weights place (child_for (sub_of i) children) live)
    ∙ ap (λ (ls : List LiveItem). ls ++ items_from weights (place + 1) items (left_by (sub_of i) children)) (items_added weights place (child_for (sub_of i) children) live)
    ∙ append_assoc live.items (own_or_sub weights place (child_for (sub_of i) children)) (items_from weights (place + 1) items (left_by (sub_of i) children))

-- what stands from a place on
abbrev StandsFrom : (all : List Item) → (place : ℕ) → (items : List Item) → Type 0
StandsFrom all place items = (j : ℕ) → slice_get all (place + j) ≡ slice_get items j

stands_here : (all : List Item) (place : ℕ) (i : Item) (items : List Item) → StandsFrom all place (i ∷ items) → slice_get all place ≡ Some i
stands_here all place i items there = let e : place ≡ place + 0 = omega arith in ap (slice_get all) e ∙ there 0

stands_next : (all : List Item) (place : ℕ) (i : Item) (items : List Item) → StandsFrom all place (i ∷ items) → StandsFrom all (place + 1) items
stands_next all place i items there j = let e : place + 1 + j ≡ place + suc j = omega arith in ap (slice_get all) e ∙ there (suc j)

pub child_is : (ms : List Module) (c : ℕ) → c < length ms → slice_get ms c ≡ None → ⊥
child_is [] c less none = absurd (omega (arith, less))
child_is (m ∷ ms) zero less none = cc
child_is (m ∷ ms) (suc c) less none = child_is ms c (omega (arith, less)) none

pub live_parts_from : (give : Giving) (ms : List Module) (weights : List Weight) (prefix : Text) (first next : ℕ) (all : List Item) (place : ℕ) (items : List Item) (children : List ℕ) → DeadGive give ms weights → NetsExact give ms weights →
    StandsFrom all place items → numbers ms (subs_of items) ≡ map Some children → length (item_parts give ms prefix first next items).nets ≤ MAX_NETS →
    live_parts give ms weights prefix first next all (items_from weights place items children) ≡ item_parts give ms prefix first next items
live_parts_from give ms weights prefix first next all place [] children dead exact there paired few = refl
live_parts_from give ms weights prefix first next all place (item.Join j ∷ items) children dead exact there paired few =
    ap (λ (o : Option Item). and_parts (own_parts prefix first o) (live_parts give ms weights prefix first next all (items_from weights (place + 1) items children))) (stands_here all place (item.Join j) items there)
    ∙ ap (λ (p : Parts). and_parts (record { nets = []; joins = moved_join first j ∷ []; instances = [] }) p)
    (live_parts_from give ms weights prefix first next all (place + 1) items children dead exact (stands_next all place (item.Join j) items there) paired few)
live_parts_from give ms weights prefix first next all place (item.Cell i ∷ items) children dead exact there paired few =
    ap (λ (o : Option Item). and_parts (own_parts prefix first o) (live_parts give ms weights prefix first next all (items_from weights (place + 1) items children))) (stands_here all place (item.Cell i) items there)
    ∙ ap (λ (p : Parts). and_parts (record { nets = []; joins = []; instances = moved_instance prefix first i ∷ [] }) p)
    (live_parts_from give ms weights prefix first next all (place + 1) items children dead exact (stands_next all place (item.Cell i) items there) paired few)
live_parts_from give ms weights prefix first next all place (item.Sub s ∷ items) children dead exact there paired few =
    let f = first_child ms s (subs_of items) children paired in
    let c = f.0 in
    let rest = f.1.0 in
    let is = f.1.1.0 in
    let here : Parts = sub_parts give prefix first next s (find_module ms s.of) in
    let more : Parts = item_parts give ms prefix first (next + length here.nets) items in
    let size = length-append here.nets more.nets in
    ap (λ (cs : List ℕ). live_parts give ms weights prefix first next all (own_or_sub weights place (slice_get cs 0) ++ items_from weights (place + 1) items (drop 1 cs))) is
    ∙ by c (child_is ms c (number_within ms s.of c f.1.1.1)) (get_or weights c no_weight).lives refl (module_there ms s.of c f.1.1.1) (find_module ms s.of) refl rest
    (λ n. live_parts_from give ms weights prefix first n all (place + 1) items rest dead exact (stands_next all place (item.Sub s) items there) f.1.1.2) (omega arith) (omega arith)
  where
    at : slice_get all place ≡ Some (item.Sub s)
    at = stands_here all place (item.Sub s) items there

    by : (c : ℕ) → (slice_get ms c ≡ None → ⊥) → (t : Bool) → (get_or weights c no_weight).lives ≡ t → slice_get ms c ≡ find_module ms s.of → (o : Option Module) → find_module ms s.of ≡ o → (rest : List ℕ) →
        ((n : ℕ) → length (item_parts give ms prefix first n items).nets ≤ MAX_NETS → live_parts give ms weights prefix first n all (items_from weights (place + 1) items rest) ≡ item_parts give ms prefix first n items) →
        length (sub_parts give prefix first next s (find_module ms s.of)).nets ≤ MAX_NETS → length (item_parts give ms prefix first (next + length (sub_parts give prefix first next s (find_module ms s.of)).nets) items).nets ≤ MAX_NETS →
        live_parts give ms weights prefix first next all (cond t (Sub (record { item = place; child = c }) ∷ []) [] ++ items_from weights (place + 1) items rest)
        ≡ and_parts (sub_parts give prefix first next s (find_module ms s.of)) (item_parts give ms prefix first (next + length (sub_parts give prefix first next s (find_module ms s.of)).nets) items)
    by c there_is true lives is None none rest more few_here few_more = absurd (there_is (is ∙ none))
    by c there_is true lives is (Some m) found rest more few_here few_more =
        let there_m : slice_get ms c ≡ Some m = is ∙ found in
        let count : length (sub_parts give prefix first next s (find_module ms s.of)).nets ≡ (get_or weights c no_weight).nets =
        ap (λ (o : Option Module). length (sub_parts give prefix first next s o).nets) found ∙ exact c m there_m prefix first next s (subst (λ (o : Option Module). length (sub_parts give prefix first next s o).nets ≤ MAX_NETS) found few_here) in
        let named : named_parts give prefix first next (slice_get all place) (slice_get ms c) ≡ sub_parts give prefix first next s (find_module ms s.of) =
        ap (λ (o : Option Item). named_parts give prefix first next o (slice_get ms c)) at ∙ ap (sub_parts give prefix first next s) is in
        ap (λ (n : ℕ). and_parts (named_parts give prefix first next (slice_get all place) (slice_get ms c)) (live_parts give ms weights prefix first (next + n) all (items_from weights (place + 1) items rest))) (sym count)
        ∙ ap (λ (p : Parts). and_parts p (live_parts give ms weights prefix first (next + length (sub_parts give prefix first next s (find_module ms s.of)).nets) all (items_from weights (place + 1) items rest))) named
        ∙ ap (λ (p : Parts). and_parts (sub_parts give prefix first next s (find_module ms s.of)) p) (more (next + length (sub_parts give prefix first next s (find_module ms s.of)).nets) few_more)
    by c there_is false lives is o found rest more few_here few_more =
        let here = nothing c o lives (is ∙ found) found in
        let e : next ≡ next + 0 = omega arith in
        more next (subst (λ (n : ℕ). length (item_parts give ms prefix first n items).nets ≤ MAX_NETS) (sym e) (subst (λ (p : Parts). length (item_parts give ms prefix first (next + length p.nets) items).nets ≤ MAX_NETS) here few_more))
        ∙ ap (λ (n : ℕ). item_parts give ms prefix first n items) e
        ∙ ap (λ (p : Parts). and_parts p (item_parts give ms prefix first (next + length p.nets) items)) (sym here)
      where
        nothing : (c : ℕ) (o : Option Module) → (get_or weights c no_weight).lives ≡ false → slice_get ms c ≡ o → find_module ms s.of ≡ o → sub_parts give prefix first next s (find_module ms s.of) ≡ no_parts
        nothing c None lives at_c found = ap (sub_parts give prefix first next s) found
        nothing c (Some m) lives at_c found = ap (sub_parts give prefix first next s) found ∙ dead c m at_c lives prefix first next s
