-- Modules with their weights are laid out for a walk through their items.
use Rattle.std.proofs.Common.{ℕ, zero, suc, ◌+◌, ◌≤◌, ◌≡◌, inl, inr, Bool, true, false, cond, List, [], ◌∷◌, ◌++◌, length, drop, get_or, map, Option, None, Some, slice_get, refl, sym, ap, subst, arith, ◌∙◌, length-append}
use Rattle.std.proofs.lemmas.List.{get_or_past, length-map}
use Rattle.std.proofs.lemmas.Option.{slice_get_within}
use Rattle.std.proofs.lemmas.Bool.{cases_lt}
use Rattle.dft_base.specs.Lexing.{Text}
use Rattle.dft_cells.specs.declared.cell.Cell.{Cell}
use Rattle.dft_netlist.specs.declared.instance.Join.{Join}
use Rattle.dft_netlist.specs.declared.limits.TheConstants.{MAX_NETS}
use Rattle.dft_modules.specs.declared.module.Item.{Item}
use Rattle.dft_modules.specs.declared.module.Item.TheVariants as item
use Rattle.dft_modules.specs.Modules.{Module}
use Rattle.dft_modules.specs.Sound.{AreModules}
use Rattle.dft_hier.specs.declared.weights.Weight.{Weight}
use Rattle.dft_hier.specs.declared.weights.LiveSub.{LiveSub}
use Rattle.dft_hier.specs.declared.weights.LiveItem.{LiveItem}
use Rattle.dft_hier.specs.declared.weights.LiveItem.TheVariants.{Own, Sub}
use Rattle.dft_hier.specs.Hierarchy.{subs_of, sub_of, find_module}
use Rattle.dft_hier.specs.Numbers.{children_of}
use Rattle.dft_hier.specs.Reach.{Graph, StandsIn, children_at, NoCircle}
use Rattle.dft_hier.specs.Refusals.{first_unknown}
use Rattle.dft_hier.specs.Flat.{Parts, Giving, no_parts, and_parts, item_parts, parts_within, inside, connection_joins}
use Rattle.dft_hier.specs.FlatNets.{total_by, nets_in, subs_nets, sub_nets, items_in, IsSubAt}
use Rattle.dft_hier.specs.FlatItems.{live_parts, nets_of, live_items_at, net_total, GivesParts, step_of, item_size_in}
use Rattle.dft_hier.specs.ItemsLaid.{AreItemsLaid, IsOwnAt}
use Rattle.dft_hier.specs.Weights.{AreWeights, AreLive, Live, at_most, no_live, no_weight}
use Rattle.dft_hier.proofs.DeadLemmas.{dead_module, dead_joins}
use Rattle.dft_hier.proofs.FitLemmas.{numbers, paired_at}
use Rattle.dft_hier.proofs.FlattenLemmas.{sound_at}
use Rattle.dft_hier.proofs.HeightLemmas.{IsTall, Grows}
use Rattle.dft_hier.proofs.LaidLemmas.{IsLiveSub}
use Rattle.dft_hier.proofs.LiveLemmas.{exact_weight, first_child}
use Rattle.dft_hier.proofs.LivePartLemmas.{DeadGive, NetsExact, items_from, own_or_sub, live_items_from, live_parts_from, child_is}
use Rattle.dft_hier.proofs.NumberLemmas.{module_there, number_within}
use Rattle.dft_hier.proofs.PartLemmas.{deep_enough, nets_deep_enough, nets_same, tall_module, count_same, every_tall}
use Rattle.dft_hier.proofs.ReachLemmas.{stands_more}
use Rattle.dft_hier.proofs.ModuleLemmas.{module_at}

-- a live item is one of the module's own, or a module instance
abbrev IsGood : (ms : List Module) → (all : List Item) → (children : List ℕ) → LiveItem → Type 0
IsGood ms all children (Own place) = (i : Item) × ((slice_get all place ≡ Some i) × (sub_of i ≡ None))
IsGood ms all children (Sub l) = IsLiveSub ms all children l

good_items : (ms : List Module) (weights : List Weight) (all : List Item) (whole : List ℕ) (place : ℕ) (items : List Item) (children : List ℕ) → ((j : ℕ) → slice_get all (place + j) ≡ slice_get items j) → numbers ms (subs_of items) ≡ map Some children →
    ((k : ℕ) → StandsIn children k → StandsIn whole k) → (at : ℕ) (x : LiveItem) → slice_get (items_from weights place items children) at ≡ Some x → IsGood ms all whole x
good_items ms weights all whole place [] children there paired among at x is = absurd (let f : ⊥ = cc in f)
good_items ms weights all whole place (item.Join j ∷ items) children there paired among zero x is =
    let e : Own place ≡ x = cc in
    let at_here : slice_get all place ≡ Some (item.Join j) = (let p : place ≡ place + 0 = omega arith in ap (slice_get all) p ∙ there 0) in
    subst (IsGood ms all whole) e (item.Join j, (at_here, refl))
good_items ms weights all whole place (item.Join j ∷ items) children there paired among (suc at) x is =
    good_items ms weights all whole (place + 1) items children (λ i. (let e : place + 1 + i ≡ place + suc i = omega arith in ap (slice_get all) e ∙ there (suc i))) paired among at x is
good_items ms weights all whole place (item.Cell j ∷ items) children there paired among zero x is =
    let e : Own place ≡ x = cc in
    let at_here : slice_get all place ≡ Some (item.Cell j) = (let p : place ≡ place + 0 = omega arith in ap (slice_get all) p ∙ there 0) in
    subst (IsGood ms all whole) e (item.Cell j, (at_here, refl))
good_items ms weights all whole place (item.Cell j ∷ items) children there paired among (suc at) x is =
    good_items ms weights all whole (place + 1) items children (λ i. (let e : place + 1 + i ≡ place + suc i = omega arith in ap (slice_get all) e ∙ there (suc i))) paired among at x is
good_items ms weights all whole place (item.Sub s ∷ items) children there paired among at x is =
    let f = first_child ms s (subs_of items) children paired in
    let c = f.0 in
    let rest = f.1.0 in
    let cut = f.1.1.0 in
    let at_here : slice_get all place ≡ Some (item.Sub s) = (let p : place ≡ place + 0 = omega arith in ap (slice_get all) p ∙ there 0) in
    by c (get_or weights c no_weight).lives rest at
    (record { sub = s; item_at = at_here; number = f.1.1.1; among = among c (subst (λ (xs : List ℕ). StandsIn xs c) (sym cut) (record { place = 0; at = refl })) })
    (λ n is_. good_items ms weights all whole (place + 1) items rest (λ i. (let e : place + 1 + i ≡ place + suc i = omega arith in ap (slice_get all) e ∙ there (suc i))) f.1.1.2 (λ k h. among k (subst (λ (xs : List ℕ). StandsIn xs k) (sym cut) (stands_more c rest k h))) n x is_)
    (sym (ap (λ (cs : List ℕ). slice_get (own_or_sub weights place (slice_get cs 0) ++ items_from weights (place + 1) items (drop 1 cs)) at) cut) ∙ is)
  where
    by : (c : ℕ) (t : Bool) (rest : List ℕ) (at : ℕ) → IsLiveSub ms all whole (record { item = place; child = c }) → ((n : ℕ) → slice_get (items_from weights (place + 1) items rest) n ≡ Some x → IsGood ms all whole x) →
        slice_get (cond t (Sub (record { item = place; child = c }) ∷ []) [] ++ items_from weights (place + 1) items rest) at ≡ Some x → IsGood ms all whole x
    by c true rest zero here more is = (let e : Sub (record { item = place; child = c }) ≡ x = cc in subst (IsGood ms all whole) e here)
    by c true rest (suc at) here more is = more at is
    by c false rest at here more is = more at is

-- ---- how many nets live items give

-- modules by their weights: exact where there are no more nets than there may be, and none where nothing stands
abbrev WeighsNets : (ms : List Module) → (weights : List Weight) → Type 0
WeighsNets ms weights = (k : ℕ) (m : Module) → slice_get ms k ≡ Some m → (net_total ms m ≤ MAX_NETS → net_total ms m ≡ (get_or weights k no_weight).nets) × ((get_or weights k no_weight).lives ≡ false → net_total ms m ≡ 0)

sum_from : (ms : List Module) (weights : List Weight) (place : ℕ) (items : List Item) (children : List ℕ) → WeighsNets ms weights → numbers ms (subs_of items) ≡ map Some children → length (subs_nets (nets_in (length ms) ms) ms [] (subs_of items)) ≤ MAX_NETS →
    total_by (nets_of weights) (items_from weights place items children) ≡ length (subs_nets (nets_in (length ms) ms) ms [] (subs_of items))
sum_from ms weights place [] children weighs paired few = refl
sum_from ms weights place (item.Join j ∷ items) children weighs paired few = let r = sum_from ms weights (place + 1) items children weighs paired few in omega arith
sum_from ms weights place (item.Cell j ∷ items) children weighs paired few = let r = sum_from ms weights (place + 1) items children weighs paired few in omega arith
sum_from ms weights place (item.Sub s ∷ items) children weighs paired few =
    let f = first_child ms s (subs_of items) children paired in
    let size = length-append (sub_nets (nets_in (length ms) ms) [] s (find_module ms s.of)) (subs_nets (nets_in (length ms) ms) ms [] (subs_of items)) in
    ap (λ (cs : List ℕ). total_by (nets_of weights) (own_or_sub weights place (slice_get cs 0) ++ items_from weights (place + 1) items (drop 1 cs))) f.1.1.0
    ∙ by f.0 f.1.0 (child_is ms f.0 (number_within ms s.of f.0 f.1.1.1)) (get_or weights f.0 no_weight).lives refl (module_there ms s.of f.0 f.1.1.1) (find_module ms s.of) refl (omega arith)
    (sum_from ms weights (place + 1) items f.1.0 weighs f.1.1.2 (omega arith)) ∙ sym size
  where
    by : (c : ℕ) (rest : List ℕ) → (slice_get ms c ≡ None → ⊥) → (t : Bool) → (get_or weights c no_weight).lives ≡ t → slice_get ms c ≡ find_module ms s.of → (o : Option Module) → find_module ms s.of ≡ o → length (sub_nets (nets_in (length ms) ms) [] s (find_module ms s.of)) ≤ MAX_NETS →
        total_by (nets_of weights) (items_from weights (place + 1) items rest) ≡ length (subs_nets (nets_in (length ms) ms) ms [] (subs_of items)) →
        total_by (nets_of weights) (cond t (Sub (record { item = place; child = c }) ∷ []) [] ++ items_from weights (place + 1) items rest) ≡ length (sub_nets (nets_in (length ms) ms) [] s (find_module ms s.of)) + length (subs_nets (nets_in (length ms) ms) ms [] (subs_of items))
    by c rest there true lives is None found few more = absurd (there (is ∙ found))
    by c rest there true lives is (Some m) found few more =
        let w = weighs c m (is ∙ found) in
        let a = ap (λ (o : Option Module). length (sub_nets (nets_in (length ms) ms) [] s o)) found in
        let b = count_same (length ms) ms (inside [] s.name) [] m in
        let e = w.0 (omega arith) in
        omega arith
    by c rest there false lives is None found few more = let a = ap (λ (o : Option Module). length (sub_nets (nets_in (length ms) ms) [] s o)) found in omega arith
    by c rest there false lives is (Some m) found few more =
        let w = weighs c m (is ∙ found) in
        let a = ap (λ (o : Option Module). length (sub_nets (nets_in (length ms) ms) [] s o)) found in
        let b = count_same (length ms) ms (inside [] s.name) [] m in
        let e = w.1 lives in
        omega arith

-- ---- how many steps a walk takes

sum_same : (f g : LiveItem → ℕ) (xs : List LiveItem) → ((at : ℕ) (x : LiveItem) → slice_get xs at ≡ Some x → f x ≡ g x) → total_by f xs ≡ total_by g xs
sum_same f g [] same = refl
sum_same f g (x ∷ xs) same = let a = same 0 x refl in let b = sum_same f g xs (λ at y is. same (suc at) y is) in omega arith

size_same : (g : Graph) (items : List Live) (depth number : ℕ) → IsTall g depth number → ((k at : ℕ) (l : LiveSub) → slice_get (live_items_at items k) at ≡ Some (Sub l) → StandsIn (children_at g k) l.child) → item_size_in depth items number ≡ item_size_in (suc depth) items number
size_same g items zero number tall among = elim tall [ ]
size_same g items (suc depth) number (Grows each) among =
    ap suc (sum_same (step_of (item_size_in depth items)) (step_of (item_size_in (suc depth) items)) (live_items_at items number)
    (λ at x is. by at x is (λ l h. size_same g items depth l.child (each l.child h) among)))
  where
    by : (at : ℕ) (x : LiveItem) → slice_get (live_items_at items number) at ≡ Some x → ((l : LiveSub) → StandsIn (children_at g number) l.child → item_size_in depth items l.child ≡ item_size_in (suc depth) items l.child) →
        step_of (item_size_in depth items) x ≡ step_of (item_size_in (suc depth) items) x
    by at (Own place) is rec = refl
    by at (Sub l) is rec = ap suc (rec l (among number at l is))

-- ---- the whole

module _ (library : List Cell) (ms : List Module) (weights : List Weight) (items : List Live) (sound : AreModules library ms) (known : first_unknown ms ≡ None) (apart : NoCircle (children_of ms)) (weighed : AreWeights ms (children_of ms) weights) (live : AreLive ms (children_of ms) weights items) where
  exact_nets : (k : ℕ) (m : Module) → slice_get ms k ≡ Some m → (get_or weights k no_weight).nets ≡ at_most (net_total ms m)
  exact_nets k m at = ap (λ (w : Weight). w.nets) (exact_weight ms weights (length ms) k m weighed (every_tall ms apart k (slice_get_within ms k m at)) at)

  dead_at : (k : ℕ) (m : Module) → slice_get ms k ≡ Some m → (get_or weights k no_weight).lives ≡ false → ((prefix : Text) (first : ℕ) → parts_within (length ms) ms prefix first m ≡ no_parts) × (m.nets ≡ [])
  dead_at k m at dead =
      let within = slice_get_within ms k m at in
      let lives = ap (λ (w : Weight). w.lives) (exact_weight ms weights (length ms) k m weighed (every_tall ms apart k within) at) in
      dead_module library ms (length ms) m sound (tall_module ms (length ms) k m (every_tall ms apart k within) at) (sound_at library ms k m sound at) (sym lives ∙ dead)

  weighs_nets : WeighsNets ms weights
  weighs_nets k m at =
      let e = exact_nets k m at in
      ((λ few. omega arith), (λ dead. (let d = dead_at k m at dead in sym (ap (λ (xs : List Text). length xs) (nets_same (length ms) ms [] 0 m)) ∙ ap (λ (p : Parts). length p.nets) (d.0 [] 0))))

  gives_dead : DeadGive (parts_within (length ms) ms) ms weights
  gives_dead k m at dead prefix outside first s =
      let d = dead_at k m at dead in
      ap (λ (p : Parts). and_parts (record { nets = []; joins = connection_joins outside first s.connections m.ports; instances = [] }) p) (d.0 (inside prefix s.name) first)
      ∙ ap (λ (js : List Join). and_parts (record { nets = []; joins = js; instances = [] }) no_parts) (dead_joins library m outside first s.connections (sound_at library ms k m sound at) d.1)

  gives_exact : NetsExact (parts_within (length ms) ms) ms weights
  gives_exact k m at prefix outside first s few =
      let n = ap (λ (xs : List Text). length xs) (nets_same (length ms) ms (inside prefix s.name) first m) in
      let c = count_same (length ms) ms (inside prefix s.name) [] m in
      let w = weighs_nets k m at in
      let e = w.0 (omega arith) in
      omega arith

  lists_at : (number : ℕ) (m : Module) → slice_get ms number ≡ Some m → live_items_at items number ≡ items_from weights 0 m.items (children_at (children_of ms) number)
  lists_at number m at = ap (λ (x : Live). x.items) (live.each number m at) ∙ live_items_from weights 0 m.items (children_at (children_of ms) number) no_live

  laid_gives : (number : ℕ) (m : Module) → slice_get ms number ≡ Some m → GivesParts ms items weights number m
  laid_gives number m at prefix first few =
      let N : Giving = parts_within (length ms) ms in
      let within = slice_get_within ms number m at in
      let standing = tall_module ms (length ms) number m (every_tall ms apart number within) at in
      let deep = deep_enough ms (length ms) m standing prefix first in
      let rest : Parts = item_parts N ms prefix first (first + length m.nets) m.items in
      let total = ap (λ (p : Parts). length p.nets) deep in
      let split = length-append (map (λ name. prefix ++ name) m.nets) rest.nets in
      let n = ap (λ (xs : List Text). length xs) (nets_same (length ms) ms prefix first m) in
      let c = count_same (length ms) ms prefix [] m in
      let found = live_parts_from N ms weights prefix first (first + length m.nets) m.items 0 m.items (children_at (children_of ms) number) gives_dead gives_exact (λ j. (let e : 0 + j ≡ j = omega arith in ap (slice_get m.items) e)) (paired_at ms number m known at) (omega arith) in
      deep
      ∙ ap (λ (p : Parts). and_parts (record { nets = map (λ name. prefix ++ name) m.nets; joins = []; instances = [] }) p) (sym found)
      ∙ ap (λ (ls : List LiveItem). and_parts (record { nets = map (λ name. prefix ++ name) m.nets; joins = []; instances = [] }) (live_parts N ms weights prefix first (first + length m.nets) m.items ls)) (sym (lists_at number m at))
      ∙ ap (λ (o : Option Module). and_parts (record { nets = map (λ name. prefix ++ name) m.nets; joins = []; instances = [] }) (live_parts N ms weights prefix first (first + length m.nets) (items_in o) (live_items_at items number))) (sym at)

  good_at : (number : ℕ) (m : Module) → slice_get ms number ≡ Some m → (at : ℕ) (x : LiveItem) → slice_get (live_items_at items number) at ≡ Some x → IsGood ms m.items (children_at (children_of ms) number) x
  good_at number m there at x is =
      good_items ms weights m.items (children_at (children_of ms) number) 0 m.items (children_at (children_of ms) number) (λ j. (let e : 0 + j ≡ j = omega arith in ap (slice_get m.items) e)) (paired_at ms number m known there) (λ k h. h) at x
      (sym (ap (λ (ls : List LiveItem). slice_get ls at) (lists_at number m there)) ∙ is)

  live_past : (number at : ℕ) (x : LiveItem) → slice_get (live_items_at items number) at ≡ Some x → (m : Module) × (slice_get ms number ≡ Some m)
  live_past number at x is = elim (cases_lt number (length ms)) [
    | inl less ↦ module_at ms number less
    | inr past ↦ (
        let c = live.count in
        let none : get_or items number no_live ≡ no_live = get_or_past items number no_live (omega arith) in
        let f : None ≡ Some x = ap (λ (l : Live). slice_get l.items at) (sym none) ∙ is in
        let g : ⊥ = cc in
        absurd g)
  ]

  own_there : (number at place : ℕ) → slice_get (live_items_at items number) at ≡ Some (Own place) → IsOwnAt ms number place
  own_there number at place is =
      let m = live_past number at (Own place) is in
      let good = good_at number m.0 m.1 at (Own place) is in
      record { own = good.0; item_at = ap (λ (o : Option Module). slice_get (items_in o) place) m.1 ∙ good.1.0; none = good.1.1 }

  sub_there : (number at : ℕ) (l : LiveSub) → slice_get (live_items_at items number) at ≡ Some (Sub l) → IsSubAt ms number l
  sub_there number at l is =
      let m = live_past number at (Sub l) is in
      let good = good_at number m.0 m.1 at (Sub l) is in
      let child = module_at ms l.child (number_within ms good.sub.of l.child good.number) in
      record {
        sub = good.sub;
        item_at = ap (λ (o : Option Module). slice_get (items_in o) l.item) m.1 ∙ good.item_at;
        below = child.0;
        below_at = child.1;
        found = sym (module_there ms good.sub.of l.child good.number) ∙ child.1;
      }

  sub_among : (number at : ℕ) (l : LiveSub) → slice_get (live_items_at items number) at ≡ Some (Sub l) → StandsIn (children_at (children_of ms) number) l.child
  sub_among number at l is = let m = live_past number at (Sub l) is in let good = good_at number m.0 m.1 at (Sub l) is in good.among

  totals_at : (number : ℕ) (m : Module) → slice_get ms number ≡ Some m → net_total ms m ≤ MAX_NETS → net_total ms m ≡ length m.nets + total_by (nets_of weights) (live_items_at items number)
  totals_at number m at few =
      let standing = tall_module ms (length ms) number m (every_tall ms apart number (slice_get_within ms number m at)) at in
      let deep = ap (λ (xs : List Text). length xs) (nets_deep_enough ms (length ms) m standing []) in
      let split = length-append (map (λ name. [] ++ name) m.nets) (subs_nets (nets_in (length ms) ms) ms [] (subs_of m.items)) in
      let names = length-map m.nets (λ (name : Text). [] ++ name) in
      let sum = sum_from ms weights 0 m.items (children_at (children_of ms) number) weighs_nets (paired_at ms number m known at) (omega arith) in
      let lists = ap (λ (ls : List LiveItem). total_by (nets_of weights) ls) (lists_at number m at) in
      omega arith

  pub laid_items : AreItemsLaid library ms items weights
  laid_items = record {
    sound = sound;
    count = live.count;
    weighed = weighed.count;
    owns = own_there;
    subs = sub_there;
    exact = λ number m at few. (let e = exact_nets number m at in omega arith);
    totals = totals_at;
    gives = laid_gives;
    steps = λ number less. size_same (children_of ms) items (length ms) number (every_tall ms apart number less) sub_among;
  }
