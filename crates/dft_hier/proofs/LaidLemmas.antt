-- Modules with their weights are laid out for a walk through their nets.
use Rattle.std.proofs.Common.{ℕ, zero, suc, ◌+◌, ◌≤◌, ◌≡◌, inl, inr, Bool, true, false, cond, nat_lt, List, [], ◌∷◌, ◌++◌, length, drop, get_or, map, Option, None, Some, slice_get, refl, sym, ap, subst, arith, ◌∙◌}
use Rattle.std.proofs.lemmas.List.{get_or_past, nil_from_length}
use Rattle.std.proofs.lemmas.Option.{slice_get_within}
use Rattle.std.proofs.lemmas.Bool.{cases_lt}
use Rattle.std.proofs.lemmas.Bool.Decides.{nat_tests}
use Rattle.dft_base.specs.Lexing.{Text}
use Rattle.dft_base.proofs.ListLemmas.{get_push}
use Rattle.dft_modules.specs.declared.module.SubInstance.{SubInstance}
use Rattle.dft_modules.specs.declared.module.Item.{Item}
use Rattle.dft_modules.specs.declared.module.Item.TheVariants as item
use Rattle.dft_modules.specs.Modules.{Module}
use Rattle.dft_hier.specs.declared.weights.Weight.{Weight}
use Rattle.dft_hier.specs.declared.weights.LiveSub.{LiveSub}
use Rattle.dft_hier.specs.Hierarchy.{subs_of}
use Rattle.dft_hier.specs.Numbers.{number_of, children_of}
use Rattle.dft_hier.specs.Reach.{Graph, StandsIn, children_at, NoCircle}
use Rattle.dft_hier.specs.Refusals.{first_unknown}
use Rattle.dft_hier.specs.FlatNets.{total_by, NetsGiving, nets_in, live_nets, items_in, live_at, IsSubAt, GivesLive, size_in, IsNetLaid}
use Rattle.dft_hier.specs.Weights.{AreWeights, AreLive, Live, no_live, no_weight, and_own, and_sub, and_item, live_from}
use Rattle.dft_hier.proofs.FitLemmas.{numbers, paired_at}
use Rattle.dft_hier.proofs.HeightLemmas.{IsTall, Grows}
use Rattle.dft_hier.proofs.LiveLemmas.{GivesNone, exact_weight, live_nets_from, first_child}
use Rattle.dft_hier.proofs.NumberLemmas.{module_there, number_within}
use Rattle.dft_hier.proofs.PartLemmas.{nets_deep_enough, tall_module, count_same, every_tall}
use Rattle.dft_hier.proofs.ReachLemmas.{stands_more}
use Rattle.dft_hier.proofs.ModuleLemmas.{module_at}

-- ---- live instances are instances

-- a live instance, by its place among all items and its number among all children
pub record IsLiveSub (ms : List Module) (all : List Item) (children : List ℕ) (l : LiveSub) : Type 0 where
  pub sub : SubInstance
  pub item_at : slice_get all l.item ≡ Some (item.Sub sub)
  pub number : number_of ms sub.of ≡ Some l.child
  pub among : StandsIn children l.child

abbrev AreLiveSubs : (ms : List Module) → (all : List Item) → (children : List ℕ) → List LiveSub → Type 0
AreLiveSubs ms all children subs = (place : ℕ) (l : LiveSub) → slice_get subs place ≡ Some l → IsLiveSub ms all children l

live_subs_from : (ms : List Module) (weights : List Weight) (all : List Item) (whole : List ℕ) (place : ℕ) (items : List Item) (children : List ℕ) (live : Live) → ((j : ℕ) → slice_get all (place + j) ≡ slice_get items j) → numbers ms (subs_of items) ≡ map Some children →
    ((k : ℕ) → StandsIn children k → StandsIn whole k) → AreLiveSubs ms all whole live.with_nets → AreLiveSubs ms all whole (live_from weights place items children live).with_nets
live_subs_from ms weights all whole place [] children live there paired among are = are
live_subs_from ms weights all whole place (item.Join j ∷ items) children live there paired among are =
    live_subs_from ms weights all whole (place + 1) items children (and_own place live) (λ i. (let e : place + 1 + i ≡ place + suc i = omega arith in ap (slice_get all) e ∙ there (suc i))) paired among are
live_subs_from ms weights all whole place (item.Cell j ∷ items) children live there paired among are =
    live_subs_from ms weights all whole (place + 1) items children (and_own place live) (λ i. (let e : place + 1 + i ≡ place + suc i = omega arith in ap (slice_get all) e ∙ there (suc i))) paired among are
live_subs_from ms weights all whole place (item.Sub s ∷ items) children live there paired among are =
    let f = first_child ms s (subs_of items) children paired in
    let c = f.0 in
    let rest = f.1.0 in
    let is = f.1.1.0 in
    let at : slice_get all place ≡ Some (item.Sub s) = (let e : place ≡ place + 0 = omega arith in ap (slice_get all) e ∙ there 0) in
    let here : IsLiveSub ms all whole (record { item = place; child = c }) = record { sub = s; item_at = at; number = f.1.1.1; among = among c (subst (λ (xs : List ℕ). StandsIn xs c) (sym is) (record { place = 0; at = refl })) } in
    subst (λ (cs : List ℕ). AreLiveSubs ms all whole (live_from weights (place + 1) items (drop 1 cs) (and_item weights place (slice_get cs 0) live)).with_nets) (sym is)
    (live_subs_from ms weights all whole (place + 1) items rest (and_sub (get_or weights c no_weight) (record { item = place; child = c }) live)
    (λ i. (let e : place + 1 + i ≡ place + suc i = omega arith in ap (slice_get all) e ∙ there (suc i))) f.1.1.2
    (λ k h. among k (subst (λ (xs : List ℕ). StandsIn xs k) (sym is) (stands_more c rest k h))) (by (nat_lt 0 (get_or weights c no_weight).nets) c here))
  where
    by : (t : Bool) (c : ℕ) → IsLiveSub ms all whole (record { item = place; child = c }) → AreLiveSubs ms all whole (cond t (live.with_nets ++ record { item = place; child = c } ∷ []) live.with_nets)
    by true c here = λ i l at. elim (get_push live.with_nets (record { item = place; child = c }) l i at) [ inl old ↦ are i l old | inr new ↦ subst (IsLiveSub ms all whole) new.1 here ]
    by false c here = are

-- ---- how many steps a walk takes

sum_same : (f g : LiveSub → ℕ) (xs : List LiveSub) → ((place : ℕ) (l : LiveSub) → slice_get xs place ≡ Some l → f l ≡ g l) → total_by f xs ≡ total_by g xs
sum_same f g [] same = refl
sum_same f g (x ∷ xs) same = let a = same 0 x refl in let b = sum_same f g xs (λ place l at. same (suc place) l at) in omega arith

size_same : (g : Graph) (items : List Live) (depth number : ℕ) → IsTall g depth number → ((k place : ℕ) (l : LiveSub) → slice_get (live_at items k) place ≡ Some l → StandsIn (children_at g k) l.child) → size_in depth items number ≡ size_in (suc depth) items number
size_same g items zero number tall among = elim tall [ ]
size_same g items (suc depth) number (Grows each) among =
    ap suc (sum_same (λ (l : LiveSub). suc (size_in depth items l.child)) (λ (l : LiveSub). suc (size_in (suc depth) items l.child)) (live_at items number)
    (λ place l at. ap suc (size_same g items depth l.child (each l.child (among number place l at)) among)))

-- ---- the whole

module _ (ms : List Module) (weights : List Weight) (items : List Live) (known : first_unknown ms ≡ None) (apart : NoCircle (children_of ms)) (weighed : AreWeights ms (children_of ms) weights) (live : AreLive ms (children_of ms) weights items) where
  -- a module without weight gives no net
  gives_none : GivesNone (nets_in (length ms) ms) ms weights
  gives_none k m at none prefix =
      let within = slice_get_within ms k m at in
      let w = ap (λ (x : Weight). x.nets) (exact_weight ms weights (length ms) k m weighed (every_tall ms apart k within) at) in
      let zero_nets : (get_or weights k no_weight).nets ≡ 0 = grind (arith, nat_tests) in
      let c = count_same (length ms) ms prefix [] m in
      nil_from_length (nets_in (length ms) ms prefix m) (omega arith)

  pub laid_gives : (number : ℕ) (m : Module) → slice_get ms number ≡ Some m → GivesLive ms items number m
  laid_gives number m at prefix =
      let N : NetsGiving = nets_in (length ms) ms in
      let within = slice_get_within ms number m at in
      let standing = tall_module ms (length ms) number m (every_tall ms apart number within) at in
      let lists = live.each number m at in
      let found = live_nets_from N ms weights prefix m.items 0 m.items (children_at (children_of ms) number) no_live gives_none (λ j. (let e : 0 + j ≡ j = omega arith in ap (slice_get m.items) e)) (paired_at ms number m known at) in
      nets_deep_enough ms (length ms) m standing prefix
      ∙ ap (λ (ns : List Text). map (λ name. prefix ++ name) m.nets ++ ns) (sym found)
      ∙ ap (λ (x : Live). map (λ name. prefix ++ name) m.nets ++ live_nets N ms prefix m.items x.with_nets) (sym lists)
      ∙ ap (λ (o : Option Module). map (λ name. prefix ++ name) m.nets ++ live_nets N ms prefix (items_in o) (live_at items number)) (sym at)

  subs_of_module : (number : ℕ) (m : Module) → slice_get ms number ≡ Some m → AreLiveSubs ms m.items (children_at (children_of ms) number) (live_at items number)
  subs_of_module number m at =
      let lists = live.each number m at in
      subst (λ (x : Live). AreLiveSubs ms m.items (children_at (children_of ms) number) x.with_nets) (sym lists)
      (live_subs_from ms weights m.items (children_at (children_of ms) number) 0 m.items (children_at (children_of ms) number) no_live
      (λ j. (let e : 0 + j ≡ j = omega arith in ap (slice_get m.items) e)) (paired_at ms number m known at) (λ k h. h) (λ place l none. absurd (let f : ⊥ = cc in f)))

  live_past : (number place : ℕ) (l : LiveSub) → length ms ≤ number → slice_get (live_at items number) place ≡ Some l → ⊥
  live_past number place l past at =
      let c = live.count in
      let none : get_or items number no_live ≡ no_live = get_or_past items number no_live (omega arith) in
      let f : None ≡ Some l = ap (λ (x : Live). slice_get x.with_nets place) (sym none) ∙ at in
      cc

  live_among : (number place : ℕ) (l : LiveSub) → slice_get (live_at items number) place ≡ Some l → StandsIn (children_at (children_of ms) number) l.child
  live_among number place l at = elim (cases_lt number (length ms)) [
    | inl less ↦ (let m = module_at ms number less in (subs_of_module number m.0 m.1 place l at).among)
    | inr past ↦ absurd (live_past number place l past at)
  ]

  sub_there : (number place : ℕ) (l : LiveSub) (m : Module) → slice_get ms number ≡ Some m → slice_get (live_at items number) place ≡ Some l → IsSubAt ms number l
  sub_there number place l m there at =
      let is = subs_of_module number m there place l at in
      let child = module_at ms l.child (number_within ms is.sub.of l.child is.number) in
      record {
        sub = is.sub;
        item_at = ap (λ (o : Option Module). slice_get (items_in o) l.item) there ∙ is.item_at;
        below = child.0;
        below_at = child.1;
        found = sym (module_there ms is.sub.of l.child is.number) ∙ child.1;
      }

  pub laid : IsNetLaid ms items
  laid = record {
    count = live.count;
    subs = λ number place l at. elim (cases_lt number (length ms)) [
      | inl less ↦ (let m = module_at ms number less in sub_there number place l m.0 m.1 at)
      | inr past ↦ absurd (live_past number place l past at)
    ];
    gives = laid_gives;
    steps = λ number less. size_same (children_of ms) items (length ms) number (every_tall ms apart number less) live_among;
  }
