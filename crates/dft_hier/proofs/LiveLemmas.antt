-- The items of modules that give something: what is left out gives nothing.
use Rattle.std.proofs.Common.{ℕ, zero, suc, ◌+◌, ◌≡◌, Bool, true, false, ◌||◌, cond, nat_lt, List, [], ◌∷◌, ◌++◌, length, drop, get_or, map, Option, None, Some, is_some, slice_get, refl, sym, ap, subst, arith, ◌∙◌, length-append, append_assoc, append-nil, true≢false}
use Rattle.std.specs.List.{list_any, cons_option}
use Rattle.std.proofs.lemmas.List.{length-map}
use Rattle.dft_base.specs.Lexing.{Text}
use Rattle.dft_base.proofs.BitLemmas.{or_assoc, or_false}
use Rattle.dft_modules.specs.declared.module.SubInstance.{SubInstance}
use Rattle.dft_modules.specs.declared.module.Item.{Item}
use Rattle.dft_modules.specs.declared.module.Item.TheVariants as item
use Rattle.dft_modules.specs.Modules.{Module}
use Rattle.dft_hier.specs.declared.weights.Weight.{Weight}
use Rattle.dft_hier.specs.declared.weights.LiveSub.{LiveSub}
use Rattle.dft_hier.specs.Hierarchy.{subs_of, find_module}
use Rattle.dft_hier.specs.Numbers.{number_of, numbers_of_subs, children_of}
use Rattle.dft_hier.specs.Reach.{StandsIn}
use Rattle.dft_hier.specs.Flat.{inside}
use Rattle.dft_hier.specs.FlatNets.{NetsGiving, sub_nets, subs_nets, nets_in, named_nets, live_nets}
use Rattle.dft_hier.specs.Weights.{AreWeights, Live, at_most, alone, is_cell, no_weight, with_below, with_all, weights_of, weight_by, and_own, and_sub, and_item, live_from}
use Rattle.dft_hier.proofs.FitLemmas.{numbers, children_of_at}
use Rattle.dft_hier.proofs.HeightLemmas.{IsTall, Grows}
use Rattle.dft_hier.proofs.NumberLemmas.{module_there, some_first}
use Rattle.dft_hier.proofs.PartLemmas.{count_same}
use Rattle.dft_hier.proofs.ReachLemmas.{stands_more}

-- ---- weights are exact

-- whether anything stands in and below a module
abbrev pub sub_lives : (Module → Bool) → Option Module → Bool
sub_lives lives None = false
sub_lives lives (Some m) = lives m

abbrev pub subs_live : (Module → Bool) → List Module → List SubInstance → Bool
subs_live lives ms [] = false
subs_live lives ms (s ∷ subs) = sub_lives lives (find_module ms s.of) || subs_live lives ms subs

abbrev pub lives_in : (depth : ℕ) → List Module → Module → Bool
lives_in zero ms m = false
lives_in (suc depth) ms m = (nat_lt 0 (length m.nets) || list_any is_cell m.items) || subs_live (lives_in depth ms) ms (subs_of m.items)

abbrev pub weight_in : (depth : ℕ) → List Module → Module → Weight
weight_in depth ms m = record { nets = at_most (length (nets_in depth ms [] m)); lives = lives_in depth ms m }

-- these children have the weights of their modules
abbrev AreExact : (depth : ℕ) → List Module → List Weight → List ℕ → Type 0
AreExact depth ms weights children = (k : ℕ) (m : Module) → StandsIn children k → slice_get ms k ≡ Some m → get_or weights k no_weight ≡ weight_in depth ms m

with_subs : (depth : ℕ) (ms : List Module) (weights : List Weight) (subs : List SubInstance) (w : Weight) (nets : ℕ) (lives : Bool) → w ≡ record { nets = at_most nets; lives = lives } → AreExact depth ms weights (numbers_of_subs ms subs) →
    with_all w (weights_of weights (numbers_of_subs ms subs)) ≡ record { nets = at_most (nets + length (subs_nets (nets_in depth ms) ms [] subs)); lives = lives || subs_live (lives_in depth ms) ms subs }
with_subs depth ms weights [] w nets lives is exact =
    let e : nets ≡ nets + 0 = omega arith in
    is ∙ ap (λ (n : ℕ). record { nets = at_most n; lives = lives }) e ∙ ap (λ (b : Bool). record { nets = at_most (nets + 0); lives = b }) (sym (or_false lives))
with_subs depth ms weights (s ∷ subs) w nets lives is exact = by (number_of ms s.of) refl exact (with_subs depth ms weights subs)
  where
    more_nets : List Text
    more_nets = subs_nets (nets_in depth ms) ms [] subs

    more_lives : Bool
    more_lives = subs_live (lives_in depth ms) ms subs

    none_found : (o : Option Module) → is_some o ≡ false → o ≡ None
    none_found None e = refl
    none_found (Some m) e = absurd (true≢false e)

    joined : (m : Module) (k : ℕ) → find_module ms s.of ≡ Some m → get_or weights k no_weight ≡ weight_in depth ms m →
        with_below w (get_or weights k no_weight) ≡ record { nets = at_most (nets + length (sub_nets (nets_in depth ms) [] s (find_module ms s.of))); lives = lives || sub_lives (lives_in depth ms) (find_module ms s.of) }
    joined m k found exact_here =
        let count = count_same depth ms [] (inside [] s.name) m in
        let sum : at_most (at_most nets + at_most (length (nets_in depth ms [] m))) ≡ at_most (nets + length (nets_in depth ms (inside [] s.name) m)) = omega arith in
        ap (λ (x : Weight). with_below x (get_or weights k no_weight)) is ∙ ap (with_below (record { nets = at_most nets; lives = lives })) exact_here
        ∙ ap (λ (n : ℕ). record { nets = n; lives = lives || lives_in depth ms m }) sum
        ∙ ap (λ (o : Option Module). record { nets = at_most (nets + length (sub_nets (nets_in depth ms) [] s o)); lives = lives || sub_lives (lives_in depth ms) o }) (sym found)

    whole : (o : Option Module) → find_module ms s.of ≡ o →
        ◌≡◌ {A = Weight} (record { nets = at_most (nets + length (sub_nets (nets_in depth ms) [] s o) + length more_nets); lives = (lives || sub_lives (lives_in depth ms) o) || more_lives })
        (record { nets = at_most (nets + length (sub_nets (nets_in depth ms) [] s (find_module ms s.of) ++ more_nets)); lives = lives || (sub_lives (lives_in depth ms) (find_module ms s.of) || more_lives) })
    whole o found =
        let l = length-append (sub_nets (nets_in depth ms) [] s o) more_nets in
        let sum : nets + length (sub_nets (nets_in depth ms) [] s o) + length more_nets ≡ nets + length (sub_nets (nets_in depth ms) [] s o ++ more_nets) = omega arith in
        ap (λ (n : ℕ). record { nets = at_most n; lives = (lives || sub_lives (lives_in depth ms) o) || more_lives }) sum
        ∙ ap (λ (b : Bool). record { nets = at_most (nets + length (sub_nets (nets_in depth ms) [] s o ++ more_nets)); lives = b }) (or_assoc lives (sub_lives (lives_in depth ms) o) more_lives)
        ∙ ap (λ (x : Option Module). record { nets = at_most (nets + length (sub_nets (nets_in depth ms) [] s x ++ more_nets)); lives = lives || (sub_lives (lives_in depth ms) x || more_lives) }) (sym found)

    by : (o : Option ℕ) → number_of ms s.of ≡ o → AreExact depth ms weights (cons_option o (numbers_of_subs ms subs)) →
        ((x : Weight) (n : ℕ) (b : Bool) → x ≡ record { nets = at_most n; lives = b } → AreExact depth ms weights (numbers_of_subs ms subs) → with_all x (weights_of weights (numbers_of_subs ms subs)) ≡ record { nets = at_most (n + length more_nets); lives = b || more_lives }) →
        with_all w (weights_of weights (cons_option o (numbers_of_subs ms subs))) ≡ record { nets = at_most (nets + length (sub_nets (nets_in depth ms) [] s (find_module ms s.of) ++ more_nets)); lives = lives || (sub_lives (lives_in depth ms) (find_module ms s.of) || more_lives) }
    by None at exact more =
        let none = none_found (find_module ms s.of) (sym (some_first 0 ms s.of) ∙ ap (λ (o : Option ℕ). is_some o) at) in
        let e : nets + length more_nets ≡ nets + 0 + length more_nets = omega arith in
        more w nets lives is exact ∙ ap (λ (n : ℕ). record { nets = at_most n; lives = lives || more_lives }) e
        ∙ ap (λ (b : Bool). record { nets = at_most (nets + 0 + length more_nets); lives = b || more_lives }) (sym (or_false lives)) ∙ whole None none
    by (Some k) at exact more =
        let there = module_there ms s.of k at in
        let m = found_some ms s.of k at in
        let here = joined m.0 k m.1 (exact k m.0 (record { place = 0; at = refl }) (there ∙ m.1)) in
        more (with_below w (get_or weights k no_weight)) (nets + length (sub_nets (nets_in depth ms) [] s (find_module ms s.of))) (lives || sub_lives (lives_in depth ms) (find_module ms s.of)) here
        (λ j x h at_. exact j x (stands_more k (numbers_of_subs ms subs) j h) at_) ∙ whole (find_module ms s.of) refl
      where
        found_some : (ms : List Module) (name : Text) (k : ℕ) → number_of ms name ≡ Some k → (m : Module) × (find_module ms name ≡ Some m)
        found_some ms name k at = got (find_module ms name) (sym (some_first 0 ms name) ∙ ap (λ (o : Option ℕ). is_some o) at)
          where
            got : (o : Option Module) → is_some o ≡ true → (m : Module) × (o ≡ Some m)
            got None e = absurd (true≢false (sym e))
            got (Some m) e = (m, refl)

-- each weight is that of the module with all below it
pub exact_weight : (ms : List Module) (weights : List Weight) (depth k : ℕ) (m : Module) → AreWeights ms (children_of ms) weights → IsTall (children_of ms) depth k → slice_get ms k ≡ Some m → get_or weights k no_weight ≡ weight_in depth ms m
exact_weight ms weights zero k m h tall at = elim tall [ ]
exact_weight ms weights (suc depth) k m h (Grows each) at =
    let are = children_of_at ms k m at in
    let sum = length-append (map (λ name. [] ++ name) m.nets) (subs_nets (nets_in depth ms) ms [] (subs_of m.items)) in
    let names = length-map m.nets (λ (name : Text). [] ++ name) in
    let count : length m.nets + length (subs_nets (nets_in depth ms) ms [] (subs_of m.items)) ≡ length (map (λ name. [] ++ name) m.nets ++ subs_nets (nets_in depth ms) ms [] (subs_of m.items)) = omega arith in
    h.each k m at ∙ ap (λ (xs : List ℕ). weight_by m xs weights) are
    ∙ with_subs depth ms weights (subs_of m.items) (alone m) (length m.nets) (nat_lt 0 (length m.nets) || list_any is_cell m.items) refl
    (λ j x below there. exact_weight ms weights depth j x h (each j (subst (λ (xs : List ℕ). StandsIn xs j) (sym are) below)) there)
    ∙ ap (λ (n : ℕ). record { nets = at_most n; lives = (nat_lt 0 (length m.nets) || list_any is_cell m.items) || subs_live (lives_in depth ms) ms (subs_of m.items) }) count

-- ---- instances with nets in them

nets-append : (give : NetsGiving) (ms : List Module) (prefix : Text) (items : List Item) (xs ys : List LiveSub) → live_nets give ms prefix items (xs ++ ys) ≡ live_nets give ms prefix items xs ++ live_nets give ms prefix items ys
nets-append give ms prefix items [] ys = refl
nets-append give ms prefix items (l ∷ xs) ys =
    let here : List Text = named_nets give prefix (slice_get items l.item) (slice_get ms l.child) in
    ap (λ (ns : List Text). here ++ ns) (nets-append give ms prefix items xs ys) ∙ sym (append_assoc here (live_nets give ms prefix items xs) (live_nets give ms prefix items ys))

-- modules without nets in and below them give none
abbrev pub GivesNone : (give : NetsGiving) (ms : List Module) (weights : List Weight) → Type 0
GivesNone give ms weights = (k : ℕ) (m : Module) → slice_get ms k ≡ Some m → nat_lt 0 (get_or weights k no_weight).nets ≡ false → (prefix : Text) → give prefix m ≡ []

pub first_child : (ms : List Module) (s : SubInstance) (subs : List SubInstance) (children : List ℕ) → number_of ms s.of ∷ numbers ms subs ≡ map Some children → (c : ℕ) × ((rest : List ℕ) × ((children ≡ c ∷ rest) × (number_of ms s.of ≡ Some c) × (numbers ms subs ≡ map Some rest)))
first_child ms s subs [] e = absurd (let f : ⊥ = cc in f)
first_child ms s subs (c ∷ rest) e = (c, (rest, (refl, cc, cc)))

pub live_nets_from : (give : NetsGiving) (ms : List Module) (weights : List Weight) (prefix : Text) (all : List Item) (place : ℕ) (items : List Item) (children : List ℕ) (live : Live) → GivesNone give ms weights →
    ((j : ℕ) → slice_get all (place + j) ≡ slice_get items j) → numbers ms (subs_of items) ≡ map Some children →
    live_nets give ms prefix all (live_from weights place items children live).with_nets ≡ live_nets give ms prefix all live.with_nets ++ subs_nets give ms prefix (subs_of items)
live_nets_from give ms weights prefix all place [] children live none there paired = sym (append-nil (live_nets give ms prefix all live.with_nets))
live_nets_from give ms weights prefix all place (item.Join j ∷ items) children live none there paired =
    live_nets_from give ms weights prefix all (place + 1) items children (and_own place live) none (λ i. (let e : place + 1 + i ≡ place + suc i = omega arith in ap (slice_get all) e ∙ there (suc i))) paired
live_nets_from give ms weights prefix all place (item.Cell j ∷ items) children live none there paired =
    live_nets_from give ms weights prefix all (place + 1) items children (and_own place live) none (λ i. (let e : place + 1 + i ≡ place + suc i = omega arith in ap (slice_get all) e ∙ there (suc i))) paired
live_nets_from give ms weights prefix all place (item.Sub s ∷ items) children live none there paired =
    let f = first_child ms s (subs_of items) children paired in
    let c = f.0 in
    let rest = f.1.0 in
    let l : LiveSub = record { item = place; child = c } in
    let w : Weight = get_or weights c no_weight in
    let is = f.1.1.0 in
    let number = f.1.1.1 in
    let module_is = module_there ms s.of c number in
    let at : slice_get all place ≡ Some (item.Sub s) = (let e : place ≡ place + 0 = omega arith in ap (slice_get all) e ∙ there 0) in
    let one : named_nets give prefix (slice_get all place) (slice_get ms c) ≡ sub_nets give prefix s (find_module ms s.of) = ap (λ (o : Option Item). named_nets give prefix o (slice_get ms c)) at ∙ ap (sub_nets give prefix s) module_is in
    ap (λ (cs : List ℕ). live_nets give ms prefix all (live_from weights (place + 1) items (drop 1 cs) (and_item weights place (slice_get cs 0) live)).with_nets) is
    ∙ live_nets_from give ms weights prefix all (place + 1) items rest (and_sub w l live) none (λ i. (let e : place + 1 + i ≡ place + suc i = omega arith in ap (slice_get all) e ∙ there (suc i))) f.1.1.2
    ∙ ap (λ (ns : List Text). ns ++ subs_nets give ms prefix (subs_of items)) (by c (nat_lt 0 w.nets) refl one)
    ∙ append_assoc (live_nets give ms prefix all live.with_nets) (sub_nets give prefix s (find_module ms s.of)) (subs_nets give ms prefix (subs_of items))
  where
    nothing : (k : ℕ) → nat_lt 0 (get_or weights k no_weight).nets ≡ false → (o : Option Module) → slice_get ms k ≡ o → sub_nets give prefix s o ≡ []
    nothing k zero_nets None at = refl
    nothing k zero_nets (Some m) at = none k m at zero_nets (inside prefix s.name)

    by : (k : ℕ) (t : Bool) → nat_lt 0 (get_or weights k no_weight).nets ≡ t → named_nets give prefix (slice_get all place) (slice_get ms k) ≡ sub_nets give prefix s (find_module ms s.of) →
        live_nets give ms prefix all (cond t (live.with_nets ++ record { item = place; child = k } ∷ []) live.with_nets) ≡ live_nets give ms prefix all live.with_nets ++ sub_nets give prefix s (find_module ms s.of)
    by k true is one =
        nets-append give ms prefix all live.with_nets (record { item = place; child = k } ∷ [])
        ∙ ap (λ (ns : List Text). live_nets give ms prefix all live.with_nets ++ ns) (append-nil (named_nets give prefix (slice_get all place) (slice_get ms k)) ∙ one)
    by k false is one =
        let at : slice_get all place ≡ Some (item.Sub s) = (let e : place ≡ place + 0 = omega arith in ap (slice_get all) e ∙ there 0) in
        let empty : named_nets give prefix (slice_get all place) (slice_get ms k) ≡ [] = ap (λ (o : Option Item). named_nets give prefix o (slice_get ms k)) at ∙ nothing k is (slice_get ms k) refl in
        sym (append-nil (live_nets give ms prefix all live.with_nets)) ∙ ap (λ (ns : List Text). live_nets give ms prefix all live.with_nets ++ ns) (sym (sym one ∙ empty))
