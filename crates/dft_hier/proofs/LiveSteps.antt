-- The items of a module that give something, one after another.
use Rattle.std.proofs.Common.{ℕ, suc, ◌+◌, ◌<◌, ◌≤◌, ◌≡◌, inl, inr, List, [], ◌∷◌, ◌++◌, length, drop, get_or, Option, None, Some, slice_get, refl, sym, ap, subst, arith, ◌∙◌}
use Rattle.std.proofs.lemmas.List.{length-map, get_or_append_left, get_or_at}
use Rattle.std.proofs.lemmas.Option.{slice_get_within, slice_get-get_or}
use Rattle.std.proofs.lemmas.Bool.{cases_lt}
use Rattle.dft_base.proofs.ListLemmas.{length_push, drop_over}
use Rattle.dft_modules.specs.declared.module.SubInstance.{SubInstance}
use Rattle.dft_modules.specs.declared.module.Item.{Item}
use Rattle.dft_modules.specs.Modules.{Module}
use Rattle.dft_hier.specs.declared.weights.Weight.{Weight}
use Rattle.dft_hier.specs.Hierarchy.{subs_of, sub_of}
use Rattle.dft_hier.specs.Numbers.{number_of, children_of}
use Rattle.dft_hier.specs.Reach.{Graph, AreBelow, AreWithin, children_at}
use Rattle.dft_hier.specs.Refusals.{first_unknown}
use Rattle.dft_hier.specs.Weights.{AreLive, Live, no_live, no_weight, and_own, and_sub, and_item, child_for, left_by, live_from, live_of}
use Rattle.dft_hier.proofs.NumberLemmas.{drop_next, graph_count, graph_within}
use Rattle.dft_hier.proofs.ReachLemmas.{children_below}
use Rattle.dft_hier.proofs.FitLemmas.{subs_some, subs_none, paired_at}

-- the items from a place on, with those so far, give what all give
pub record LiveSoFar (weights : List Weight) (items : List Item) (children : List ℕ) (place next : ℕ) (live : Live) : Type 0 where
  pub same : live_from weights place (drop place items) (drop next children) live ≡ live_from weights 0 items children no_live
  pub left : length (subs_of (drop place items)) + next ≡ length children
  pub few : next ≤ place

pub none_live : (weights : List Weight) (items : List Item) (children : List ℕ) → length (subs_of items) ≡ length children → LiveSoFar weights items children 0 0 no_live
none_live weights items children count = record { same = refl; left = omega arith; few = omega arith }

pub own_live : (weights : List Weight) (items : List Item) (children : List ℕ) (place next : ℕ) (old new : Live) (i : Item) → place < length items → i ≡ get_or items place i → sub_of i ≡ None → new ≡ and_own place old → LiveSoFar weights items children place next old → LiveSoFar weights items children (place + 1) next new
own_live weights items children place next old new i less is none more h =
    let rest : List Item = drop (place + 1) items in
    let cut = drop_next items place i less is in
    let l = ap (λ (xs : List Item). length (subs_of xs)) cut ∙ ap (λ (xs : List SubInstance). length xs) (subs_none i rest none) in
    let given : live_from weights place (i ∷ rest) (drop next children) old ≡ live_from weights (place + 1) rest (drop next children) (and_own place old) =
    ap (λ (o : Option SubInstance). live_from weights (place + 1) rest (left_by o (drop next children)) (and_item weights place (child_for o (drop next children)) old)) none in
    record {
      same = ap (live_from weights (place + 1) rest (drop next children)) more ∙ sym given ∙ ap (λ (xs : List Item). live_from weights place xs (drop next children) old) (sym cut) ∙ h.same;
      left = (let a = h.left in omega arith);
      few = (let f = h.few in omega arith);
    }

pub child_there : (weights : List Weight) (items : List Item) (children : List ℕ) (place next : ℕ) (live : Live) (i : Item) (s : SubInstance) → place < length items → i ≡ get_or items place i → sub_of i ≡ Some s → LiveSoFar weights items children place next live → next < length children
child_there weights items children place next live i s less is sub h =
    let rest : List Item = drop (place + 1) items in
    let cut = drop_next items place i less is in
    let l : length (subs_of (drop place items)) ≡ suc (length (subs_of rest)) = ap (λ (xs : List Item). length (subs_of xs)) cut ∙ ap (λ (xs : List SubInstance). length xs) (subs_some i rest s sub) in
    let a = h.left in
    omega arith

pub sub_live : (weights : List Weight) (items : List Item) (children : List ℕ) (place next child : ℕ) (old new : Live) (i : Item) (s : SubInstance) → place < length items → i ≡ get_or items place i → sub_of i ≡ Some s → child ≡ get_or children next child → new ≡ and_sub (get_or weights child no_weight) (record { item = place; child = child }) old →
    LiveSoFar weights items children place next old → LiveSoFar weights items children (place + 1) (next + 1) new
sub_live weights items children place next child old new i s less is sub at more h =
    let rest : List Item = drop (place + 1) items in
    let cut = drop_next items place i less is in
    let l : length (subs_of (drop place items)) ≡ suc (length (subs_of rest)) = ap (λ (xs : List Item). length (subs_of xs)) cut ∙ ap (λ (xs : List SubInstance). length xs) (subs_some i rest s sub) in
    let live = child_there weights items children place next old i s less is sub h in
    let ahead : drop next children ≡ child ∷ drop (next + 1) children = drop_next children next child live at in
    let given : live_from weights place (i ∷ rest) (drop next children) old ≡ live_from weights (place + 1) rest (drop (next + 1) children) (and_sub (get_or weights child no_weight) (record { item = place; child = child }) old) =
    ap (λ (o : Option SubInstance). live_from weights (place + 1) rest (left_by o (drop next children)) (and_item weights place (child_for o (drop next children)) old)) sub
    ∙ ap (λ (cs : List ℕ). live_from weights (place + 1) rest (drop 1 cs) (and_item weights place (slice_get cs 0) old)) ahead in
    record {
      same = ap (live_from weights (place + 1) rest (drop (next + 1) children)) more ∙ sym given ∙ ap (λ (xs : List Item). live_from weights place xs (drop next children) old) (sym cut) ∙ h.same;
      left = (let a = h.left in omega arith);
      few = (let f = h.few in omega arith);
    }

pub all_live : (weights : List Weight) (m : Module) (children : List ℕ) (place next : ℕ) (live : Live) → length m.items ≤ place → LiveSoFar weights m.items children place next live → live ≡ live_of weights m children
all_live weights m children place next live past h = sym (ap (λ (xs : List Item). live_from weights place xs (drop next children) live) (drop_over m.items place past)) ∙ h.same

-- ---- all modules

pub record ListsSoFar (ms : List Module) (g : Graph) (weights : List Weight) (k : ℕ) (lists : List Live) : Type 0 where
  pub count : length lists ≡ k
  pub each : (number : ℕ) (m : Module) → number < k → slice_get ms number ≡ Some m → get_or lists number no_live ≡ live_of weights m (children_at g number)

pub no_lists : (ms : List Module) (g : Graph) (weights : List Weight) → ListsSoFar ms g weights 0 []
no_lists ms g weights = record { count = refl; each = λ number m less. absurd (omega (arith, less)) }

pub lists_next : (ms : List Module) (g : Graph) (weights : List Weight) (k : ℕ) (m : Module) (children : List ℕ) (live : Live) (old new : List Live) → k < length ms → m ≡ get_or ms k m → children ≡ children_at g k → live ≡ live_of weights m children → new ≡ old ++ live ∷ [] → ListsSoFar ms g weights k old → ListsSoFar ms g weights (k + 1) new
lists_next ms g weights k m children live old new less is are given more h =
    let size = h.count in
    let there : slice_get ms k ≡ Some m = slice_get-get_or ms k m less ∙ ap (λ (x : Module). Some x) (sym is) in
    record {
      count = ap (λ (xs : List Live). length xs) more ∙ length_push old live ∙ (let e : suc (length old) ≡ k + 1 = omega arith in e);
      each = λ number x within at. elim (cases_lt number k) [
        | inl early ↦ ap (λ (xs : List Live). get_or xs number no_live) more ∙ get_or_append_left old (live ∷ []) no_live number (omega arith) ∙ h.each number x early at
        | inr late ↦ (
            let e : number ≡ k = omega arith in
            let f : Some x ≡ Some m = sym at ∙ ap (slice_get ms) e ∙ there in
            let q : m ≡ x = cc in
            let here : get_or new number no_live ≡ live = ap (λ (xs : List Live). get_or xs number no_live) more ∙ get_or_at old live [] no_live number (let d : length old ≡ number = omega arith in d) in
            here ∙ given ∙ ap (live_of weights m) are ∙ ap (λ (y : Module). live_of weights y (children_at g k)) q ∙ ap (λ (j : ℕ). live_of weights x (children_at g j)) (sym e))
      ];
    }

pub lists_all : (ms : List Module) (g : Graph) (weights : List Weight) (k : ℕ) (lists : List Live) → length ms ≤ k → k ≤ length ms → ListsSoFar ms g weights k lists → AreLive ms g weights lists
lists_all ms g weights k lists past within h = record {
  count = (let c = h.count in omega arith);
  each = λ number m at. h.each number m (let l = slice_get_within ms number m at in omega arith) at;
}

-- a module has as many instances as numbers of their modules
pub subs_count : (ms : List Module) (g : Graph) (k : ℕ) (m : Module) (children : List ℕ) → first_unknown ms ≡ None → g ≡ children_of ms → k < length ms → m ≡ get_or ms k m → children ≡ children_at g k → length (subs_of m.items) ≡ length children
subs_count ms g k m children known is less at are =
    let there : slice_get ms k ≡ Some m = slice_get-get_or ms k m less ∙ ap (λ (x : Module). Some x) (sym at) in
    sym (length-map (subs_of m.items) (λ (s : SubInstance). number_of ms s.of)) ∙ ap (λ (xs : List (Option ℕ)). length xs) (paired_at ms k m known there) ∙ length-map (children_at (children_of ms) k) Some
    ∙ ap (λ (x : Graph). length (children_at x k)) (sym is) ∙ ap (λ (xs : List ℕ). length xs) (sym are)

pub children_weighed : (ms : List Module) (g : Graph) (weights : List Weight) (k : ℕ) (children : List ℕ) → g ≡ children_of ms → length weights ≡ length ms → children ≡ children_at g k → AreBelow (length weights) children
children_weighed ms g weights k children is size are =
    let count = graph_count ms in
    let within : AreWithin (length g) g = subst (λ (x : Graph). AreWithin (length x) x) (sym is) (graph_within ms) in
    let same : length g ≡ length weights = ap (λ (x : Graph). length x) is ∙ count ∙ sym size in
    subst (λ (xs : List ℕ). AreBelow (length weights) xs) (sym are) (λ j d less. (let r = children_below g k within (get_or (children_at g k) j d) (record { place = j; at = slice_get-get_or (children_at g k) j d less }) in omega arith))
