-- Names with numbers, and the modules of instances by their numbers.
use Rattle.std.proofs.Common.{ℕ, suc, ◌+◌, ◌<◌, ◌≤◌, ◌≡◌, Bool, true, false, not, cond, List, [], ◌∷◌, ◌++◌, drop, get_or, length, find, Option, None, Some, is_some, option_and_then, slice_get, refl, sym, ap, subst, ◌∙◌, append-nil, append_assoc}
use Rattle.std.specs.List.{AllByRecursion, cons_option, filter_map}
use Rattle.std.specs.Option.{option_or}
use Rattle.std.specs.Str.{bytes_eq}
use Rattle.std.proofs.Math.Path.{fun_ext}
use Rattle.std.proofs.lemmas.List.{drop_more}
use Rattle.std.proofs.lemmas.List.Elements.{filter_map-append, All-from_recursion}
use Rattle.std.proofs.lemmas.List.Folds.{find-append}
use Rattle.dft_base.specs.Lexing.{Text}
use Rattle.dft_base.proofs.ListLemmas.{drop_over}
use Rattle.dft_modules.specs.declared.module.SubInstance.{SubInstance}
use Rattle.dft_modules.specs.declared.module.Item.{Item}
use Rattle.dft_modules.specs.Modules.{Module}
use Rattle.dft_hier.specs.declared.error.HierError.{HierError}
use Rattle.dft_hier.specs.declared.error.HierError.TheVariants as told
use Rattle.dft_hier.specs.Hierarchy.{sub_of, subs_of, all_subs, find_module}
use Rattle.dft_numbered.proofs.NamedLemmas.{named_at, named_within}
use Rattle.dft_numbered.specs.Numbers.{Entry, Finds, first_from, look_up}
use Rattle.dft_hier.specs.Numbers.{TellsLost, children_among, children_of, first_lost, found_subs, module_names, number_of, numbers_of_subs}
use Rattle.dft_hier.specs.Reach.{AreBelow, AreWithin}
use Rattle.dft_hier.specs.Refusals.{first_unknown}

-- ---- the modules of instances

pub subs-cons : (i : Item) (items : List Item) → subs_of (i ∷ items) ≡ subs_of (i ∷ []) ++ subs_of items
subs-cons i items = filter_map-append sub_of (i ∷ []) items

or_there : {A : Type 0} (a b : Option A) (x : A) → a ≡ Some x → option_or a b ≡ Some x
or_there None b x is = absurd (let f : ⊥ = cc in f)
or_there (Some y) b x is = is

or_not_there : {A : Type 0} (a b : Option A) → a ≡ None → option_or a b ≡ b
or_not_there None b is = refl
or_not_there (Some y) b is = absurd (let f : ⊥ = cc in f)

-- what is told of the front is told of the whole
tells_or : (a b : Option SubInstance) (error : HierError) → TellsLost a error → TellsLost (option_or a b) error
tells_or None b (told.H2 name) told = absurd (let f : ⊥ = cc in f)
tells_or (Some s) b (told.H2 name) told = told
tells_or a b (told.Memory error) told = tt
tells_or a b _ told = told

pub drop_next : {T : Type 0} (xs : List T) (k : ℕ) (x : T) → k < length xs → x ≡ get_or xs k x → drop k xs ≡ x ∷ drop (k + 1) xs
drop_next {T = T} xs k x less is = drop_more xs k x less ∙ ap (λ (y : T). y ∷ drop (k + 1) xs) (sym is)

-- the instances among the items so far are found, and the first that is lost is among the others
pub record ChildrenSoFar (entries : List Entry) (items : List Item) (k : ℕ) (children : List ℕ) : Type 0 where
  pub so_far : found_subs entries (subs_of items) ≡ children ++ found_subs entries (subs_of (drop k items))
  pub lost : first_lost entries (subs_of items) ≡ first_lost entries (subs_of (drop k items))

pub no_children : (entries : List Entry) (items : List Item) → ChildrenSoFar entries items 0 []
no_children entries items = record { so_far = refl; lost = refl }

found-cons : (entries : List Entry) (i : Item) (items : List Item) → found_subs entries (subs_of (i ∷ items)) ≡ found_subs entries (subs_of (i ∷ [])) ++ found_subs entries (subs_of items)
found-cons entries i items = ap (found_subs entries) (subs-cons i items) ∙ filter_map-append (λ (s : SubInstance). look_up entries s.of) (subs_of (i ∷ [])) (subs_of items)

lost-cons : (entries : List Entry) (i : Item) (items : List Item) → first_lost entries (subs_of (i ∷ items)) ≡ option_or (first_lost entries (subs_of (i ∷ []))) (first_lost entries (subs_of items))
lost-cons entries i items = ap (first_lost entries) (subs-cons i items) ∙ find-append (λ (s : SubInstance). not (is_some (look_up entries s.of))) (subs_of (i ∷ [])) (subs_of items)

pub children_next : (entries : List Entry) (items : List Item) (i : Item) (k : ℕ) (old new : List ℕ) → k < length items → i ≡ get_or items k i → new ≡ old ++ found_subs entries (subs_of (i ∷ [])) → first_lost entries (subs_of (i ∷ [])) ≡ None →
    ChildrenSoFar entries items k old → ChildrenSoFar entries items (k + 1) new
children_next entries items i k old new less is more known h =
    let rest : List Item = drop (k + 1) items in
    let cut : drop k items ≡ i ∷ rest = drop_next items k i less is in
    record {
      so_far = h.so_far ∙ ap (λ (xs : List Item). old ++ found_subs entries (subs_of xs)) cut ∙ ap (λ (ys : List ℕ). old ++ ys) (found-cons entries i rest)
          ∙ sym (append_assoc old (found_subs entries (subs_of (i ∷ []))) (found_subs entries (subs_of rest))) ∙ ap (λ (ys : List ℕ). ys ++ found_subs entries (subs_of rest)) (sym more);
      lost = h.lost ∙ ap (λ (xs : List Item). first_lost entries (subs_of xs)) cut ∙ lost-cons entries i rest ∙ or_not_there (first_lost entries (subs_of (i ∷ []))) (first_lost entries (subs_of rest)) known;
    }

pub children_lost : (entries : List Entry) (items : List Item) (i : Item) (k : ℕ) (old : List ℕ) (error : HierError) → k < length items → i ≡ get_or items k i → ChildrenSoFar entries items k old → TellsLost (first_lost entries (subs_of (i ∷ []))) error → TellsLost (first_lost entries (subs_of items)) error
children_lost entries items i k old error less is h told =
    let rest : List Item = drop (k + 1) items in
    let cut : drop k items ≡ i ∷ rest = drop_next items k i less is in
    let whole : option_or (first_lost entries (subs_of (i ∷ []))) (first_lost entries (subs_of rest)) ≡ first_lost entries (subs_of items) = sym (h.lost ∙ ap (λ (xs : List Item). first_lost entries (subs_of xs)) cut ∙ lost-cons entries i rest) in
    subst (λ (o : Option SubInstance). TellsLost o error) whole (tells_or (first_lost entries (subs_of (i ∷ []))) (first_lost entries (subs_of rest)) error told)

pub children_found : (entries : List Entry) (items : List Item) (k : ℕ) (children : List ℕ) → length items ≤ k → ChildrenSoFar entries items k children → children ≡ found_subs entries (subs_of items)
children_found entries items k children past h = sym (h.so_far ∙ ap (λ (xs : List Item). children ++ found_subs entries (subs_of xs)) (drop_over items k past) ∙ append-nil children)

pub children_known : (entries : List Entry) (items : List Item) (k : ℕ) (children : List ℕ) → length items ≤ k → ChildrenSoFar entries items k children → first_lost entries (subs_of items) ≡ None
children_known entries items k children past h = h.lost ∙ ap (λ (xs : List Item). first_lost entries (subs_of xs)) (drop_over items k past)

-- ---- the modules of a name

pub some_first : (number : ℕ) (ms : List Module) (name : Text) → is_some (first_from number (module_names ms) name) ≡ is_some (find_module ms name)
some_first number [] name = refl
some_first number (m ∷ ms) name = by (bytes_eq m.name name) (some_first (suc number) ms name)
  where
    by : (t : Bool) → is_some (first_from (suc number) (module_names ms) name) ≡ is_some (find_module ms name) → is_some (cond t (Some number) (first_from (suc number) (module_names ms) name)) ≡ is_some (cond t (Some m) (find_module ms name))
    by true same = refl
    by false same = same

-- the module of a number is the module of the name
pub module_there : (ms : List Module) (name : Text) (k : ℕ) → number_of ms name ≡ Some k → slice_get ms k ≡ find_module ms name
module_there ms name k is = ap (option_and_then (slice_get ms)) (sym is) ∙ named_at (λ (m : Module). m.name) ms name

pub number_within : (ms : List Module) (name : Text) (k : ℕ) → number_of ms name ≡ Some k → k < length ms
number_within ms name k is = named_within (λ (m : Module). m.name) ms name k is

numbers_below : (ms : List Module) (subs : List SubInstance) → AllByRecursion (λ (k : ℕ). k < length ms) (numbers_of_subs ms subs)
numbers_below ms [] = tt
numbers_below ms (s ∷ subs) = by (number_of ms s.of) refl (numbers_below ms subs)
  where
    by : (o : Option ℕ) → number_of ms s.of ≡ o → AllByRecursion (λ (k : ℕ). k < length ms) (numbers_of_subs ms subs) → AllByRecursion (λ (k : ℕ). k < length ms) (cons_option o (numbers_of_subs ms subs))
    by None is more = more
    by (Some k) is more = (number_within ms s.of k is, more)

lists_below : (ms some : List Module) → AllByRecursion (λ (numbers : List ℕ). AreBelow (length ms) numbers) (children_among ms some)
lists_below ms [] = tt
lists_below ms (m ∷ some) = (All-from_recursion (λ (k : ℕ). k < length ms) (numbers_of_subs ms (subs_of m.items)) (numbers_below ms (subs_of m.items)), lists_below ms some)

children_count : (ms some : List Module) → length (children_among ms some) ≡ length some
children_count ms [] = refl
children_count ms (m ∷ some) = ap suc (children_count ms some)

pub graph_count : (ms : List Module) → length (children_of ms) ≡ length ms
graph_count ms = children_count ms ms

pub graph_within : (ms : List Module) → AreWithin (length (children_of ms)) (children_of ms)
graph_within ms = subst (λ (n : ℕ). AreWithin n (children_of ms)) (sym (graph_count ms)) (All-from_recursion (λ (numbers : List ℕ). AreBelow (length ms) numbers) (children_of ms) (lists_below ms ms))

-- ---- the instances of all modules

found_same : (entries : List Entry) (ms : List Module) (subs : List SubInstance) → Finds entries (module_names ms) → found_subs entries subs ≡ numbers_of_subs ms subs
found_same entries ms subs finds = ap (λ (f : SubInstance → Option ℕ). filter_map f subs) (fun_ext (λ s. finds s.of))

lost_same : (entries : List Entry) (ms : List Module) (subs : List SubInstance) → Finds entries (module_names ms) → first_lost entries subs ≡ find (λ (s : SubInstance). not (is_some (find_module ms s.of))) subs
lost_same entries ms subs finds = ap (λ (f : SubInstance → Bool). find f subs) (fun_ext (λ s. ap (λ (o : Option ℕ). not (is_some o)) (finds s.of) ∙ ap not (some_first 0 ms s.of)))

pub record AllSoFar (ms : List Module) (k : ℕ) (all : List (List ℕ)) : Type 0 where
  pub so_far : children_of ms ≡ all ++ children_among ms (drop k ms)
  pub lost : first_unknown ms ≡ find (λ (s : SubInstance). not (is_some (find_module ms s.of))) (all_subs (drop k ms))

pub none_so_far : (ms : List Module) → AllSoFar ms 0 []
none_so_far ms = record { so_far = refl; lost = refl }

pub all_next : (entries : List Entry) (ms : List Module) (m : Module) (k : ℕ) (old new : List (List ℕ)) (children : List ℕ) → Finds entries (module_names ms) → k < length ms → m ≡ get_or ms k m → children ≡ found_subs entries (subs_of m.items) → new ≡ old ++ children ∷ [] →
    first_lost entries (subs_of m.items) ≡ None → AllSoFar ms k old → AllSoFar ms (k + 1) new
all_next entries ms m k old new children finds less is are more known h =
    let rest : List Module = drop (k + 1) ms in
    let cut : drop k ms ≡ m ∷ rest = drop_next ms k m less is in
    let same : numbers_of_subs ms (subs_of m.items) ≡ children = sym (are ∙ found_same entries ms (subs_of m.items) finds) in
    let test : SubInstance → Bool = λ (s : SubInstance). not (is_some (find_module ms s.of)) in
    record {
      so_far = h.so_far ∙ ap (λ (xs : List Module). old ++ children_among ms xs) cut ∙ ap (λ (ys : List ℕ). old ++ ys ∷ children_among ms rest) same ∙ sym (append_assoc old (children ∷ []) (children_among ms rest)) ∙ ap (λ (ys : List (List ℕ)). ys ++ children_among ms rest) (sym more);
      lost = h.lost ∙ ap (λ (xs : List Module). find test (all_subs xs)) cut ∙ find-append test (subs_of m.items) (all_subs rest) ∙ or_not_there (find test (subs_of m.items)) (find test (all_subs rest)) (sym (lost_same entries ms (subs_of m.items) finds) ∙ known);
    }

pub all_lost : (entries : List Entry) (ms : List Module) (m : Module) (k : ℕ) (old : List (List ℕ)) (error : HierError) → Finds entries (module_names ms) → k < length ms → m ≡ get_or ms k m → AllSoFar ms k old → TellsLost (first_lost entries (subs_of m.items)) error → TellsLost (first_unknown ms) error
all_lost entries ms m k old error finds less is h told =
    let rest : List Module = drop (k + 1) ms in
    let cut : drop k ms ≡ m ∷ rest = drop_next ms k m less is in
    let test : SubInstance → Bool = λ (s : SubInstance). not (is_some (find_module ms s.of)) in
    let whole : option_or (find test (subs_of m.items)) (find test (all_subs rest)) ≡ first_unknown ms = sym (h.lost ∙ ap (λ (xs : List Module). find test (all_subs xs)) cut ∙ find-append test (subs_of m.items) (all_subs rest)) in
    subst (λ (o : Option SubInstance). TellsLost o error) whole
    (tells_or (find test (subs_of m.items)) (find test (all_subs rest)) error (subst (λ (o : Option SubInstance). TellsLost o error) (lost_same entries ms (subs_of m.items) finds) told))

pub all_found : (ms : List Module) (k : ℕ) (all : List (List ℕ)) → length ms ≤ k → AllSoFar ms k all → all ≡ children_of ms
all_found ms k all past h = sym (h.so_far ∙ ap (λ (xs : List Module). all ++ children_among ms xs) (drop_over ms k past) ∙ append-nil all)

pub all_known : (ms : List Module) (k : ℕ) (all : List (List ℕ)) → length ms ≤ k → AllSoFar ms k all → first_unknown ms ≡ None
all_known ms k all past h = h.lost ∙ ap (λ (xs : List Module). find (λ (s : SubInstance). not (is_some (find_module ms s.of))) (all_subs xs)) (drop_over ms k past)
