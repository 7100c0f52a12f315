-- Connections and the ports that they fit.
use Rattle.std.proofs.Common.{ℕ, zero, suc, ◌+◌, ◌<◌, ◌≤◌, ◌≡◌, inl, inr, Bool, true, false, not, cond, List, [], ◌∷◌, ◌++◌, length, drop, get_or, map, find, Option, None, Some, is_some, option_and_then, slice_get, refl, sym, ap, subst, arith, ◌∙◌}
use Rattle.std.specs.List.{cons_option}
use Rattle.std.specs.Option.{option_or}
use Rattle.std.proofs.lemmas.List.{get_or_append_left, get_or_at}
use Rattle.std.proofs.lemmas.Bool.{cases_lt}
use Rattle.dft_base.proofs.ListLemmas.{length_push, drop_over}
use Rattle.std.proofs.lemmas.List.Folds.{find-append}
use Rattle.std.proofs.lemmas.Option.{slice_get_within, slice_get-get_or}
use Rattle.dft_base.specs.Lexing.{Text}
use Rattle.dft_netlist.specs.declared.port.Port.{Port}
use Rattle.dft_modules.specs.declared.connections.Connection.{Connection}
use Rattle.dft_modules.specs.declared.module.SubInstance.{SubInstance}
use Rattle.dft_modules.specs.declared.module.Item.{Item}
use Rattle.dft_modules.specs.Modules.{Module}
use Rattle.dft_hier.specs.declared.error.HierError.{HierError}
use Rattle.dft_hier.specs.declared.error.HierError.TheVariants as told
use Rattle.dft_hier.specs.Hierarchy.{sub_of, subs_of, all_subs, find_module}
use Rattle.dft_numbered.proofs.NamedLemmas.{named_at, named_within}
use Rattle.dft_numbered.specs.Numbers.{Entry, Finds, look_up}
use Rattle.dft_hier.specs.Numbers.{port_names, number_of, numbers_of_subs, children_of, children_among}
use Rattle.dft_hier.specs.Fitting.{ArePortsFound, TellsMisfit}
use Rattle.dft_hier.specs.Refusals.{fits, fits_port, ports_of, first_misfit, first_unknown}
use Rattle.dft_hier.proofs.NumberLemmas.{drop_next, module_there, number_within, some_first}

-- ---- searches for the first that passes

pub find_next : {X : Type 0} (p : X → Bool) (xs : List X) (k : ℕ) (x : X) → k < length xs → x ≡ get_or xs k x → p x ≡ false → find p (drop k xs) ≡ find p (drop (k + 1) xs)
find_next {X = X} p xs k x less is fails = ap (find p) (drop_next xs k x less is) ∙ ap (λ (t : Bool). cond t (Some x) (find p (drop (k + 1) xs))) fails

pub find_here : {X : Type 0} (p : X → Bool) (xs : List X) (k : ℕ) (x : X) → k < length xs → x ≡ get_or xs k x → p x ≡ true → find p (drop k xs) ≡ Some x
find_here {X = X} p xs k x less is passes = ap (find p) (drop_next xs k x less is) ∙ ap (λ (t : Bool). cond t (Some x) (find p (drop (k + 1) xs))) passes

-- ---- ports by their names

pub port_live : (entries : List Entry) (ports : List Port) (name : Text) (k : ℕ) → Finds entries (port_names ports) → look_up entries name ≡ Some k → k < length ports
port_live entries ports name k finds is = named_within (λ (p : Port). p.name) ports name k (sym (finds name) ∙ is)

pub fits_some : (entries : List Entry) (ports : List Port) (c : Connection) (k : ℕ) (p : Port) → Finds entries (port_names ports) → look_up entries c.port ≡ Some k → p ≡ get_or ports k p → fits_port (Some p) c.signals ≡ fits ports c
fits_some entries ports c k p finds is at =
    let live = port_live entries ports c.port k finds is in
    let there : slice_get ports k ≡ Some p = slice_get-get_or ports k p live ∙ ap (λ (x : Port). Some x) (sym at) in
    ap (λ (o : Option Port). fits_port o c.signals) (sym there ∙ ap (option_and_then (slice_get ports)) (sym is ∙ finds c.port) ∙ named_at (λ (p : Port). p.name) ports c.port)

pub fits_none : (entries : List Entry) (ports : List Port) (c : Connection) → Finds entries (port_names ports) → look_up entries c.port ≡ None → fits ports c ≡ false
fits_none entries ports c finds is = ap (λ (o : Option Port). fits_port o c.signals) (sym (named_at (λ (p : Port). p.name) ports c.port) ∙ ap (option_and_then (slice_get ports)) (sym (finds c.port) ∙ is))

-- ---- the ports of all modules

pub record PortsSoFar (ms : List Module) (k : ℕ) (ports : List (List Entry)) : Type 0 where
  pub count : length ports ≡ k
  pub each : (number : ℕ) (m : Module) → number < k → slice_get ms number ≡ Some m → Finds (get_or ports number []) (port_names m.ports)

pub no_ports : (ms : List Module) → PortsSoFar ms 0 []
no_ports ms = record { count = refl; each = λ number m less. absurd (omega (arith, less)) }

-- ---- the instances among items

pub subs_some : (i : Item) (items : List Item) (s : SubInstance) → sub_of i ≡ Some s → subs_of (i ∷ items) ≡ s ∷ subs_of items
subs_some i items s is = ap (λ (o : Option SubInstance). cons_option o (subs_of items)) is

pub subs_none : (i : Item) (items : List Item) → sub_of i ≡ None → subs_of (i ∷ items) ≡ subs_of items
subs_none i items is = ap (λ (o : Option SubInstance). cons_option o (subs_of items)) is

-- the numbers of the modules of instances
abbrev pub numbers : List Module → List SubInstance → List (Option ℕ)
numbers ms subs = map (λ (s : SubInstance). number_of ms s.of) subs

-- the first of those that are left
pub record IsNext (xs : List ℕ) (k : ℕ) (first : Option ℕ) (rest : List (Option ℕ)) : Type 0 where
  pub less : k < length xs
  pub is : first ≡ Some (get_or xs k 0)
  pub more : rest ≡ map Some (drop (k + 1) xs)

pub next_of : (xs : List ℕ) (k : ℕ) (first : Option ℕ) (rest : List (Option ℕ)) → first ∷ rest ≡ map Some (drop k xs) → IsNext xs k first rest
next_of [] zero first rest e = absurd (let f : ⊥ = cc in f)
next_of [] (suc k) first rest e = absurd (let f : ⊥ = cc in f)
next_of (x ∷ xs) zero first rest e = record { less = omega arith; is = cc; more = cc }
next_of (x ∷ xs) (suc k) first rest e =
    let r = next_of xs k first rest e in
    let step : suc k + 1 ≡ suc (k + 1) = omega arith in
    record { less = (let l = r.less in omega arith); is = r.is; more = r.more ∙ ap (λ (n : ℕ). map Some (drop n (x ∷ xs))) (sym step) }

-- the items from one on: the numbers of their modules, and the first connection among them that fits no port
pub record CheckedSoFar (ms : List Module) (items : List Item) (children : List ℕ) (k next : ℕ) : Type 0 where
  pub few : next ≤ k
  pub left : numbers ms (subs_of (drop k items)) ≡ map Some (drop next children)
  pub misfit : first_misfit ms (subs_of items) ≡ first_misfit ms (subs_of (drop k items))

pub next_child : (ms : List Module) (items : List Item) (children : List ℕ) (k next : ℕ) (i : Item) (s : SubInstance) → k < length items → i ≡ get_or items k i → sub_of i ≡ Some s → CheckedSoFar ms items children k next →
    IsNext children next (number_of ms s.of) (numbers ms (subs_of (drop (k + 1) items)))
next_child ms items children k next i s less is sub h =
    let rest : List Item = drop (k + 1) items in
    let cut : subs_of (drop k items) ≡ s ∷ subs_of rest = ap (λ (xs : List Item). subs_of xs) (drop_next items k i less is) ∙ subs_some i rest s sub in
    next_of children next (number_of ms s.of) (numbers ms (subs_of rest)) (sym (ap (numbers ms) cut) ∙ h.left)

pub checked_next : (ms : List Module) (items : List Item) (children : List ℕ) (k next : ℕ) (i : Item) (s : SubInstance) (m : Module) → k < length items → i ≡ get_or items k i → sub_of i ≡ Some s → find_module ms s.of ≡ Some m →
    find (λ c. not (fits m.ports c)) s.connections ≡ None → CheckedSoFar ms items children k next → CheckedSoFar ms items children (k + 1) (next + 1)
checked_next ms items children k next i s m less is sub found fit h =
    let rest : List Item = drop (k + 1) items in
    let cut : subs_of (drop k items) ≡ s ∷ subs_of rest = ap (λ (xs : List Item). subs_of xs) (drop_next items k i less is) ∙ subs_some i rest s sub in
    let here = next_child ms items children k next i s less is sub h in
    record {
      few = (let f = h.few in omega arith);
      left = here.more;
      misfit = h.misfit ∙ ap (first_misfit ms) cut
          ∙ ap (λ (o : Option Module). option_or (find (λ c. not (fits (ports_of o) c)) s.connections) (first_misfit ms (subs_of rest))) found
          ∙ ap (λ (o : Option Connection). option_or o (first_misfit ms (subs_of rest))) fit;
    }

pub checked_over : (ms : List Module) (items : List Item) (children : List ℕ) (k next : ℕ) (i : Item) → k < length items → i ≡ get_or items k i → sub_of i ≡ None → CheckedSoFar ms items children k next → CheckedSoFar ms items children (k + 1) next
checked_over ms items children k next i less is none h =
    let rest : List Item = drop (k + 1) items in
    let cut : subs_of (drop k items) ≡ subs_of rest = ap (λ (xs : List Item). subs_of xs) (drop_next items k i less is) ∙ subs_none i rest none in
    record { few = (let f = h.few in omega arith); left = sym (ap (numbers ms) cut) ∙ h.left; misfit = h.misfit ∙ ap (first_misfit ms) cut }

or_tells : (a b : Option Connection) (error : HierError) → TellsMisfit a error → TellsMisfit (option_or a b) error
or_tells None b (told.H5 place name) t = absurd t
or_tells (Some c) b (told.H5 place name) t = t
or_tells a b (told.Memory error) t = tt
or_tells a b _ t = t

pub misfit_here : (ms : List Module) (items : List Item) (children : List ℕ) (k next : ℕ) (i : Item) (s : SubInstance) (m : Module) (error : HierError) → k < length items → i ≡ get_or items k i → sub_of i ≡ Some s → find_module ms s.of ≡ Some m →
    CheckedSoFar ms items children k next → TellsMisfit (find (λ c. not (fits m.ports c)) s.connections) error → TellsMisfit (first_misfit ms (subs_of items)) error
misfit_here ms items children k next i s m error less is sub found h t =
    let rest : List Item = drop (k + 1) items in
    let cut : subs_of (drop k items) ≡ s ∷ subs_of rest = ap (λ (xs : List Item). subs_of xs) (drop_next items k i less is) ∙ subs_some i rest s sub in
    let whole : option_or (find (λ c. not (fits m.ports c)) s.connections) (first_misfit ms (subs_of rest)) ≡ first_misfit ms (subs_of items) =
    sym (h.misfit ∙ ap (first_misfit ms) cut ∙ ap (λ (o : Option Module). option_or (find (λ c. not (fits (ports_of o) c)) s.connections) (first_misfit ms (subs_of rest))) found) in
    subst (λ (o : Option Connection). TellsMisfit o error) whole (or_tells (find (λ c. not (fits m.ports c)) s.connections) (first_misfit ms (subs_of rest)) error t)

pub checked_all : (ms : List Module) (items : List Item) (children : List ℕ) (k next : ℕ) → length items ≤ k → CheckedSoFar ms items children k next → first_misfit ms (subs_of items) ≡ None
checked_all ms items children k next past h = h.misfit ∙ ap (λ (xs : List Item). first_misfit ms (subs_of xs)) (drop_over items k past)

-- the module of an instance, by its number
pub found_child : (ms : List Module) (s : SubInstance) (child : ℕ) (m : Module) → number_of ms s.of ≡ Some child → m ≡ get_or ms child m → find_module ms s.of ≡ Some m
found_child ms s child m is at = let live = number_within ms s.of child is in sym (module_there ms s.of child is) ∙ slice_get-get_or ms child m live ∙ ap (λ (x : Module). Some x) (sym at)

-- ---- the modules of instances are known

known_parts : {X : Type 0} (p : X → Bool) (xs ys : List X) → find p (xs ++ ys) ≡ None → (find p xs ≡ None) × (find p ys ≡ None)
known_parts {X = X} p xs ys e = by (find p xs) (find p ys) (sym (find-append p xs ys) ∙ e)
  where
    by : (a b : Option X) → option_or a b ≡ None → (a ≡ None) × (b ≡ None)
    by None b e = (refl, e)
    by (Some x) b e = absurd (let f : ⊥ = cc in f)

pub paired : (ms : List Module) (subs : List SubInstance) → find (λ (s : SubInstance). not (is_some (find_module ms s.of))) subs ≡ None → numbers ms subs ≡ map Some (numbers_of_subs ms subs)
paired ms [] known = refl
paired ms (s ∷ subs) known = by (number_of ms s.of) refl known (paired ms subs)
  where
    by : (o : Option ℕ) → number_of ms s.of ≡ o → find (λ (s : SubInstance). not (is_some (find_module ms s.of))) (s ∷ subs) ≡ None → (find (λ (s : SubInstance). not (is_some (find_module ms s.of))) subs ≡ None → numbers ms subs ≡ map Some (numbers_of_subs ms subs)) →
        o ∷ numbers ms subs ≡ map Some (cons_option o (numbers_of_subs ms subs))
    by None is known more =
        let lost : is_some (find_module ms s.of) ≡ false = sym (some_first 0 ms s.of) ∙ ap (λ (o : Option ℕ). is_some o) is in
        let here : Some s ≡ None = sym (ap (λ (t : Bool). cond (not t) (Some s) (find (λ (s : SubInstance). not (is_some (find_module ms s.of))) subs)) lost) ∙ known in
        absurd (let f : ⊥ = cc in f)
    by (Some k) is known more =
        let there : is_some (find_module ms s.of) ≡ true = sym (some_first 0 ms s.of) ∙ ap (λ (o : Option ℕ). is_some o) is in
        let rest : find (λ (s : SubInstance). not (is_some (find_module ms s.of))) subs ≡ None = sym (ap (λ (t : Bool). cond (not t) (Some s) (find (λ (s : SubInstance). not (is_some (find_module ms s.of))) subs)) there) ∙ known in
        ap (λ (xs : List (Option ℕ)). Some k ∷ xs) (more rest)

known_at : (ms some : List Module) (k : ℕ) (m : Module) → find (λ (s : SubInstance). not (is_some (find_module ms s.of))) (all_subs some) ≡ None → slice_get some k ≡ Some m → find (λ (s : SubInstance). not (is_some (find_module ms s.of))) (subs_of m.items) ≡ None
known_at ms [] k m known at = absurd (let f : ⊥ = cc in f)
known_at ms (x ∷ some) zero m known at =
    let e : x ≡ m = cc in
    subst (λ (y : Module). find (λ (s : SubInstance). not (is_some (find_module ms s.of))) (subs_of y.items) ≡ None) e (known_parts (λ (s : SubInstance). not (is_some (find_module ms s.of))) (subs_of x.items) (all_subs some) known).0
known_at ms (x ∷ some) (suc k) m known at = known_at ms some k m (known_parts (λ (s : SubInstance). not (is_some (find_module ms s.of))) (subs_of x.items) (all_subs some) known).1 at

children_at_module : (ms some : List Module) (k : ℕ) (m : Module) → slice_get some k ≡ Some m → get_or (children_among ms some) k [] ≡ numbers_of_subs ms (subs_of m.items)
children_at_module ms [] k m at = absurd (let f : ⊥ = cc in f)
children_at_module ms (x ∷ some) zero m at = let e : x ≡ m = cc in ap (λ (y : Module). numbers_of_subs ms (subs_of y.items)) e
children_at_module ms (x ∷ some) (suc k) m at = children_at_module ms some k m at

pub children_of_at : (ms : List Module) (k : ℕ) (m : Module) → slice_get ms k ≡ Some m → get_or (children_of ms) k [] ≡ numbers_of_subs ms (subs_of m.items)
children_of_at ms k m at = children_at_module ms ms k m at

pub paired_at : (ms : List Module) (k : ℕ) (m : Module) → first_unknown ms ≡ None → slice_get ms k ≡ Some m → numbers ms (subs_of m.items) ≡ map Some (get_or (children_of ms) k [])
paired_at ms k m known at = paired ms (subs_of m.items) (known_at ms ms k m known at) ∙ ap (λ (xs : List ℕ). map Some xs) (sym (children_of_at ms k m at))

-- ---- the connections of all modules

misfit-append : (ms : List Module) (xs ys : List SubInstance) → first_misfit ms (xs ++ ys) ≡ option_or (first_misfit ms xs) (first_misfit ms ys)
misfit-append ms [] ys = refl
misfit-append ms (s ∷ xs) ys = by (find (λ c. not (fits (ports_of (find_module ms s.of)) c)) s.connections) (misfit-append ms xs ys)
  where
    by : (o : Option Connection) → first_misfit ms (xs ++ ys) ≡ option_or (first_misfit ms xs) (first_misfit ms ys) → option_or o (first_misfit ms (xs ++ ys)) ≡ option_or (option_or o (first_misfit ms xs)) (first_misfit ms ys)
    by None e = e
    by (Some c) e = refl

-- the modules from one on tell what all tell
abbrev pub MisfitsSoFar : (ms : List Module) → (k : ℕ) → Type 0
MisfitsSoFar ms k = first_misfit ms (all_subs ms) ≡ first_misfit ms (all_subs (drop k ms))

pub misfits_next : (ms : List Module) (k : ℕ) (m : Module) → k < length ms → m ≡ get_or ms k m → first_misfit ms (subs_of m.items) ≡ None → MisfitsSoFar ms k → MisfitsSoFar ms (k + 1)
misfits_next ms k m less is none h =
    let rest : List Module = drop (k + 1) ms in
    h ∙ ap (λ (xs : List Module). first_misfit ms (all_subs xs)) (drop_next ms k m less is) ∙ misfit-append ms (subs_of m.items) (all_subs rest) ∙ ap (λ (o : Option Connection). option_or o (first_misfit ms (all_subs rest))) none

pub misfits_here : (ms : List Module) (k : ℕ) (m : Module) (error : HierError) → k < length ms → m ≡ get_or ms k m → MisfitsSoFar ms k → TellsMisfit (first_misfit ms (subs_of m.items)) error → TellsMisfit (first_misfit ms (all_subs ms)) error
misfits_here ms k m error less is h t =
    let rest : List Module = drop (k + 1) ms in
    let whole : option_or (first_misfit ms (subs_of m.items)) (first_misfit ms (all_subs rest)) ≡ first_misfit ms (all_subs ms) = sym (h ∙ ap (λ (xs : List Module). first_misfit ms (all_subs xs)) (drop_next ms k m less is) ∙ misfit-append ms (subs_of m.items) (all_subs rest)) in
    subst (λ (o : Option Connection). TellsMisfit o error) whole (or_tells (first_misfit ms (subs_of m.items)) (first_misfit ms (all_subs rest)) error t)

pub misfits_none : (ms : List Module) (k : ℕ) → length ms ≤ k → MisfitsSoFar ms k → first_misfit ms (all_subs ms) ≡ None
misfits_none ms k past h = h ∙ ap (λ (xs : List Module). first_misfit ms (all_subs xs)) (drop_over ms k past)

-- ---- the ports of one module more

pub ports_next : (ms : List Module) (m : Module) (k : ℕ) (old new : List (List Entry)) (entries : List Entry) → k < length ms → m ≡ get_or ms k m → new ≡ old ++ entries ∷ [] → Finds entries (port_names m.ports) → PortsSoFar ms k old → PortsSoFar ms (k + 1) new
ports_next ms m k old new entries less is more finds h =
    let size = h.count in
    let there : slice_get ms k ≡ Some m = slice_get-get_or ms k m less ∙ ap (λ (x : Module). Some x) (sym is) in
    record {
      count = ap (λ (xs : List (List Entry)). length xs) more ∙ length_push old entries ∙ (let e : suc (length old) ≡ k + 1 = omega arith in e);
      each = λ number x within at. elim (cases_lt number k) [
        | inl early ↦ subst (λ (es : List Entry). Finds es (port_names x.ports)) (sym (ap (λ (xs : List (List Entry)). get_or xs number []) more ∙ get_or_append_left old (entries ∷ []) [] number (omega arith))) (h.each number x early at)
        | inr late ↦ (
            let e : number ≡ k = omega arith in
            let f : Some x ≡ Some m = sym at ∙ ap (slice_get ms) e ∙ there in
            let g : m ≡ x = cc in
            let here : get_or new number [] ≡ entries = ap (λ (xs : List (List Entry)). get_or xs number []) more ∙ get_or_at old entries [] [] number (let d : length old ≡ number = omega arith in d) in
            subst (λ (es : List Entry). Finds es (port_names x.ports)) (sym here) (subst (λ (y : Module). Finds entries (port_names y.ports)) g finds))
      ];
    }

pub ports_all : (ms : List Module) (k : ℕ) (ports : List (List Entry)) → length ms ≤ k → k ≤ length ms → PortsSoFar ms k ports → ArePortsFound ms ports
ports_all ms k ports past within h = record {
  count = (let c = h.count in omega arith);
  each = λ number m at. h.each number m (let l = slice_get_within ms number m at in omega arith) at;
}
