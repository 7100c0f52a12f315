-- What comes of recipes that follow one another.
use Rattle.std.proofs.Common.{ℕ, ◌+◌, ◌≡◌, ◌≤◌, Bool, List, [], ◌∷◌, ◌++◌, length, map, Option, None, Some, Result, Ok, Err, refl, sym, subst, ap, arith, ◌∙◌, length-append}
use Rattle.std.specs.List.{range_with_len}
use Rattle.std.proofs.lemmas.List.FromFn.{length-map-range_with_len}
use Rattle.dft_base.specs.Lexing.{Text}
use Rattle.dft_cells.specs.declared.kind.Kind.{Kind}
use Rattle.dft_cells.specs.declared.cell.CellId.{CellId}
use Rattle.dft_netlist.specs.declared.ids.NetId.{NetId}
use Rattle.dft_netlist.specs.declared.ids.InstanceId.{InstanceId}
use Rattle.dft_netlist.specs.declared.instance.CellRef.{CellRef}
use Rattle.dft_netlist.specs.declared.instance.CellRef.TheVariants.{Library}
use Rattle.dft_netlist.specs.declared.instance.Signal.{Signal}
use Rattle.dft_netlist.specs.declared.error.NetlistError.{NetlistError}
use Rattle.dft_netlist.specs.declared.error.NetlistError.TheVariants.{MultipleDrivers, Loop, DuplicateName, TooMany, Memory}
use Rattle.dft_netlist.specs.Building.{WithNet, WithInstance, net_refusal, instance_refusal, Answers}
use Rattle.dft_netlist.specs.Netlist.{Netlist}
use Rattle.dft_parts.specs.MadeNames.{made_net, made_instance}
use Rattle.dft_parts.specs.Cells.{first_cell, pins_between}
use Rattle.dft_parts.specs.Parts.{Part, ANet, AnInstance, Making, next_instance, with_part, with_parts, part_refusal, parts_refusal, or_else}
use Rattle.dft_parts.specs.Recipes.{Start, Recipe, nets_in, behind, ◌>>=◌, pure, a_net, an_instance, a_store, start_of, unless_refused, outcome, IsRefusal, Makes}
use Rattle.dft_parts.proofs.Growing.{parts_grow}

-- ---- lists of parts

pub with_parts-append : (s : Making) (xs ys : List Part) → with_parts s (xs ++ ys) ≡ with_parts (with_parts s xs) ys
with_parts-append s [] ys = refl
with_parts-append s (x ∷ xs) ys = with_parts-append (with_part s x) xs ys

or_else-assoc : (a b c : Option NetlistError) → or_else (or_else a b) c ≡ or_else a (or_else b c)
or_else-assoc None b c = refl
or_else-assoc (Some e) b c = refl

pub parts_refusal-append : (s : Making) (xs ys : List Part) → parts_refusal s (xs ++ ys) ≡ or_else (parts_refusal s xs) (parts_refusal (with_parts s xs) ys)
parts_refusal-append s [] ys = refl
parts_refusal-append s (x ∷ xs) ys =
    ap (or_else (part_refusal s x)) (parts_refusal-append (with_part s x) xs ys)
    ∙ sym (or_else-assoc (part_refusal s x) (parts_refusal (with_part s x) xs) (parts_refusal (with_parts (with_part s x) xs) ys))

pub nets_grow : (s : Making) (parts : List Part) → length (with_parts s parts).netlist.nets ≡ length s.netlist.nets + nets_in parts
nets_grow s parts =
    ap length (parts_grow s parts).nets
    ∙ length-append s.netlist.nets (map made_net (range_with_len s.made.nets (nets_in parts)))
    ∙ ap (λ (k : ℕ). length s.netlist.nets + k) (length-map-range_with_len made_net s.made.nets (nets_in parts))

-- the next recipe begins behind the parts
pub start_behind : (s : Making) (parts : List Part) → start_of (with_parts s parts) ≡ behind (start_of s) parts
start_behind s parts = λ i. record { library = (parts_grow s parts).library i; next = nets_grow s parts i }

-- ---- one recipe behind another

abbrev pub and_then : {A B : Type 0} → Result (A × Making) NetlistError → (A → Making → Result (B × Making) NetlistError) → Result (B × Making) NetlistError
and_then (Ok p) f = f p.0 p.1
and_then (Err e) f = Err e

joined : {A B : Type 0} (p q : Option NetlistError) (a : A) (t : Making) (b : B) (u : Making) (f : A → Making → Result (B × Making) NetlistError) → unless_refused q b u ≡ f a t →
    unless_refused (or_else p q) b u ≡ and_then (unless_refused p a t) f
joined None q a t b u f h = h
joined (Some e) q a t b u f h = refl

pub outcome-bind : {A B : Type 0} (r : Recipe A) (f : A → Recipe B) (s : Making) → outcome (r >>= f) s ≡ and_then (outcome r s) (λ a t. outcome (f a) t)
unfolding outcome
outcome-bind r f s =
    let g = r (start_of s) in
    let t = with_parts s g.parts in
    let later = f g.value (behind (start_of s) g.parts) in
    ap (λ (o : Option NetlistError). unless_refused o later.value (with_parts s (g.parts ++ later.parts))) (parts_refusal-append s g.parts later.parts)
    ∙ joined (parts_refusal s g.parts) (parts_refusal t later.parts) g.value t later.value (with_parts s (g.parts ++ later.parts)) (λ a u. outcome (f a) u)
    (ap (λ (u : Making). unless_refused (parts_refusal t later.parts) later.value u) (with_parts-append s g.parts later.parts)
    ∙ ap (λ (at : Start). unless_refused (parts_refusal t (f g.value at).parts) (f g.value at).value (with_parts t (f g.value at).parts)) (sym (start_behind s g.parts)))

-- a recipe whose first one was made goes on with the next
pub then_ok : {A B : Type 0} (r : Recipe A) (f : A → Recipe B) (s t : Making) (a : A) → outcome r s ≡ Ok (a, t) → outcome (r >>= f) s ≡ outcome (f a) t
then_ok r f s t a h = outcome-bind r f s ∙ ap (λ o. and_then o (λ b u. outcome (f b) u)) h

-- it is refused as its first one is
then_err : {A B : Type 0} (r : Recipe A) (f : A → Recipe B) (s : Making) (e : NetlistError) → outcome r s ≡ Err e → outcome (r >>= f) s ≡ Err e
then_err r f s e h = outcome-bind r f s ∙ ap (λ o. and_then o (λ b u. outcome (f b) u)) h

pub then_refused : {A B : Type 0} (r : Recipe A) (f : A → Recipe B) (s : Making) (e : NetlistError) → IsRefusal (outcome r s) e → IsRefusal (outcome (r >>= f) s) e
then_refused r f s (MultipleDrivers name) h = then_err r f s (MultipleDrivers name) h
then_refused r f s (Loop name) h = then_err r f s (Loop name) h
then_refused r f s (DuplicateName name) h = then_err r f s (DuplicateName name) h
then_refused r f s (TooMany what limit) h = then_err r f s (TooMany what limit) h
then_refused r f s (Memory error) h = tt

pub pure_made : {A : Type 0} (a : A) (s : Making) → outcome (pure a) s ≡ Ok (a, s)
unfolding outcome
pure_made a s = refl

-- ---- what was made

-- the netlist of an outcome
state_in : {A : Type 0} → Making → Result (A × Making) NetlistError → Making
state_in s (Ok p) = p.1
state_in s (Err e) = s

made_by : {A : Type 0} (o : Option NetlistError) (a b : A) (s t : Making) → unless_refused o a s ≡ Ok (b, t) → t ≡ s
unfolding state_in
made_by None a b s t h = ap (state_in s) (sym h)
made_by (Some e) a b s t h = absurd cc

value_by : {A : Type 0} → A → Result (A × Making) NetlistError → A
value_by a (Ok p) = p.0
value_by a (Err e) = a

value_at : {A : Type 0} (o : Option NetlistError) (a b : A) (s t : Making) → unless_refused o a s ≡ Ok (b, t) → b ≡ a
unfolding value_by
value_at None a b s t h = ap (value_by a) (sym h)
value_at (Some e) a b s t h = absurd cc

pub made_value : {A : Type 0} (r : Recipe A) (s t : Making) (a : A) → outcome r s ≡ Ok (a, t) → a ≡ (r (start_of s)).value
unfolding outcome
made_value r s t a h = let g = r (start_of s) in value_at (parts_refusal s g.parts) g.value a (with_parts s g.parts) t h

pub made_parts : {A : Type 0} (r : Recipe A) (s t : Making) (a : A) → outcome r s ≡ Ok (a, t) → t ≡ with_parts s (r (start_of s)).parts
unfolding outcome
made_parts r s t a h = let g = r (start_of s) in made_by (parts_refusal s g.parts) g.value a (with_parts s g.parts) t h

-- nets stay
pub nets_stay : {A : Type 0} (r : Recipe A) (s t : Making) (a : A) → outcome r s ≡ Ok (a, t) → length s.netlist.nets ≤ length t.netlist.nets
nets_stay r s t a h = let e = ap (λ (u : Making). length u.netlist.nets) (made_parts r s t a h) in omega (arith, e, nets_grow s (r (start_of s)).parts)

-- ---- single parts

one_made : {A : Type 0} (s : Making) (part : Part) (a : A) → part_refusal s part ≡ None → unless_refused (parts_refusal s (part ∷ [])) a (with_part s part) ≡ Ok (a, with_part s part)
one_made s part a h = ap (λ (o : Option NetlistError). unless_refused (or_else o None) a (with_part s part)) h

one_refused : {A : Type 0} (s : Making) (part : Part) (a : A) (e : NetlistError) → part_refusal s part ≡ Some e → unless_refused (parts_refusal s (part ∷ [])) a (with_part s part) ≡ Err e
one_refused s part a e h = ap (λ (o : Option NetlistError). unless_refused (or_else o None) a (with_part s part)) h

-- the builder's refusal is that of the outcome
as_refusal : {A : Type 0} (T : Type 0) (refusal : Option NetlistError) (out : Result (A × Making) NetlistError) (e : NetlistError) → ((x : NetlistError) → refusal ≡ Some x → out ≡ Err x) → Answers {A = T} refusal (Err e) → IsRefusal out e
as_refusal T refusal out (MultipleDrivers name) gives h = gives (MultipleDrivers name) h
as_refusal T refusal out (Loop name) gives h = gives (Loop name) h
as_refusal T refusal out (DuplicateName name) gives h = gives (DuplicateName name) h
as_refusal T refusal out (TooMany what limit) gives h = gives (TooMany what limit) h
as_refusal T refusal out (Memory error) gives h = tt

pub net_made : (s : Making) (n : Netlist) (net : NetId) → net_refusal s.netlist (made_net s.made.nets) ≡ None → WithNet s.netlist (made_net s.made.nets) net n →
    outcome a_net s ≡ Ok (net, record { netlist = n; made = record { nets = s.made.nets + 1; instances = s.made.instances } })
unfolding outcome
net_made s n net passes is =
    one_made s ANet (record { 0 = length s.netlist.nets }) passes
    ∙ (λ i. Ok (record { 0 = sym is.number i }, record { netlist = sym is.grown i; made = record { nets = s.made.nets + 1; instances = s.made.instances } }))

pub net_refused : (s : Making) (name : Text) (e : NetlistError) → name ≡ made_net s.made.nets → Answers {A = NetId} (net_refusal s.netlist name) (Err e) → IsRefusal (outcome a_net s) e
unfolding outcome
net_refused s name e named h =
    as_refusal NetId (net_refusal s.netlist name) (outcome a_net s) e (λ x is. one_refused s ANet (record { 0 = length s.netlist.nets }) x (ap (net_refusal s.netlist) (sym named) ∙ is)) h

pub instance_made : (s : Making) (n : Netlist) (cell : CellRef) (pins : List Signal) (id : InstanceId) → instance_refusal s.netlist (Some (made_instance s.made.instances)) ≡ None → WithInstance s.netlist (next_instance s.made cell pins) id n →
    outcome (an_instance cell pins) s ≡ Ok (tt, record { netlist = n; made = record { nets = s.made.nets; instances = s.made.instances + 1 } })
unfolding outcome
instance_made s n cell pins id passes is =
    one_made s (AnInstance cell pins) tt passes ∙ (λ i. Ok (tt, record { netlist = sym is.grown i; made = record { nets = s.made.nets; instances = s.made.instances + 1 } }))

pub instance_refused : (s : Making) (name : Text) (cell : CellRef) (pins : List Signal) (e : NetlistError) → name ≡ made_instance s.made.instances → Answers {A = InstanceId} (instance_refusal s.netlist (Some name)) (Err e) →
    IsRefusal (outcome (an_instance cell pins) s) e
unfolding outcome
instance_refused s name cell pins e named h =
    as_refusal InstanceId (instance_refusal s.netlist (Some name)) (outcome (an_instance cell pins) s) e
    (λ x is. one_refused s (AnInstance cell pins) tt x (ap (λ (n : Text). instance_refusal s.netlist (Some n)) (sym named) ∙ is)) h

-- what makes a recipe makes another of the same outcome
pub same_makes : {X A : Type 0} (view : X → A) (r q : Recipe A) (s t : Making) (result : Result X NetlistError) (new : Making) → outcome r s ≡ outcome q t → Makes view q t result new → Makes view r s result new
same_makes view r q s t (Ok x) new same h = same ∙ h
same_makes view r q s t (Err e) new same h = subst (λ o. IsRefusal o e) (sym same) h

pub store_is : (test : Kind → Bool) (clock input output : NetId) (s : Making) (cell : CellId) → cell ≡ first_cell test s.netlist.library →
    outcome (a_store test clock input output) s ≡ outcome (an_instance (Library cell) (pins_between s.netlist.library cell clock input output)) s
unfolding outcome
store_is test clock input output s cell is = ap (λ (id : CellId). outcome (an_instance (Library id) (pins_between s.netlist.library id clock input output)) s) (sym is)
