-- Recipes that are made one after another, in a loop.
use Rattle.std.proofs.Common.{◌≡◌, List, [], ◌∷◌, ◌++◌, Result, Ok, Err, refl, sym, ap, ◌∙◌, append_assoc}
use Rattle.std.proofs.lemmas.List.{append-nil}
use Rattle.dft_netlist.specs.declared.error.NetlistError.{NetlistError}
use Rattle.dft_netlist.specs.declared.error.NetlistError.TheVariants.{MultipleDrivers, Loop, DuplicateName, TooMany, Memory}
use Rattle.dft_parts.specs.Parts.{Making}
use Rattle.dft_parts.specs.Recipes.{Recipe, pure, ◌>>=◌, each, collect, outcome, IsRefusal}
use Rattle.dft_parts.proofs.Outcomes.{and_then, outcome-bind, then_ok, then_refused, pure_made}

-- what comes of a recipe of a list, behind what was collected so far
pub goes_on : {A : Type 0} → (so_far : List A) → Recipe (List A) → Making → Result (List A × Making) NetlistError
goes_on so_far r s = and_then (outcome r s) (λ more t. Ok (so_far ++ more, t))

-- at first nothing was collected
start_all : {A : Type 0} (o : Result (List A × Making) NetlistError) → o ≡ and_then o (λ more t. Ok ([] ++ more, t))
start_all (Ok p) = refl
start_all (Err e) = refl

pub goes_start : {A : Type 0} (r : Recipe (List A)) (s : Making) → outcome r s ≡ goes_on [] r s
unfolding goes_on
goes_start r s = start_all (outcome r s)

-- a recipe that puts one value before a list
abbrev pub before_rest : {A : Type 0} → Recipe A → Recipe (List A) → Recipe (List A)
before_rest r rest = r >>= (λ first. rest >>= (λ more. pure (first ∷ more)))

moved : {A : Type 0} (o : Result (List A × Making) NetlistError) (so_far : List A) (a : A) →
    and_then (and_then o (λ more t. outcome (pure (a ∷ more)) t)) (λ more t. Ok (so_far ++ more, t)) ≡ and_then o (λ more t. Ok ((so_far ++ a ∷ []) ++ more, t))
unfolding outcome
moved (Ok p) so_far a = λ i. Ok (sym (append_assoc so_far (a ∷ []) p.0) i, p.1)
moved (Err e) so_far a = refl

-- one more was collected
pub goes_step : {A : Type 0} (so_far : List A) (r : Recipe A) (rest : Recipe (List A)) (s t : Making) (a : A) → outcome r s ≡ Ok (a, t) → goes_on so_far (before_rest r rest) s ≡ goes_on (so_far ++ a ∷ []) rest t
unfolding goes_on
goes_step so_far r rest s t a h =
    ap (λ o. and_then o (λ more u. Ok (so_far ++ more, u))) (then_ok r (λ first. rest >>= (λ more. pure (first ∷ more))) s t a h ∙ outcome-bind rest (λ more. pure (a ∷ more)) t)
    ∙ moved (outcome rest t) so_far a

-- a refusal behind what was collected
refused_behind : {A : Type 0} (o : Result (List A × Making) NetlistError) (so_far : List A) (e : NetlistError) → IsRefusal o e → IsRefusal (and_then o (λ more t. Ok (so_far ++ more, t))) e
refused_behind o so_far (MultipleDrivers name) h = ap (λ x. and_then x (λ more t. Ok (so_far ++ more, t))) h
refused_behind o so_far (Loop name) h = ap (λ x. and_then x (λ more t. Ok (so_far ++ more, t))) h
refused_behind o so_far (DuplicateName name) h = ap (λ x. and_then x (λ more t. Ok (so_far ++ more, t))) h
refused_behind o so_far (TooMany what limit) h = ap (λ x. and_then x (λ more t. Ok (so_far ++ more, t))) h
refused_behind o so_far (Memory error) h = tt

pub goes_refused : {A : Type 0} (so_far : List A) (r : Recipe A) (rest : Recipe (List A)) (s : Making) (e : NetlistError) → IsRefusal (outcome r s) e → IsRefusal (goes_on so_far (before_rest r rest) s) e
unfolding goes_on
goes_refused so_far r rest s e h = refused_behind (outcome (before_rest r rest) s) so_far e (then_refused r (λ first. rest >>= (λ more. pure (first ∷ more))) s e h)

-- nothing is left
pub goes_end : {A : Type 0} (so_far : List A) (s : Making) → goes_on so_far (pure []) s ≡ Ok (so_far, s)
unfolding goes_on outcome
goes_end so_far s = λ i. Ok (append-nil so_far i, s)

-- one is left
pub goes_last : {A : Type 0} (so_far : List A) (a : A) (s : Making) → goes_on so_far (pure (a ∷ [])) s ≡ Ok (so_far ++ a ∷ [], s)
unfolding goes_on outcome
goes_last so_far a s = refl

-- ---- for each of a list

pub each_step : {X : Type 0} (f : X → Recipe (Unit {0})) (x : X) (xs : List X) (s t : Making) → outcome (f x) s ≡ Ok (tt, t) → outcome (each f (x ∷ xs)) s ≡ outcome (each f xs) t
unfolding each
each_step f x xs s t h = then_ok (f x) (λ _. each f xs) s t tt h

pub each_refused : {X : Type 0} (f : X → Recipe (Unit {0})) (x : X) (xs : List X) (s : Making) (e : NetlistError) → IsRefusal (outcome (f x) s) e → IsRefusal (outcome (each f (x ∷ xs)) s) e
unfolding each
each_refused f x xs s e h = then_refused (f x) (λ _. each f xs) s e h

pub each_end : {X : Type 0} (f : X → Recipe (Unit {0})) (s : Making) → outcome (each f []) s ≡ Ok (tt, s)
unfolding each
each_end f s = pure_made tt s

pub collect_step : {X A : Type 0} (so_far : List A) (f : X → Recipe A) (x : X) (xs : List X) (s t : Making) (a : A) → outcome (f x) s ≡ Ok (a, t) → goes_on so_far (collect f (x ∷ xs)) s ≡ goes_on (so_far ++ a ∷ []) (collect f xs) t
unfolding collect
collect_step so_far f x xs s t a h = goes_step so_far (f x) (collect f xs) s t a h

pub collect_refused : {X A : Type 0} (so_far : List A) (f : X → Recipe A) (x : X) (xs : List X) (s : Making) (e : NetlistError) → IsRefusal (outcome (f x) s) e → IsRefusal (goes_on so_far (collect f (x ∷ xs)) s) e
unfolding collect
collect_refused so_far f x xs s e h = goes_refused so_far (f x) (collect f xs) s e h

pub collect_end : {X A : Type 0} (so_far : List A) (f : X → Recipe A) (s : Making) → goes_on so_far (collect f []) s ≡ Ok (so_far, s)
unfolding collect
collect_end so_far f s = goes_end so_far s
