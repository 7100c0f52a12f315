-- Recipes of lists that are made part by part.
use Rattle.std.proofs.Common.{◌≡◌, List, [], ◌++◌, Result, Ok, Err, refl, sym, ap, ◌∙◌, append_assoc}
use Rattle.std.proofs.lemmas.List.{append-nil}
use Rattle.dft_netlist.specs.declared.error.NetlistError.{NetlistError}
use Rattle.dft_netlist.specs.declared.error.NetlistError.TheVariants.{MultipleDrivers, Loop, DuplicateName, TooMany, Memory}
use Rattle.dft_parts.specs.Parts.{Making}
use Rattle.dft_parts.specs.Recipes.{Recipe, pure, ◌>>=◌, outcome, IsRefusal}
use Rattle.dft_parts.proofs.Outcomes.{and_then, outcome-bind, then_ok, then_refused}

-- what comes of the recipe of a list, behind what was made so far
abbrev pub behind_list : {A : Type 0} → (so_far : List A) → Result (List A × Making) NetlistError → Result (List A × Making) NetlistError
behind_list so_far o = and_then o (λ more t. Ok (so_far ++ more, t))

pub list_start : {A : Type 0} (so_far : List A) (o : Result (List A × Making) NetlistError) → so_far ≡ [] → o ≡ behind_list so_far o
list_start so_far (Ok p) none = λ i. Ok (sym none i ++ p.0, p.1)
list_start so_far (Err e) none = refl

list_moved : {A : Type 0} (so_far xs : List A) (o : Result (List A × Making) NetlistError) → behind_list so_far (and_then o (λ more t. outcome (pure (xs ++ more)) t)) ≡ behind_list (so_far ++ xs) o
unfolding outcome
list_moved so_far xs (Ok p) = λ i. Ok (sym (append_assoc so_far xs p.0) i, p.1)
list_moved so_far xs (Err e) = refl

-- a list more was made, and what is left may depend on what it gave
pub list_more : {A B : Type 0} (so_far : List A) (r : Recipe B) (listed : B → List A) (rest : B → Recipe (List A)) (s t : Making) (b : B) → outcome r s ≡ Ok (b, t) →
    behind_list so_far (outcome (r >>= (λ first. rest first >>= (λ more. pure (listed first ++ more)))) s) ≡ behind_list (so_far ++ listed b) (outcome (rest b) t)
list_more so_far r listed rest s t b h =
    ap (behind_list so_far) (then_ok r (λ first. rest first >>= (λ more. pure (listed first ++ more))) s t b h ∙ outcome-bind (rest b) (λ more. pure (listed b ++ more)) t) ∙ list_moved so_far (listed b) (outcome (rest b) t)

list_refused : {A : Type 0} (so_far : List A) (o : Result (List A × Making) NetlistError) (e : NetlistError) → IsRefusal o e → IsRefusal (behind_list so_far o) e
list_refused so_far o (MultipleDrivers name) h = ap (behind_list so_far) h
list_refused so_far o (Loop name) h = ap (behind_list so_far) h
list_refused so_far o (DuplicateName name) h = ap (behind_list so_far) h
list_refused so_far o (TooMany what limit) h = ap (behind_list so_far) h
list_refused so_far o (Memory error) h = tt

pub list_stops : {A B : Type 0} (so_far : List A) (r : Recipe B) (f : B → Recipe (List A)) (s : Making) (e : NetlistError) → IsRefusal (outcome r s) e → IsRefusal (behind_list so_far (outcome (r >>= f) s)) e
list_stops so_far r f s e h = list_refused so_far (outcome (r >>= f) s) e (then_refused r f s e h)

pub list_end : {A : Type 0} (so_far : List A) (s : Making) → behind_list so_far (outcome (pure []) s) ≡ Ok (so_far, s)
unfolding outcome
list_end so_far s = λ i. Ok (append-nil so_far i, s)
