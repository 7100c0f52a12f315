-- The rows that `clap` keeps for options, and the options whose rows they are.
use Rattle.std.proofs.Common.{◌≡◌, ◌≤◌, ◌&&◌, ◌||◌, Bool, true, false, not, List, [], ◌∷◌, ◌++◌, map, length, Option, Some, None, if◌then◌else◌, bytes_eq, refl, sym, ap, ◌∙◌, subst, arith, append-nil, length-append, find, fold, true≢false, ap₂, option_and_then, slice_get}
use Rattle.std.specs.List.{AllByRecursion, list_any}
use Rattle.std.specs.Option.{option_map_or}
use Rattle.std.proofs.lemmas.Slice.Eq.{bytes_eq-Decides}
use Rattle.std.proofs.lemmas.Bool.{or_parts, or_from}
use Rattle.clap.specs.Facts.{explicit_source}
use Rattle.clap.specs.Faults.{repeat_fault, check_fault, defaults_fault}
use Rattle.clap.specs.Kinds.{Kinds, or_else}
use Rattle.clap.specs.Takes.{is_given}
use Rattle.clap.specs.Walk.{Row, Rule, at_row, first_of, has_row, more_values, used, with_default, with_values}
use Rattle.clap.specs.declared.parser.matches.ValueSource.TheVariants.{CommandLine}
use Rattle.clap.specs.declared.builder.value_parser.Reading.TheVariants as reading
use Rattle.clap.specs.declared.error.kind.ErrorKind.TheVariants as kind
use Rattle.dft_command_line.specs.Words.{Text, Given, values_of}
use Rattle.dft_command_line.specs.CommandLine.{Form, Known}
use Rattle.dft_command_line.proofs.Options.{apart}
use Rattle.dft_command_line.proofs.Turns.{not_empty, rule, rules, shape}

abbrev pub row : Given → Row
row g = record { id = g.name; values = g.value ∷ []; count = None; source = Some CommandLine; reading = reading.AsWritten }

abbrev pub rows : List Given → List Row
rows = map row

-- ---- one more row

at_absent : (id : Text) (change : Row → List Row) (missing rs : List Row) → has_row id rs ≡ false → at_row id change missing rs ≡ rs ++ missing
at_absent id change missing [] absent = refl
at_absent id change missing (r ∷ rs) absent = go (bytes_eq r.id id) absent (λ e. at_absent id change missing rs e)
  where
    go : (b : Bool) → (b || has_row id rs) ≡ false → (has_row id rs ≡ false → at_row id change missing rs ≡ rs ++ missing) → (if b then change r ++ rs else r ∷ at_row id change missing rs) ≡ r ∷ (rs ++ missing)
    go true e rest = absurd (true≢false e)
    go false e rest = ap (λ l. r ∷ l) (rest e)

pub used_new : (o : Known) (v : Text) (rs : List Row) → has_row o.name rs ≡ false → used (rule o) (v ∷ []) rs ≡ rs ++ row (apart o.name v) ∷ []
used_new o v rs absent =
    ap (with_values o.name reading.AsWritten CommandLine (v ∷ [])) (at_absent o.name (λ r. []) [] rs absent ∙ append-nil rs)
    ∙ at_absent o.name (more_values CommandLine (v ∷ [])) (row (apart o.name v) ∷ []) rs absent

pub no_repeat : (id : Text) (rs : List Row) → has_row id rs ≡ false → or_else (repeat_fault false id rs) [] ≡ []
no_repeat id rs absent = ap (λ b. or_else (if b && true then kind.ArgumentConflict ∷ [] else []) []) absent

pub repeats : (id : Text) (rs : List Row) → has_row id rs ≡ true → or_else (repeat_fault false id rs) [] ≡ [] → ⊥
repeats id rs present e = not_empty kind.ArgumentConflict (sym (ap (λ b. or_else (if b && true then kind.ArgumentConflict ∷ [] else []) []) present) ∙ e)

-- ---- values

pub absent_values : (id : Text) (gs : List Given) → has_row id (rows gs) ≡ false → values_of id gs ≡ []
absent_values id [] absent = refl
absent_values id (g ∷ gs) absent = go (bytes_eq g.name id) absent (λ e. absent_values id gs e)
  where
    go : (b : Bool) → (b || has_row id (rows gs)) ≡ false → (has_row id (rows gs) ≡ false → values_of id gs ≡ []) → (if b then g.value ∷ values_of id gs else values_of id gs) ≡ []
    go true e rest = absurd (true≢false e)
    go false e rest = rest e

present_values : (id : Text) (gs : List Given) → has_row id (rows gs) ≡ true → 1 ≤ length (values_of id gs)
present_values id [] present = absurd (true≢false (sym present))
present_values id (g ∷ gs) present = go (bytes_eq g.name id) present (λ e. present_values id gs e)
  where
    go : (b : Bool) → (b || has_row id (rows gs)) ≡ true → (has_row id (rows gs) ≡ true → 1 ≤ length (values_of id gs)) → 1 ≤ length (if b then g.value ∷ values_of id gs else values_of id gs)
    go true e rest = omega arith
    go false e rest = rest e

values_append : (id : Text) (gs hs : List Given) → values_of id (gs ++ hs) ≡ values_of id gs ++ values_of id hs
values_append id [] hs = refl
values_append id (g ∷ gs) hs = go (bytes_eq g.name id) (values_append id gs hs)
  where
    go : (b : Bool) → values_of id (gs ++ hs) ≡ values_of id gs ++ values_of id hs →
        (if b then g.value ∷ values_of id (gs ++ hs) else values_of id (gs ++ hs)) ≡ (if b then g.value ∷ values_of id gs else values_of id gs) ++ values_of id hs
    go true e = ap (λ l. g.value ∷ l) e
    go false e = e

abbrev pub first_text : List Text → Option Text
first_text [] = None
first_text (v ∷ vs) = Some v

-- what is found first is the first value
pub first_value : (id : Text) (gs : List Given) → first_of id (rows gs) ≡ first_text (values_of id gs)
first_value id [] = refl
first_value id (g ∷ gs) = go (bytes_eq g.name id) (first_value id gs)
  where
    go : (b : Bool) → first_of id (rows gs) ≡ first_text (values_of id gs) →
        option_and_then (λ r. slice_get r.values 0) (if b then Some (row g) else find (λ r. bytes_eq r.id id) (rows gs)) ≡ first_text (if b then g.value ∷ values_of id gs else values_of id gs)
    go true e = refl
    go false e = e

given_row : (id : Text) (gs : List Given) → is_given id (rows gs) ≡ has_row id (rows gs)
given_row id [] = refl
given_row id (g ∷ gs) = go (bytes_eq g.name id) (given_row id gs)
  where
    go : (b : Bool) → is_given id (rows gs) ≡ has_row id (rows gs) →
        option_map_or (λ r. explicit_source r.source) (if b then Some (row g) else find (λ r. bytes_eq r.id id) (rows gs)) false ≡ (b || has_row id (rows gs))
    go true e = refl
    go false e = e

-- ---- each option once

-- no option is given twice
abbrev pub Fits : List Given → Type 0
Fits gs = (n : Text) → length (values_of n gs) ≤ 1

fits_at : (t : Bool) (m n v : Text) (gs : List Given) → (t ≡ true → n ≡ m) → length (values_of m gs) ≤ 1 → has_row n (rows gs) ≡ false →
    length (values_of m gs ++ (if t then v ∷ [] else [])) ≤ 1
fits_at true m n v gs same fits absent =
    let none : values_of m gs ≡ [] = ap (λ (t : Text). values_of t gs) (sym (same refl)) ∙ absent_values n gs absent in
    let short : length (values_of m gs) ≡ 0 = ap length none in
    omega (arith, length-append (values_of m gs) (v ∷ []))
fits_at false m n v gs same fits absent = let same_length = ap length (append-nil (values_of m gs)) in omega arith

pub fits_more : (gs : List Given) (g : Given) → Fits gs → has_row g.name (rows gs) ≡ false → Fits (gs ++ g ∷ [])
fits_more gs g fits absent m =
    subst (λ (l : List Text). length l ≤ 1) (sym (values_append m gs (g ∷ [])))
    (fits_at (bytes_eq g.name m) m g.name g.value gs (bytes_eq-Decides g.name m).0 (fits m) absent)

pub fits_not : (gs : List Given) (g : Given) (more : List Given) → has_row g.name (rows gs) ≡ true → Fits (gs ++ g ∷ more) → ⊥
fits_not gs g more present fits =
    let some = present_values g.name gs present in
    let here : values_of g.name (g ∷ more) ≡ g.value ∷ values_of g.name more = ap (λ b. if b then g.value ∷ values_of g.name more else values_of g.name more) ((bytes_eq-Decides g.name g.name).1 refl) in
    let all : values_of g.name (gs ++ g ∷ more) ≡ values_of g.name gs ++ (g.value ∷ values_of g.name more) = values_append g.name gs (g ∷ more) ∙ ap (λ l. values_of g.name gs ++ l) here in
    let few = fits g.name in
    omega (arith, ap length all, length-append (values_of g.name gs) (g.value ∷ values_of g.name more))

-- ---- the end of the options

-- the option is given where it is required
abbrev pub IsWanted : List Given → Known → Type 0
IsWanted gs o = o.required ≡ true → 1 ≤ length (values_of o.name gs)

abbrev pub AreWanted : List Known → List Given → Type 0
AreWanted os gs = AllByRecursion (IsWanted gs) os

abbrev misses : List Row → Rule → Bool
misses rs a = a.required && not (is_given a.id rs)

values_present : (id : Text) (gs : List Given) (b : Bool) → has_row id (rows gs) ≡ b → 1 ≤ length (values_of id gs) → b ≡ true
values_present id gs true is some = refl
values_present id gs false is some = absurd (let none = ap length (absent_values id gs is) in omega arith)

wanted_given : (gs : List Given) (o : Known) → IsWanted gs o → misses (rows gs) (rule o) ≡ false
wanted_given gs o wanted = go o.required wanted
  where
    go : (b : Bool) → (b ≡ true → 1 ≤ length (values_of o.name gs)) → (b && not (is_given o.name (rows gs))) ≡ false
    go true some = ap not (given_row o.name gs ∙ values_present o.name gs _ refl (some refl))
    go false some = refl

given_wanted : (gs : List Given) (o : Known) → misses (rows gs) (rule o) ≡ false → IsWanted gs o
given_wanted gs o is = λ required. go (is_given o.name (rows gs)) (given_row o.name gs) (ap (λ b. b && not (is_given o.name (rows gs))) (sym required) ∙ is)
  where
    go : (b : Bool) → b ≡ has_row o.name (rows gs) → not b ≡ false → 1 ≤ length (values_of o.name gs)
    go true same e = present_values o.name gs (sym same)
    go false same e = absurd (true≢false e)

none_misses : (os : List Known) (gs : List Given) → AreWanted os gs → list_any (misses (rows gs)) (rules os) ≡ false
none_misses [] gs wanted = refl
none_misses (o ∷ os) gs wanted = or_from _ _ (wanted_given gs o wanted.0) (none_misses os gs wanted.1)

all_wanted : (os : List Known) (gs : List Given) → list_any (misses (rows gs)) (rules os) ≡ false → AreWanted os gs
all_wanted [] gs e = tt
all_wanted (o ∷ os) gs e = let parts = or_parts _ _ e in (given_wanted gs o parts.0, all_wanted os gs parts.1)

pub check_passes : (f : Form) (gs : List Given) → AreWanted f.options gs → check_fault (shape f) (rows gs) false ≡ []
check_passes f gs wanted = ap (λ b. if b then kind.MissingRequiredArgument ∷ [] else []) (none_misses f.options gs wanted)

pub check_wants : (f : Form) (gs : List Given) → check_fault (shape f) (rows gs) false ≡ [] → AreWanted f.options gs
check_wants f gs e = all_wanted f.options gs (go _ e)
  where
    go : (b : Bool) → (if b then kind.MissingRequiredArgument ∷ [] else []) ≡ [] → b ≡ false
    go true e = absurd (not_empty _ e)
    go false e = refl

either : {X : Type 0} (b : Bool) (x : X) → (if b then x else x) ≡ x
either true x = refl
either false x = refl

or_true : (b : Bool) (x : Kinds) → (if b || true then [] else x) ≡ []
or_true true x = refl
or_true false x = refl

pub defaults_pass : (os : List Known) (rs : List Row) → defaults_fault rs (rules os) ≡ []
unfolding defaults_fault
defaults_pass [] rs = refl
defaults_pass (o ∷ os) rs =
    ap₂ or_else (or_true (has_row o.name rs) _) (ap (λ l. defaults_fault l (rules os)) (either (has_row o.name rs) rs) ∙ defaults_pass os rs)

pub no_defaults : (os : List Known) (rs : List Row) → fold with_default rs (rules os) ≡ rs
no_defaults [] rs = refl
no_defaults (o ∷ os) rs = ap (λ (l : List Row). fold with_default l (rules os)) (either (has_row o.name rs) rs) ∙ no_defaults os rs
