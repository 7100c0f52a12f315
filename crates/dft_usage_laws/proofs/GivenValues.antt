-- The values of options that are given.
use Rattle.std.proofs.Common.{◌≡◌, ◌∙◌, ◌⊎◌, ◌≤◌, ◌==◌, ◌&&◌, Bool, true, false, List, [], ◌∷◌, ◌++◌, codes, length, map, inl, inr, Option, Some, None, refl, sym, ap, ap₂, subst, arith, true≢false}
use Rattle.std.proofs.lemmas.Bool.{and_parts}
use Rattle.std.specs.List.{AllByRecursion}
use Rattle.std.specs.Prelude.{flat_map, if◌then◌else◌, option_and_then}
use Rattle.std.specs.Str.{bytes_eq}
use Rattle.dft_base.proofs.TextLemmas.{bytes_eq-self, same_text}
use Rattle.dft_base.proofs.BitLemmas.{not_true}
use Rattle.dft_base.proofs.NumberLemmas.{eqb_turned}
use Rattle.dft_command_line.proofs.Taken.{list_few}
use Rattle.dft_command_line.specs.Words.{Given, IsOneOf, Valued, is_value, is_value_word, list_of, values_of, words_of}
use Rattle.dft_explain.specs.Faults.{Text, is_among}
use Rattle.dft_explain.specs.Options.{behind, or_else, value_behind, value_of}
use Rattle.dft_usage_laws.proofs.OptionWords.{OfName, behind_own}
use Rattle.dft_usage_laws.proofs.Taking.{Once, words_by}

-- ---- the value of an option, in the words of one that is given

either_way : (t s : Bool) (rest : Option Text) (value : Text) (next : List Text) → value_behind rest next ≡ (if s then Some value else None) → value_behind (if t then rest else None) next ≡ (if t && s then Some value else None)
either_way true s rest value next e = e
either_way false s rest value next e = refl

no_value : (t : Bool) (value : Text) (rest : Option Text) (next : List Text) → t ≡ false → value_behind (if t then rest else None) next ≡ None
no_value true value rest next e = absurd (true≢false e)
no_value false value rest next e = refl

-- a value that is joined to a name is that of the option of this name
joined_value : (option name value : Text) (next : List Text) → OfName option → OfName name → value_behind (behind option (name ++ 61 ∷ value)) next ≡ (if bytes_eq name option then Some value else None)
joined_value [] [] value next p q = refl
joined_value [] (n ∷ ns) value next p q = ap (λ (t : Bool). if t then Some (ns ++ 61 ∷ value) else None) (not_true (n == 61) (and_parts _ _ q).0)
joined_value (o ∷ os) [] value next p q = no_value (o == 61) value (behind os value) next (not_true (o == 61) (and_parts _ _ p).0)
joined_value (o ∷ os) (n ∷ ns) value next p q =
    either_way (o == n) (bytes_eq ns os) (behind os (ns ++ 61 ∷ value)) value next (joined_value os ns value next (and_parts _ _ p).1 (and_parts _ _ q).1)
    ∙ ap (λ (t : Bool). if t && bytes_eq ns os then Some value else None) (eqb_turned o n)

-- a value behind a name is that of the option of this name
next_value : (option name value : Text) (next : List Text) → OfName name → value_behind (behind option name) (value ∷ next) ≡ (if bytes_eq name option then Some value else None)
next_value [] [] value next q = refl
next_value [] (n ∷ ns) value next q = ap (λ (t : Bool). if t then Some ns else None) (not_true (n == 61) (and_parts _ _ q).0)
next_value (o ∷ os) [] value next q = refl
next_value (o ∷ os) (n ∷ ns) value next q =
    either_way (o == n) (bytes_eq ns os) (behind os ns) value (value ∷ next) (next_value os ns value next (and_parts _ _ q).1) ∙ ap (λ (t : Bool). if t && bytes_eq ns os then Some value else None) (eqb_turned o n)

either_same : (t : Bool) (value : Option Text) → (if t then value else value) ≡ value
either_same true value = refl
either_same false value = refl

-- a value that is a word of its own is no option
no_dashes : (value : Text) → is_value_word value ≡ true → behind (codes "--") value ≡ None
no_dashes [] e = absurd cc
no_dashes (b ∷ []) e = either_same (45 == b) None
no_dashes (b ∷ c ∷ bs) e = ap (λ (t : Bool). if t then behind (codes "-") (c ∷ bs) else None) (eqb_turned 45 b ∙ not_true (b == 45) e)

in_words : (joined : Bool) (option name value : Text) (rest : List Text) → OfName option → OfName name → is_value joined value ≡ true
    → value_of option (words_by joined name value ++ rest) ≡ or_else (if bytes_eq name option then Some value else None) (value_of option rest)
in_words true option name value rest p q is =
    ap (λ v. or_else v (value_of option rest)) (ap (λ (t : Option Text). value_behind (option_and_then (behind option) t) rest) (behind_own (codes "--") (name ++ 61 ∷ value)) ∙ joined_value option name value rest p q)
in_words false option name value rest p q is =
    ap₂ (λ v w. or_else v (or_else w (value_of option rest)))
    (ap (λ (t : Option Text). value_behind (option_and_then (behind option) t) (value ∷ rest)) (behind_own (codes "--") name) ∙ next_value option name value rest q)
    (ap (λ (t : Option Text). value_behind (option_and_then (behind option) t) rest) (no_dashes value is))

-- ---- the value of an option, in the words of all that are given

abbrev pub first : List Text → Option Text
first [] = None
first (value ∷ values) = Some value

first_by : (t : Bool) (value : Text) (values : List Text) → or_else (if t then Some value else None) (first values) ≡ first (if t then value ∷ values else values)
first_by true value values = refl
first_by false value values = refl

-- options that are given are names with values
abbrev pub IsNamed : Given → Type 0
IsNamed g = OfName g.name × (is_value g.joined g.value ≡ true)

pub value_given : (option : Text) → OfName option → (given : List Given) → AllByRecursion IsNamed given → value_of option (flat_map words_of given) ≡ first (values_of option given)
value_given option p [] all = refl
value_given option p (g ∷ given) all =
    in_words g.joined option g.name g.value (flat_map words_of given) p all.0.0 all.0.1
    ∙ (ap (or_else (if bytes_eq g.name option then Some g.value else None)) (value_given option p given all.1) ∙ first_by (bytes_eq g.name option) g.value (values_of option given))

-- ---- options that stand once

among_more : (name : Text) (before names : List Text) → is_among name before ≡ true → is_among name (before ++ names) ≡ true
among_more name [] names e = absurd cc
among_more name (b ∷ before) names e = go (bytes_eq b name) (among_more name before names) e
  where
    go : (t : Bool) → (is_among name before ≡ true → is_among name (before ++ names) ≡ true) → (if t then true else is_among name before) ≡ true → (if t then true else is_among name (before ++ names)) ≡ true
    go true more e = refl
    go false more e = more e

among_last : (name other : Text) (before : List Text) → bytes_eq other name ≡ true → is_among name (before ++ other ∷ []) ≡ true
among_last name other [] e = ap (λ (t : Bool). if t then true else false) e
among_last name other (b ∷ before) e = go (bytes_eq b name) (among_last name other before e)
  where
    go : (t : Bool) → is_among name (before ++ other ∷ []) ≡ true → (if t then true else is_among name (before ++ other ∷ [])) ≡ true
    go true more = refl
    go false more = more

none_if : (t : Bool) (value : Text) (values : List Text) → t ≡ false → values ≡ [] → (if t then value ∷ values else values) ≡ []
none_if true value values e n = absurd (true≢false e)
none_if false value values e n = n

-- a text that equals none of these is no one of them
apart : (name other : Text) (before : List Text) → is_among name before ≡ true → is_among other before ≡ false → bytes_eq other name ≡ false
apart name other before e n = go (bytes_eq other name) refl
  where
    go : (t : Bool) → bytes_eq other name ≡ t → t ≡ false
    go true i = absurd (true≢false (sym e ∙ (ap (λ (l : Text). is_among l before) (sym (same_text other name i)) ∙ n)))
    go false i = refl

-- an option that stands before has no value more
none_before : (name : Text) (before : List Text) (given : List Given) → is_among name before ≡ true → Once before given → values_of name given ≡ []
none_before name before [] e once = refl
none_before name before (g ∷ given) e once =
    none_if (bytes_eq g.name name) g.value (values_of name given) (apart name g.name before e once.0) (none_before name (before ++ g.name ∷ []) given (among_more name before (g.name ∷ []) e) once.1)

one_if : (t : Bool) (value : Text) (values : List Text) → (t ≡ true → values ≡ []) → values ≡ list_of (first values) → (if t then value ∷ values else values) ≡ list_of (first (if t then value ∷ values else values))
one_if true value values none one = ap (λ (l : List Text). value ∷ l) (none refl)
one_if false value values none one = one

-- an option has one value at most
pub at_most_one : (name : Text) (before : List Text) (given : List Given) → Once before given → values_of name given ≡ list_of (first (values_of name given))
at_most_one name before [] once = refl
at_most_one name before (g ∷ given) once =
    one_if (bytes_eq g.name name) g.value (values_of name given) (λ e. none_before name (before ++ g.name ∷ []) given (among_last name g.name before e) once.1) (at_most_one name (before ++ g.name ∷ []) given once.1)

-- ---- from values to options that stand once

abbrev pub Few : List Given → Type 0
Few given = (name : Text) → length (values_of name given) ≤ 1

fewer : (t : Bool) (value : Text) (values : List Text) → length (if t then value ∷ values else values) ≤ 1 → length values ≤ 1
fewer true value values few = omega (arith, few)
fewer false value values few = few

only : (t : Bool) (value : Text) (values : List Text) → t ≡ true → length (if t then value ∷ values else values) ≤ 1 → values ≡ []
only true value [] e few = refl
only true value (v ∷ values) e few = absurd (omega (arith, few))
only false value values e few = absurd (true≢false (sym e))

none_left : (t : Bool) (value : Text) (values : List Text) → (if t then value ∷ values else values) ≡ [] → values ≡ []
none_left true value values e = absurd cc
none_left false value values e = e

some_there : (t : Bool) (value : Text) (values : List Text) → t ≡ true → (if t then value ∷ values else values) ≡ [] → ⊥
some_there true value values i e = absurd cc
some_there false value values i e = true≢false (sym i)

among_either : (name other : Text) (before : List Text) → is_among name (before ++ other ∷ []) ≡ true → (is_among name before ≡ true) ⊎ (bytes_eq other name ≡ true)
among_either name other [] e = go (bytes_eq other name) refl e
  where
    go : (t : Bool) → bytes_eq other name ≡ t → (if t then true else false) ≡ true → (false ≡ true) ⊎ (bytes_eq other name ≡ true)
    go true i e = inr i
    go false i e = absurd cc
among_either name other (b ∷ before) e = go (bytes_eq b name) (among_either name other before) e
  where
    go : (t : Bool) → (is_among name (before ++ other ∷ []) ≡ true → (is_among name before ≡ true) ⊎ (bytes_eq other name ≡ true)) → (if t then true else is_among name (before ++ other ∷ [])) ≡ true
        → ((if t then true else is_among name before) ≡ true) ⊎ (bytes_eq other name ≡ true)
    go true more e = inl refl
    go false more e = more e

fresh_more : (g : Given) (before : List Text) (given : List Given) → Few (g ∷ given) → ((name : Text) → is_among name before ≡ true → values_of name (g ∷ given) ≡ []) → (name : Text) → is_among name (before ++ g.name ∷ []) ≡ true → values_of name given ≡ []
fresh_more g before given few fresh name e = go (among_either name g.name before e)
  where
    go : (is_among name before ≡ true) ⊎ (bytes_eq g.name name ≡ true) → values_of name given ≡ []
    go (inl i) = none_left (bytes_eq g.name name) g.value (values_of name given) (fresh name i)
    go (inr i) = only (bytes_eq g.name name) g.value (values_of name given) i (few name)

new_one : (g : Given) (before : List Text) (given : List Given) → ((name : Text) → is_among name before ≡ true → values_of name (g ∷ given) ≡ []) → is_among g.name before ≡ false
new_one g before given fresh = go (is_among g.name before) refl
  where
    go : (t : Bool) → is_among g.name before ≡ t → t ≡ false
    go true i = absurd (some_there (bytes_eq g.name g.name) g.value (values_of g.name given) (bytes_eq-self g.name) (fresh g.name i))
    go false i = refl

once_by : (before : List Text) (given : List Given) → Few given → ((name : Text) → is_among name before ≡ true → values_of name given ≡ []) → Once before given
once_by before [] few fresh = tt
once_by before (g ∷ given) few fresh = (
  new_one g before given fresh,
  once_by (before ++ g.name ∷ []) given (λ name. fewer (bytes_eq g.name name) g.value (values_of name given) (few name)) (fresh_more g before given few fresh),
)

pub once_from : (given : List Given) → Few given → Once [] given
once_from given few = once_by [] given few (λ name e. absurd (true≢false (sym e)))

-- ---- options that have names of a list

-- an option that is given has one of the names
pub some_known : (names : List Text) (name : Text) (given : List Given) → AllByRecursion (λ g. IsOneOf names g.name) given → (values_of name given ≡ []) ⊎ IsOneOf names name
some_known names name [] all = inl refl
some_known names name (g ∷ given) all = go (bytes_eq g.name name) refl (some_known names name given all.1)
  where
    go : (t : Bool) → bytes_eq g.name name ≡ t → (values_of name given ≡ []) ⊎ IsOneOf names name → ((if t then g.value ∷ values_of name given else values_of name given) ≡ []) ⊎ IsOneOf names name
    go true i more = inr (subst (IsOneOf names) (same_text g.name name i) all.0)
    go false i more = more

few_of : (options : List Valued) (name : Text) (given : List Given) → AllByRecursion (λ option. values_of option.0 given ≡ list_of option.1) options → IsOneOf (map (λ option. option.0) options) name → length (values_of name given) ≤ 1
few_of [] name given each one = absurd one
few_of (o ∷ options) name given each (inl i) = subst (λ (l : Text). length (values_of l given) ≤ 1) (sym i) (subst (λ (l : List Text). length l ≤ 1) (sym each.0) (list_few o.1))
few_of (o ∷ options) name given each (inr one) = few_of options name given each.1 one

pub few_given : (options : List Valued) (given : List Given) → AllByRecursion (λ g. IsOneOf (map (λ option. option.0) options) g.name) given → AllByRecursion (λ option. values_of option.0 given ≡ list_of option.1) options → Few given
few_given options given all each name = go (some_known (map (λ option. option.0) options) name given all)
  where
    go : (values_of name given ≡ []) ⊎ IsOneOf (map (λ option. option.0) options) name → length (values_of name given) ≤ 1
    go (inl i) = subst (λ (l : List Text). length l ≤ 1) (sym i) (omega arith)
    go (inr one) = few_of options name given each one

-- ---- one of a list

pub one_among : (name : Text) (names : List Text) → IsOneOf names name → is_among name names ≡ true
one_among name [] one = absurd one
one_among name (n ∷ names) (inl i) = ap (λ (t : Bool). if t then true else is_among name names) (subst (λ (l : Text). bytes_eq n l ≡ true) (sym i) (bytes_eq-self n))
one_among name (n ∷ names) (inr one) = go (bytes_eq n name) (one_among name names one)
  where
    go : (t : Bool) → is_among name names ≡ true → (if t then true else is_among name names) ≡ true
    go true e = refl
    go false e = e

pub among_one : (name : Text) (names : List Text) → is_among name names ≡ true → IsOneOf names name
among_one name [] e = absurd cc
among_one name (n ∷ names) e = go (bytes_eq n name) refl (among_one name names) e
  where
    go : (t : Bool) → bytes_eq n name ≡ t → (is_among name names ≡ true → IsOneOf names name) → (if t then true else is_among name names) ≡ true → (name ≡ n) ⊎ IsOneOf names name
    go true i more e = inl (sym (same_text n name i))
    go false i more e = inr (more e)

-- an option that is none of the names has no value
pub unknown_none : (names : List Text) (name : Text) (given : List Given) → AllByRecursion (λ g. IsOneOf names g.name) given → is_among name names ≡ false → values_of name given ≡ []
unknown_none names name given all e = go (some_known names name given all)
  where
    go : (values_of name given ≡ []) ⊎ IsOneOf names name → values_of name given ≡ []
    go (inl i) = i
    go (inr one) = absurd (true≢false (sym (one_among name names one) ∙ e))
