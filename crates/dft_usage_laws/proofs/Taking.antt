-- Options that are given, and the first option that is wrong.
use Rattle.std.proofs.Common.{◌≡◌, ◌∙◌, ◌<◌, Bool, true, false, List, [], ◌∷◌, ◌++◌, codes, length, Option, Some, None, refl, sym, ap, ap₂, subst, arith}
use Rattle.std.proofs.lemmas.Option.{same_Some}
use Rattle.std.specs.List.{AllByRecursion}
use Rattle.std.specs.Prelude.{flat_map, if◌then◌else◌}
use Rattle.dft_command_line.specs.Words.{Given, is_value, is_value_word, words_of}
use Rattle.dft_explain.specs.Faults.{Fault, NoOption, Twice, Form, Text, by_value, fault_of_named, fault_of_option, fault_of_value, has, is_among, joined_in, may_be_value, name_in, names_with, or_else, value_from, words_after, wrong_option}
use Rattle.dft_explain.proofs.FaultLemmas.{or_none, last}
use Rattle.dft_usage_laws.proofs.OptionWords.{OfName, Parsed, is_alone, is_joined, name_of_alone, name_of_joined, none_of_alone, parsed, value_of_joined}

-- ---- one fault or another

or_none_right : (fault : Option Fault) → or_else fault None ≡ fault
or_none_right None = refl
or_none_right (Some fault) = refl

pub or_both : (fault other : Option Fault) → or_else fault other ≡ None → (fault ≡ None) × (other ≡ None)
or_both None other e = (refl, e)
or_both (Some fault) other e = absurd cc

-- ---- one option, and those behind it

more : (form : Form) (names : List Text) (value : Option Text) (next : Text) (words : List Text) → by_value value (wrong_option form names (next ∷ words)) (wrong_option form names words) ≡ wrong_option form names (words_after value (next ∷ words))
more form names None next words = refl
more form names (Some value) next words = refl

-- the first fault is that of the first option, or it is behind it
unrolled : (form : Form) (before : List Text) (word : Text) (next : List Text) → wrong_option form before (word ∷ next) ≡ or_else (fault_of_option form before word next) (wrong_option form (names_with before (name_in word)) (words_after (joined_in word) next))
unrolled form before word [] =
    sym (ap (or_else (fault_of_option form before word [])) (last form (names_with before (name_in word)) (joined_in word)) ∙ or_none_right (fault_of_option form before word []))
unrolled form before word (next ∷ words) = ap (or_else (fault_of_option form before word (next ∷ words))) (more form (names_with before (name_in word)) (joined_in word) next words)

-- ---- an option that is right

-- what an option that is right is
record Right (form : Form) (before : List Text) (name value : Option Text) : Type 0 where
  option : Text
  given : Text
  name_is : name ≡ Some option
  value_is : value ≡ Some given
  some : 0 < length given
  known : has form option ≡ true
  new : is_among option before ≡ false

right_by : (form : Form) (before : List Text) (name : Text) (value : Option Text) (h a : Bool) → has form name ≡ h → is_among name before ≡ a
    → (if h then (if a then Some (Twice name) else fault_of_value name value) else Some (NoOption name)) ≡ None → Right form before (Some name) value
right_by form before name value false a i j e = absurd cc
right_by form before name value true true i j e = absurd cc
right_by form before name None true false i j e = absurd cc
right_by form before name (Some []) true false i j e = absurd cc
right_by form before name (Some (b ∷ bs)) true false i j e = record { option = name; given = b ∷ bs; name_is = refl; value_is = refl; some = omega arith; known = i; new = j }

right : (form : Form) (before : List Text) (word : Text) (name value : Option Text) → fault_of_named form before word name value ≡ None → Right form before name value
right form before word None value e = absurd cc
right form before word (Some name) value e = right_by form before name value (has form name) (is_among name before) refl refl e

right_is : (form : Form) (before : List Text) (word name value : Text) → has form name ≡ true → is_among name before ≡ false → 0 < length value → fault_of_named form before word (Some name) (Some value) ≡ None
right_is form before word name [] known new some = absurd (omega (arith, some))
right_is form before word name (b ∷ bs) known new some = ap₂ (λ (h a : Bool). if h then (if a then Some (Twice name) else None) else Some (NoOption name)) known new

-- ---- values

joined_some : (value : Text) → is_value true value ≡ true → 0 < length value
joined_some [] e = absurd cc
joined_some (b ∷ bs) e = omega arith

some_joined : (value : Text) → 0 < length value → is_value true value ≡ true
some_joined [] some = absurd (omega (arith, some))
some_joined (b ∷ bs) some = refl

word_some : (value : Text) → is_value_word value ≡ true → (0 < length value) × (may_be_value value ≡ true)
word_some [] e = absurd cc
word_some (b ∷ []) e = (omega arith, refl)
word_some (b ∷ c ∷ bs) e = (omega arith, e)

some_word : (value : Text) → 0 < length value → may_be_value value ≡ true → is_value_word value ≡ true
some_word [] some e = absurd (omega (arith, some))
some_word (b ∷ []) some e = refl
some_word (b ∷ c ∷ bs) some e = e

-- ---- options that are given are right

-- the words of an option
abbrev pub words_by : (joined : Bool) → (name value : Text) → List Text
words_by joined name value = if joined then (codes "--" ++ (name ++ 61 ∷ value)) ∷ [] else (codes "--" ++ name) ∷ value ∷ []

-- an option that the command has, with a value
abbrev pub IsRight : Form → Given → Type 0
IsRight form g = (has form g.name ≡ true) × (is_value g.joined g.value ≡ true)

-- no option stands twice, nor among these
abbrev pub Once : (before : List Text) → List Given → Type 0
Once before [] = Unit {0}
Once before (g ∷ given) = (is_among g.name before ≡ false) × Once (before ++ g.name ∷ []) given

-- the options of a form are names
abbrev pub IsPlain : Form → Type 0
IsPlain form = (option : Text) → has form option ≡ true → OfName option × (0 < length option)

step : (form : Form) (before : List Text) (joined : Bool) (name value : Text) (rest : List Text) → OfName name → 0 < length name → has form name ≡ true → is_among name before ≡ false → is_value joined value ≡ true
    → wrong_option form (before ++ name ∷ []) rest ≡ None → wrong_option form before (words_by joined name value ++ rest) ≡ None
step form before true name value rest of some known new is behind_it =
    let word = codes "--" ++ (name ++ 61 ∷ value) in
    let a = name_of_joined name value of some in
    let b = value_of_joined name value of in
    unrolled form before word rest
    ∙ (or_none _ _ (ap₂ (λ (n v : Option Text). fault_of_named form before word n (value_from v rest)) a b ∙ right_is form before word name value known new (joined_some value is))
    ∙ (ap₂ (λ (n v : Option Text). wrong_option form (names_with before n) (words_after v rest)) a b ∙ behind_it))
step form before false name value rest of some known new is behind_it =
    let word = codes "--" ++ name in
    let a = name_of_alone name of some in
    let b = none_of_alone name of in
    let w = word_some value is in
    unrolled form before word (value ∷ rest)
    ∙ (or_none _ _ (ap₂ (λ (n v : Option Text). fault_of_named form before word n (value_from v (value ∷ rest))) a b
    ∙ (ap (λ (t : Bool). fault_of_named form before word (Some name) (if t then Some value else None)) w.1 ∙ right_is form before word name value known new w.0))
    ∙ (ap₂ (λ (n v : Option Text). wrong_option form (names_with before n) (words_after v (value ∷ rest))) a b ∙ behind_it))

pub given_right : (form : Form) → IsPlain form → (before : List Text) (given : List Given) → AllByRecursion (IsRight form) given → Once before given → wrong_option form before (flat_map words_of given) ≡ None
given_right form plain before [] all once = refl
given_right form plain before (g ∷ given) all once =
    let p = plain g.name all.0.0 in
    step form before g.joined g.name g.value (flat_map words_of given) p.0 p.1 all.0.0 once.0 all.0.1 (given_right form plain (before ++ g.name ∷ []) given all.1 once.1)

-- ---- words that are right are options that are given

pub record Read (form : Form) (before words : List Text) : Type 0 where
  pub given : List Given
  pub written : words ≡ flat_map words_of given
  pub right : AllByRecursion (IsRight form) given
  pub once : Once before given

none_read : (form : Form) (before : List Text) → Read form before []
none_read form before = record { given = []; written = refl; right = tt; once = tt }

one_more : (form : Form) (before : List Text) (joined : Bool) (name value : Text) (rest words : List Text) → words ≡ words_by joined name value ++ rest → has form name ≡ true → is_among name before ≡ false → is_value joined value ≡ true
    → Read form (before ++ name ∷ []) rest → Read form before words
one_more form before joined name value rest words e known new is r = record {
  given = record { name = name; value = value; joined = joined } ∷ r.given;
  written = e ∙ ap (λ (l : List Text). words_by joined name value ++ l) r.written;
  right = ((known, is), r.right);
  once = (new, r.once);
}

next_by : (form : Form) (before : List Text) (name value word x : Text) (xs : List Text) (t : Bool) → may_be_value x ≡ t → (if t then Some x else None) ≡ Some value → 0 < length value → word ≡ codes "--" ++ name → has form name ≡ true
    → is_among name before ≡ false → Read form (before ++ name ∷ []) xs → Read form before (word ∷ x ∷ xs)
next_by form before name value word x xs true i e some w known new r =
    one_more form before false name x xs (word ∷ x ∷ xs) (ap (λ (l : Text). l ∷ x ∷ xs) w) known new (some_word x (subst (λ (l : Text). 0 < length l) (sym (same_Some x value e)) some) i) r
next_by form before name value word x xs false i e some w known new r = absurd cc

value_read : (form : Form) (before : List Text) (name value word : Text) (next : List Text) (joined : Option Text) → Parsed word name → joined_in word ≡ joined → value_from joined next ≡ Some value → 0 < length value → has form name ≡ true
    → is_among name before ≡ false → Read form (before ++ name ∷ []) (words_after joined next) → Read form before (word ∷ next)
value_read form before name value word next (Some given) p i e some known new r =
    one_more form before true name given next (word ∷ next) (ap (λ (l : Text). l ∷ next) (is_joined word name given p i)) known new (some_joined given (subst (λ (l : Text). 0 < length l) (sym (same_Some given value e)) some)) r
value_read form before name value word [] None p i e some known new r = absurd cc
value_read form before name value word (x ∷ xs) None p i e some known new r =
    next_by form before name value word x xs (may_be_value x) refl e some (is_alone word name p i) known new r

option_read : (form : Form) (before : List Text) (word : Text) (next : List Text) → wrong_option form before (word ∷ next) ≡ None
    → ((names : List Text) → wrong_option form names (words_after (joined_in word) next) ≡ None → Read form names (words_after (joined_in word) next)) → Read form before (word ∷ next)
option_read form before word next e behind_it =
    let both = or_both _ _ (sym (unrolled form before word next) ∙ e) in
    let r = right form before word (name_in word) (value_from (joined_in word) next) both.0 in
    let names : names_with before (name_in word) ≡ before ++ r.option ∷ [] = ap (names_with before) r.name_is in
    value_read form before r.option r.given word next (joined_in word) (parsed word r.option r.name_is) refl r.value_is r.some r.known r.new
    (behind_it (before ++ r.option ∷ []) (sym (ap (λ (n : List Text). wrong_option form n (words_after (joined_in word) next)) names) ∙ both.1))

read_last : (form : Form) (value : Option Text) (names : List Text) → wrong_option form names (words_after value []) ≡ None → Read form names (words_after value [])
read_last form None names e = none_read form names
read_last form (Some value) names e = none_read form names

read_either : (form : Form) (value : Option Text) (next : Text) (words : List Text) → ((names : List Text) → wrong_option form names (next ∷ words) ≡ None → Read form names (next ∷ words))
    → ((names : List Text) → wrong_option form names words ≡ None → Read form names words) → (names : List Text) → wrong_option form names (words_after value (next ∷ words)) ≡ None → Read form names (words_after value (next ∷ words))
read_either form None next words with_next behind_next names e = behind_next names e
read_either form (Some value) next words with_next behind_next names e = with_next names e

pub read : (form : Form) (before words : List Text) → wrong_option form before words ≡ None → Read form before words
read form before [] e = none_read form before
read form before (word ∷ []) e = option_read form before word [] e (read_last form (joined_in word))
read form before (word ∷ next ∷ words) e =
    option_read form before word (next ∷ words) e (read_either form (joined_in word) next words (λ names. read form names (next ∷ words)) (λ names. read form names words))
