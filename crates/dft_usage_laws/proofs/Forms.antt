-- Words of one form: without a fault they are a command, and a command has no fault among its options.
use Rattle.std.proofs.Common.{◌≡◌, ◌∙◌, ◌<◌, Bool, true, false, List, [], ◌∷◌, ◌++◌, length, map, inl, inr, Option, Some, None, refl, sym, ap, subst}
use Rattle.std.specs.List.{AllByRecursion}
use Rattle.std.specs.Prelude.{flat_map, if◌then◌else◌}
use Rattle.std.specs.Str.{bytes_eq}
use Rattle.dft_command_line.specs.Words.{AreWordsOf, Given, IsOneOf, Valued, is_value, list_of, values_of, words_of}
use Rattle.dft_explain.specs.Faults.{Form, Text, fault_where_none, is_among, missing, wrong_option}
use Rattle.dft_explain.specs.Options.{value_of}
use Rattle.dft_explain.proofs.FaultLemmas.{or_none}
use Rattle.dft_usage_laws.proofs.OptionWords.{OfName}
use Rattle.dft_usage_laws.proofs.Taking.{IsPlain, IsRight, given_right, or_both, read}
use Rattle.dft_usage_laws.proofs.GivenValues.{IsNamed, among_one, at_most_one, few_given, first, once_from, one_among, unknown_none, value_given}

-- the options of a form
abbrev pub options_of : Form → List Text
options_of form = form.needed ++ form.optional

has_all : (name : Text) (needed optional : List Text) → (if is_among name needed then true else is_among name optional) ≡ is_among name (needed ++ optional)
has_all name [] optional = refl
has_all name (n ∷ needed) optional = go (bytes_eq n name) (has_all name needed optional)
  where
    go : (t : Bool) → (if is_among name needed then true else is_among name optional) ≡ is_among name (needed ++ optional)
        → (if (if t then true else is_among name needed) then true else is_among name optional) ≡ (if t then true else is_among name (needed ++ optional))
    go true more = refl
    go false more = more

-- a name that a form may have
abbrev pub IsName : Text → Type 0
IsName name = OfName name × (0 < length name)

one_plain : (names : List Text) (name : Text) → AllByRecursion IsName names → IsOneOf names name → IsName name
one_plain [] name all one = absurd one
one_plain (n ∷ names) name all (inl i) = subst IsName (sym i) all.0
one_plain (n ∷ names) name all (inr one) = one_plain names name all.1 one

pub plain_of : (form : Form) → AllByRecursion IsName (options_of form) → IsPlain form
plain_of form all option e = one_plain (options_of form) option all (among_one option (options_of form) (sym (has_all option form.needed form.optional) ∙ e))

-- ---- words without a fault

values_right : (form : Form) (given : List Given) → AllByRecursion (IsRight form) given → AllByRecursion (λ g. is_value g.joined g.value ≡ true) given
values_right form [] all = tt
values_right form (g ∷ given) all = (all.0.1, values_right form given all.1)

known_right : (form : Form) (given : List Given) → AllByRecursion (IsRight form) given → AllByRecursion (λ g. IsOneOf (options_of form) g.name) given
known_right form [] all = tt
known_right form (g ∷ given) all = (among_one g.name (options_of form) (sym (has_all g.name form.needed form.optional) ∙ all.0.0), known_right form given all.1)

named_right : (form : Form) → IsPlain form → (given : List Given) → AllByRecursion (IsRight form) given → AllByRecursion IsNamed given
named_right form plain [] all = tt
named_right form plain (g ∷ given) all = (((plain g.name all.0.0).0, all.0.1), named_right form plain given all.1)

-- the options that words give
pub record Whole (form : Form) (words : List Text) : Type 0 where
  pub given : List Given
  pub are : AreWordsOf form.name (options_of form) given (form.name ∷ words)
  pub each : (option : Text) → OfName option → values_of option given ≡ list_of (value_of option words)

pub whole : (form : Form) → IsPlain form → (words : List Text) → wrong_option form [] words ≡ None → Whole form words
whole form plain words e =
    let r = read form [] words e in
    record {
      given = r.given;
      are = record { written = ap (λ (l : List Text). form.name ∷ l) r.written; values = values_right form r.given r.right; known = known_right form r.given r.right };
      each = λ option p. at_most_one option [] r.given r.once ∙ ap list_of (sym (value_given option p r.given (named_right form plain r.given r.right)) ∙ ap (value_of option) (sym r.written));
    }

-- the value that is not missing
value_there : (option : Text) (value : Option Text) → fault_where_none option value ≡ None → (text : Text) × (value ≡ Some text)
value_there option None e = absurd cc
value_there option (Some text) e = (text, refl)

abbrev pub Given_in : (words : List Text) → Text → Type 0
Given_in words option = (text : Text) × (value_of option words ≡ Some text)

pub none_missing : (options words : List Text) → missing options words ≡ None → AllByRecursion (Given_in words) options
none_missing [] words e = tt
none_missing (option ∷ options) words e =
    let both = or_both (fault_where_none option (value_of option words)) (missing options words) e in (value_there option (value_of option words) both.0, none_missing options words both.1)

-- ---- a command

right_values : (form : Form) (options : List Valued) → map (λ option. option.0) options ≡ options_of form → (given : List Given) → AllByRecursion (λ g. IsOneOf (map (λ option. option.0) options) g.name) given
    → AllByRecursion (λ g. is_value g.joined g.value ≡ true) given → AllByRecursion (IsRight form) given
right_values form options same [] known values = tt
right_values form options same (g ∷ given) known values = (
  (has_all g.name form.needed form.optional ∙ one_among g.name (options_of form) (subst (λ (l : List Text). IsOneOf l g.name) same known.0), values.0),
  right_values form options same given known.1 values.1,
)

first_of_one : (value : Option Text) → first (list_of value) ≡ value
first_of_one None = refl
first_of_one (Some value) = refl

values_given : (options : List Valued) (words : List Text) (given : List Given) → AllByRecursion IsNamed given → words ≡ flat_map words_of given → AllByRecursion (λ option. OfName option.0) options
    → AllByRecursion (λ option. values_of option.0 given ≡ list_of option.1) options → AllByRecursion (λ option. value_of option.0 words ≡ option.1) options
values_given [] words given named written names each = tt
values_given (o ∷ options) words given named written names each = (
  ap (value_of o.0) written ∙ (value_given o.0 names.0 given named ∙ (ap first each.0 ∙ first_of_one o.1)),
  values_given options words given named written names.1 each.1,
)

-- a command's words behind its name
pub record Backed (form : Form) (options : List Valued) (words : List Text) : Type 0 where
  pub right : wrong_option form [] words ≡ None
  pub values : AllByRecursion (λ option. value_of option.0 words ≡ option.1) options
  pub others : (option : Text) → OfName option → is_among option (options_of form) ≡ false → value_of option words ≡ None

pub backed : (form : Form) → IsPlain form → (options : List Valued) → map (λ option. option.0) options ≡ options_of form → AllByRecursion (λ option. OfName option.0) options → (words : List Text) (given : List Given)
    → words ≡ flat_map words_of given → AllByRecursion (λ g. is_value g.joined g.value ≡ true) given → AllByRecursion (λ g. IsOneOf (map (λ option. option.0) options) g.name) given
    → AllByRecursion (λ option. values_of option.0 given ≡ list_of option.1) options → Backed form options words
backed form plain options same names words given written values known each =
    let right = right_values form options same given known values in
    let named = named_right form plain given right in
    record {
      right = ap (wrong_option form []) written ∙ given_right form plain [] given right (once_from given (few_given options given known each));
      values = values_given options words given named written names each;
      others = λ option p e. ap (value_of option) written ∙ (value_given option p given named ∙ ap first (unknown_none (map (λ o. o.0) options) option given known (ap (is_among option) same ∙ e)) ∙ first_of_one None);
    }

pub all_there : (options words : List Text) → AllByRecursion (Given_in words) options → missing options words ≡ None
all_there [] words all = refl
all_there (option ∷ options) words all = or_none (fault_where_none option (value_of option words)) (missing options words) (ap (fault_where_none option) all.0.1) ∙ all_there options words all.1
