-- `clap` takes exactly the words of a command, and keeps the rows of its options.
use Rattle.std.proofs.Common.{◌≡◌, ◌≤◌, ◌&&◌, ◌||◌, inl, inr, Bool, true, false, true≢false, not, List, [], ◌∷◌, map, length, flat_map, Option, Some, None, IfSome, is_some, if◌then◌else◌, bytes_eq, refl, sym, ap, ap₂, ◌∙◌, subst, arith}
use Rattle.std.specs.List.{AllByRecursion, list_all}
use Rattle.std.proofs.Math.Dec.{eqb-suc-zero}
use Rattle.std.proofs.lemmas.Slice.Eq.{bytes_eq-Decides}
use Rattle.std.proofs.lemmas.Bool.{and_parts}
use Rattle.clap.specs.Faults.{fault_of}
use Rattle.clap.specs.Simple.{subcommand_of}
use Rattle.clap.specs.Walk.{Row, first_of, has_row, idle, nothing_held}
use Rattle.dft_command_line.specs.Words.{Given, IsCommand, IsOneOf, Text, Valued, is_value, list_of, values_of, words_of}
use Rattle.dft_command_line.specs.CommandLine.{Form, Known, dft_app, forms, is_empty, may_stand}
use Rattle.dft_command_line.proofs.Lookups.{found_passes}
use Rattle.dft_command_line.proofs.Options.{are_names, is_plain, names, plain_value}
use Rattle.dft_command_line.proofs.Reading.{AreRead, IsGood, IsRead, all_stand, read_back, reading, reading_reads}
use Rattle.dft_command_line.proofs.Turns.{at}
use Rattle.dft_command_line.proofs.Rows.{AreWanted, Fits, absent_values, first_text, first_value, rows}
use Rattle.dft_command_line.proofs.Walks.{Claim, faults, left, walks}
use Rattle.dft_command_line.proofs.FirstWords.{IsForm, begins, command_of, form_faults, form_rows}

-- ---- the table of commands

abbrev is_good_form : Form → Bool
is_good_form f = may_stand f.command && are_names f.options

good_forms : list_all is_good_form forms ≡ true
good_forms = refl

good_form : (f : Form) → IsForm f → (may_stand f.command ≡ true) × (are_names f.options ≡ true)
good_form f is = and_parts _ _ (found_passes command_of is_good_form forms f.command f good_forms is)

-- ---- words that pass

none_twice : Fits []
none_twice n = omega arith

claim_of : (f : Form) (words : List Text) → IsForm f → list_all may_stand words ≡ true → Claim f.options (reading f.options None words) [] (faults f (at idle nothing_held) words) (left f (at idle nothing_held) words)
claim_of f words is stand = (walks f (good_form f is).1 words stand).0 nothing_held [] (record { settles = refl; shows = refl }) none_twice

-- the words are a command's with these options, whose rows `clap` keeps
pub record Taken (words : List Text) : Type 0 where
  pub form : Form
  pub is : IsForm form
  pub given : List Given
  pub written : words ≡ form.command ∷ flat_map words_of given
  pub each : AllByRecursion (IsRead form.options) given
  pub fits : Fits given
  pub shown : subcommand_of dft_app words ≡ Some (form.command, rows given)

taken_rest : (f : Form) (rest : List Text) (q : Option (List Given)) → IsForm f → IfSome q (AreRead f.options rest) → Claim f.options q [] (faults f (at idle nothing_held) rest) (left f (at idle nothing_held) rest) →
    faults f (at idle nothing_held) rest ≡ [] → Taken (f.command ∷ rest)
taken_rest f rest None is read claim passes = absurd (claim passes)
taken_rest f rest (Some gs) is read claim passes =
    let all = claim.1 passes in
    record {
      form = f;
      is = is;
      given = gs;
      written = ap (λ (l : List Text). f.command ∷ l) read.written;
      each = read.each;
      fits = all.0;
      shown = form_rows f rest is ∙ ap (λ l. Some (f.command, l)) all.2;
    }

-- words that pass are a command's
pub taken : (words : List Text) → list_all may_stand words ≡ true → fault_of dft_app words ≡ [] → Taken words
taken words stand passes =
    let b = begins words stand passes in
    let f = b.form in
    let stands : list_all may_stand b.rest ≡ true = (and_parts (may_stand f.command) (list_all may_stand b.rest) (ap (list_all may_stand) (sym b.written) ∙ stand)).1 in
    subst Taken (sym b.written)
    (taken_rest f b.rest (reading f.options None b.rest) b.is (reading_reads f.options None b.rest tt) (claim_of f b.rest b.is stands) (sym (form_faults f b.rest b.is) ∙ ap (fault_of dft_app) (sym b.written) ∙ passes))

-- `clap` takes these words and keeps these rows
pub record Takes (words : List Text) (command : Text) (rs : List Row) : Type 0 where
  pub stand : list_all may_stand words ≡ true
  pub passes : fault_of dft_app words ≡ []
  pub shown : subcommand_of dft_app words ≡ Some (command, rs)

-- the words of a command with options that are given once, and where they are wanted, are taken
pub takes_given : (f : Form) (gs : List Given) → IsForm f → AllByRecursion (IsGood f.options) gs → Fits gs → AreWanted f.options gs → Takes (f.command ∷ flat_map words_of gs) f.command (rows gs)
takes_given f gs is good fits wanted =
    let names_good = good_form f is in
    let rest : List Text = flat_map words_of gs in
    let stand : list_all may_stand rest ≡ true = all_stand f.options names_good.1 gs good in
    let claim : Claim f.options (Some gs) [] (faults f (at idle nothing_held) rest) (left f (at idle nothing_held) rest)
    = subst (λ (q : Option (List Given)). Claim f.options q [] (faults f (at idle nothing_held) rest) (left f (at idle nothing_held) rest)) (read_back f.options names_good.1 gs good) (claim_of f rest is stand) in
    let passes = claim.0 fits wanted in
    record {
      stand = ap₂ (λ a b. a && b) names_good.0 stand;
      passes = form_faults f rest is ∙ passes;
      shown = form_rows f rest is ∙ ap (λ l. Some (f.command, l)) (claim.1 passes).2;
    }

-- ---- values by their names

present_known : (ns : List Text) (n : Text) (gs : List Given) → has_row n (rows gs) ≡ true → AllByRecursion (λ g. IsOneOf ns g.name) gs → IsOneOf ns n
present_known ns n [] present known = absurd (true≢false (sym present))
present_known ns n (g ∷ gs) present known = go (bytes_eq g.name n) (bytes_eq-Decides g.name n).0 present (λ e. present_known ns n gs e known.1)
  where
    go : (b : Bool) → (b ≡ true → g.name ≡ n) → (b || has_row n (rows gs)) ≡ true → (has_row n (rows gs) ≡ true → IsOneOf ns n) → IsOneOf ns n
    go true same e rest = subst (IsOneOf ns) (same refl) known.0
    go false same e rest = rest e

abbrev pub labels : List Valued → List Text
labels = map (λ option. option.0)

at_label : (P : List Text → Type 0) (gs : List Given) (options : List Valued) (n : Text) → AllByRecursion (λ option. P (values_of option.0 gs)) options → IsOneOf (labels options) n → P (values_of n gs)
at_label P gs [] n all one = absurd one
at_label P gs (o ∷ options) n all (inl is) = subst (λ (t : Text). P (values_of t gs)) (sym is) all.0
at_label P gs (o ∷ options) n all (inr one) = at_label P gs options n all.1 one

-- what holds of no values and of those of each option holds of the values of any name
at_any : (P : List Text → Type 0) (gs : List Given) (options : List Valued) → P [] → AllByRecursion (λ option. P (values_of option.0 gs)) options → AllByRecursion (λ g. IsOneOf (labels options) g.name) gs → (n : Text) → P (values_of n gs)
at_any P gs options none all known n = go (has_row n (rows gs)) refl
  where
    go : (b : Bool) → has_row n (rows gs) ≡ b → P (values_of n gs)
    go true e = at_label P gs options n all (present_known (labels options) n gs e known)
    go false e = subst P (sym (absent_values n gs e)) none

abbrev IsSome : Text → Type 0
IsSome v = is_empty v ≡ false

abbrev AreSome : List Text → Type 0
AreSome = AllByRecursion IsSome

-- ---- the options of a command that the words are

abbrev IsGiven : List Given → Valued → Type 0
IsGiven gs option = values_of option.0 gs ≡ list_of option.1

-- what the rows show of an option is its value, which is not empty
abbrev pub Shows : List Row → Valued → Type 0
Shows rs option = (first_of option.0 rs ≡ option.1) × AreSome (list_of option.1)

abbrev pub agrees : List Known → List Valued → Bool
agrees [] [] = true
agrees (o ∷ os) (v ∷ vs) = (bytes_eq o.name v.0 && (not o.required || is_some v.1)) && agrees os vs
agrees _ _ = false

pub list_few : (q : Option Text) → length (list_of q) ≤ 1
list_few None = omega arith
list_few (Some v) = omega arith

each_once : (gs : List Given) (options : List Valued) → AllByRecursion (IsGiven gs) options → AllByRecursion (λ option. length (values_of option.0 gs) ≤ 1) options
each_once gs [] all = tt
each_once gs (o ∷ options) all = (subst (λ (l : List Text). length l ≤ 1) (sym all.0) (list_few o.1), each_once gs options all.1)

some_wanted : (r : Bool) (q : Option Text) → (not r || is_some q) ≡ true → r ≡ true → 1 ≤ length (list_of q)
some_wanted true None e required = absurd (true≢false (sym e))
some_wanted true (Some v) e required = omega arith
some_wanted false q e required = absurd (true≢false (sym required))

wanted_of : (gs : List Given) (os : List Known) (options : List Valued) → agrees os options ≡ true → AllByRecursion (IsGiven gs) options → AreWanted os gs
wanted_of gs [] options e all = tt
wanted_of gs (o ∷ os) [] e all = absurd (true≢false (sym e))
wanted_of gs (o ∷ os) (v ∷ vs) e all =
    let parts = and_parts _ _ e in
    let here = and_parts _ _ parts.0 in
    ((λ required. subst (λ (l : List Text). 1 ≤ length l) (sym (ap (λ t. values_of t gs) ((bytes_eq-Decides o.name v.0).0 here.0) ∙ all.0)) (some_wanted o.required v.1 here.1 required)), wanted_of gs os vs parts.1 all.1)

labels_agree : (os : List Known) (options : List Valued) → agrees os options ≡ true → names os ≡ labels options
labels_agree [] [] e = refl
labels_agree [] (v ∷ vs) e = absurd (true≢false (sym e))
labels_agree (o ∷ os) [] e = absurd (true≢false (sym e))
labels_agree (o ∷ os) (v ∷ vs) e = let parts = and_parts _ _ e in ap₂ (λ n ns. n ∷ ns) ((bytes_eq-Decides o.name v.0).0 (and_parts _ _ parts.0).0) (labels_agree os vs parts.1)

-- ---- a command as it is written

good_given : (ns : List Text) (gs : List Given) → AllByRecursion (λ g. is_value g.joined g.value ≡ true) gs → AllByRecursion (λ g. IsOneOf ns g.name) gs → AllByRecursion (λ g. IsOneOf ns g.name × (is_value g.joined g.value ≡ true)) gs
good_given ns [] values known = tt
good_given ns (g ∷ gs) values known = ((known.0, values.0), good_given ns gs values.1 known.1)

some_value : (is_joined : Bool) (v : Text) → is_value is_joined v ≡ true → IsSome v
some_value true [] is = sym is
some_value true (b ∷ bs) is = eqb-suc-zero (length bs)
some_value false [] is = sym is
some_value false (b ∷ bs) is = eqb-suc-zero (length bs)

some_values : (id : Text) (gs : List Given) → AllByRecursion (λ g. is_value g.joined g.value ≡ true) gs → AreSome (values_of id gs)
some_values id [] values = tt
some_values id (g ∷ gs) values = go (bytes_eq g.name id) (some_values id gs values.1)
  where
    go : (b : Bool) → AreSome (values_of id gs) → AreSome (if b then g.value ∷ values_of id gs else values_of id gs)
    go true rest = (some_value g.joined g.value values.0, rest)
    go false rest = rest

first_list : (q : Option Text) → first_text (list_of q) ≡ q
first_list None = refl
first_list (Some v) = refl

each_shown : (gs : List Given) (options : List Valued) → AllByRecursion (λ g. is_value g.joined g.value ≡ true) gs → AllByRecursion (IsGiven gs) options → AllByRecursion (Shows (rows gs)) options
each_shown gs [] values all = tt
each_shown gs (o ∷ options) values all =
    ((first_value o.0 gs ∙ ap first_text all.0 ∙ first_list o.1, subst AreSome all.0 (some_values o.0 gs values)), each_shown gs options values all.1)

-- `clap` takes the words of a command, and shows its options
pub record TakesOptions (words : List Text) (command : Text) (options : List Valued) : Type 0 where
  pub kept : List Row
  pub takes : Takes words command kept
  pub each : AllByRecursion (Shows kept) options

pub takes_command : (f : Form) (options : List Valued) (words : List Text) → IsForm f → agrees f.options options ≡ true → IsCommand f.command options words → TakesOptions words f.command options
takes_command f options words is agree c =
    let known : AllByRecursion (λ g. IsOneOf (names f.options) g.name) c.given = subst (λ (ns : List Text). AllByRecursion (λ g. IsOneOf ns g.name) c.given) (sym (labels_agree f.options options agree)) c.are.known in
    record {
      kept = rows c.given;
      takes = subst (λ (l : List Text). Takes l f.command (rows c.given)) (sym c.are.written)
          (takes_given f c.given is (good_given (names f.options) c.given c.are.values known)
          (at_any (λ vs. length vs ≤ 1) c.given options (omega arith) (each_once c.given options c.each) c.are.known) (wanted_of c.given f.options options agree c.each));
      each = each_shown c.given options c.are.values c.each;
    }

-- ---- words that are taken are a command's

one_value : (vs : List Text) (q : Option Text) → length vs ≤ 1 → first_text vs ≡ q → vs ≡ list_of q
one_value [] q few is = ap list_of is
one_value (x ∷ []) q few is = ap list_of is
one_value (x ∷ y ∷ vs) q few is = absurd (omega arith)

each_has : (gs : List Given) (options : List Valued) → Fits gs → AllByRecursion (Shows (rows gs)) options → AllByRecursion (IsGiven gs) options
each_has gs [] fits all = tt
each_has gs (o ∷ options) fits all = (one_value (values_of o.0 gs) o.1 (fits o.0) (sym (first_value o.0 gs) ∙ all.0.0), each_has gs options fits all.1)

each_some : (gs : List Given) (options : List Valued) → AllByRecursion (IsGiven gs) options → AllByRecursion (Shows (rows gs)) options → AllByRecursion (λ option. AreSome (values_of option.0 gs)) options
each_some gs [] has all = tt
each_some gs (o ∷ options) has all = (subst AreSome (sym has.0) all.0.1, each_some gs options has.1 all.1)

tail_some : (b : Bool) (v : Text) (vs : List Text) → AreSome (if b then v ∷ vs else vs) → AreSome vs
tail_some true v vs some = some.1
tail_some false v vs some = some

head_some : (b : Bool) (v : Text) (vs : List Text) → b ≡ true → AreSome (if b then v ∷ vs else vs) → IsSome v
head_some true v vs is some = some.0
head_some false v vs is some = absurd (true≢false (sym is))

value_of : (is_joined : Bool) (v : Text) → (if is_joined then true else is_plain v) ≡ true → IsSome v → is_value is_joined v ≡ true
value_of true [] read some = absurd (true≢false some)
value_of true (b ∷ bs) read some = refl
value_of false v read some = plain_value v read (λ e. true≢false (sym (ap is_empty e) ∙ some))

given_values : (os : List Known) (gs : List Given) → AllByRecursion (IsRead os) gs → ((n : Text) → AreSome (values_of n gs)) → AllByRecursion (λ g. is_value g.joined g.value ≡ true) gs
given_values os [] read some = tt
given_values os (g ∷ gs) read some = (
  value_of g.joined g.value read.0.1 (head_some (bytes_eq g.name g.name) g.value (values_of g.name gs) ((bytes_eq-Decides g.name g.name).1 refl) (some g.name)),
  given_values os gs read.1 (λ n. tail_some (bytes_eq g.name n) g.value (values_of n gs) (some n)),
)

known_given : (os : List Known) (gs : List Given) → AllByRecursion (IsRead os) gs → AllByRecursion (λ g. IsOneOf (names os) g.name) gs
known_given os [] read = tt
known_given os (g ∷ gs) read = (read.0.0, known_given os gs read.1)

pub command_taken : (words : List Text) (t : Taken words) (options : List Valued) → names t.form.options ≡ labels options → AllByRecursion (Shows (rows t.given)) options → IsCommand t.form.command options words
command_taken words t options same all =
    let known = subst (λ (ns : List Text). AllByRecursion (λ g. IsOneOf ns g.name) t.given) same (known_given t.form.options t.given t.each) in
    let has = each_has t.given options t.fits all in
    record {
      given = t.given;
      are = record {
        written = t.written;
        values = given_values t.form.options t.given t.each (at_any AreSome t.given options tt (each_some t.given options has all) known);
        known = known;
      };
      each = has;
    }
