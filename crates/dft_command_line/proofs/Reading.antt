-- The options of a command, read from the front of words.
use Rattle.std.proofs.Common.{◌≡◌, ◌&&◌, Bool, true, false, List, [], ◌∷◌, ◌++◌, flat_map, Option, Some, None, IfSome, option_map, if◌then◌else◌, refl, sym, ap, ◌∙◌, subst}
use Rattle.std.specs.List.{AllByRecursion, list_all}
use Rattle.dft_command_line.specs.Words.{Text, Given, words_of, is_value, IsOneOf}
use Rattle.dft_command_line.specs.CommandLine.{Known, may_stand}
use Rattle.dft_command_line.proofs.Options.{Has, IsWordOf, names, name_known, name_from, are_names, good_name, word_of, apart, joined, option_of, option_is, option_found, option_stands, is_plain, value_plain, value_stands}

-- ---- options from words: nothing waits, or an option waits for its value

abbrev pub more : Given → Option (List Given) → Option (List Given)
more g = option_map (λ gs. g ∷ gs)

abbrev pub met_option : Known → Option Text → (Option Known → Option (List Given)) → Option (List Given)
met_option o None rest = rest (Some o)
met_option o (Some v) rest = more (joined o.name v) (rest None)

abbrev pub met_word : Option (Known × Option Text) → (Option Known → Option (List Given)) → Option (List Given)
met_word None rest = None
met_word (Some p) rest = met_option p.0 p.1 rest

abbrev pub met_value : Bool → Known → Text → (Option Known → Option (List Given)) → Option (List Given)
met_value true o w rest = more (apart o.name w) (rest None)
met_value false o w rest = None

abbrev pub met : List Known → Option Known → Text → (Option Known → Option (List Given)) → Option (List Given)
met os None w rest = met_word (option_of os w) rest
met os (Some o) w rest = met_value (is_plain w) o w rest

abbrev pub at_end : Option Known → Option (List Given)
at_end None = Some []
at_end (Some o) = None

abbrev pub reading : List Known → Option Known → List Text → Option (List Given)
reading os waits [] = at_end waits
reading os waits (w ∷ words) = met os waits w (λ next. reading os next words)

-- ---- what is read is written so

-- an option of the command, whose value is no flag where it is a word of its own
abbrev pub IsRead : List Known → Given → Type 0
IsRead os g = IsOneOf (names os) g.name × ((if g.joined then true else is_plain g.value) ≡ true)

pub record AreRead (os : List Known) (words : List Text) (gs : List Given) : Type 0 where
  pub written : words ≡ flat_map words_of gs
  pub each : AllByRecursion (IsRead os) gs

abbrev before : Option Known → List Text → List Text
before None words = words
before (Some o) words = word_of o.name None ∷ words

-- what waits is an option of the command
abbrev Waits : List Known → Option Known → Type 0
Waits os waits = IfSome waits (Has os)

module _ (os : List Known) where
  more_read : (g : Given) (words rest : List Text) (q : Option (List Given)) → words ≡ words_of g ++ rest → IsRead os g → IfSome q (AreRead os rest) → IfSome (more g q) (AreRead os words)
  more_read g words rest None is read h = tt
  more_read g words rest (Some gs) is read h = record { written = is ∙ ap (λ l. words_of g ++ l) h.written; each = (read, h.each) }

  option_read : (o : Known) (v : Option Text) (w : Text) (words : List Text) (rest : Option Known → Option (List Given)) → Has os o → w ≡ word_of o.name v →
      ((next : Option Known) → Waits os next → IfSome (rest next) (AreRead os (before next words))) → IfSome (met_option o v rest) (AreRead os (w ∷ words))
  option_read o None w words rest has is h = subst (λ (l : Text). IfSome (rest (Some o)) (AreRead os (l ∷ words))) (sym is) (h (Some o) has)
  option_read o (Some v) w words rest has is h = more_read (joined o.name v) (w ∷ words) words (rest None) (ap (λ (l : Text). l ∷ words) is) (name_known os o has, refl) (h None tt)

  word_read : (q : Option (Known × Option Text)) (w : Text) (words : List Text) (rest : Option Known → Option (List Given)) → IfSome q (IsWordOf os w) →
      ((next : Option Known) → Waits os next → IfSome (rest next) (AreRead os (before next words))) → IfSome (met_word q rest) (AreRead os (w ∷ words))
  word_read None w words rest is h = tt
  word_read (Some p) w words rest is h = option_read p.0 p.1 w words rest is.1 is.0 h

  value_read : (b : Bool) (o : Known) (w : Text) (words : List Text) (rest : Option Known → Option (List Given)) → is_plain w ≡ b → Has os o →
      ((next : Option Known) → Waits os next → IfSome (rest next) (AreRead os (before next words))) → IfSome (met_value b o w rest) (AreRead os (word_of o.name None ∷ w ∷ words))
  value_read true o w words rest is has h = more_read (apart o.name w) (word_of o.name None ∷ w ∷ words) words (rest None) refl (name_known os o has, is) (h None tt)
  value_read false o w words rest is has h = tt

  pub reading_reads : (waits : Option Known) (words : List Text) → Waits os waits → IfSome (reading os waits words) (AreRead os (before waits words))
  reading_reads None [] has = record { written = refl; each = tt }
  reading_reads (Some o) [] has = tt
  reading_reads None (w ∷ words) has = word_read (option_of os w) w words (λ next. reading os next words) (option_is os w) (λ next has. reading_reads next words has)
  reading_reads (Some o) (w ∷ words) has = value_read (is_plain w) o w words (λ next. reading os next words) refl has (λ next has. reading_reads next words has)

-- ---- what is written so is read

abbrev pub IsGood : List Known → Given → Type 0
IsGood os g = IsOneOf (names os) g.name × (is_value g.joined g.value ≡ true)

abbrev pub given_as : Given → Text → Given
given_as g name = record g { name = name }

module _ (os : List Known) (good : are_names os ≡ true) where
  read_given : (o : Known) (v : Text) (is_joined : Bool) (words : List Text) → Has os o → is_value is_joined v ≡ true →
      reading os None (words_of (record { name = o.name; value = v; joined = is_joined }) ++ words) ≡ more (record { name = o.name; value = v; joined = is_joined }) (reading os None words)
  read_given o v true words has is = ap (λ q. met_word q (λ next. reading os next words)) (option_found os o (Some v) good has)
  read_given o v false words has is =
      ap (λ q. met_word q (λ next. reading os next (v ∷ words))) (option_found os o None good has)
      ∙ ap (λ b. met_value b o v (λ next. reading os next words)) (value_plain v is)

  read_one : (g : Given) (words : List Text) → IsGood os g → reading os None (words_of g ++ words) ≡ more g (reading os None words)
  read_one g words is =
      let o = name_from os g.name is.0 in
      subst (λ (t : Text). reading os None (words_of (given_as g t) ++ words) ≡ more (given_as g t) (reading os None words)) (sym o.1.0) (read_given o.0 g.value g.joined words o.1.1 is.1)

  pub read_back : (gs : List Given) → AllByRecursion (IsGood os) gs → reading os None (flat_map words_of gs) ≡ Some gs
  read_back [] all = refl
  read_back (g ∷ gs) all = read_one g (flat_map words_of gs) all.0 ∙ ap (more g) (read_back gs all.1)

-- ---- words of options may stand

both_more : (a b c : Bool) → (a && b) ≡ true → (b ≡ true → c ≡ true) → (a && c) ≡ true
both_more true b c h next = next h
both_more false b c h next = h

all_append : (xs ys : List Text) → list_all may_stand xs ≡ true → list_all may_stand ys ≡ true → list_all may_stand (xs ++ ys) ≡ true
all_append [] ys h k = k
all_append (x ∷ xs) ys h k = both_more (may_stand x) (list_all may_stand xs) (list_all may_stand (xs ++ ys)) h (λ e. all_append xs ys e k)

given_stands : (n v : Text) (is_joined : Bool) → ((v : Option Text) → may_stand (word_of n v) ≡ true) → is_value is_joined v ≡ true → list_all may_stand (words_of (record { name = n; value = v; joined = is_joined })) ≡ true
given_stands n v true stands is = ap (λ b. b && true) (stands (Some v))
given_stands n v false stands is = (λ i. stands None i && (value_stands v is i && true))

module _ (os : List Known) (good : are_names os ≡ true) where
  one_stands : (g : Given) → IsGood os g → list_all may_stand (words_of g) ≡ true
  one_stands g is =
      let o = name_from os g.name is.0 in
      given_stands g.name g.value g.joined
      (λ v. subst (λ (t : Text). may_stand (word_of t v) ≡ true) (sym o.1.0) (option_stands o.0.name v (good_name os o.0 good o.1.1))) is.1

  pub all_stand : (gs : List Given) → AllByRecursion (IsGood os) gs → list_all may_stand (flat_map words_of gs) ≡ true
  all_stand [] all = refl
  all_stand (g ∷ gs) all = all_append (words_of g) (flat_map words_of gs) (one_stands g all.0) (all_stand gs all.1)
