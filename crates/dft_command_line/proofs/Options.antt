-- Words that are options of a command, and the options that words are.
use Rattle.std.proofs.Common.{◌≡◌, ◌⊎◌, ◌==◌, ◌||◌, ℕ, Bool, true, false, not, zero, suc, List, [], ◌∷◌, ◌++◌, map, Option, Some, None, IfSome, option_and_then, if◌then◌else◌, codes, bytes_eq, inl, inr, refl, sym, ap, ◌∙◌, subst, arith, append-nil, true≢false}
use Rattle.std.specs.List.{list_all, list_any}
use Rattle.std.proofs.lemmas.Slice.Eq.{bytes_eq-Decides}
use Rattle.std.proofs.lemmas.Bool.{eqb-true, eqb-false, not-true}
use Rattle.clap.specs.Lexer.{long_of, long_of_rest, strip_byte, name_and_value}
use Rattle.clap.proofs.CutLemmas.{Lacks}
use Rattle.clap.proofs.LexerLemmas.{name_and_value-at, name_and_value-without}
use Rattle.dft_command_line.specs.Words.{Text, Given, IsOneOf, is_value_word}
use Rattle.dft_command_line.specs.CommandLine.{Known, may_stand}
use Rattle.dft_command_line.proofs.Lookups.{IsAt, found, found_passes, lookup}

-- ---- the options of a command

abbrev pub name_of : Known → Text
name_of o = o.name

abbrev pub find_known : List Known → Text → Option Known
find_known = lookup name_of

-- the option is the one that its name finds
abbrev pub Has : List Known → Known → Type 0
Has os o = find_known os o.name ≡ Some o

abbrev pub IsFound : List Known → Text → Known → Type 0
IsFound = IsAt name_of

abbrev pub names : List Known → List Text
names = map name_of

-- what is found is one of the names
one_of_found : (os : List Known) (t : Text) (o : Known) → find_known os t ≡ Some o → IsOneOf (names os) t
one_of_found [] t o e = absurd cc
one_of_found (p ∷ os) t o e = go (bytes_eq p.name t) (bytes_eq-Decides p.name t).0 (one_of_found os t o) e
  where
    go : (b : Bool) → (b ≡ true → p.name ≡ t) → (find_known os t ≡ Some o → IsOneOf (names os) t) → (if b then Some p else find_known os t) ≡ Some o → IsOneOf (names (p ∷ os)) t
    go true is rest e = inl (sym (is refl))
    go false is rest e = inr (rest e)

pub name_known : (os : List Known) (o : Known) → Has os o → IsOneOf (names os) o.name
name_known os o has = one_of_found os o.name o has

found_one_of : (os : List Known) (t : Text) → IsOneOf (names os) t → (o : Known) × (find_known os t ≡ Some o)
found_one_of [] t one = absurd one
found_one_of (p ∷ os) t one = go (bytes_eq p.name t) (bytes_eq-Decides p.name t).1 (found_one_of os t) one
  where
    go : (b : Bool) → (p.name ≡ t → b ≡ true) → (IsOneOf (names os) t → (o : Known) × (find_known os t ≡ Some o)) → (t ≡ p.name) ⊎ IsOneOf (names os) t → (o : Known) × ((if b then Some p else find_known os t) ≡ Some o)
    go true isnt rest one = (p, refl)
    go false isnt rest (inl is) = absurd (true≢false (sym (isnt (sym is))))
    go false isnt rest (inr one) = rest one

-- the option that has one of the names
pub name_from : (os : List Known) (t : Text) → IsOneOf (names os) t → (o : Known) × IsFound os t o
name_from os t one = let f = found_one_of os t one in (f.0, found name_of os t (Some f.0) f.1)

-- ---- the words of an option

-- the word of an option, with the value that is joined to it
abbrev pub word_of : Text → Option Text → Text
word_of n None = codes "--" ++ n
word_of n (Some v) = codes "--" ++ (n ++ 61 ∷ v)

abbrev pub apart : Text → Text → Given
apart n v = record { name = n; value = v; joined = false }

abbrev pub joined : Text → Text → Given
joined n v = record { name = n; value = v; joined = true }

-- a name of an option is not empty, and has no `=`
abbrev pub is_name : Text → Bool
is_name [] = false
is_name (b ∷ bs) = not (list_any (λ x. x == 61) (b ∷ bs))

lacks_more : (c x : ℕ) (xs : List ℕ) → (x ≡ c → ⊥) → Lacks c xs → Lacks c (x ∷ xs)
lacks_more c x xs ne h zero lt = ne
lacks_more c x xs ne h (suc i) lt = h i (omega arith)

lacks : (c : ℕ) (t : List ℕ) → list_any (λ x. x == c) t ≡ false → Lacks c t
lacks c [] e = λ i lt. absurd (omega arith)
lacks c (x ∷ xs) e = go (x == c) (eqb-false x c) (lacks c xs) e
  where
    go : (b : Bool) → (b ≡ false → x ≡ c → ⊥) → (list_any (λ y. y == c) xs ≡ false → Lacks c xs) → (b || list_any (λ y. y == c) xs) ≡ false → Lacks c (x ∷ xs)
    go true isnt rest e = absurd (true≢false e)
    go false isnt rest e = lacks_more c x xs (isnt refl) (rest e)

-- what `clap` makes of the word of an option
pub long_is : (n : Text) (v : Option Text) → is_name n ≡ true → long_of (word_of n v) ≡ Some (n, v)
long_is [] v is = absurd (true≢false (sym is))
long_is (b ∷ bs) None is = ap Some (name_and_value-without (b ∷ bs) (lacks 61 (b ∷ bs) (not-true _ is)))
long_is (b ∷ bs) (Some v) is = ap Some (name_and_value-at (b ∷ bs) v (lacks 61 (b ∷ bs) (not-true _ is)))

pub no_escape : (n : Text) (v : Option Text) → is_name n ≡ true → bytes_eq (word_of n v) (45 ∷ 45 ∷ []) ≡ false
no_escape [] v is = absurd (true≢false (sym is))
no_escape (b ∷ bs) None is = refl
no_escape (b ∷ bs) (Some v) is = refl

pub option_stands : (n : Text) (v : Option Text) → is_name n ≡ true → may_stand (word_of n v) ≡ true
option_stands [] v is = absurd (true≢false (sym is))
option_stands (b ∷ bs) None is = refl
option_stands (b ∷ bs) (Some v) is = refl

abbrev pub are_names : List Known → Bool
are_names = list_all (λ o. is_name o.name)

-- an option that is found has a name
pub good_name : (os : List Known) (o : Known) → are_names os ≡ true → Has os o → is_name o.name ≡ true
good_name os o good has = found_passes name_of (λ p. is_name p.name) os o.name o good has

-- ---- the option that a word is

abbrev pub met : Option Known → Option Text → Option (Known × Option Text)
met None v = None
met (Some o) v = Some (o, v)

abbrev pub option_from : List Known → Option (Text × Option Text) → Option (Known × Option Text)
option_from os None = None
option_from os (Some p) = met (find_known os p.0) p.1

abbrev pub option_of : List Known → Text → Option (Known × Option Text)
option_of os w = option_from os (long_of w)

abbrev tail_of : Option Text → Text
tail_of None = []
tail_of (Some v) = 61 ∷ v

-- a text lacks the byte, or it is cut there
abbrev Cut : ℕ → List ℕ → Type 0
Cut c t = Lacks c t ⊎ ((xs : List ℕ) × ((ys : List ℕ) × (Lacks c xs × (t ≡ xs ++ c ∷ ys))))

cut_of : (c : ℕ) (t : List ℕ) → Cut c t
cut_of c [] = inl (λ i lt. absurd (omega arith))
cut_of c (x ∷ xs) = go (x == c) (eqb-true x c) (eqb-false x c) (cut_of c xs)
  where
    go : (b : Bool) → (b ≡ true → x ≡ c) → (b ≡ false → x ≡ c → ⊥) → Cut c xs → Cut c (x ∷ xs)
    go true is isnt rest = inr ([], (xs, ((λ i lt. absurd (omega arith)), ap (λ n. n ∷ xs) (is refl))))
    go false is isnt (inl lacks) = inl (lacks_more c x xs (isnt refl) lacks)
    go false is isnt (inr rest) = inr (x ∷ rest.0, (rest.1.0, (lacks_more c x rest.0 (isnt refl) rest.1.1.0, ap (λ l. x ∷ l) rest.1.1.1)))

-- what is cut at `=` is the text again
cut_joins : (t : Text) → t ≡ (name_and_value t).0 ++ tail_of (name_and_value t).1
cut_joins t = go (cut_of 61 t)
  where
    go : Cut 61 t → t ≡ (name_and_value t).0 ++ tail_of (name_and_value t).1
    go (inl lacks) = sym (append-nil t) ∙ ap (λ (p : Text × Option Text). p.0 ++ tail_of p.1) (sym (name_and_value-without t lacks))
    go (inr cut) = cut.1.1.1 ∙ ap (λ (p : Text × Option Text). p.0 ++ tail_of p.1) (sym (ap name_and_value cut.1.1.1 ∙ name_and_value-at cut.0 cut.1.0 cut.1.1.0))

joined_is : (n : Text) (v : Option Text) → codes "--" ++ (n ++ tail_of v) ≡ word_of n v
joined_is n None = ap (λ (l : Text). codes "--" ++ l) (append-nil n)
joined_is n (Some v) = refl

-- the word is that of the option
abbrev pub IsWordOf : List Known → Text → Known × Option Text → Type 0
IsWordOf os w p = (w ≡ word_of p.0.name p.1) × Has os p.0

met_is : (os : List Known) (t : Text) (q : Option Known) (v : Option Text) → IfSome q (IsFound os t) → IfSome (met q v) (IsWordOf os (codes "--" ++ (t ++ tail_of v)))
met_is os t None v is = tt
met_is os t (Some o) v is = (ap (λ (l : Text). codes "--" ++ (l ++ tail_of v)) is.0 ∙ joined_is o.name v, is.1)

rest_is : (os : List Known) (t : Text) → IfSome (option_from os (long_of_rest t)) (IsWordOf os (codes "--" ++ t))
rest_is os [] = tt
rest_is os (x ∷ xs) =
    let cut = name_and_value (x ∷ xs) in
    subst (λ (l : Text). IfSome (met (find_known os cut.0) cut.1) (IsWordOf os (codes "--" ++ l))) (sym (cut_joins (x ∷ xs))) (met_is os cut.0 (find_known os cut.0) cut.1 (found name_of os cut.0 (find_known os cut.0) refl))

abbrev Is : List Known → Text → Option Text → Type 0
Is os w rest = IfSome (option_from os (option_and_then long_of_rest rest)) (IsWordOf os w)

second_is : (os : List Known) (c : ℕ) (rest : Text) (b : Bool) → (b ≡ true → c ≡ 45) → Is os (45 ∷ c ∷ rest) (if b then Some rest else None)
second_is os c rest true is = subst (λ (d : ℕ). Is os (45 ∷ d ∷ rest) (Some rest)) (sym (is refl)) (rest_is os rest)
second_is os c rest false is = tt

first_is : (os : List Known) (b c : ℕ) (rest : Text) (t : Bool) → (t ≡ true → b ≡ 45) → Is os (b ∷ c ∷ rest) (option_and_then (strip_byte 45) (if t then Some (c ∷ rest) else None))
first_is os b c rest true is = subst (λ (d : ℕ). Is os (d ∷ c ∷ rest) (strip_byte 45 (c ∷ rest))) (sym (is refl)) (second_is os c rest (c == 45) (eqb-true c 45))
first_is os b c rest false is = tt

one_is : (os : List Known) (b : ℕ) (t : Bool) → Is os (b ∷ []) (option_and_then (strip_byte 45) (if t then Some [] else None))
one_is os b true = tt
one_is os b false = tt

-- a word is that of the option that it is taken for
pub option_is : (os : List Known) (w : Text) → IfSome (option_of os w) (IsWordOf os w)
option_is os [] = tt
option_is os (b ∷ []) = one_is os b (b == 45)
option_is os (b ∷ c ∷ rest) = first_is os b c rest (b == 45) (eqb-true b 45)

-- the word of an option is taken for it
pub option_found : (os : List Known) (o : Known) (v : Option Text) → are_names os ≡ true → Has os o → option_of os (word_of o.name v) ≡ Some (o, v)
option_found os o v good has = ap (option_from os) (long_is o.name v (good_name os o good has)) ∙ ap (λ q. met q v) has

-- ---- words that may stand

-- a word that is no flag
abbrev pub is_plain : Text → Bool
is_plain [] = true
is_plain (b ∷ []) = true
is_plain (b ∷ c ∷ bs) = not (b == 45)

pub value_plain : (v : Text) → is_value_word v ≡ true → is_plain v ≡ true
value_plain [] is = refl
value_plain (b ∷ []) is = refl
value_plain (b ∷ c ∷ bs) is = is

pub plain_value : (v : Text) → is_plain v ≡ true → (v ≡ [] → ⊥) → is_value_word v ≡ true
plain_value [] is some = absurd (some refl)
plain_value (b ∷ []) is some = refl
plain_value (b ∷ c ∷ bs) is some = is

value_stands_at : (b c : ℕ) (bs : Text) (t : Bool) → not t ≡ true → (if t then c == 45 else true) ≡ true
value_stands_at b c bs true is = absurd (true≢false (sym is))
value_stands_at b c bs false is = refl

short_stands_at : (t : Bool) → not t ≡ true → (if t then false else true) ≡ true
short_stands_at true is = is
short_stands_at false is = refl

pub value_stands : (v : Text) → is_value_word v ≡ true → may_stand v ≡ true
value_stands [] is = refl
value_stands (b ∷ []) is = refl
value_stands (b ∷ c ∷ []) is = short_stands_at (b == 45) is
value_stands (b ∷ c ∷ d ∷ bs) is = value_stands_at b c bs (b == 45) is
