-- The words of an option, and what they are read as.
use Rattle.std.proofs.Common.{◌≡◌, ◌∙◌, ◌<◌, ◌+◌, ◌&&◌, ℕ, Bool, true, false, not, [], ◌∷◌, ◌++◌, codes, drop, length, take, Option, Some, None, refl, sym, ap, ap₂, subst, arith, append-nil}
use Rattle.std.proofs.lemmas.Bool.{and_parts, eqb-true}
use Rattle.std.proofs.lemmas.Bool.Decides.{nat_tests}
use Rattle.std.proofs.lemmas.Option.{same_Some}
use Rattle.std.proofs.Math.Seq.{drop-append_seam, drop-length, take-append_seam, take-length}
use Rattle.std.specs.List.{list_all, prefix_len}
use Rattle.std.specs.Prelude.{◌==◌, option_and_then, if◌then◌else◌}
use Rattle.dft_base.proofs.NumberLemmas.{same_number}
use Rattle.dft_explain.specs.Faults.{Text, behind_first, is_of_name, joined, joined_in, name_in, named}
use Rattle.dft_explain.specs.Options.{behind}

-- ---- what stands behind

pub behind_own : (front rest : Text) → behind front (front ++ rest) ≡ Some rest
behind_own [] rest = refl
behind_own (b ∷ front) rest = ap (λ (t : Bool). if t then behind front (front ++ rest) else None) (same_number b) ∙ behind_own front rest

pub behind_is : (front text rest : Text) → behind front text ≡ Some rest → text ≡ front ++ rest
behind_is [] text rest e = same_Some text rest e
behind_is (b ∷ front) [] rest e = absurd cc
behind_is (b ∷ front) (x ∷ text) rest e = go (b == x) (eqb-true b x) (behind_is front text rest) e
  where
    go : (t : Bool) → (t ≡ true → b ≡ x) → (behind front text ≡ Some rest → text ≡ front ++ rest) → (if t then behind front text else None) ≡ Some rest → x ∷ text ≡ b ∷ (front ++ rest)
    go true is more e = ap₂ (λ (h : ℕ) (l : Text). h ∷ l) (sym (is refl)) (more e)
    go false is more e = absurd cc

-- ---- a name, and what is joined to it

-- a text without `=`
abbrev pub OfName : Text → Type 0
OfName name = list_all is_of_name name ≡ true

longer : (b : ℕ) (text : Text) → is_of_name b ≡ true → prefix_len is_of_name (b ∷ text) ≡ 1 + prefix_len is_of_name text
longer b text e = rw e refl

len_joined : (name value : Text) → OfName name → prefix_len is_of_name (name ++ 61 ∷ value) ≡ length name
len_joined [] value of = refl
len_joined (b ∷ name) value of = let parts = and_parts (is_of_name b) (list_all is_of_name name) of in omega (arith, longer b (name ++ 61 ∷ value) parts.0, len_joined name value parts.1)

len_alone : (name : Text) → OfName name → prefix_len is_of_name name ≡ length name
len_alone [] of = refl
len_alone (b ∷ name) of = let parts = and_parts (is_of_name b) (list_all is_of_name name) of in omega (arith, longer b name parts.0, len_alone name parts.1)

not_zero : (k : ℕ) → 0 < k → (k == 0) ≡ false
not_zero k some = grind (arith, nat_tests, some)

-- the name that so many bytes of a text are
abbrev taken : (k : ℕ) → (text : Text) → Option Text
taken k text = if k == 0 then None else Some (take k text)

taken_some : (k : ℕ) (text : Text) → 0 < k → taken k text ≡ Some (take k text)
taken_some k text some = ap (λ (t : Bool). if t then None else Some (take k text)) (not_zero k some)

named_joined : (name value : Text) → OfName name → 0 < length name → named (name ++ 61 ∷ value) ≡ Some name
named_joined name value of some =
    ap (λ k. taken k (name ++ 61 ∷ value)) (len_joined name value of) ∙ (taken_some (length name) (name ++ 61 ∷ value) some ∙ ap Some (take-append_seam name (61 ∷ value)))

named_alone : (name : Text) → OfName name → 0 < length name → named name ≡ Some name
named_alone name of some = ap (λ k. taken k name) (len_alone name of) ∙ (taken_some (length name) name some ∙ ap Some (take-length name))

joined_joined : (name value : Text) → OfName name → joined (name ++ 61 ∷ value) ≡ Some value
joined_joined name value of = ap (λ k. behind_first (drop k (name ++ 61 ∷ value))) (len_joined name value of) ∙ ap behind_first (drop-append_seam name (61 ∷ value))

joined_alone : (name : Text) → OfName name → joined name ≡ None
joined_alone name of = ap (λ k. behind_first (drop k name)) (len_alone name of) ∙ ap behind_first (drop-length name)

-- ---- the words of an option are read as it

pub name_of_joined : (name value : Text) → OfName name → 0 < length name → name_in (codes "--" ++ (name ++ 61 ∷ value)) ≡ Some name
name_of_joined name value of some = ap (option_and_then named) (behind_own (codes "--") (name ++ 61 ∷ value)) ∙ named_joined name value of some

pub value_of_joined : (name value : Text) → OfName name → joined_in (codes "--" ++ (name ++ 61 ∷ value)) ≡ Some value
value_of_joined name value of = ap (option_and_then joined) (behind_own (codes "--") (name ++ 61 ∷ value)) ∙ joined_joined name value of

pub name_of_alone : (name : Text) → OfName name → 0 < length name → name_in (codes "--" ++ name) ≡ Some name
name_of_alone name of some = ap (option_and_then named) (behind_own (codes "--") name) ∙ named_alone name of some

pub none_of_alone : (name : Text) → OfName name → joined_in (codes "--" ++ name) ≡ None
none_of_alone name of = ap (option_and_then joined) (behind_own (codes "--") name) ∙ joined_alone name of

-- ---- what is read is an option's words

-- nothing, or something that begins with `=`
abbrev pub Stops : Text → Type 0
Stops [] = Unit {0}
Stops (b ∷ bs) = b ≡ 61

-- a text in two: up to the first `=`, and from it on
record Split (text : Text) : Type 0 where
  front : Text
  rest : Text
  is : text ≡ front ++ rest
  of : OfName front
  len : prefix_len is_of_name text ≡ length front
  stops : Stops rest

split_at : (b : ℕ) (text : Text) (t : Bool) → (b == 61) ≡ t → Split text → Split (b ∷ text)
split_at b text true e s = record { front = []; rest = b ∷ text; is = refl; of = refl; len = rw e refl; stops = eqb-true b 61 e }
split_at b text false e s = record {
  front = b ∷ s.front;
  rest = s.rest;
  is = ap (λ (l : Text). b ∷ l) s.is;
  of = ap₂ (λ (x y : Bool). not x && y) e s.of;
  len = omega (arith, longer b text (ap not e), s.len);
  stops = s.stops;
}

split : (text : Text) → Split text
split [] = record { front = []; rest = []; is = refl; of = refl; len = refl; stops = tt }
split (b ∷ text) = split_at b text (b == 61) refl (split text)

-- what a name that is read stands in
pub record Parsed (word name : Text) : Type 0 where
  pub of : OfName name
  pub some : 0 < length name
  pub rest : Text
  pub is : word ≡ codes "--" ++ (name ++ rest)
  pub joined_is : joined_in word ≡ behind_first rest
  pub stops : Stops rest

front_taken : (front rest name : Text) → taken (length front) (front ++ rest) ≡ Some name → (front ≡ name) × (0 < length front)
front_taken [] rest name e = absurd cc
front_taken (b ∷ front) rest name e = (
  sym (take-append_seam (b ∷ front) rest) ∙ same_Some (take (length (b ∷ front)) (b ∷ front ++ rest)) name (sym (taken_some (length (b ∷ front)) (b ∷ front ++ rest) (omega arith)) ∙ e),
  omega arith,
)

parsed_from : (word text name : Text) → behind (codes "--") word ≡ Some text → named text ≡ Some name → Split text → Parsed word name
parsed_from word text name behind_it e s =
    let found = front_taken s.front s.rest name (sym (ap₂ taken s.len s.is) ∙ e) in
    let whole : text ≡ name ++ s.rest = s.is ∙ ap (λ (l : Text). l ++ s.rest) found.0 in
    record {
      of = subst OfName found.0 s.of;
      some = subst (λ (l : Text). 0 < length l) found.0 found.1;
      rest = s.rest;
      is = behind_is (codes "--") word text behind_it ∙ ap (λ (l : Text). codes "--" ++ l) whole;
      joined_is = ap (option_and_then joined) behind_it ∙ (ap₂ (λ (k : ℕ) (l : Text). behind_first (drop k l)) s.len s.is ∙ ap behind_first (drop-append_seam s.front s.rest));
      stops = s.stops;
    }

parsed_by : (word name : Text) (text : Option Text) → behind (codes "--") word ≡ text → option_and_then named text ≡ Some name → Parsed word name
parsed_by word name None behind_it e = absurd cc
parsed_by word name (Some text) behind_it e = parsed_from word text name behind_it e (split text)

pub parsed : (word name : Text) → name_in word ≡ Some name → Parsed word name
parsed word name e = parsed_by word name (behind (codes "--") word) refl e

alone_rest : (rest : Text) → behind_first rest ≡ None → rest ≡ []
alone_rest [] e = refl
alone_rest (b ∷ rest) e = absurd cc

joined_rest : (rest value : Text) → Stops rest → behind_first rest ≡ Some value → rest ≡ 61 ∷ value
joined_rest [] value stops e = absurd cc
joined_rest (b ∷ rest) value stops e = ap₂ (λ (h : ℕ) (l : Text). h ∷ l) stops (same_Some rest value e)

-- the word of a name alone, and that of a name with its value
pub is_alone : (word name : Text) → Parsed word name → joined_in word ≡ None → word ≡ codes "--" ++ name
is_alone word name p e = p.is ∙ (ap (λ (l : Text). codes "--" ++ (name ++ l)) (alone_rest p.rest (sym p.joined_is ∙ e)) ∙ ap (λ (l : Text). codes "--" ++ l) (append-nil name))

pub is_joined : (word name value : Text) → Parsed word name → joined_in word ≡ Some value → word ≡ codes "--" ++ (name ++ 61 ∷ value)
is_joined word name value p e = p.is ∙ ap (λ (l : Text). codes "--" ++ (name ++ l)) (joined_rest p.rest value p.stops (sym p.joined_is ∙ e))
