-- How often a word stands in a list of words.
use Rattle.std.proofs.Common.{◌≡◌, ℕ, ◌+◌, ◌≤◌, Bool, true, false, cond, List, [], ◌∷◌, ◌++◌, find, Option, Some, None, is_some, option_map, map, refl, sym, ap, subst, arith}
use Rattle.std.specs.Str.{bytes_eq}
use Rattle.std.proofs.lemmas.Slice.Eq.{bytes_eq-Decides}
use Rattle.dft_base.specs.Lexing.{Text}
use Rattle.dft_base.proofs.TextLemmas.{same_text, bytes_eq-self}
use Rattle.dft_netlist_text.specs.Modules.{Draft, TakenName, first_taken, is_taken}
use Rattle.dft_verilog_draft.specs.Free.{IsApart, AreApart}
use Rattle.dft_verilog_draft.proofs.ApartLemmas.{find_by}

-- one, or none
abbrev pub once : Bool → ℕ
once true = 1
once false = 0

-- how often a word is one of these
abbrev pub count : Text → List Text → ℕ
count word [] = 0
count word (other ∷ others) = once (bytes_eq other word) + count word others

pub count-append : (word : Text) (xs ys : List Text) → count word (xs ++ ys) ≡ count word xs + count word ys
count-append word [] ys = omega arith
count-append word (x ∷ xs) ys = omega (arith, count-append word xs ys)

-- each of these words comes once at most
abbrev pub AreOnce : List Text → Type 0
AreOnce words = (word : Text) → count word words ≤ 1

once_none : (b : Bool) → once b ≤ 0 → b ≡ false
once_none true h = absurd (omega arith)
once_none false h = refl

apart_of : (word : Text) (words : List Text) → ((other : Text) → once (bytes_eq word other) + count other words ≤ 1) → IsApart word words
apart_of word [] h = tt
apart_of word (x ∷ xs) h =
    let here : once (bytes_eq x x) ≡ 1 = ap once (bytes_eq-self x) in
    (once_none (bytes_eq word x) (omega (arith, h x)), apart_of word xs (λ other. omega (arith, h other)))

-- words that come once differ
pub apart_if_once : (words : List Text) → AreOnce words → AreApart words
apart_if_once [] h = tt
apart_if_once (x ∷ xs) h = (apart_of x xs (λ other. h other), apart_if_once xs (λ other. omega (arith, h other)))

-- a word that differs from all is none of them
flip_false : (x y : Text) → bytes_eq x y ≡ false → bytes_eq y x ≡ false
flip_false x y e = by (bytes_eq y x) refl where
  by : (b : Bool) → bytes_eq y x ≡ b → bytes_eq y x ≡ false
  by false h = h
  by true h = absurd (cc (e, (bytes_eq-Decides x y).1 (sym (same_text y x h))))

none_apart : (word : Text) (words : List Text) → IsApart word words → count word words ≡ 0
none_apart word [] h = refl
none_apart word (x ∷ xs) h = omega (arith, ap once (flip_false word x h.0), none_apart word xs h.1)

-- ---- names that are taken

-- the names of these entries
abbrev pub names_of : List TakenName → List Text
names_of entries = map (λ (e : TakenName). e.name) entries

none_by : (b : Bool) (e : TakenName) (rest : Option TakenName) (n : ℕ) → is_some (cond b (Some e) rest) ≡ false → (is_some rest ≡ false → n ≡ 0) → once b + n ≡ 0
none_by true e rest n h more = absurd (cc)
none_by false e rest n h more = omega (arith, more h)

find_none : (entries : List TakenName) (word : Text) → is_some (find (λ (e : TakenName). bytes_eq e.name word) entries) ≡ false → count word (names_of entries) ≡ 0
find_none [] word h = refl
find_none (e ∷ es) word h = none_by (bytes_eq e.name word) e (find (λ (e : TakenName). bytes_eq e.name word) es) (count word (names_of es)) h (find_none es word)

shown_none : (o : Option TakenName) → is_some (option_map (λ (e : TakenName). e.meaning) o) ≡ false → is_some o ≡ false
shown_none None h = refl
shown_none (Some e) h = h

-- a name that is free is none of those that are taken
pub free_none : (d : Draft) (word : Text) → is_taken d word ≡ false → count word (names_of d.names) ≡ 0
free_none d word h = find_none d.names word (shown_none (find (λ (e : TakenName). bytes_eq e.name word) d.names) h)

-- none of these words is taken
abbrev pub AreFreeIn : Draft → List Text → Type 0
AreFreeIn d [] = Unit {0}
AreFreeIn d (word ∷ words) = (is_taken d word ≡ false) × AreFreeIn d words

pub first_taken-none : (d : Draft) (words : List Text) → first_taken d words ≡ None → AreFreeIn d words
first_taken-none d [] h = tt
first_taken-none d (word ∷ words) h = let p = find_by (is_taken d word) word (first_taken d words) h in (p.0, first_taken-none d words p.1)

once_by : (b : Bool) (taken here : ℕ) → (b ≡ false → taken + here ≤ 1) → (b ≡ true → taken ≡ 0) → (b ≡ true → here ≡ 0) → taken + (once b + here) ≤ 1
once_by false taken here one free none = omega (arith, one refl)
once_by true taken here one free none = omega (arith, free refl, none refl)

-- words that are free and that differ come once with those that are taken
pub free_once : (d : Draft) (words : List Text) → AreOnce (names_of d.names) → AreFreeIn d words → AreApart words → (word : Text) → count word (names_of d.names) + count word words ≤ 1
free_once d [] taken free apart word = omega (arith, taken word)
free_once d (x ∷ xs) taken free apart word =
    once_by (bytes_eq x word) (count word (names_of d.names)) (count word xs) (λ e. free_once d xs taken free.1 apart.1 word)
    (λ e. subst (λ w. count w (names_of d.names) ≡ 0) (same_text x word e) (free_none d x free.0))
    (λ e. subst (λ w. count w xs ≡ 0) (same_text x word e) (none_apart x xs apart.0))
