-- Options that are passed one by one.
use native.Mathlib.Numerals.{unary_clauses}
use Rattle.std.proofs.Common.{◌≡◌, ◌∙◌, ◌-◌, drop, length, take, List, [], ◌∷◌, Option, Some, None, refl, sym}
use Rattle.std.proofs.Math.Seq.{take-length}
use Rattle.dft_explain.specs.Faults.{Fault, Form, Text, by_value, fault_of_option, joined_in, name_in, names_with, or_else, words_after, wrong_option}

pub or_none : (fault other : Option Fault) → fault ≡ None → or_else fault other ≡ other
or_none None other e = refl
or_none (Some fault) other e = absurd cc

pub last : (form : Form) (names : List Text) (joined : Option Text) → wrong_option form names (words_after joined []) ≡ None
last form names None = refl
last form names (Some value) = refl

more : (form : Form) (names : List Text) (joined : Option Text) (next : Text) (words : List Text) → wrong_option form names (words_after joined (next ∷ words)) ≡ by_value joined (wrong_option form names (next ∷ words)) (wrong_option form names words)
more form names None next words = refl
more form names (Some value) next words = refl

-- an option that is right is passed with its value
pub right_option : (form : Form) (before : List Text) (word : Text) (next : List Text) → fault_of_option form before word next ≡ None → wrong_option form (names_with before (name_in word)) (words_after (joined_in word) next) ≡ wrong_option form before (word ∷ next)
right_option form before word [] e = last form (names_with before (name_in word)) (joined_in word) ∙ sym e
right_option form before word (next ∷ words) e =
    more form (names_with before (name_in word)) (joined_in word) next words ∙ sym (or_none (fault_of_option form before word (next ∷ words)) _ e)

-- what stands behind the first of a list is all of it
pub whole_tail : {A : Type 0} (l : List A) → take (length l - 1) (drop 1 l) ≡ drop 1 l
whole_tail [] = refl
whole_tail (x ∷ xs) = simp unary_clauses (take-length xs)
