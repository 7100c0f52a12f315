-- How many lines are told.
use Rattle.std.proofs.Common.{◌≡◌, ◌≤◌, ◌+◌, ◌-◌, ◌++◌, ℕ, suc, Bool, true, false, List, [], ◌∷◌, length, refl, arith, length-append}
use Rattle.std.proofs.lemmas.Bool.Decides.{nat_tests}
use Rattle.std.specs.Prelude.{◌==◌, Option, None, Some, option_map, if◌then◌else◌, nat_lt}
use Rattle.dft_base.specs.declared.place.Place.{Place}
use Rattle.dft_explain.specs.declared.ending.Ending.{Ending}
use Rattle.dft_explain.specs.declared.ending.Ending.TheVariants.{Done, Mismatch, Undetermined, Refused, NotLoaded, NotSaved, NotPrinted, OutOfMemory, NoWords}
use Rattle.dft_explain.specs.Explained.{advice_line, before_line, explained, lines_at, page_of, saved_before, text_line, caret_line, told_line}
use Rattle.dft_explain.specs.Options.{files_before, option_of, saved}
use Rattle.dft_explain.specs.Told.{clear, ends_of, shown}

-- a byte that is shown ends no line
no_end : (b : ℕ) → (clear b == 10) ≡ false
no_end b = grind (arith, nat_tests)

-- one more byte before a text
one_more : (t : Bool) (m n k : ℕ) → m ≡ n + k → (if t then suc m else m) ≡ (if t then suc n else n) + k
one_more true m n k e = omega (arith, e)
one_more false m n k e = e

-- ends of two texts, one behind the other
both : (a b : List ℕ) → ends_of (a ++ b) ≡ ends_of a + ends_of b
both [] b = omega arith
both (x ∷ a) b = one_more (x == 10) (ends_of (a ++ b)) (ends_of a) (ends_of b) (both a b)

-- what is shown ends no line
no_ends : (text : List ℕ) → ends_of (shown text) ≡ 0
no_ends [] = refl
no_ends (b ∷ text) = rw (no_end b) (no_ends text)

-- a line ends once
once : (pieces : List (List ℕ)) → ends_of (told_line pieces) ≡ 1
once [] = refl
once (piece ∷ pieces) = omega (arith, both (shown piece) (told_line pieces), no_ends piece, once pieces)

-- a page ends as many lines as it has
pub each : (lines : List (List (List ℕ))) → ends_of (page_of lines) ≡ length lines
each [] = refl
each (line ∷ lines) = omega (arith, both (told_line line) (page_of lines), once line, each lines)

two_or_none : (t : Bool) (a b : List (List ℕ)) → length (if t then [] else a ∷ b ∷ []) ≤ 2
two_or_none true a b = omega arith
two_or_none false a b = omega arith

-- a place has two lines at most
few_at : (place : Option Place) (line : Option (List ℕ)) → length (lines_at place line) ≤ 2
few_at (Some place) (Some line) = two_or_none (nat_lt (length line) (place.column - 1)) (text_line place.column line) (caret_line place.column line)
few_at (Some place) None = omega arith
few_at None line = omega arith

few_before : (files : List (List ℕ)) → length (before_line files) ≤ 1
few_before [] = omega arith
few_before (f ∷ fs) = omega arith

few_saved : (option : Option (List ℕ)) (file : List ℕ) (words : List (List ℕ)) → length (saved_before option file words) ≤ 1
few_saved None file words = omega arith
few_saved (Some option) file words = few_before (files_before file words (saved words))

few : (words : List (List ℕ)) (ending : Ending) → length (explained words ending) ≤ 4
few words Done = omega arith
few words (Mismatch vector signal) = omega arith
few words (Undetermined vector signal) = omega arith
few words (Refused refusal) =
    omega (arith, length-append (lines_at refusal.place (option_map (λ l. l.now) refusal.line)) (advice_line refusal.advice.now ∷ []), few_at refusal.place (option_map (λ l. l.now) refusal.line))
few words (NotLoaded file reason) = omega arith
few words (NotSaved file reason) = omega (arith, few_saved (option_of file.now words (saved words)) file.now words)
few words (NotPrinted reason) = omega arith
few words OutOfMemory = omega arith
few words (NoWords reason) = omega arith

-- what is told of a run has four lines at most
pub few_lines : (words : List (List ℕ)) (ending : Ending) → ends_of (page_of (explained words ending)) ≤ 4
few_lines words ending = omega (arith, each (explained words ending), few words ending)
