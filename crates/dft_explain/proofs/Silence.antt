-- Nothing is told exactly where a run is done.
use Rattle.std.proofs.Common.{◌≡◌, ◌<◌, ℕ, List, [], ◌∷◌, length, refl, ap, arith, length-append}
use Rattle.dft_explain.specs.declared.ending.Ending.{Ending}
use Rattle.dft_explain.specs.declared.ending.Ending.TheVariants.{Done, Mismatch, Undetermined, Refused, NotLoaded, NotSaved, NotPrinted, OutOfMemory, NoWords}
use Rattle.dft_explain.specs.Explained.{explained, page_of, told_line}
use Rattle.dft_explain.specs.Told.{shown}

-- a line has its end
has_end : (pieces : List (List ℕ)) → 0 < length (told_line pieces)
has_end [] = omega arith
has_end (piece ∷ pieces) = omega (arith, length-append (shown piece) (told_line pieces), has_end pieces)

-- a page with a line is not empty
speaks : (line : List (List ℕ)) (lines : List (List (List ℕ))) → page_of (line ∷ lines) ≡ [] → ⊥
speaks line lines e = omega (arith, ap length e, length-append (told_line line) (page_of lines), has_end line)

-- an empty page has no line
quiet : (lines : List (List (List ℕ))) → page_of lines ≡ [] → lines ≡ []
quiet [] e = refl
quiet (line ∷ lines) e = absurd (speaks line lines e)

-- what is told of a run that is not done is not empty
pub silent : (words : List (List ℕ)) (ending : Ending) → page_of (explained words ending) ≡ [] → ending ≡ Done
silent words Done e = refl
silent words (Mismatch vector signal) e = absurd (omega (arith, ap length (quiet (explained words (Mismatch vector signal)) e)))
silent words (Undetermined vector signal) e = absurd (omega (arith, ap length (quiet (explained words (Undetermined vector signal)) e)))
silent words (Refused refusal) e = absurd (omega (arith, ap length (quiet (explained words (Refused refusal)) e)))
silent words (NotLoaded file reason) e = absurd (omega (arith, ap length (quiet (explained words (NotLoaded file reason)) e)))
silent words (NotSaved file reason) e = absurd (omega (arith, ap length (quiet (explained words (NotSaved file reason)) e)))
silent words (NotPrinted reason) e = absurd (omega (arith, ap length (quiet (explained words (NotPrinted reason)) e)))
silent words OutOfMemory e = absurd (omega (arith, ap length (quiet (explained words OutOfMemory) e)))
silent words (NoWords reason) e = absurd (omega (arith, ap length (quiet (explained words (NoWords reason)) e)))
