-- The first size that fits.
use Rattle.std.proofs.Common.{◌≡◌, ℕ, ◌+◌, ◌<◌, ◌≤◌, List, ◌∷◌, length, drop, get_or, Option, None, Some, sym, ◌∙◌, ap, subst}
use Rattle.std.proofs.lemmas.List.{drop_all, drop_more}
use Rattle.dft_decompressor.specs.declared.fits.Fitting.{Fitting}
use Rattle.dft_decompressor.specs.Fits.{FirstFit, Fits, HasNone, NoSize, TooSmall}
use Rattle.dft_decompressor.specs.Phases.{ArePhases}

-- what the sizes from one on give, all of them give
abbrev pub GivesAll : (need chains : ℕ) (sizes : List ℕ) (index : ℕ) → Type 0
GivesAll need chains sizes index = (found : Option Fitting) → FirstFit need chains (drop index sizes) found → FirstFit need chains sizes found

size_left : (sizes : List ℕ) (index size d : ℕ) → index < length sizes → size ≡ get_or sizes index d → drop index sizes ≡ size ∷ drop (index + 1) sizes
size_left sizes index size d less is = drop_more sizes index d less ∙ ap (λ (n : ℕ). n ∷ drop (index + 1) sizes) (sym is)

pub fits_here : (need chains : ℕ) (sizes : List ℕ) (index size d : ℕ) (sets : List (List ℕ)) → index < length sizes → size ≡ get_or sizes index d → need ≤ size → ArePhases size chains (Some sets) → GivesAll need chains sizes index →
    FirstFit need chains sizes (Some (record { stages = size; phase = sets }))
fits_here need chains sizes index size d sets less is large phases before =
    before (Some (record { stages = size; phase = sets })) (subst (λ (l : List ℕ). FirstFit need chains l (Some (record { stages = size; phase = sets }))) (sym (size_left sizes index size d less is)) (Fits large phases))

pub has_none : (need chains : ℕ) (sizes : List ℕ) (index size d : ℕ) → index < length sizes → size ≡ get_or sizes index d → need ≤ size → ArePhases size chains None → GivesAll need chains sizes index → GivesAll need chains sizes (index + 1)
has_none need chains sizes index size d less is large none before found rest =
    before found (subst (λ (l : List ℕ). FirstFit need chains l found) (sym (size_left sizes index size d less is)) (HasNone large none rest))

pub too_small : (need chains : ℕ) (sizes : List ℕ) (index size d : ℕ) → index < length sizes → size ≡ get_or sizes index d → size < need → GivesAll need chains sizes index → GivesAll need chains sizes (index + 1)
too_small need chains sizes index size d less is small before found rest =
    before found (subst (λ (l : List ℕ). FirstFit need chains l found) (sym (size_left sizes index size d less is)) (TooSmall small rest))

pub no_size : (need chains : ℕ) (sizes : List ℕ) (index : ℕ) → length sizes ≤ index → GivesAll need chains sizes index → FirstFit need chains sizes None
no_size need chains sizes index past before = before None (subst (λ (l : List ℕ). FirstFit need chains l None) (sym (drop_all index sizes past)) NoSize)
