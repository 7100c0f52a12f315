-- Which ring a number of chains and channels gets.
use Rattle.std.specs.Prelude.{ℕ, ◌<◌, ◌≤◌, List, [], ◌∷◌, Option, None, Some}
use Rattle.dft_decompressor.specs.declared.fits.Fitting.{Fitting}
use Rattle.dft_decompressor.specs.Sizes.{need, sizes}
use Rattle.dft_decompressor.specs.Phases.{ArePhases}

-- the first of these sizes that is as large as is needed and has phase sets, with them
pub data FirstFit (need chains : ℕ) : (sizes : List ℕ) → Option Fitting → Type 0 where
  NoSize : FirstFit need chains [] None
  TooSmall : {size : ℕ} {sizes : List ℕ} {found : Option Fitting} → size < need → FirstFit need chains sizes found → FirstFit need chains (size ∷ sizes) found
  Fits : {size : ℕ} {sizes : List ℕ} {sets : List (List ℕ)} → need ≤ size → ArePhases size chains (Some sets) →
      FirstFit need chains (size ∷ sizes) (Some (record { stages = size; phase = sets }))
  HasNone : {size : ℕ} {sizes : List ℕ} {found : Option Fitting} → need ≤ size → ArePhases size chains None → FirstFit need chains sizes found →
      FirstFit need chains (size ∷ sizes) found

-- the ring of so many chains and channels, if there is one
abbrev pub IsFitting : (chains channels : ℕ) → Option Fitting → Type 0
IsFitting chains channels found = FirstFit (need chains channels) chains sizes found
