-- The stages of a fitting ring: enough for the channels, and at most 128.
use Rattle.std.proofs.Common.{ℕ, ◌+◌, ◌*◌, ◌≤◌, List, [], ◌∷◌, max, Option, None, Some, arith}
use Rattle.std.specs.List.{AllByRecursion}
use Rattle.std.proofs.Math.Nat.{le-max_left, le-min}
use Rattle.dft_decompressor.specs.declared.fits.Fitting.{Fitting}
use Rattle.dft_decompressor.specs.Fits.{FirstFit, Fits, HasNone, IsFitting, NoSize, TooSmall}
use Rattle.dft_decompressor.specs.Sizes.{need, rounded_up, sizes, wanted_by_channels}

-- the stages are as many as are needed, and no more than 128
abbrev FitsWithin : (least : ℕ) → Option Fitting → Type 0
FitsWithin least None = Unit {0}
FitsWithin least (Some fitting) = (least ≤ fitting.stages) × (fitting.stages ≤ 128)

fits_within : (least chains : ℕ) (left : List ℕ) (found : Option Fitting) → AllByRecursion (λ size. size ≤ 128) left → FirstFit least chains left found → FitsWithin least found
fits_within least chains [] None small NoSize = tt
fits_within least chains [] (Some fitting) small fits = elim fits [ ]
fits_within least chains (size ∷ left) found small (TooSmall less rest) = fits_within least chains left found small.1 rest
fits_within least chains (size ∷ left) (Some fitting) small (Fits large phases) = (large, small.0)
fits_within least chains (size ∷ left) found small (HasNone large none rest) = fits_within least chains left found small.1 rest

need_enough : (chains channels : ℕ) → channels ≤ 32 → channels + 3 ≤ need chains channels
need_enough chains channels few =
    let more : 4 * channels + 3 ≤ wanted_by_channels chains channels = le-max_left _ _ in
    let all : wanted_by_channels chains channels ≤ max (wanted_by_channels chains channels) (rounded_up chains 8) = le-max_left _ _ in
    le-min (omega (arith, few)) (omega (arith, more, all))

pub fit_stages : (chains channels : ℕ) (fitting : Fitting) → channels ≤ 32 → IsFitting chains channels (Some fitting) → (channels + 3 ≤ fitting.stages) × (fitting.stages ≤ 128)
fit_stages chains channels fitting few fits =
    let small : AllByRecursion (λ (size : ℕ). size ≤ 128) sizes = (omega arith, (omega arith, (omega arith, (omega arith, (omega arith, (omega arith, (omega arith, (omega arith, tt)))))))) in
    let within = fits_within (need chains channels) chains sizes (Some fitting) small fits in
    let enough = need_enough chains channels few in
    (omega (arith, enough, within.0), within.1)
