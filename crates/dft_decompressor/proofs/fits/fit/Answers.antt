use Rattle.std.proofs.Common.{ℕ, List, Option, None, Some, refl, subst}
use Rattle.std.specs.Prelude.{slice_index_or}
use Rattle.dft_decompressor.specs.Fits.{FirstFit}
use Rattle.dft_decompressor.specs.Phases.{ArePhases}
use Rattle.dft_decompressor.specs.Sizes.{sizes}
use Rattle.dft_decompressor.proofs.FitLemmas.{fits_here, has_none, no_size, too_small}
use Rattle.dft_decompressor.proofs.fits.fit.Goals as goal
use Rattle.dft_decompressor.proofs.fits.fit.Goals.{then-size-need+in_ok-phase+in-None, else-size-need}

pub returns-in-Some : goal.returns-in-Some
returns-in-Some c =
    let list = c.sizes-sizes.result.now in
    let size = slice_index_or list c.loop-size.size-index 0 in
    let sets = subst (λ (o : Option (List (List ℕ))). ArePhases size c.args.chains o) c.in-Some.is c.in_ok-phase.ensures in
    subst (λ (n : ℕ). FirstFit n c.args.chains sizes (Some (record { stages = size; phase = c.in-Some.phase }))) c.need-need.ensures
    (subst (λ (l : List ℕ). FirstFit c.need-need.result c.args.chains l (Some (record { stages = size; phase = c.in-Some.phase }))) c.sizes-sizes.ensures
    (fits_here c.need-need.result c.args.chains list c.loop-size.size-index size 0 c.in-Some.phase c.loop-size-test.true refl c.if-size-need.true sets c.loop-size.invariant))

pub loop-size-preserved : goal.loop-size-preserved
loop-size-preserved c =
    let list = c.sizes-sizes.result.now in
    let size = slice_index_or list c.loop-size.size-index 0 in
    elim c.if-size-need.branch [
      | then-size-need+in_ok-phase+in-None w ↦ (
          let none = subst (λ (o : Option (List (List ℕ))). ArePhases size c.args.chains o) w.in-None.is w.in_ok-phase.ensures in
          has_none c.need-need.result c.args.chains list c.loop-size.size-index size 0 c.loop-size-test.true refl w.if-size-need.true none c.loop-size.invariant)
      | else-size-need w ↦ too_small c.need-need.result c.args.chains list c.loop-size.size-index size 0 c.loop-size-test.true refl w.if-size-need.false c.loop-size.invariant
    ]

pub returns : goal.returns
returns c =
    let list = c.sizes-sizes.result.now in
    subst (λ (n : ℕ). FirstFit n c.args.chains sizes None) c.need-need.ensures
    (subst (λ (l : List ℕ). FirstFit c.need-need.result c.args.chains l None) c.sizes-sizes.ensures
    (no_size c.need-need.result c.args.chains list c.loop-size.size-index c.loop-size-test.false c.loop-size.invariant))
