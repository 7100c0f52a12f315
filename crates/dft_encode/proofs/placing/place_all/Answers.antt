-- No cube, one more, and all.
use Rattle.std.proofs.Common.{List, [], Some, refl, ap, arith, ◌∙◌, subst, sym}
use Rattle.std.proofs.lemmas.Option.{slice_get-get_or}
use Rattle.dft_base.specs.Name.{IsName}
use Rattle.dft_base.proofs.ListLemmas.{each_more, each_all}
use Rattle.dft_merge.specs.declared.placed.Placed.{Placed}
use Rattle.dft_merge.specs.Merging.{columns_in, rows_in}
use Rattle.dft_merge.specs.Placement.{PlacesAll}
use Rattle.dft_encode.proofs.PlacingLemmas.{cube_placed}
use Rattle.dft_encode.proofs.placing.place_all.Goals as goal

pub loop-cube-init : goal.loop-cube-init
loop-cube-init c = (record { placed_are = subst (λ (l : List Placed). PlacesAll (columns_in c.args.merger.now) (rows_in c.args.merger.now) c.args.merger.now.window c.args.merger.now.patterns [] l c.args.merger.now.patterns) (sym c.in_ok-placed.ensures.items) refl; same = refl; few = omega arith }, λ k x below at. absurd (omega (arith, below)))

pub loop-cube-preserved : goal.loop-cube-preserved
loop-cube-preserved c =
    let at = slice_get-get_or c.args.cubes.now c.loop-cube.cube-index c.cube-item.result c.loop-cube-test.true ∙ ap Some (sym c.cube-item.is) in (
      cube_placed c.args.merger.now c.loop-cube.merger c.take.new.self c.args.cubes.now c.loop-cube.cube-index c.loop-cube.placed.items c.push.new.self.items c.cube-item.result c.in_ok-take.field-0 c.loop-cube-test.true c.cube-item.is c.loop-cube.invariant.0
          c.in_ok-take.ensures.placed c.in_ok-take.ensures.same c.in_ok-push.ensures.items,
      each_more (λ k x. IsName x.name) c.args.cubes.now c.loop-cube.cube-index c.cube-item.result c.loop-cube.invariant.1 at c.soundness.ensures,
    )

pub returns-clause-named : goal.returns-clause-named
returns-clause-named c = each_all (λ k x. IsName x.name) c.args.cubes.now c.loop-cube.cube-index (omega (arith, c.loop-cube-test.false)) c.loop-cube.invariant.1
