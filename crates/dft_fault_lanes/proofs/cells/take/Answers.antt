-- One cell more has its value.
use Rattle.std.proofs.Common.{List, ◌<◌, ◌+◌, ◌∙◌, arith, get_or, length, refl, rules, subst, sym}
use Rattle.std.proofs.lemmas.List.{get_or_default}
use Rattle.dft_lanes.specs.declared.wide.Wide.{Wide}
use Rattle.dft_fault_lanes.proofs.CellLemmas.{TakenTo, place_live, none_taken, take_at, all_taken, all_wide}
use Rattle.dft_fault_lanes.proofs.cells.take.Goals as goal

pub bounds-flops-place : goal.bounds-flops-place
bounds-flops-place c = place_live (length c.args.flops.now) c.args.places.now c.loop-place.place-index 0 c.requires.live c.loop-place-test.true

pub offset_bounds-flops-place : goal.offset_bounds-flops-place
offset_bounds-flops-place c =
    let live : get_or c.args.places.now c.loop-place.place-index 0 < length c.args.flops.now = place_live (length c.args.flops.now) c.args.places.now c.loop-place.place-index 0 c.requires.live c.loop-place-test.true in
    search rules

pub set-requires : goal.set-requires
set-requires c =
    let live : get_or c.args.places.now c.loop-place.place-index 0 < length c.args.flops.now = place_live (length c.args.flops.now) c.args.places.now c.loop-place.place-index 0 c.requires.live c.loop-place-test.true in
    let size = c.loop-place.invariant.0.size in
    omega (arith, live, size, c.requires.count)

pub loop-place-init : goal.loop-place-init
loop-place-init c = (none_taken c.args.flops.now c.args.places.now c.args.ports.now c.args.wides.now c.args.cells.now.values, refl)

pub loop-place-preserved : goal.loop-place-preserved
loop-place-preserved c =
    let T : List Wide → Type 0 = λ l. TakenTo c.args.flops.now c.args.places.now c.args.ports.now c.args.wides.now c.args.cells.now.values l (c.loop-place.place-index + 1) in (
      subst T (sym c.set.ensures.values)
          (take_at c.args.flops.now c.args.places.now c.args.ports.now c.args.wides.now c.args.cells.now.values c.loop-place.cells.values c.loop-place.place-index _ _ c.loop-place-test.true c.requires.count
          c.requires.live (get_or_default c.args.flops.now (get_or c.args.places.now c.loop-place.place-index 0) _ _ (place_live (length c.args.flops.now) c.args.places.now c.loop-place.place-index 0 c.requires.live c.loop-place-test.true)) c.next_wide-wide.ensures c.loop-place.invariant.0),
      c.set.ensures.layout ∙ c.loop-place.invariant.1,
    )

pub returns-clause-cells : goal.returns-clause-cells
returns-clause-cells c =
    all_wide c.args.flops.now c.args.places.now c.args.ports.now c.args.wides.now c.args.cells.now.values c.loop-place.cells.values c.loop-place.place-index c.loop-place-test.false c.loop-place.invariant.0 c.requires.rest

pub returns-clause-count : goal.returns-clause-count
returns-clause-count c = c.loop-place.invariant.0.size

pub returns-clause-taken : goal.returns-clause-taken
returns-clause-taken c =
    all_taken c.args.flops.now c.args.places.now c.args.ports.now c.args.wides.now c.args.cells.now.values c.loop-place.cells.values c.loop-place.place-index c.loop-place-test.false c.loop-place.invariant.0

pub returns-clause-kept : goal.returns-clause-kept
returns-clause-kept c = c.loop-place.invariant.0.rest
