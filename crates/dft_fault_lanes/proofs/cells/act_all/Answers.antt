-- One cell more was acted on.
use Rattle.std.proofs.Common.{List, ℕ, ◌+◌, ◌<◌, ◌≡◌, ◌∙◌, refl, sym, ap, subst, length, arith}
use Rattle.std.proofs.lemmas.List.{get_or_default, length-set}
use Rattle.dft_lanes.specs.declared.wide.Wide.{Wide}
use Rattle.dft_evaluator.specs.Wides.{IsWide}
use Rattle.dft_registers.specs.Cells.{Contents}
use Rattle.dft_fault_lanes.proofs.CellLemmas.{Written, acted_by, acted_past, nothing_written, act_one, act_none, all_written}
use Rattle.dft_fault_lanes.proofs.cells.act_all.Goals.{then-may_act, else-may_act}
use Rattle.dft_fault_lanes.proofs.cells.act_all.Goals as goal

pub set-requires : goal.set-requires
set-requires c = omega (arith, c.loop-place-test.true, c.requires.count, c.loop-place.invariant.1.1)

pub loop-place-init : goal.loop-place-init
loop-place-init c = (nothing_written c.args.cells.now.values (acted_by c.args.flops.now c.args.ports.now) c.requires.cells, (refl, refl))

pub loop-place-preserved : goal.loop-place-preserved
loop-place-preserved c =
    let flops = c.args.flops.now in
    let now : List Wide = c.loop-place.cells.values in
    let place : ℕ = c.loop-place.place in
    let less : place < length flops = c.loop-place-test.true in
    let count = c.loop-place.invariant.1.1 in
    let len : length now ≡ length flops = count ∙ c.requires.count in
    let written = c.loop-place.invariant.0 in
    let P : Contents Wide → Type 0 = λ k. Written c.args.cells.now.values k.values (acted_by flops c.args.ports.now) (place + 1) × ((k.layout ≡ c.args.cells.now.layout) × (length k.values ≡ length c.args.cells.now.values)) in
    elim c.if-may_act.branch [
      | then-may_act w ↦ subst P (sym w.cells-is) (
        subst (λ (l : List Wide). Written c.args.cells.now.values l (acted_by flops c.args.ports.now) (place + 1)) (sym w.set.ensures.values)
            (act_one flops c.args.ports.now c.args.cells.now.values now place _ _ less len (get_or_default flops place _ _ less)
            (λ values is. w.forced_wide-wide.ensures values (subst (λ (v : Wide). IsWide v values) (sym w.at.ensures) is)) written),
        (w.set.ensures.layout ∙ c.loop-place.invariant.1.0, ap (λ (l : List Wide). length l) w.set.ensures.values ∙ length-set now place _ ∙ count),
      )
      | else-may_act w ↦ subst P (sym w.cells-is) (act_none flops c.args.ports.now c.args.cells.now.values now place _ less (get_or_default flops place _ _ less) (c.may_act.ensures w.if-may_act.false) written, c.loop-place.invariant.1)
    ]

pub returns-clause-cells : goal.returns-clause-cells
returns-clause-cells c = c.loop-place.invariant.0.whole

pub returns-clause-acted : goal.returns-clause-acted
returns-clause-acted c =
    let count = c.loop-place.invariant.1.1 in
    all_written c.args.cells.now.values c.loop-place.cells.values (acted_by c.args.flops.now c.args.ports.now) (length c.args.flops.now) c.loop-place.place c.requires.count (count ∙ c.requires.count) c.loop-place-test.false c.loop-place.invariant.0
    (λ lane cell far. acted_past c.args.flops.now c.args.ports.now lane cell far)
