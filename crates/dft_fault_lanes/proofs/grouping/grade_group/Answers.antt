-- All is fresh, and what the lanes find is found.
use Rattle.std.proofs.Common.{ℕ, ◌≡◌, ◌∙◌, List, Option, Some, length, slice_get, sym, ap, subst, true≢false}
use Rattle.std.proofs.lemmas.List.{with_items_is, length-replicate}
use Rattle.dft_faults.specs.declared.fault.Fault.{Fault}
use Rattle.dft_lanes.specs.declared.wide.Wide.{Wide}
use Rattle.dft_logic.specs.Circuit.{Circuit}
use Rattle.dft_evaluator.specs.Wides.{AreWides, unknown_wide}
use Rattle.dft_evaluator.proofs.EvaluatorLemmas.{blank_whole}
use Rattle.dft_evaluator.proofs.WideLemmas.{wide_is}
use Rattle.dft_fault_lanes.specs.declared.clamps.Clamp.{Clamp}
use Rattle.dft_fault_lanes.specs.Lanes.{AreClamps, IsStuck}
use Rattle.dft_fault_lanes.specs.Groups.{AreFound}
use Rattle.dft_fault_lanes.proofs.ExactLemmas.{fresh, are_found}
use Rattle.dft_fault_lanes.proofs.grouping.grade_group.Goals as goal

pub run-requires-clause-clamps : goal.run-requires-clause-clamps
run-requires-clause-clamps c =
    let clamps = c.deref-5.ensures.value ∙ with_items_is c.in_ok-clamps.clamps c.stick.new.clamps (c.stick.auto.clamps ∙ ap length c.deref_mut.ensures.value ∙ sym c.in_ok-clamps.clamps.ok.0) in
    subst (λ (cs : List (Option Clamp)). AreClamps cs) (sym clamps) c.stick.ensures.clamps

pub run-requires-clause-each_wide : goal.run-requires-clause-each_wide
run-requires-clause-each_wide c = subst (λ (ws : List Wide). AreWides ws) (sym (c.deref_mut-3.ensures.value ∙ c.in_ok-wides.ensures)) (blank_whole _)

pub run-requires-clause-each_later : goal.run-requires-clause-each_later
run-requires-clause-each_later c = subst (λ (ws : List Wide). AreWides ws) (sym (c.deref_mut-4.ensures.value ∙ c.in_ok-later.ensures)) (blank_whole _)

pub run-requires-clause-each_cell : goal.run-requires-clause-each_cell
run-requires-clause-each_cell c = subst (λ (ws : List Wide). AreWides ws) (sym c.in_ok-cells.ensures) (blank_whole _)

pub run-requires-clause-cells : goal.run-requires-clause-cells
run-requires-clause-cells c = ap length c.in_ok-cells.ensures ∙ length-replicate _ unknown_wide ∙ ap length c.deref-3.ensures.value ∙ c.in_ok-before.ensures ∙ ap length c.deref-2.ensures.value ∙ ap (λ (m : Circuit). length m.flops) c.circuit.view_is

pub run-requires-clause-live : goal.run-requires-clause-live
run-requires-clause-live c = wide_is c.all-live.result _ c.all-live.ensures

pub run-requires-clause-room : goal.run-requires-clause-room
run-requires-clause-room c = c.in_ok-plan.ensures.room

pub run-requires-clause-plan : goal.run-requires-clause-plan
run-requires-clause-plan c = λ made. absurd (true≢false (sym made ∙ c.in_ok-plan.ensures.fresh))

pub run-requires-clause-fresh : goal.run-requires-clause-fresh
run-requires-clause-fresh c =
    fresh c.deref_mut-2.result.now c.in_ok-cells.cells.values c.all-live.result c.deref_mut-5.result.now _ _ 512 (c.deref_mut-2.ensures.value ∙ c.in_ok-ports.ensures) c.in_ok-cells.ensures c.all-live.ensures (c.deref_mut-5.ensures.value ∙ c.in_ok-found.ensures)

pub run-requires-clause-idle : goal.run-requires-clause-idle
run-requires-clause-idle c = λ lane cell within idle.
    (fresh c.deref_mut-2.result.now c.in_ok-cells.cells.values c.all-live.result c.deref_mut-5.result.now _ _ 512 (c.deref_mut-2.ensures.value ∙ c.in_ok-ports.ensures) c.in_ok-cells.ensures c.all-live.ensures (c.deref_mut-5.ensures.value ∙ c.in_ok-found.ensures)).cells lane cell within

pub returns-clause-found : goal.returns-clause-found
returns-clause-found c =
    let clamps = c.deref-5.ensures.value ∙ with_items_is c.in_ok-clamps.clamps c.stick.new.clamps (c.stick.auto.clamps ∙ ap length c.deref_mut.ensures.value ∙ sym c.in_ok-clamps.clamps.ok.0) in
    let found = with_items_is c.in_ok-found.found c.run.new.found (c.run.auto.found ∙ ap length c.deref_mut-5.ensures.value ∙ sym c.in_ok-found.found.ok.0) in
    let S : List (Option Clamp) → Type 0 = λ cs. (lane : ℕ) (fault : Fault) → slice_get c.args.faults.now lane ≡ Some fault → IsStuck cs lane fault.net.0 fault.value in
    subst (AreFound c.args.circuit.now _ c.args.faults.now) (sym found) (are_found c.args.circuit.now c.deref-5.result.now _ c.args.faults.now c.run.new.found c.requires.faults (subst S (sym clamps) c.stick.ensures.stuck) c.run.ensures)
