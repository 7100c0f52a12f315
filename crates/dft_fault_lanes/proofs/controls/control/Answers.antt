-- The nets of pins, and all that these are settled from.
use Rattle.std.proofs.Common.{ℕ, List, Bool, true, ◌≡◌, ◌∙◌, sym, ap, subst, length}
use Rattle.std.specs.Vec.{with_items}
use Rattle.std.proofs.lemmas.List.{with_items_is}
use Rattle.dft_cells.specs.declared.cell.Cell.{Cell}
use Rattle.dft_netlist.specs.declared.instance.Instance.{Instance}
use Rattle.dft_behavior.specs.Logic.{Logic}
use Rattle.dft_logic.specs.Circuit.{flag_at}
use Rattle.dft_takings.specs.Needs.{IsStrobeClosed}
use Rattle.dft_fault_laws.specs.Stuck.{IsControl}
use Rattle.dft_fault_lanes.specs.Controls.{HasPins}
use Rattle.dft_fault_lanes.proofs.ControlLemmas.{are_control}
use Rattle.dft_fault_lanes.proofs.controls.control.Goals as goal

pub returns : goal.returns
returns c =
    let n = c.args.design.now in
    let v = c.in_ok-marked.marked in
    let a : List Bool = c.mark_instances.new.marked in
    let b : List Bool = c.mark_needed.new.marked in
    let first = with_items_is v a (c.mark_instances.auto.marked ∙ ap length c.deref_mut.ensures.value ∙ sym v.ok.0) in
    let last = with_items_is (with_items v a) b (c.mark_needed.auto.marked ∙ ap length c.deref_mut-2.ensures.value ∙ sym (with_items v a).ok.0) in
    let before : c.deref_mut-2.result.now ≡ a = c.deref_mut-2.ensures.value ∙ first in
    let K : List Bool → Type 0 = λ l. (k : ℕ) → flag_at l k ≡ true → flag_at b k ≡ true in
    let P : List Cell → Type 0 = λ l. HasPins l c.instances.result.now (flag_at a) in
    let Q : List Instance → Type 0 = λ l. HasPins n.library l (flag_at a) in
    let pins : HasPins n.library n.instances (flag_at a) = subst Q c.instances.ensures.instances (subst P (c.cells.ensures.cells ∙ c.library.ensures.library) c.mark_instances.ensures) in
    subst (λ (l : List Bool). IsControl n (flag_at l)) (sym last)
    (are_control n c.requires.0 (flag_at a) (flag_at b) pins (subst K before c.mark_needed.ensures.kept) (subst (λ (l : Logic). IsStrobeClosed l (flag_at b)) (sym c.requires.1.compiled) c.mark_needed.ensures.closed))
