use Rattle.std.proofs.Common.{◌≡◌, ◌<◌, ◌+◌, ◌∙◌, ◌||◌, ℕ, Bool, List, sym, ap, subst, arith, length, get_or, false, Some, slice_get}
use Rattle.dft_netlist.specs.declared.instance.Instance.{Instance}
use Rattle.dft_netlist.proofs.NotesLemmas.{item_at}
use Rattle.dft_rules.specs.Findings.{AreUsed}
use Rattle.dft_rules.specs.Refusals.{is_data_of}
use Rattle.std.proofs.Common.{take}
use Rattle.dft_base.proofs.ListLemmas.{take_new}
use Rattle.dft_rules.proofs.MarkLemmas.{used_more, used_all}
use Rattle.dft_rules.proofs.clocks.data_nets.Goals as goal

pub mark_data-requires : goal.mark_data-requires
mark_data-requires c =
    let n = c.args.design.now in
    let x = c.instance-item.result in
    let k = c.loop-instance.instance-index in
    let less : k < length n.instances = rw (← c.instances-instance-items.ensures.instances) c.loop-instance-test.true in
    let at : slice_get n.instances k ≡ Some x = item_at n.instances k x less (rw c.instances-instance-items.ensures.instances at c.instance-item.is) in
    let size : length c.deref_mut.result.now ≡ length n.nets = ap (λ (xs : List Bool). length xs) c.deref_mut.ensures.value ∙ c.loop-instance.invariant.count in
    rw (c.cells.ensures.cells, c.library.ensures.library, size) (c.instances-instance-items.ensures.sound.instances k x at)

pub loop-instance-preserved : goal.loop-instance-preserved
loop-instance-preserved c =
    let n = c.args.design.now in
    let x = c.instance-item.result in
    let k = c.loop-instance.instance-index in
    let old = c.loop-instance.used.items in
    let less : k < length n.instances = rw (← c.instances-instance-items.ensures.instances) c.loop-instance-test.true in
    let same : length c.mark_data.new.used ≡ length old = c.mark_data.auto.used ∙ ap (λ (xs : List Bool). length xs) c.deref_mut.ensures.value in
    let is : x ≡ get_or n.instances k x = rw c.instances-instance-items.ensures.instances at c.instance-item.is in
    let marks : (net : ℕ) → net < length old → get_or c.mark_data.new.used net false ≡ (get_or old net false || is_data_of n.library net (get_or n.instances k x)) =
    λ net live. (rw (c.cells.ensures.cells, c.library.ensures.library, c.deref_mut.ensures.value) at (c.mark_data.ensures net (rw c.deref_mut.ensures.value live)) ∙ ap (λ (y : Instance). get_or old net false || is_data_of n.library net y) is) in
    let more = used_more n.library n.instances k (length n.nets) x old c.mark_data.new.used less same marks c.loop-instance.invariant in
    let P : List Bool → Type 0 = λ xs. AreUsed n.library (take (k + 1) n.instances) (length n.nets) xs in
    subst P (sym (take_new old c.mark_data.new.used c.loop-instance.used.len (omega (arith, c.loop-instance.used.ok.0)) same)) more

pub returns : goal.returns
returns c =
    let n = c.args.design.now in
    used_all n.library n.instances c.loop-instance.instance-index (length n.nets) c.loop-instance.used.items (rw (← c.instances-instance-items.ensures.instances) c.loop-instance-test.false) c.loop-instance.invariant
