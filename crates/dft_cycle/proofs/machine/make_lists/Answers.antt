-- Nothing is known, and all nets are settled so.
use Rattle.std.proofs.Common.{◌∙◌, sym, ap, length}
use Rattle.std.proofs.lemmas.List.{length-replicate}
use Rattle.dft_base.proofs.ListLemmas.{refilled_length}
use Rattle.dft_logic.specs.Circuit.{logic_at}
use Rattle.dft_cycle.proofs.DomainLemmas.{ready_view}
use Rattle.dft_cycle.proofs.MachineLemmas.{clear_kept, ready_kept}
use Rattle.dft_cycle.proofs.machine.make_lists.Goals as goal

pub returns-clause-room : goal.returns-clause-room
unfolding logic_at
returns-clause-room c = record {
  values = refilled_length c.in_ok-room.room.values c.settle.new.values ∙ ap length c.in_ok-room.ensures.values ∙ length-replicate _ _ ∙ sym c.requires;
  search = record {
    poss = ap length c.in_ok-room.ensures.poss ∙ length-replicate _ _ ∙ c.cell_count.ensures;
    held = ap length c.in_ok-room.ensures.held ∙ length-replicate _ _ ∙ c.cell_count.ensures;
    next = ap length c.in_ok-room.ensures.next ∙ length-replicate _ _ ∙ c.cell_count.ensures;
  };
  marked = refilled_length c.in_ok-room.room.marked c.prepare-3.new.marked ∙ ap length c.in_ok-room.ensures.marked ∙ length-replicate _ _ ∙ sym c.requires;
  clear = clear_kept c.in_ok-room.room.marked c.prepare-3.new.marked c.deref_mut.result.now c.prepare-3.auto.marked c.deref_mut.ensures.value c.in_ok-plans.ensures.clear;
  ready = ready_kept c.args.circuit.now c.in_ok-room.room.values c.settle.new.values c.deref_mut-2.result.now c.settle.auto.values c.deref_mut-2.ensures.value (ready_view c.args.circuit.now c.strobe_view.result c.settle.new.values c.settle.ensures);
  quick = ap length c.in_ok-room.ensures.quick ∙ length-replicate _ _ ∙ sym c.requires;
}
