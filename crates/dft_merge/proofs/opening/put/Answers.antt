use Rattle.std.proofs.Common.{◌-◌, ◌∙◌, length, ap, arith, refl, sym}
use Rattle.std.proofs.lemmas.Option.{slice_get_read}
use Rattle.dft_merge.specs.declared.slot.Slot.{Slot}
use Rattle.dft_merge.proofs.opening.put.Goals as goal

pub returns-clause-put : goal.returns-clause-put
returns-clause-put c = record {
  last = c.index-slots-last.result;
  is = slice_get_read c.args.slots.now (length c.args.slots.now) (length c.args.slots.now - 1) c.index-slots-last.result refl (omega arith) c.index-slots-last.is;
  exchanged = c.swap.ensures.y_after ∙ ap (λ (s : Slot). s.system) (sym c.index-slots-last.is);
  slot = record { system = c.swap.new.x; cells = c.args.draft.cells; ports = c.args.draft.ports };
  system_is = c.swap.ensures.x_after;
  cells_are = refl;
  ports_are = refl;
  slots = refl;
}
