-- First the table of the design, then that of the design with the fault, if a cell falls.
use Rattle.std.proofs.Common.{List, None, Option, refl, sym, subst, ap, length, ◌∙◌, true≢false}
use Rattle.std.specs.Vec.{with_items}
use Rattle.dft_base.specs.declared.tri.Tri.{Tri}
use Rattle.dft_base.proofs.ListLemmas.{refilled_length}
use Rattle.dft_logic.specs.Values.{value_at}
use Rattle.dft_sweep.specs.declared.field.Stuck.{Stuck}
use Rattle.dft_seek.specs.Nodes.{AreSettledFor, IsNear, IsSettled, risen_at, stuck_of}
use Rattle.dft_seek.proofs.EvaluateLemmas.{settled_after, table_near}
use Rattle.dft_seek.proofs.rig.Rig.settle_second.Goals as goal

pub settle_after-requires-clause-near : goal.settle_after-requires-clause-near
settle_after-requires-clause-near c = table_near c.args.self.now c.args.cone.now.needed.items None c.args.v.now.good_after c.requires.ready.good_after

pub settle_after-requires-clause-risen : goal.settle_after-requires-clause-risen
settle_after-requires-clause-risen c = ap (λ (l : List Tri). length l) c.deref_mut.ensures.value ∙ c.requires.ready.risen

pub settle_after-requires-2-clause-near : goal.settle_after-requires-2-clause-near
settle_after-requires-2-clause-near c = subst (λ (s : Option Stuck). IsNear c.args.self.now c.args.cone.now.needed.items s c.args.v.now.bad_after) (sym c.stuck.ensures) (table_near c.args.self.now c.args.cone.now.needed.items (stuck_of c.args.fault) c.args.v.now.bad_after (c.requires.ready.bad_after c.if-not-self.false))

pub settle_after-requires-2-clause-risen : goal.settle_after-requires-2-clause-risen
settle_after-requires-2-clause-risen c = ap (λ (l : List Tri). length l) c.deref_mut-2.ensures.value ∙ refilled_length c.args.v.now.risen c.settle_after.new.risen ∙ c.requires.ready.risen

pub returns-then-not-self : goal.returns-then-not-self
returns-then-not-self c = record {
  ready = c.requires.ready;
  same = record { cells = refl; ports = refl };
  good = refl;
  bad = refl;
  good_after = λ falls. absurd (true≢false (sym falls ∙ c.if-not-self.true));
  bad_after = λ falls. absurd (true≢false (sym falls ∙ c.if-not-self.true));
}

pub returns : goal.returns
returns c =
    let r = c.args.self.now in
    let v = c.args.v.now in
    let needed = c.args.cone.now.needed.items in
    let ready = c.requires.ready in
    let good = c.settle_after.new.table in
    let bad = c.settle_after-2.new.table in
    record {
      ready = record {
        cells = ready.cells;
        ports = ready.ports;
        risen = refilled_length (with_items v.risen c.settle_after.new.risen) c.settle_after-2.new.risen ∙ refilled_length v.risen c.settle_after.new.risen ∙ ready.risen;
        good = ready.good;
        bad = ready.bad;
        good_after = c.settle_after.ensures.table;
        bad_after = λ falls. subst (λ (s : Option Stuck). IsSettled r needed s bad) c.stuck.ensures c.settle_after-2.ensures.table;
      };
      same = record { cells = refl; ports = refl };
      good = refl;
      bad = refl;
      good_after = λ falls.
          settled_after r needed None c.deref.result.now c.deref-2.result.now c.deref-3.result.now v.ports.items v.cells.items v.good.values.items good.values.items c.deref.ensures.value c.deref-2.ensures.value c.deref-3.ensures.value c.settle_after.ensures.given;
      bad_after = λ falls.
          settled_after r needed (stuck_of c.args.fault) c.deref-4.result.now c.deref-5.result.now c.deref-6.result.now v.ports.items v.cells.items v.bad.values.items bad.values.items c.deref-4.ensures.value c.deref-5.ensures.value c.deref-6.ensures.value
          (subst (λ (s : Option Stuck). AreSettledFor r needed s (value_at c.deref-4.result.now) (risen_at r c.deref-5.result.now c.deref-6.result.now) bad.values.items) c.stuck.ensures c.settle_after-2.ensures.given);
    }
