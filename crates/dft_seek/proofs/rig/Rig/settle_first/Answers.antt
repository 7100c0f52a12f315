-- First the table of the design, then that of the design with the fault.
use Rattle.std.proofs.Common.{None, Option, inr, refl, sym, subst}
use Rattle.dft_logic.specs.Values.{value_at}
use Rattle.dft_sweep.specs.Fields.{IsGivenIf}
use Rattle.dft_sweep.specs.declared.field.Stuck.{Stuck}
use Rattle.dft_seek.specs.Nodes.{AreSettledFor, IsSettled, sources_in, stuck_of}
use Rattle.dft_seek.specs.Rigs.{means_of}
use Rattle.dft_seek.proofs.EvaluateLemmas.{settled_lists}
use Rattle.dft_seek.proofs.OpenLemmas.{open_lists}
use Rattle.dft_seek.proofs.rig.Rig.settle_first.Goals as goal

pub settle_nets-requires-clause-near : goal.settle_nets-requires-clause-near
settle_nets-requires-clause-near c = λ k down.
    inr (open_lists c.args.self.now c.args.cone.now.needed.items None c.deref.result.now c.deref-2.result.now c.args.v.now.ports.items c.args.v.now.cells.items c.args.v.now.good c.deref.ensures.value c.deref-2.ensures.value c.requires.opens.good k down)

pub settle_nets-requires-2-clause-near : goal.settle_nets-requires-2-clause-near
settle_nets-requires-2-clause-near c = λ k down.
    (let r = c.args.self.now in
    let v = c.args.v.now in
    inr (subst (λ (s : Option Stuck). IsGivenIf c.args.cone.now.needed.items (means_of r.circuit s) (sources_in r (value_at c.deref-3.result.now) (value_at c.deref-4.result.now)) v.bad.values.items k) (sym c.stuck.ensures)
    (open_lists r c.args.cone.now.needed.items (stuck_of c.args.fault) c.deref-3.result.now c.deref-4.result.now v.ports.items v.cells.items v.bad c.deref-3.ensures.value c.deref-4.ensures.value c.requires.opens.bad k down)))

pub returns : goal.returns
returns c =
    let r = c.args.self.now in
    let v = c.args.v.now in
    let needed = c.args.cone.now.needed.items in
    let opens = c.requires.opens in
    let good = c.settle_nets.new.table in
    let bad = c.settle_nets-2.new.table in
    record {
      ready = record {
        cells = opens.cells;
        ports = opens.ports;
        risen = opens.risen;
        good = c.settle_nets.ensures.table;
        bad = subst (λ (s : Option Stuck). IsSettled r needed s bad) c.stuck.ensures c.settle_nets-2.ensures.table;
        good_after = opens.good_after;
        bad_after = opens.bad_after;
      };
      same = record { cells = refl; ports = refl };
      good = settled_lists r needed None c.deref.result.now c.deref-2.result.now v.ports.items v.cells.items good.values.items c.deref.ensures.value c.deref-2.ensures.value c.settle_nets.ensures.given;
      bad = settled_lists r needed (stuck_of c.args.fault) c.deref-3.result.now c.deref-4.result.now v.ports.items v.cells.items bad.values.items c.deref-3.ensures.value c.deref-4.ensures.value
          (subst (λ (s : Option Stuck). AreSettledFor r needed s (value_at c.deref-3.result.now) (value_at c.deref-4.result.now) bad.values.items) c.stuck.ensures c.settle_nets-2.ensures.given);
    }
