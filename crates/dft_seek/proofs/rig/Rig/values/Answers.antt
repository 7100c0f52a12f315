-- One table after the other.
use Rattle.std.proofs.Common.{Bool, List, None, ◌∙◌, ap, length}
use Rattle.std.proofs.lemmas.List.{length-replicate}
use Rattle.dft_base.specs.declared.tri.Tri.{Tri}
use Rattle.dft_base.specs.declared.tri.Tri.TheVariants.{Unknown}
use Rattle.dft_logic.specs.Values.{value_at}
use Rattle.dft_seek.specs.Nodes.{stuck_of}
use Rattle.dft_seek.proofs.EvaluateLemmas.{base_given, settled_lists}
use Rattle.dft_seek.proofs.OpenLemmas.{all_unknown, at_first, table_open}
use Rattle.dft_seek.proofs.rig.Rig.values.Goals as goal

pub bad_table-requires-clause-ports : goal.bad_table-requires-clause-ports
bad_table-requires-clause-ports c = λ net. all_unknown c.deref.result.now c.len.result net (c.deref.ensures.value ∙ c.in_ok-ports.ensures)

pub bad_table-requires-clause-cells : goal.bad_table-requires-clause-cells
bad_table-requires-clause-cells c = λ k. all_unknown c.deref-2.result.now c.len-instances.result k (c.deref-2.ensures.value ∙ c.in_ok-cells.ensures)

pub bad_after-requires-clause-ports : goal.bad_after-requires-clause-ports
bad_after-requires-clause-ports c = λ net. all_unknown c.deref-3.result.now c.len.result net (c.deref-3.ensures.value ∙ c.in_ok-ports.ensures)

pub bad_after-requires-clause-cells : goal.bad_after-requires-clause-cells
bad_after-requires-clause-cells c = λ k. all_unknown c.deref-4.result.now c.len-instances.result k (c.deref-4.ensures.value ∙ c.in_ok-cells.ensures)

pub returns-clause-opens : goal.returns-clause-opens
returns-clause-opens c =
    let r = c.args.self.now in
    let f = c.args.fault in
    let needed : List Bool = c.args.cone.now.needed.items in
    let instances = c.len-instances.ensures ∙ r.holds.ok.0 ∙ c.requires.rig.instances in
    let nets = c.len.ensures ∙ r.base.ok.0 ∙ c.requires.rig.base.size ∙ c.requires.rig.nets in
    let ports : List Tri = c.in_ok-ports.ports.items in
    let cells : List Tri = c.in_ok-cells.cells.items in
    record {
      cells = ap (λ (l : List Tri). length l) c.in_ok-cells.ensures ∙ length-replicate c.len-instances.result Unknown ∙ instances;
      ports = ap (λ (l : List Tri). length l) c.in_ok-ports.ensures ∙ length-replicate c.len.result Unknown ∙ nets;
      risen = ap (λ (l : List Tri). length l) c.in_ok-risen.ensures ∙ length-replicate c.len-instances.result Unknown ∙ instances;
      good = table_open r needed None ports cells c.in_ok-good.good (c.in_ok-good.ensures.table needed)
          (λ k needs. base_given r (value_at ports) (value_at cells) c.in_ok-good.good.values.items c.requires.rig (λ net. all_unknown ports c.len.result net c.in_ok-ports.ensures) (λ k. all_unknown cells c.len-instances.result k c.in_ok-cells.ensures) c.in_ok-good.ensures.base k);
      bad = table_open r needed (stuck_of f) ports cells c.in_ok-bad.bad c.in_ok-bad.ensures.table (settled_lists r needed (stuck_of f) _ _ ports cells c.in_ok-bad.bad.values.items c.deref.ensures.value c.deref-2.ensures.value c.in_ok-bad.ensures.given);
      good_after = c.in_ok-good_after.ensures.table needed;
      bad_after = c.in_ok-bad_after.ensures;
    }

pub returns-clause-at : goal.returns-clause-at
returns-clause-at c = λ cone. at_first cone _ c.len-instances.result c.len.result c.in_ok-cells.ensures c.in_ok-ports.ensures
