-- What is needed, not marked and no other net has its value.
use Rattle.std.proofs.Common.{ℕ, List, Bool, ◌⊎◌, ◌∙◌, sym, subst, ap, length}
use Rattle.std.specs.Vec.{with_items}
use Rattle.dft_base.specs.declared.tri.Tri.{Tri}
use Rattle.dft_base.proofs.ListLemmas.{refilled_length, refilled_items}
use Rattle.dft_netlist.specs.Orders.{Has}
use Rattle.dft_behavior.specs.Settled.{TriSources}
use Rattle.dft_logic.specs.Values.{value_at}
use Rattle.dft_sweep.specs.Places.{AreBusy, ArePlaces}
use Rattle.dft_sweep.specs.Fields.{IsGivenIf}
use Rattle.dft_seek.specs.Rigs.{means_of, sources_by}
use Rattle.dft_seek.proofs.rig.Rig.settle_nets.Goals as goal

pub settle-requires-clause-places : goal.settle-requires-clause-places
settle-requires-clause-places c = subst (λ (l : List ℕ). ArePlaces c.args.self.now.circuit l) (sym c.deref.ensures.value) c.requires.rig.places

pub settle-requires-clause-values : goal.settle-requires-clause-values
settle-requires-clause-values c = ap (λ (l : List Tri). length l) c.deref_mut.ensures.value ∙ c.requires.values ∙ sym c.requires.rig.nets

pub settle-requires-clause-marked : goal.settle-requires-clause-marked
settle-requires-clause-marked c = c.requires.marked ∙ sym c.requires.rig.nets

pub settle-requires-clause-busy : goal.settle-requires-clause-busy
settle-requires-clause-busy c = subst (λ (l : List ℕ). AreBusy l c.args.table.now.marks) (sym c.deref.ensures.value) c.requires.busy

pub settle-requires-clause-near : goal.settle-requires-clause-near
settle-requires-clause-near c = λ k down.
    (let r = c.args.self.now in
    let G : List Bool → List Bool → List Bool → List Tri → Type 0 = λ needed resets holds values. Has c.args.nets.now k ⊎ IsGivenIf needed (means_of r.circuit c.args.stuck) (sources_by resets holds (value_at c.args.ports.now) (value_at c.args.cells.now)) values k in
    subst (λ (l : List Bool). G l c.deref-3.result.now c.deref-4.result.now c.deref_mut.result.now) (sym c.deref-2.ensures.value)
    (subst (λ (l : List Bool). G c.args.cone.now.needed.items l c.deref-4.result.now c.deref_mut.result.now) (sym c.deref-3.ensures.value)
    (subst (λ (l : List Bool). G c.args.cone.now.needed.items r.resets.items l c.deref_mut.result.now) (sym c.deref-4.ensures.value)
    (subst (λ (l : List Tri). G c.args.cone.now.needed.items r.resets.items r.holds.items l) (sym c.deref_mut.ensures.value) (c.requires.near k down)))))

pub returns-clause-table : goal.returns-clause-table
returns-clause-table c =
    let r = c.args.self.now in
    let t = c.args.table.now in
    let s : TriSources = sources_by c.deref-3.result.now c.deref-4.result.now (value_at c.args.ports.now) (value_at c.args.cells.now) in
    record {
      values = refilled_length t.values c.settle.new.values ∙ c.requires.values;
      marked = c.settle.ensures.size ∙ c.requires.marked;
      clear = c.settle.ensures.clear;
      settled = record {
        sources = s;
        given = λ k.
            subst (λ (l : List Bool). IsGivenIf l (means_of r.circuit c.args.stuck) s (with_items t.values c.settle.new.values).items k) c.deref-2.ensures.value
            (subst (λ (l : List Tri). IsGivenIf c.deref-2.result.now (means_of r.circuit c.args.stuck) s l k) (sym (refilled_items t.values c.settle.new.values c.deref_mut.result.now c.settle.auto.values c.deref_mut.ensures.value)) (c.settle.ensures.given k));
      };
    }

pub returns-clause-given : goal.returns-clause-given
returns-clause-given c = λ k.
    (let r = c.args.self.now in
    let t = c.args.table.now in
    let G : List Bool → List Bool → List Bool → List Tri → Type 0 = λ needed resets holds values. IsGivenIf needed (means_of r.circuit c.args.stuck) (sources_by resets holds (value_at c.args.ports.now) (value_at c.args.cells.now)) values k in
    let last : List Tri = (with_items t.values c.settle.new.values).items in
    let now = refilled_items t.values c.settle.new.values c.deref_mut.result.now c.settle.auto.values c.deref_mut.ensures.value in
    subst (λ (l : List Bool). G l r.resets.items r.holds.items last) c.deref-2.ensures.value (subst (λ (l : List Bool). G c.deref-2.result.now r.resets.items l last) c.deref-4.ensures.value
    (subst (λ (l : List Bool). G c.deref-2.result.now l c.deref-4.result.now last) c.deref-3.ensures.value
    (subst (λ (l : List Tri). G c.deref-2.result.now c.deref-3.result.now c.deref-4.result.now l) (sym now) (c.settle.ensures.given k)))))
