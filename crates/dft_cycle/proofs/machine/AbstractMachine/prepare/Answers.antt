-- The machine's circuit is the design's.
use Rattle.std.proofs.Common.{ℕ, Bool, ◌≡◌, ◌∙◌, Some, refl, ap, sym, subst, length, slice_get, List, arith}
use Rattle.std.proofs.lemmas.List.{length-replicate}
use Rattle.std.specs.Vec.{with_items}
use Rattle.dft_base.specs.declared.tri.Tri.{Tri}
use Rattle.dft_base.proofs.ListLemmas.{refilled_length, refilled_items}
use Rattle.dft_netlist.specs.declared.ids.NetId.{NetId}
use Rattle.dft_behavior.specs.Logic.{Ports, Logic, logic_of}
use Rattle.dft_cycle.specs.Machine.{logic, is_one_of, value_at}
use Rattle.dft_cycle.specs.Plans.{ArePlans}
use Rattle.dft_cycle.specs.Views.{AreFalling}
use Rattle.dft_logic.specs.Circuit.{flag_at, logic_at}
use Rattle.dft_cycle.proofs.MachineLemmas.{unknown_all, one_among, same_ports}
use Rattle.dft_cycle.proofs.machine.AbstractMachine.prepare.Goals as goal

pub invariant_of-result : goal.invariant_of-result
unfolding logic logic_at
invariant_of-result c =
    let n = c.args.design.now in
    let x = c.in_ok-circuit.circuit in
    let is = c.in_ok-circuit.ensures in
    let clocks = c.in_ok-clocks.clocks.items in
    let pulsed = c.in_ok-pulsed.pulsed in
    let lent : c.deref_mut.result.now ≡ pulsed.items = c.deref_mut.ensures.value in
    let read : c.deref.result.now ≡ (with_items pulsed c.flag_clocks.new.flags).items = c.deref.ensures.value in
    let flags : c.deref.result.now ≡ c.flag_clocks.new.flags = read ∙ refilled_items pulsed c.flag_clocks.new.flags c.deref_mut.result.now c.flag_clocks.auto.flags lent in
    let named : clocks ≡ c.args.clocks.now = c.in_ok-clocks.ensures.items in
    let same : (e : ℕ) → flag_at c.deref.result.now e ≡ is_one_of clocks e =
    λ e. ap (λ (l : List Bool). flag_at l e) flags ∙ c.flag_clocks.ensures e ∙ ap (λ (l : List NetId). is_one_of l e) (sym named) in
    let L : Ports → Logic = logic_of n in
    let nets : length x.ops ≡ length n.nets = is.nets in
    let count = c.net_count-nets.ensures.count in
    let down : length pulsed.items ≡ length n.nets = ap length c.in_ok-pulsed.ensures ∙ length-replicate _ _ ∙ count in
    let marks : length (with_items pulsed c.flag_clocks.new.flags).items ≡ length n.nets = refilled_length pulsed c.flag_clocks.new.flags ∙ down in
    record {
      compiled = ap L (sym (same_ports c.deref.result.now clocks same)) ∙ is.compiled;
      falling = subst (λ (l : List NetId). AreFalling x l c.in_ok-lists.lists.falls.items) c.deref-2.ensures.value c.in_ok-lists.ensures.falls;
      owned = λ k e high source h. one_among clocks e (sym (same e) ∙ is.clocked k e high source h);
      live = λ place clock at.
          (let S : List NetId → Type 0 = λ l. slice_get l place ≡ Some clock in
          let less = c.requires place clock (subst S named at) in
          omega arith);
      nets = nets;
      pulsed = marks ∙ sym nets;
      inputs = ap length c.in_ok-lists.ensures.inputs ∙ length-replicate _ _ ∙ count ∙ sym nets;
      shown = ap length c.in_ok-lists.ensures.shown ∙ length-replicate _ _ ∙ count ∙ sym nets;
      room = c.in_ok-lists.ensures.room;
      cells = ap length c.in_ok-lists.ensures.cells ∙ length-replicate _ _;
      plans = subst (λ (l : List NetId). ArePlans x l c.in_ok-lists.lists.cells.layout c.in_ok-lists.lists.plans) c.deref-2.ensures.value (c.in_ok-lists.ensures.plans c.in_ok-lists.lists.cells.layout);
      looks = c.in_ok-lists.ensures.looks;
      loose = λ k is. ap (λ (l : List Tri). value_at l k) c.in_ok-lists.ensures.cells ∙ unknown_all _ k;
      flags = λ e up. sym (same e) ∙ ap (λ (l : List Bool). flag_at l e) read ∙ up;
    }

pub returns : goal.returns
returns c = record {
  netlist = refl;
  clocks = c.in_ok-clocks.ensures.items;
  inputs = λ k. ap (λ (l : List Tri). value_at l k) c.in_ok-lists.ensures.inputs ∙ unknown_all _ k;
  cells = λ k. ap (λ (l : List Tri). value_at l k) c.in_ok-lists.ensures.cells ∙ unknown_all _ k;
  shown = λ k. ap (λ (l : List Tri). value_at l k) c.in_ok-lists.ensures.shown ∙ unknown_all _ k;
}
