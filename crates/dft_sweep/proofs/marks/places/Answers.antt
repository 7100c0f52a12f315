-- One net more is told its place.
use Rattle.std.proofs.Common.{ℕ, ◌≡◌, ◌+◌, ◌<◌, ◌∙◌, sym, ap, subst, length, slice_set, arith}
use Rattle.std.proofs.lemmas.List.{get_or_default, length-set, length-replicate}
use Rattle.dft_netlist.specs.declared.ids.NetId.{NetId}
use Rattle.dft_logic.specs.Circuit.{Circuit, IsCircuit}
use Rattle.dft_logic.specs.CircuitShown.{circuit_of}
use Rattle.dft_logic.proofs.CircuitReads.{net_read}
use Rattle.dft_sweep.specs.Places.{net_at}
use Rattle.dft_sweep.proofs.Placings.{Placing, placing_ends, placing_live, placing_more, placing_starts}
use Rattle.dft_sweep.proofs.marks.places.Goals as goal

pub index_mut-requires : goal.index_mut-requires
index_mut-requires c =
    let x = c.args.circuit.now in
    let less : c.loop-place.place < length x.order = (let here = c.loop-place-test.true in let e = c.len-place-end.ensures in let v = ap (λ (m : Circuit). length m.order) c.circuit.view_is in omega arith) in
    let is : c.index.result.now ≡ net_at x.order c.loop-place.place = net_read (circuit_of c.circuit.inside) x _ _ c.circuit.view_is c.index.ensures ∙ get_or_default x.order c.loop-place.place c.index.result.now (record { 0 = 0 }) less in
    let live = placing_live x.ops x.order c.loop-place.places.items c.loop-place.place less c.loop-place.invariant.placed in
    let e : c.index.result.now.0 ≡ (net_at x.order c.loop-place.place).0 = (let F : NetId → ℕ = λ n. n.0 in ap F is) in
    let size = c.loop-place.invariant.size in
    omega arith

pub loop-place-init : goal.loop-place-init
loop-place-init c = record { size = ap length c.in_ok-places.ensures ∙ length-replicate c.len.result 0 ∙ c.len.ensures ∙ c.circuit.inside.ops.ok.0 ∙ ap (λ (m : Circuit). length m.ops) c.circuit.view_is; placed = placing_starts c.args.circuit.now c.in_ok-places.places.items (subst IsCircuit c.circuit.view_is c.circuit.invariant) }

pub loop-place-preserved : goal.loop-place-preserved
loop-place-preserved c =
    let x = c.args.circuit.now in
    let less : c.loop-place.place < length x.order = (let here = c.loop-place-test.true in let e = c.len-place-end.ensures in let v = ap (λ (m : Circuit). length m.order) c.circuit.view_is in omega arith) in
    let is : c.index.result.now ≡ net_at x.order c.loop-place.place = net_read (circuit_of c.circuit.inside) x _ _ c.circuit.view_is c.index.ensures ∙ get_or_default x.order c.loop-place.place c.index.result.now (record { 0 = 0 }) less in
    let P : NetId → Type 0 = λ n. Placing x.ops x.order (slice_set c.loop-place.places.items n.0 c.loop-place.place) (c.loop-place.place + 1) in
    record {
      size = length-set c.loop-place.places.items c.index.result.now.0 c.loop-place.place ∙ c.loop-place.invariant.size;
      placed = subst P (sym is) (placing_more x.ops x.order c.loop-place.places.items c.loop-place.place less c.loop-place.invariant.size c.loop-place.invariant.placed);
    }

pub returns : goal.returns
returns c = placing_ends c.args.circuit.now c.loop-place.places.items c.loop-place.place (let past = c.loop-place-test.false in let e = c.len-place-end.ensures in let v = ap (λ (m : Circuit). length m.order) c.circuit.view_is in omega arith) c.loop-place.invariant.placed
