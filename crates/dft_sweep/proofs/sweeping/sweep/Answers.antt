-- One net more, and the idle places behind it.
use Rattle.std.proofs.Common.{ℕ, List, ◌<◌, ◌+◌, ◌∙◌, length, refl, sym, subst, ap, arith}
use Rattle.dft_netlist.specs.declared.ids.NetId.{NetId}
use Rattle.dft_logic.specs.Circuit.{Circuit, IsCircuit}
use Rattle.dft_logic.specs.CircuitShown.{circuit_of}
use Rattle.dft_logic.proofs.CircuitReads.{net_read}
use Rattle.dft_logic.proofs.Sweeps.{sweeping_more, sweeping_starts}
use Rattle.dft_sweep.specs.Fields.{IsGivenIf, meaning_at, sources_of}
use Rattle.dft_sweep.specs.Places.{is_busy}
use Rattle.dft_sweep.proofs.Placings.{sweeping_goes}
use Rattle.dft_sweep.proofs.sweeping.sweep.Goals as goal

pub loop-place-init : goal.loop-place-init
loop-place-init c =
    let f = c.args.field.now in
    let x = f.circuit.now in
    let m = c.args.marks.now in
    record {
      size = refl;
      swept = sweeping_goes x f.places.now (IsGivenIf f.needed.now (meaning_at f) (sources_of f.sources) c.args.values.now) m.marked.items m.busy.items 0 c.next_busy-place.result c.requires.places c.requires.busy c.next_busy-place.ensures.low (λ p low high. ap (λ (l : List ℕ). is_busy l p) (sym c.deref.ensures.value) ∙ c.next_busy-place.ensures.idle p low high)
          (sweeping_starts x (IsGivenIf f.needed.now (meaning_at f) (sources_of f.sources) c.args.values.now) m.marked.items (subst IsCircuit c.circuit.view_is c.circuit.invariant) c.requires.given);
      busy = c.requires.busy;
    }

pub loop-place-preserved : goal.loop-place-preserved
loop-place-preserved c =
    let f = c.args.field.now in
    let x = f.circuit.now in
    let m = c.settle_marked.new.marks in
    let at = c.loop-place.place in
    let less : at < length x.order = (let here = c.loop-place-test.true in subst (λ (l : List NetId). at < length l) (c.as_slice-end.ensures.value ∙ ap (λ (m : Circuit). m.order) c.circuit.view_is) here) in
    record {
      size = c.settle_marked.ensures.size ∙ c.loop-place.invariant.size;
      swept = sweeping_goes x f.places.now (IsGivenIf f.needed.now (meaning_at f) (sources_of f.sources) c.settle_marked.new.values) m.marked.items m.busy.items (at + 1) c.next_busy-place-in-loop-place.result c.requires.places
          (c.settle_marked.ensures.busy c.loop-place.invariant.busy) c.next_busy-place-in-loop-place.ensures.low (λ p low high. ap (λ (l : List ℕ). is_busy l p) (sym c.deref-in-loop-place.ensures.value) ∙ c.next_busy-place-in-loop-place.ensures.idle p low high)
          (sweeping_more x.ops (IsGivenIf f.needed.now (meaning_at f) (sources_of f.sources) c.loop-place.values) (IsGivenIf f.needed.now (meaning_at f) (sources_of f.sources) c.settle_marked.new.values) x.order c.loop-place.marks.marked.items m.marked.items at
          c.index.result.now c.index.result.now less (net_read (circuit_of c.circuit.inside) x _ _ c.circuit.view_is c.index.ensures) c.loop-place.invariant.swept c.settle_marked.ensures.given c.settle_marked.ensures.raised);
      busy = c.settle_marked.ensures.busy c.loop-place.invariant.busy;
    }

pub next_busy-place-requires : goal.next_busy-place-requires
next_busy-place-requires c = omega (arith, c.as_slice-end.type_inv.1)

pub next_busy-place-requires-in-loop-place : goal.next_busy-place-requires-in-loop-place
next_busy-place-requires-in-loop-place c = omega (arith, c.as_slice-end.type_inv.1)
