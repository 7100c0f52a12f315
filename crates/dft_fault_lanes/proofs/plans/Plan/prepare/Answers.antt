-- There is room for each net, each cell and each signal.
use Rattle.std.proofs.Common.{◌∙◌, length, sym, ap, arith}
use Rattle.dft_logic.specs.Circuit.{Circuit}
use Rattle.dft_fault_lanes.proofs.plans.Plan.prepare.Goals as goal

pub list_forces-requires-clause-room : goal.list_forces-requires-clause-room
list_forces-requires-clause-room c = let capacity = c.in_ok-forces.ensures.capacity in rw c.deref.ensures.value (omega (arith, capacity, c.len-3.ensures, c.circuit.inside.flops.ok.0))

pub returns-clause-room : goal.returns-clause-room
returns-clause-room c =
    let size = c.len-size.ensures ∙ c.circuit.inside.ops.ok.0 ∙ ap (λ (m : Circuit). length m.ops) c.circuit.view_is in
    let cells = c.circuit.inside.flops.ok.0 ∙ ap (λ (m : Circuit). length m.flops) c.circuit.view_is in
    let taking = c.in_ok-taking.ensures.capacity in
    let falling = c.in_ok-falling.ensures.capacity in
    record {
      pulses = sym c.in_ok-pulses.pulses.ok.0 ∙ c.in_ok-pulses.ensures.len;
      pulsed = sym c.in_ok-pulsed.pulsed.ok.0 ∙ c.in_ok-pulsed.ensures.len ∙ size;
      rises = sym c.in_ok-rises.rises.ok.0 ∙ c.in_ok-rises.ensures.len ∙ size;
      falls = sym c.in_ok-falls.falls.ok.0 ∙ c.in_ok-falls.ensures.len ∙ size;
      marked = sym c.in_ok-marked.marked.ok.0 ∙ c.in_ok-marked.ensures.len ∙ size;
      list = sym c.in_ok-list.list.ok.0 ∙ c.in_ok-list.ensures.len ∙ size;
      taking = omega (arith, taking, c.len.ensures, cells);
      falling = omega (arith, falling, c.len-2.ensures, cells);
      forces = rw (c.deref.ensures.value, ap (λ (m : Circuit). m.flops) c.circuit.view_is) at c.list_forces.ensures;
    }
