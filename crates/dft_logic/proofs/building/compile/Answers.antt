-- The circuit means what the design does.
use Rattle.std.proofs.Common.{ℕ, List, [], ◌∷◌, ◌≡◌, ◌∙◌, Option, length, map, subst, sym}
use Rattle.dft_netlist.specs.declared.ids.NetId.{NetId}
use Rattle.dft_netlist.specs.Orders.{IsOrder, numbers_of}
use Rattle.dft_behavior.specs.Logic.{reads}
use Rattle.dft_logic.specs.declared.circuit.Op.{Op}
use Rattle.dft_logic.specs.declared.circuit.FlipFlop.{FlipFlop}
use Rattle.dft_logic.specs.declared.circuit.Latch.{Latch}
use Rattle.dft_logic.specs.Circuit.{meaning, op_at, cell_of, cell_at, source_places, leaf_domains, latch_at, latch_domains, force_nets}
use Rattle.dft_logic.specs.Tables.{IsTable}
use Rattle.dft_logic.specs.Compiling.{ports_by}
use Rattle.dft_logic.proofs.Compiled.{circuit_of, is_circuit}
use Rattle.dft_logic.proofs.building.compile.Goals as goal

pub invariant_of-result : goal.invariant_of-result
invariant_of-result c =
    let O : List NetId → Type 0 = λ l. IsOrder c.args.design.now (numbers_of l) in
    is_circuit c.args.design.now (ports_by c.args.flags.now) (record { order = c.in_ok-order.order.items; ops = c.in_ok-ops.ops.items; flops = c.in_ok-flops.flops.items; latches = c.in_ok-latches.latches.items; readers = c.in_ok-readers.readers; sources = c.in_ok-sources.sources; leaves = c.in_ok-leaves.leaves; cells = c.in_ok-cells.cells; holders = c.in_ok-holders.holders; followers = c.in_ok-followers.followers })
    c.soundness.ensures.netlist (subst O (sym c.in_ok-order.ensures.items) c.order.ensures) c.in_ok-ops.ensures.count c.in_ok-ops.ensures.each c.in_ok-flops.ensures c.in_ok-latches.ensures
    (let o : List Op → Type 0 = λ l. IsTable (length l) (length l) (λ k. reads (meaning (op_at l k))) c.in_ok-readers.readers in
    let s : List Op → Type 0 = λ l. IsTable 1 (length l) (λ k. source_places (meaning (op_at l k))) c.in_ok-sources.sources in
    let a : List Op → Type 0 = λ l. IsTable (length l) (length l) (λ k. leaf_domains (map cell_of c.deref-5.result.now) k (meaning (op_at l k))) c.in_ok-leaves.leaves in
    let b : List FlipFlop → Type 0 = λ l. IsTable (length c.in_ok-ops.ops.items) (length c.in_ok-ops.ops.items) (λ k. leaf_domains (map cell_of l) k (meaning (op_at c.in_ok-ops.ops.items k))) c.in_ok-leaves.leaves in
    let f : List FlipFlop → Type 0 = λ l. IsTable c.len-nets.result (length l) (λ k. (cell_at (map cell_of l) k).domain ∷ []) c.in_ok-cells.cells in
    let g : ℕ → Type 0 = λ n. IsTable n (length c.in_ok-flops.flops.items) (λ k. (cell_at (map cell_of c.in_ok-flops.flops.items) k).domain ∷ []) c.in_ok-cells.cells in
    let h : List (Option Latch) → Type 0 = λ l. IsTable c.len-nets.result (length l) (λ k. latch_domains (latch_at l k)) c.in_ok-holders.holders in
    let i : ℕ → Type 0 = λ n. IsTable n (length c.in_ok-latches.latches.items) (λ k. latch_domains (latch_at c.in_ok-latches.latches.items k)) c.in_ok-holders.holders in
    let k : List FlipFlop → Type 0 = λ l. IsTable c.len-nets.result (length l) (λ k. force_nets (cell_at (map cell_of l) k).forces) c.in_ok-followers.followers in
    let m : ℕ → Type 0 = λ n. IsTable n (length c.in_ok-flops.flops.items) (λ k. force_nets (cell_at (map cell_of c.in_ok-flops.flops.items) k).forces) c.in_ok-followers.followers in
    let nets : c.len-nets.result ≡ length c.in_ok-ops.ops.items = c.len-nets.ensures ∙ c.in_ok-ops.ops.ok.0 in
    record {
      readers = subst o c.deref-2.ensures.value c.in_ok-readers.ensures;
      sources = subst s c.deref-3.ensures.value c.in_ok-sources.ensures;
      leaves = subst b c.deref-5.ensures.value (subst a c.deref-4.ensures.value c.in_ok-leaves.ensures);
      cells = subst g nets (subst f c.deref-6.ensures.value c.in_ok-cells.ensures);
      holders = subst i nets (subst h c.deref-7.ensures.value c.in_ok-holders.ensures);
      followers = subst m nets (subst k c.deref-8.ensures.value c.in_ok-followers.ensures);
    })

pub returns : goal.returns
returns c =
    circuit_of c.args.design.now (ports_by c.args.flags.now) (record { order = c.in_ok-order.order.items; ops = c.in_ok-ops.ops.items; flops = c.in_ok-flops.flops.items; latches = c.in_ok-latches.latches.items; readers = c.in_ok-readers.readers; sources = c.in_ok-sources.sources; leaves = c.in_ok-leaves.leaves; cells = c.in_ok-cells.cells; holders = c.in_ok-holders.holders; followers = c.in_ok-followers.followers })
    c.soundness.ensures.netlist c.in_ok-ops.ensures.count c.in_ok-ops.ensures.each c.in_ok-flops.ensures c.in_ok-latches.ensures
