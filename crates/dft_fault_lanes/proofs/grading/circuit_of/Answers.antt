-- The flags are those of the clocks of the patterns.
use Rattle.std.proofs.Common.{◌≡◌, ◌∙◌, ℕ, Bool, List, sym, ap, subst, length}
use Rattle.std.proofs.lemmas.List.{with_items_is}
use Rattle.dft_netlist.specs.Netlist.{Netlist}
use Rattle.dft_behavior.specs.Logic.{Ports}
use Rattle.dft_netlist.specs.declared.ids.NetId.{NetId}
use Rattle.dft_cycle.specs.Machine.{is_one_of}
use Rattle.dft_logic.specs.Circuit.{flag_at}
use Rattle.dft_logic.specs.Compiling.{IsCircuitOf}
use Rattle.dft_patterns.specs.Patterns.{Patterns}
use Rattle.dft_replay.specs.Rows.{ports_of}
use Rattle.dft_fault_lanes.proofs.GatherLemmas.{same_ports}
use Rattle.dft_fault_lanes.proofs.grading.circuit_of.Goals as goal

pub returns-clause-circuit : goal.returns-clause-circuit
returns-clause-circuit c =
    let n : Netlist = c.args.design.now in
    let p : Patterns = c.args.patterns.now in
    let flags : List Bool = c.flag_clocks.new.flags in
    let filled : c.deref-2.result.now ≡ flags = c.deref-2.ensures.value ∙ with_items_is c.in_ok-flags.flags flags (c.flag_clocks.auto.flags ∙ ap length c.deref_mut.ensures.value ∙ sym c.in_ok-flags.flags.ok.0) in
    let each : (e : ℕ) → flag_at c.deref-2.result.now e ≡ (ports_of n p).is_clock e =
    λ e. ap (λ (l : List Bool). flag_at l e) filled ∙ c.flag_clocks.ensures e ∙ ap (λ (l : List NetId). is_one_of l e) c.deref.ensures.value ∙ c.in_ok-clocks.ensures.clocks e in
    subst (λ (ports : Ports). IsCircuitOf n ports c.in_ok-circuit.circuit) (same_ports n p c.deref-2.result.now each) c.in_ok-circuit.ensures
