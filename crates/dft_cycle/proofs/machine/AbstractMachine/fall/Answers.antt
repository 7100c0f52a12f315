-- Nothing falls.
use Rattle.std.proofs.Common.{ℕ, List, Bool, false, true, ◌≡◌, ◌<◌, length, subst, refl}
use Rattle.dft_logic.specs.Circuit.{flag_at}
use Rattle.dft_cycle.specs.Machine.{Machine, logic, pulses, phase_from, IsPhase}
use Rattle.dft_cycle.specs.MachineShown.{machine_of}
use Rattle.dft_cycle.specs.Views.{Rises}
use Rattle.dft_cycle.proofs.MachineLemmas.{phase_rests, domains_rest, pulsed_rise, pulses_live}
use Rattle.dft_cycle.proofs.machine.AbstractMachine.fall.Goals as goal

pub returns-else-some_fall : goal.returns-else-some_fall
returns-else-some_fall c =
    let i = c.self.invariant in
    let d = c.self.inside in
    let P : Machine → Type 0 = λ m. IsPhase (logic m) m false c.args.pulsed.now m in
    let q = phase_from (machine_of d) false c.args.pulsed.now in
    let off : (place : ℕ) → flag_at c.args.pulsed.now place ≡ true → flag_at d.falls.items place ≡ false =
    λ place at. subst (λ (l : List Bool). flag_at l place ≡ false) c.deref.ensures.value (c.some_fall.ensures c.if-some_fall.false place at) in
    let rise : (e : ℕ) → pulses d.clocks.items c.args.pulsed.now e ≡ true → Rises d.circuit e = λ e up. pulsed_rise d.circuit d.clocks.items d.falls.items c.args.pulsed.now e i.falling off up in
    subst P c.self.view_is (phase_rests (machine_of d) d.circuit c.args.pulsed.now c.soundness.ensures i.compiled
    (domains_rest d.circuit q c.soundness.ensures refl (λ e up. pulses_live d.clocks.items c.args.pulsed.now e (length d.circuit.ops) (λ place clock at. subst (λ (n : ℕ). clock.0 < n) i.pulsed (i.live place clock at)) up) rise))
