-- One pin more is marked.
use Rattle.std.proofs.Common.{ℕ, List, ◌∙◌, sym, ap, length, slice_get, arith}
use Rattle.std.proofs.lemmas.Option.{slice_get-get_or}
use Rattle.dft_netlist.specs.declared.instance.Signal.{Signal}
use Rattle.dft_logic.specs.Circuit.{flag_at}
use Rattle.dft_fault_lanes.proofs.ControlLemmas.{one_pin, all_pins}
use Rattle.dft_fault_lanes.proofs.controls.mark_pins.Goals as goal

pub loop-pin-preserved : goal.loop-pin-preserved
loop-pin-preserved c =
    let pin : ℕ = c.loop-pin.pin in (
      one_pin c.args.library.now c.args.instance.now (flag_at c.loop-pin.marked) (flag_at c.mark_pin.new.marked) pin c.role_at.result _ c.role_at.ensures
          (ap (λ (l : List Signal). slice_get l pin) (sym c.as_slice-to-items.ensures) ∙ slice_get-get_or c.as_slice-to-items.result.now pin _ c.loop-pin-test.true) c.mark_pin.ensures.kept c.mark_pin.ensures.here c.loop-pin.invariant.0,
      λ k up. c.mark_pin.ensures.kept k (c.loop-pin.invariant.1 k up),
    )

pub returns-clause-pins : goal.returns-clause-pins
returns-clause-pins c = all_pins c.args.library.now c.args.instance.now (flag_at c.loop-pin.marked) c.loop-pin.pin (omega (arith, c.loop-pin-test.false, ap length c.as_slice-to-items.ensures)) c.loop-pin.invariant.0
