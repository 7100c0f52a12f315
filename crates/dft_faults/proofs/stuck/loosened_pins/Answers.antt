-- One pin more.
use Rattle.std.proofs.Common.{◌≡◌, ◌∙◌, ◌<◌, ◌≤◌, ℕ, List, length, get_or, sym, ap, subst}
use Rattle.dft_cells.specs.declared.kind.Role.{Role}
use Rattle.dft_netlist.specs.declared.instance.Signal.{Signal}
use Rattle.dft_netlist.specs.declared.instance.Signal.TheVariants.{Net}
use Rattle.dft_netlist.specs.Drivers.{shape_of}
use Rattle.dft_faults.specs.Faulty.{loosened_at, loosened_pins}
use Rattle.dft_faults.proofs.Carried.{pins_more, pins_end}
use Rattle.dft_faults.proofs.stuck.loosened_pins.Goals as goal

pub loop-pin-preserved : goal.loop-pin-preserved
loop-pin-preserved c =
    let roles : List Role = (shape_of c.args.cells.now c.args.instance.now.cell).roles in
    let pins : List Signal = c.args.instance.now.pins in
    let k : ℕ = c.loop-pin.pin in
    let d : Signal = Net (record { 0 = 0 }) in
    let items : c.as_slice-signal-items.result.now ≡ pins = c.as_slice-signal-items.ensures in
    pins_more c.args.net.0 k roles pins d c.loop-pin.pins c.push.new.self (loosened_pins c.args.net.0 roles pins) c.loosened_at.result (subst (λ (xs : List Signal). k < length xs) items c.loop-pin-test.true)
    (c.loosened_at.ensures ∙ (λ t. loosened_at c.args.net.0 (c.role_at-role.ensures t) (get_or (items t) k d))) c.in_ok-push.ensures.ok c.loop-pin.invariant

pub returns : goal.returns
returns c =
    let pins : List Signal = c.args.instance.now.pins in
    let items : c.as_slice-signal-items.result.now ≡ pins = c.as_slice-signal-items.ensures in
    pins_end c.args.net.0 c.loop-pin.pin (shape_of c.args.cells.now c.args.instance.now.cell).roles pins c.loop-pin.pins (loosened_pins c.args.net.0 (shape_of c.args.cells.now c.args.instance.now.cell).roles pins)
    (subst (λ (xs : List Signal). length xs ≤ c.loop-pin.pin) items c.loop-pin-test.false) c.loop-pin.invariant
