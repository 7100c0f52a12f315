-- One pin more.
use Rattle.std.proofs.Common.{map, length, ap, sym, ◌∙◌, arith, refl}
use Rattle.dft_netlist.specs.Drivers.{shape_of, source_of, connections_of}
use Rattle.dft_logic.specs.Compiling.{wired_by}
use Rattle.dft_logic.proofs.WireLemmas.{wiring_more, wiring_end, none_past}
use Rattle.dft_logic.proofs.wires.wires.Goals as goal
use Rattle.dft_logic.proofs.wires.wires.Goals.{in-Some+in_ok-word_of+in_ok-push, in_default}

pub loop-pin-init : goal.loop-pin-init
loop-pin-init c = rw c.new-wires.ensures.items refl

pub loop-pin-preserved : goal.loop-pin-preserved
loop-pin-preserved c =
    let roles = (shape_of c.args.library.now c.args.instance.now.cell).roles in
    let whole = map (wired_by c.args.number.0) (connections_of c.args.library.now c.args.instance.now) in
    elim c.match-role_at.branch [
      | in-Some+in_ok-word_of+in_ok-push w ↦ (let h1 = w.in-Some.ensures in let h2 = w.in_ok-push.ensures.items in let h3 = w.operand-source.ensures ∙ ap (λ pin. source_of c.args.number.0 pin _) w.in_ok-word_of.ensures in
          rw w.wires-is (wiring_more roles c.args.instance.now.pins c.as_slice-signal-items.result.now c.args.number.0 whole c.loop-pin.wires.items _ c.loop-pin.pin _ _ _ c.as_slice-signal-items.ensures c.loop-pin-test.true c.requires h1 h3 h2 c.loop-pin.invariant))
      | in_default w ↦ absurd (none_past roles c.loop-pin.pin (sym c.role_at.ensures ∙ w.in_default.is) (omega (arith, ap length c.as_slice-signal-items.ensures)))
    ]

pub returns : goal.returns
returns c =
    wiring_end (shape_of c.args.library.now c.args.instance.now.cell).roles c.args.instance.now.pins c.args.number.0 (map (wired_by c.args.number.0) (connections_of c.args.library.now c.args.instance.now))
    c.loop-pin.wires.items c.loop-pin.pin (omega (arith, ap length c.as_slice-signal-items.ensures)) c.loop-pin.invariant
