use Rattle.std.proofs.Common.{◌≡◌, None, length, sym, subst, ap, arith}
use Rattle.std.proofs.lemmas.Result.{err_from_is_err_and}
use Rattle.dft_netlist.specs.Netlist.{Netlist}
use Rattle.dft_netlist.specs.Sound.{HasOnlyPorts}
use Rattle.dft_scan_frame.specs.Refusals.{IsRefusal}
use Rattle.dft_insert.specs.Ports.{added_ports}
use Rattle.dft_insert.specs.Refusals.{ports_alone, ports_refusal, room_refusal}
use Rattle.dft_insert.proofs.AddedPorts.{first_refused, later_refused}
use Rattle.dft_insert.proofs.Frames.{only_ports}
use Rattle.dft_insert.proofs.frame.fill_frame.Goals as goal

pub add_ports-requires : goal.add_ports-requires
add_ports-requires c = subst HasOnlyPorts (sym c.requires.bare) (only_ports c.args.design.now c.soundness.ensures.netlist)

pub returns-in_err-add_ports-clause-refused : goal.returns-in_err-add_ports-clause-refused
returns-in_err-add_ports-clause-refused c =
    let p = err_from_is_err_and c.from_residual-in_err-add_ports.result c.from_residual-in_err-add_ports.ensures.1 in
    let n : Netlist = c.args.design.now in
    let added = added_ports c.args.style c.args.config.now in
    let refused : IsRefusal (ports_refusal n (ports_alone n) added) c.in_err-add_ports.field-0.0 = rw (c.requires.bare, c.deref.ensures.value, c.in_ok-ports.ensures) at c.in_err-add_ports.ensures.refused in
    rw (p.1, p.2) (first_refused (ports_refusal n (ports_alone n) added) (room_refusal n (length added)) c.in_err-add_ports.field-0.0 refused)

pub returns-in_err-check_room-clause-refused : goal.returns-in_err-check_room-clause-refused
returns-in_err-check_room-clause-refused c =
    let p = err_from_is_err_and c.from_residual-in_err-check_room.result c.from_residual-in_err-check_room.ensures.1 in
    let n : Netlist = c.args.design.now in
    let added = added_ports c.args.style c.args.config.now in
    let passed : ports_refusal n (ports_alone n) added ≡ None = rw (c.requires.bare, c.deref.ensures.value, c.in_ok-ports.ensures) at c.in_ok-add_ports.ensures.accepted in
    let count : c.len.result ≡ length added = omega (arith, c.len.ensures, c.deref.ensures.len, ap length c.deref.ensures.value, ap length c.in_ok-ports.ensures) in
    let refused : IsRefusal (room_refusal n (length added)) c.in_err-check_room.field-0.0 = subst (λ k. IsRefusal (room_refusal n k) c.in_err-check_room.field-0.0) count c.in_err-check_room.ensures.refused in
    rw (p.1, p.2) (later_refused (ports_refusal n (ports_alone n) added) (room_refusal n (length added)) c.in_err-check_room.field-0.0 passed refused)
