use Rattle.std.proofs.Common.{arith}
use Rattle.std.proofs.lemmas.Result.{err_from_is_err_and}
use Rattle.dft_edt.proofs.Masking.{ports_on, mask_refused, flop_refused, hold_refused, next_refused, last_refused, to_pair}
use Rattle.dft_edt.proofs.masks.make_mask.Goals as goal

pub make_next-requires-clause-ports : goal.make_next-requires-clause-ports
make_next-requires-clause-ports c =
    ports_on c.args.parts.now.netlist c.net-2.new.self.netlist c.args.ports.now c.args.run (omega (arith, c.in_ok-mask.ensures.nets, c.in_ok-flop.ensures.nets, c.in_ok-hold.ensures.nets)) c.requires.ports

pub returns-in_err-mask-clause-makes : goal.returns-in_err-mask-clause-makes
returns-in_err-mask-clause-makes c =
    let p = err_from_is_err_and c.from_residual.result c.from_residual.ensures.1 in
    rw (p.1, p.2) (mask_refused c.args.ports.now c.args.run c.args.before c.args.parts.now c.in_err-mask.field-0.0 c.in_err-mask.ensures.makes)

pub returns-in_err-flop-clause-makes : goal.returns-in_err-flop-clause-makes
returns-in_err-flop-clause-makes c =
    let p = err_from_is_err_and c.from_residual-in_err-flop.result c.from_residual-in_err-flop.ensures.1 in
    rw (p.1, p.2) (flop_refused c.args.ports.now c.args.run c.args.before c.args.parts.now c.net.new.self c.in_ok-mask.mask c.in_err-flop.field-0.0 c.in_ok-mask.ensures.makes c.in_err-flop.ensures.makes)

pub returns-in_err-hold-clause-makes : goal.returns-in_err-hold-clause-makes
returns-in_err-hold-clause-makes c =
    let p = err_from_is_err_and c.from_residual-in_err-hold.result c.from_residual-in_err-hold.ensures.1 in
    rw (p.1, p.2)
    (hold_refused c.args.ports.now c.args.run c.args.before c.args.parts.now c.net.new.self c.flop.new.self c.in_ok-mask.mask c.in_err-hold.field-0.0 c.in_ok-mask.ensures.makes c.in_ok-flop.ensures.makes c.in_err-hold.ensures.makes)

pub returns-in_err-next-clause-makes : goal.returns-in_err-next-clause-makes
returns-in_err-next-clause-makes c =
    let p = err_from_is_err_and c.from_residual-in_err-next.result c.from_residual-in_err-next.ensures.1 in
    rw (p.1, p.2)
    (next_refused c.args.ports.now c.args.run c.args.before c.args.parts.now c.net.new.self c.flop.new.self c.net-2.new.self c.in_ok-mask.mask c.in_ok-hold.hold c.in_err-next.field-0.0 c.in_ok-mask.ensures.makes c.in_ok-flop.ensures.makes
    c.in_ok-hold.ensures.makes c.in_err-next.ensures.makes)

pub returns-in_err-flop-2-clause-makes : goal.returns-in_err-flop-2-clause-makes
returns-in_err-flop-2-clause-makes c =
    let p = err_from_is_err_and c.from_residual-in_err-flop-2.result c.from_residual-in_err-flop-2.ensures.1 in
    rw (p.1, p.2)
    (last_refused c.args.ports.now c.args.run c.args.before c.args.parts.now c.net.new.self c.flop.new.self c.net-2.new.self c.make_next.new.parts c.in_ok-mask.mask c.in_ok-hold.hold c.in_ok-next.next c.in_err-flop-2.field-0.0
    c.in_ok-mask.ensures.makes c.in_ok-flop.ensures.makes c.in_ok-hold.ensures.makes c.in_ok-next.ensures.makes c.in_err-flop-2.ensures.makes)

pub returns-clause-makes : goal.returns-clause-makes
returns-clause-makes c =
    to_pair c.args.ports.now c.args.run c.args.before c.args.parts.now c.net.new.self c.flop.new.self c.net-2.new.self c.make_next.new.parts c.flop-2.new.self c.in_ok-mask.mask c.in_ok-hold.hold c.in_ok-next.next
    c.in_ok-mask.ensures.makes c.in_ok-flop.ensures.makes c.in_ok-hold.ensures.makes c.in_ok-next.ensures.makes c.in_ok-flop-2.ensures.makes
