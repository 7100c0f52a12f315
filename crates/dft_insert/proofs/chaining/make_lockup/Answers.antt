use Rattle.std.proofs.Common.{◌≡◌, Ok, Option, subst}
use Rattle.std.proofs.lemmas.Result.{err_from_is_err_and}
use Rattle.dft_netlist.specs.declared.ids.NetId.{NetId}
use Rattle.dft_netlist.specs.declared.ids.InstanceId.{InstanceId}
use Rattle.dft_parts.specs.Recipes.{a_lockup, net_at, outcome, IsRefusal}
use Rattle.dft_insert.specs.Chained.{a_scan_in}
use Rattle.dft_insert.proofs.MadeParts.{net_refused, lockup_refused, lockup_made}
use Rattle.dft_insert.proofs.chaining.make_lockup.Goals as goal

pub returns-in_err-net-clause-makes : goal.returns-in_err-net-clause-makes
returns-in_err-net-clause-makes c =
    let p = err_from_is_err_and c.from_residual.result c.from_residual.ensures.1 in
    rw (p.1, p.2) (net_refused c.args.design.now c.args.cells.now c.args.row.now c.args.after c.args.clock c.args.parts.now c.in_err-net.field-0.0 c.in_err-net.ensures.makes)

pub returns-in_err-lockup-clause-makes : goal.returns-in_err-lockup-clause-makes
returns-in_err-lockup-clause-makes c =
    let p = err_from_is_err_and c.from_residual-in_err-lockup.result c.from_residual-in_err-lockup.ensures.1 in
    let P : NetId → Type 0 = λ a. IsRefusal (outcome (a_lockup c.args.clock a c.in_ok-net.net) c.net.new.self) c.in_err-lockup.field-0.0 in
    rw (p.1, p.2) (lockup_refused c.args.design.now c.args.cells.now c.args.row.now c.args.after c.args.clock c.args.parts.now c.net.new.self c.in_ok-net.net c.in_err-lockup.field-0.0 c.in_ok-net.ensures.makes (subst P c.net_at.ensures c.in_err-lockup.ensures.makes))

pub returns-clause-makes : goal.returns-clause-makes
returns-clause-makes c =
    let P : NetId → Type 0 = λ a. outcome (a_lockup c.args.clock a c.in_ok-net.net) c.net.new.self ≡ Ok (tt, c.lockup.new.self) in
    let Q : Option InstanceId → Type 0 = λ o. outcome (a_scan_in c.args.design.now o c.in_ok-net.net) c.lockup.new.self ≡ Ok (tt, c.join_scan_in.new.parts) in
    lockup_made c.args.design.now c.args.cells.now c.args.row.now c.args.after c.args.clock c.args.parts.now c.net.new.self c.lockup.new.self c.join_scan_in.new.parts c.in_ok-net.net c.in_ok-net.ensures.makes
    (subst P c.net_at.ensures c.in_ok-lockup.ensures.makes) (subst Q c.cell_in.ensures c.join_scan_in.ensures.makes)
