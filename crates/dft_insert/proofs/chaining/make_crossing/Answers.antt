use Rattle.std.proofs.Common.{ℕ, ◌≡◌, Ok, length, arith, subst}
use Rattle.std.proofs.lemmas.Result.{err_from_is_err_and}
use Rattle.dft_netlist.specs.declared.ids.NetId.{NetId}
use Rattle.dft_parts.specs.Recipes.{outcome, IsRefusal, Makes}
use Rattle.dft_insert.specs.Chained.{a_lockup_clock, a_lockup_behind}
use Rattle.dft_insert.proofs.MadeParts.{port_of, domain_there, crossing_refused, crossing_made}
use Rattle.dft_insert.proofs.chaining.make_crossing.Goals as goal

pub domain_net-port-requires-clause-few : goal.domain_net-port-requires-clause-few
domain_net-port-requires-clause-few c = c.soundness.ensures.netlist.few_nets

pub make_clock-requires : goal.make_clock-requires
make_clock-requires c =
    omega (arith, c.domain_net-port.ensures, domain_there c.args.design.now c.args.config.now c.args.gap.now c.args.lockup.domain (length c.args.parts.now.netlist.nets) c.requires.nets c.requires.some)

pub returns-in_err-clock-clause-makes : goal.returns-in_err-clock-clause-makes
returns-in_err-clock-clause-makes c =
    let p = err_from_is_err_and c.from_residual.result c.from_residual.ensures.1 in
    let l = c.args.lockup in
    let port : c.domain_net-port.result ≡ port_of c.args.design.now c.args.config.now c.args.gap.now l = λ i. record { 0 = c.domain_net-port.ensures i } in
    let P : NetId → Type 0 = λ a. IsRefusal (outcome (a_lockup_clock a l.high) c.args.parts.now) c.in_err-clock.field-0.0 in
    rw (p.1, p.2) (crossing_refused c.args.design.now c.args.config.now c.args.gap.now c.args.cells.now c.args.row.now l c.args.parts.now c.in_err-clock.field-0.0 (subst P port c.in_err-clock.ensures.makes))

pub returns-clause-makes : goal.returns-clause-makes
returns-clause-makes c =
    let l = c.args.lockup in
    let port : c.domain_net-port.result ≡ port_of c.args.design.now c.args.config.now c.args.gap.now l = λ i. record { 0 = c.domain_net-port.ensures i } in
    let P : NetId → Type 0 = λ a. outcome (a_lockup_clock a l.high) c.args.parts.now ≡ Ok (c.in_ok-clock.clock, c.make_clock.new.parts) in
    let Q : ℕ → Type 0 = λ k. Makes (λ _. tt) (a_lockup_behind c.args.design.now c.args.cells.now c.args.row.now k c.in_ok-clock.clock) c.make_clock.new.parts c.make_lockup.result c.make_lockup.new.parts in
    crossing_made c.args.design.now c.args.config.now c.args.gap.now c.args.cells.now c.args.row.now l c.args.parts.now c.make_clock.new.parts c.in_ok-clock.clock c.make_lockup.result c.make_lockup.new.parts
    (subst P port c.in_ok-clock.ensures.makes) (subst Q c.from.ensures c.make_lockup.ensures.makes)
