use Rattle.std.proofs.Common.{◌≡◌, ◌+◌, Ok, subst}
use Rattle.std.proofs.lemmas.Result.{err_from_is_err_and}
use Rattle.dft_parts.specs.Parts.{Making}
use Rattle.dft_parts.specs.Recipes.{a_net, outcome, IsRefusal}
use Rattle.dft_parts.specs.Shown.{making_of}
use Rattle.dft_parts.proofs.Outcomes.{net_made, net_refused}
use Rattle.dft_parts.proofs.parts_builder.PartsBuilder.net.Goals as goal

pub returns-in_err-net-clause-makes : goal.returns-in_err-net-clause-makes
returns-in_err-net-clause-makes c =
    let p = err_from_is_err_and c.from_residual-in_err-net.result c.from_residual-in_err-net.ensures.1 in
    rw (p.1, p.2)
    (subst (λ (s : Making). IsRefusal (outcome a_net s) c.in_err-net.field-0.0) c.self.view_is (net_refused (making_of c.self.inside) c.in_ok-name.name c.in_err-net.field-0.0 c.in_ok-name.ensures c.in_err-net.ensures.refused))

pub returns-clause-makes : goal.returns-clause-makes
returns-clause-makes c =
    let s = making_of c.self.inside in
    subst (λ (old : Making). outcome a_net old ≡ Ok (c.in_ok-net.net, record { netlist = c.net.new.self; made = record { nets = s.made.nets + 1; instances = s.made.instances } })) c.self.view_is
    (net_made s c.net.new.self c.in_ok-net.net (rw c.in_ok-name.ensures at c.in_ok-net.ensures.refused) (rw c.in_ok-name.ensures at c.in_ok-net.ensures.ok))
