use Rattle.std.proofs.Common.{◌≡◌, ◌∙◌, Some, ap}
use Rattle.dft_config.specs.Config.{Config}
use Rattle.dft_cubes.specs.Cubes.{domain_named}
use Rattle.dft_top.proofs.Seekings.{clock_searched}
use Rattle.dft_top.proofs.seeking.outcome_of_clock.Goals as goal

pub returns-in-Some-clause-outcome : goal.returns-in-Some-clause-outcome
returns-in-Some-clause-outcome c =
    let p = c.args.planned.now in
    let clock = c.args.clock.now in
    let named : Some c.in-Some.domain ≡ domain_named p.config clock = c.in-Some.ensures ∙ ap (λ (config : Config). domain_named config clock) c.config.ensures in
    clock_searched p.design p.config clock c.args.limit c.in-Some.domain (domain_named p.config clock) c.outcome_of_domain.result named c.outcome_of_domain.ensures.outcome
