-- What a `Planned` shows, and what holds of it.
use Rattle.std.specs.Prelude.{◌≡◌, None}
use Rattle.dft_rules.specs.Refusals as rules
use Rattle.dft_rules.specs.Rules.{judgements}
use Rattle.dft_stitch.specs.declared.planned.Planned.TheInside.{Inside}
use Rattle.dft_stitch.specs.Chains.{plan_of}
use Rattle.dft_stitch.specs.Limits as limits
use Rattle.dft_stitch.specs.Planning.{Planned}

abbrev pub planned_in : Inside → Planned
planned_in p = record { design = p.design.now; config = p.config.now }

-- no check refuses the design, and the verdicts and the chains are its own
pub record IsPlanned (p : Inside) : Type 0 where
  pub passed : rules.refusal p.design.now p.config.now ≡ None
  pub fits : limits.refusal p.design.now p.config.now ≡ None
  pub verdicts : p.verdicts ≡ judgements p.design.now p.config.now
  pub chains : p.chains ≡ plan_of p.design.now p.config.now
