-- The same value in each pattern, or the bits of a cell.
use Rattle.std.proofs.Common.{◌∙◌, sym, ap, subst, arith}
use Rattle.std.specs.Prelude.{None}
use Rattle.std.proofs.lemmas.Option.{slice_get_within}
use Rattle.dft_base.specs.declared.tri.Tri.TheVariants.{Zero, One, Unknown}
use Rattle.dft_lanes.specs.declared.wide.Wide.{Wide}
use Rattle.dft_evaluator.specs.Wides.{IsWide, unknown_wide, value_in}
use Rattle.dft_evaluator.proofs.BitLemmas.{all_unknown}
use Rattle.dft_evaluator.proofs.WideLemmas.{value_is, wide_is}
use Rattle.dft_expect.specs.declared.settings.Setting.{Setting}
use Rattle.dft_expect.specs.Settings.{value_by}
use Rattle.dft_expect.proofs.sources.setting_wide.Goals as goal

pub returns-in-Input-clause-wide : goal.returns-in-Input-clause-wide
returns-in-Input-clause-wide c = wide_is c.all.result (λ p. Zero) c.all.ensures

pub returns-in-Input-clause-each : goal.returns-in-Input-clause-each
returns-in-Input-clause-each c = λ p pattern at.
    value_is c.all.result (λ p. Zero) c.all.ensures p (omega (arith, slice_get_within c.args.patterns.now p pattern at, c.requires))
    ∙ sym (ap (λ (s : Setting). value_by s None pattern.loaded.now) c.in-Input.is)

pub returns-in-Reset-clause-wide : goal.returns-in-Reset-clause-wide
returns-in-Reset-clause-wide c = wide_is c.all-in-Reset.result (λ p. One) c.all-in-Reset.ensures

pub returns-in-Reset-clause-each : goal.returns-in-Reset-clause-each
returns-in-Reset-clause-each c = λ p pattern at.
    value_is c.all-in-Reset.result (λ p. One) c.all-in-Reset.ensures p (omega (arith, slice_get_within c.args.patterns.now p pattern at, c.requires))
    ∙ sym (ap (λ (s : Setting). value_by s None pattern.loaded.now) c.in-Reset.is)

pub returns-in-Clock-clause-wide : goal.returns-in-Clock-clause-wide
returns-in-Clock-clause-wide c = wide_is c.all-in-Clock.result (λ p. Zero) c.all-in-Clock.ensures

pub returns-in-Clock-clause-each : goal.returns-in-Clock-clause-each
returns-in-Clock-clause-each c = λ p pattern at.
    value_is c.all-in-Clock.result (λ p. Zero) c.all-in-Clock.ensures p (omega (arith, slice_get_within c.args.patterns.now p pattern at, c.requires))
    ∙ sym (ap (λ (s : Setting). value_by s None pattern.loaded.now) c.in-Clock.is)

pub returns-in-Unknown-clause-wide : goal.returns-in-Unknown-clause-wide
returns-in-Unknown-clause-wide c = subst (λ (w : Wide). IsWide w (value_in w)) (sym c.unknown.ensures) (wide_is unknown_wide (λ p. Unknown) all_unknown)
