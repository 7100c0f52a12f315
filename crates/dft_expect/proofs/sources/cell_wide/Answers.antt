-- One pattern more.
use Rattle.std.proofs.Common.{◌∙◌, sym, ap, subst, get_or, arith}
use Rattle.std.proofs.lemmas.Option.{slice_get_within, slice_get-get_or}
use Rattle.dft_base.specs.declared.tri.Tri.TheVariants.{Unknown}
use Rattle.dft_lanes.specs.declared.wide.Wide.{Wide}
use Rattle.dft_evaluator.specs.Wides.{IsWide, unknown_wide, value_in}
use Rattle.dft_evaluator.proofs.BitLemmas.{all_unknown}
use Rattle.dft_evaluator.proofs.WideLemmas.{wide_is}
use Rattle.dft_expect.specs.Settings.{cell_value}
use Rattle.dft_expect.proofs.SourceLemmas.{cells_more}
use Rattle.dft_expect.proofs.sources.cell_wide.Goals as goal

pub loop-place-init : goal.loop-place-init
loop-place-init c = record {
  whole = subst (λ (w : Wide). IsWide w (value_in w)) (sym c.unknown-wide.ensures) (wide_is unknown_wide (λ p. Unknown) all_unknown);
  each = λ p pattern less at. absurd (omega (arith, less));
}

pub loop-place-preserved : goal.loop-place-preserved
loop-place-preserved c =
    cells_more c.args.patterns.now c.args.number c.args.inverted c.loop-place.place c.loop-place.wide c.set_value.new.wide (get_or c.args.patterns.now c.loop-place.place c.index-patterns-place.result) c.cell_value.result c.loop-place.invariant
    (slice_get-get_or c.args.patterns.now c.loop-place.place c.index-patterns-place.result c.loop-place-test.true) (c.cell_value.ensures ∙ ap (cell_value c.args.inverted) c.bit_at-bit.ensures) c.set_value.ensures.each c.set_value.ensures.wide

pub returns-clause-each : goal.returns-clause-each
returns-clause-each c = λ p pattern at. c.loop-place.invariant.each p pattern (omega (arith, slice_get_within c.args.patterns.now p pattern at, c.loop-place-test.false)) at
