-- One response more.
use Rattle.std.proofs.Common.{◌∙◌, List, sym, ap, subst, get_or, arith}
use Rattle.std.specs.Prelude.{slice_index_or}
use Rattle.std.proofs.lemmas.Option.{slice_get_within, slice_get-get_or}
use Rattle.dft_base.specs.declared.tri.Tri.{Tri}
use Rattle.dft_base.specs.declared.tri.Tri.TheVariants.{Unknown}
use Rattle.dft_lanes.specs.declared.wide.Wide.{Wide}
use Rattle.dft_evaluator.specs.Wides.{IsWide, unknown_wide, value_in}
use Rattle.dft_evaluator.proofs.BitLemmas.{all_unknown}
use Rattle.dft_evaluator.proofs.WideLemmas.{wide_is}
use Rattle.dft_expect.specs.Settings.{turned}
use Rattle.dft_expect.proofs.MovingLemmas.{risen_on}
use Rattle.dft_expect.proofs.moving.risen_wide.Goals as goal

pub loop-place-init : goal.loop-place-init
loop-place-init c = record {
  whole = subst (λ (w : Wide). IsWide w (value_in w)) (sym c.unknown-wide.ensures) (wide_is unknown_wide (λ p. Unknown) all_unknown);
  each = λ p r less at. absurd (omega (arith, less));
}

pub loop-place-preserved : goal.loop-place-preserved
loop-place-preserved c =
    let here = get_or c.args.risen.now c.loop-place.place c.index-risen-place.result in
    risen_on c.args.risen.now c.args.number c.args.inverted c.loop-place.place c.loop-place.wide c.set_value.new.wide here c.turned.result c.loop-place.invariant
    (slice_get-get_or c.args.risen.now c.loop-place.place c.index-risen-place.result c.loop-place-test.true) (c.turned.ensures ∙ ap (turned c.args.inverted) (c.value_of-value.ensures ∙ ap (λ (l : List Tri). slice_index_or l c.args.number Unknown) c.as_slice.ensures)) c.set_value.ensures.each c.set_value.ensures.wide

pub returns-clause-each : goal.returns-clause-each
returns-clause-each c = λ p r at. c.loop-place.invariant.each p r (omega (arith, slice_get_within c.args.risen.now p r at, c.loop-place-test.false)) at
