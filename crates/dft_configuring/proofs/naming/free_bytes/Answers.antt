-- The first number of `_` with which the name is free.
use Rattle.std.proofs.Common.{◌<◌, ◌≤◌, ◌++◌, ◌∷◌, [], ◌∙◌, ap, arith, subst, sym}
use Rattle.dft_base.specs.Lexing.{Text}
use Rattle.dft_base.specs.Name.{IsName}
use Rattle.dft_configuring.specs.Names.{are_free, most_bars}
use Rattle.dft_configuring.proofs.NameLemmas.{bars_more, bars_none, free_found, free_on, free_over, free_start, name_more}
use Rattle.dft_configuring.proofs.naming.free_bytes.Goals as goal

pub loop-bars-init : goal.loop-bars-init
loop-bars-init c =
    let items = c.in_ok-bytes.ensures.items in
    record {
      bytes = items ∙ sym (bars_none c.args.name.now);
      name = subst IsName (sym items) c.requires;
      leads = free_start c.args.design.now c.args.count c.args.name.now;
    }

pub are_free-requires : goal.are_free-requires
are_free-requires c = subst IsName (sym c.deref.ensures.value) c.loop-bars.invariant.name

pub returns-then-free-clause-free : goal.returns-then-free-clause-free
returns-then-free-clause-free c =
    let n = c.args.design.now in
    let count = c.args.count in
    let bytes = c.loop-bars.bytes.items in
    let less : c.loop-bars._bars < most_bars n = omega (arith, c.loop-bars-test.true, c.most_bars-bars-end.ensures) in
    let free = ap (are_free n count) (sym c.deref.ensures.value) ∙ sym c.in_ok-free.ensures ∙ c.if-free.true in
    free_found n count c.args.name.now c.loop-bars._bars bytes less c.loop-bars.invariant.bytes free c.loop-bars.invariant.leads

pub loop-bars-preserved : goal.loop-bars-preserved
loop-bars-preserved c =
    let n = c.args.design.now in
    let count = c.args.count in
    let name = c.args.name.now in
    let bytes = c.loop-bars.bytes.items in
    let less : c.loop-bars._bars < most_bars n = omega (arith, c.loop-bars-test.true, c.most_bars-bars-end.ensures) in
    let taken = ap (are_free n count) (sym c.deref.ensures.value) ∙ sym c.in_ok-free.ensures ∙ c.if-free.false in
    let pushed = c.in_ok-push.ensures.items in
    record {
      bytes = pushed ∙ ap (λ (l : Text). l ++ 95 ∷ []) c.loop-bars.invariant.bytes ∙ bars_more name c.loop-bars._bars;
      name = subst IsName (sym pushed) (name_more bytes c.loop-bars.invariant.name);
      leads = free_on n count name c.loop-bars._bars bytes less c.loop-bars.invariant.bytes taken c.loop-bars.invariant.leads;
    }

pub returns-clause-free : goal.returns-clause-free
returns-clause-free c =
    let n = c.args.design.now in
    let past : most_bars n ≤ c.loop-bars._bars = omega (arith, c.loop-bars-test.false, c.most_bars-bars-end.ensures) in
    let within : c.loop-bars._bars ≤ most_bars n = omega (arith, c.most_bars-bars-end.ensures) in
    free_over n c.args.count c.args.name.now c.loop-bars._bars c.loop-bars.bytes.items past within c.loop-bars.invariant.bytes c.loop-bars.invariant.leads
