use Rattle.std.proofs.Common.{◌≡◌, ◌∙◌, sym, ap, arith, get_or, None, Some}
use Rattle.std.proofs.lemmas.List.{length-set}
use Rattle.dft_rules.specs.Rules.{flip_flop_named}
use Rattle.dft_rules.proofs.NameLemmas.{looked_on, looked_here, looked_over, flip_flop_there}
use Rattle.dft_rules.proofs.MarkLemmas.{kept_more, kept_all}
use Rattle.dft_rules.proofs.findings.kept_cells.Goals as goal

pub index_mut-requires : goal.index_mut-requires
index_mut-requires c =
    let n = c.args.design.now in
    let found : flip_flop_named n c.name-item.result ≡ Some c.in-Some.instance = sym (rw c.as_slice.ensures.bytes at c.flip_flop_named.ensures) ∙ c.in-Some.is in
    let live = flip_flop_there n c.name-item.result c.in-Some.instance found in
    omega (arith, c.loop-name.invariant.count, c.loop-name.marks.ok.0)

pub returns-in-None-clause-refused : goal.returns-in-None-clause-refused
returns-in-None-clause-refused c =
    let n = c.args.design.now in
    let missed : flip_flop_named n c.name-item.result ≡ None = sym (rw c.as_slice.ensures.bytes at c.flip_flop_named.ensures) ∙ c.in-None.is in
    rw c.in_ok-unknown-in-None.ensures (c.loop-name.invariant.same ∙ looked_here (flip_flop_named n) c.args.names.now c.loop-name.name-index c.name-item.result c.loop-name-test.true c.name-item.is missed)

pub loop-name-preserved : goal.loop-name-preserved
loop-name-preserved c =
    let n = c.args.design.now in
    let names = c.args.names.now in
    let k = c.loop-name.name-index in
    let marks = c.loop-name.marks.items in
    let found : flip_flop_named n c.name-item.result ≡ Some c.in-Some.instance = sym (rw c.as_slice.ensures.bytes at c.flip_flop_named.ensures) ∙ c.in-Some.is in
    let at : flip_flop_named n (get_or names k c.name-item.result) ≡ Some c.in-Some.instance = ap (flip_flop_named n) (sym c.name-item.is) ∙ found in
    let live = flip_flop_there n c.name-item.result c.in-Some.instance found in
    record {
      same = c.loop-name.invariant.same ∙ looked_on (flip_flop_named n) names k c.name-item.result c.in-Some.instance c.loop-name-test.true c.name-item.is found;
      count = length-set marks c.in-Some.instance.0 _ ∙ c.loop-name.invariant.count;
      each = λ i less. kept_more n names k i c.name-item.result marks c.in-Some.instance c.loop-name-test.true at (omega (arith, c.loop-name.invariant.count)) (c.loop-name.invariant.each i less);
    }

pub returns-clause-found : goal.returns-clause-found
returns-clause-found c = record {
  count = c.loop-name.invariant.count;
  each = λ i less. (c.loop-name.invariant.each i less ∙ kept_all c.args.design.now c.args.names.now c.loop-name.name-index i c.loop-name-test.false);
}

pub returns-clause-known : goal.returns-clause-known
returns-clause-known c = c.loop-name.invariant.same ∙ looked_over (flip_flop_named c.args.design.now) c.args.names.now c.loop-name.name-index c.loop-name-test.false
