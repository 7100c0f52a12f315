-- The vectors of one pattern more.
use Rattle.std.proofs.Common.{arith, ap, sym, ◌∙◌}
use Rattle.dft_cubes.specs.Domains.{captures_of}
use Rattle.dft_compile.proofs.CountLemmas.{all_vectors, no_vectors, one_more}
use Rattle.dft_compile.proofs.counting.vectors_in.Goals as goal

pub returns-then-is_empty : goal.returns-then-is_empty
returns-then-is_empty c = no_vectors c.args.cycles c.args.patterns.now (sym c.is_empty.ensures ∙ c.if-is_empty.true)

pub loop-pattern-preserved : goal.loop-pattern-preserved
loop-pattern-preserved c =
    let before = c.loop-pattern.invariant in
    let more = one_more c.args.cycles c.args.patterns.now c.loop-pattern.pattern c.index-patterns-pattern.result c.loop-pattern-test.true in
    record { vectors = omega (arith, more, before.vectors, c.count-captures.ensures, ap captures_of c.index-patterns-pattern.is); few = omega (arith, before.few) }

pub returns : goal.returns
returns c =
    let end = c.loop-pattern.invariant in
    end.vectors ∙ all_vectors c.args.cycles c.args.patterns.now c.loop-pattern.pattern (sym c.is_empty.ensures ∙ c.if-is_empty.false) (omega (arith, c.loop-pattern-test.false, c.loop-pattern.auto.pattern-end))
