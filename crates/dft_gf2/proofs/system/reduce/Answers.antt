-- A column more is clear.
use Rattle.std.proofs.Common.{length, arith, ◌∙◌}
use Rattle.std.proofs.lemmas.List.{get_or_past}
use Rattle.dft_gf2.proofs.Reductions.{reduced_none, reduced_both, last_before, cleared_more, new_of}
use Rattle.dft_gf2.proofs.system.reduce.Goals as goal

pub loop-turn-init : goal.loop-turn-init
loop-turn-init c = record {
  reduced = reduced_none _ _ _;
  clear = λ d past. get_or_past _ d _ (let wide = c.requires.wide.0 in omega arith);
}

pub returns-in_default-clause-reduced : goal.returns-in_default-clause-reduced
returns-in_default-clause-reduced c = c.loop-turn.invariant.reduced

pub clear-requires-clause-within : goal.clear-requires-clause-within
clear-requires-clause-within c = let before = last_before _ c.loop-turn._turn c.in-Some.column c.loop-turn.trial c.loop-turn.invariant.clear c.in-Some.ensures.1.0 in omega arith

pub clear-requires-clause-wide : goal.clear-requires-clause-wide
clear-requires-clause-wide c = (c.loop-turn.invariant.reduced.set_size ∙ c.requires.wide.0, c.loop-turn.invariant.reduced.sums_size ∙ c.requires.wide.1)

pub returns-then-not-clear-clause-reduced : goal.returns-then-not-clear-clause-reduced
returns-then-not-clear-clause-reduced c = reduced_both _ _ _ _ _ c.loop-turn.invariant.reduced c.clear.ensures.reduced

pub returns-then-not-clear-clause-end : goal.returns-then-not-clear-clause-end
returns-then-not-clear-clause-end c =
    new_of c.args.row_of.now c.in-Some.column c.loop-turn.trial c.clear.new.trial
    (let before = last_before _ c.loop-turn._turn c.in-Some.column c.loop-turn.trial c.loop-turn.invariant.clear c.in-Some.ensures.1.0 in omega arith)
    c.in-Some.ensures.1 c.if-not-clear.ensures.cleared

pub loop-turn-preserved : goal.loop-turn-preserved
loop-turn-preserved c = record {
  reduced = reduced_both _ _ _ _ _ c.loop-turn.invariant.reduced c.clear.ensures.reduced;
  clear = cleared_more c.args.row_of.now (length c.args.row_of.now) c.loop-turn._turn c.in-Some.column c.loop-turn.trial c.clear.new.trial
      (last_before _ c.loop-turn._turn c.in-Some.column c.loop-turn.trial c.loop-turn.invariant.clear c.in-Some.ensures.1.0) c.in-Some.ensures.1 c.if-not-clear.ensures.cleared;
}

pub returns-clause-reduced : goal.returns-clause-reduced
returns-clause-reduced c = c.loop-turn.invariant.reduced

pub returns-clause-end : goal.returns-clause-end
returns-clause-end c = λ d. c.loop-turn.invariant.clear d (omega arith)
