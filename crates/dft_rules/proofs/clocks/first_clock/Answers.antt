use Rattle.std.proofs.Common.{◌∙◌, sym, refl, length, true, false}
use Rattle.dft_rules.specs.Findings.{is_marked_clock}
use Rattle.dft_rules.proofs.FindLemmas.{range_here, range_on, range_over}
use Rattle.dft_rules.proofs.JudgeLemmas.{marked_is}
use Rattle.dft_rules.proofs.clocks.first_clock.Goals as goal
use Rattle.dft_rules.proofs.clocks.first_clock.Goals.{else-is_some-via-then-is_some+else-used-net, else-is_some-via-else-is_some}

pub returns-then-used-net-clause-first : goal.returns-then-used-net-clause-first
returns-then-used-net-clause-first c =
    let test = is_marked_clock c.args.domains.now c.args.roots.now c.args.used.now in
    let is = marked_is c.args.domains.now c.args.roots.now c.args.used.now c.loop-net.net _ c.clock.result c.clock_place.result true true c.loop-net-test.true c.clock.ensures c.clock_place.ensures (sym c.is_some.ensures ∙ c.if-is_some.true) c.if-used-net.true in
    sym (c.loop-net.invariant ∙ range_here test c.loop-net.net (length c.args.roots.now) c.loop-net-test.true is)

pub loop-net-preserved : goal.loop-net-preserved
loop-net-preserved c =
    let test = is_marked_clock c.args.domains.now c.args.roots.now c.args.used.now in
    elim c.else-is_some.branch [
      | else-is_some-via-then-is_some+else-used-net w ↦ (
          let is = marked_is c.args.domains.now c.args.roots.now c.args.used.now c.loop-net.net _ c.clock.result c.clock_place.result true false c.loop-net-test.true c.clock.ensures c.clock_place.ensures (sym c.is_some.ensures ∙ w.if-is_some.true) w.if-used-net.false in
          c.loop-net.invariant ∙ range_on test c.loop-net.net (length c.args.roots.now) c.loop-net-test.true is)
      | else-is_some-via-else-is_some w ↦ (
          let is = marked_is c.args.domains.now c.args.roots.now c.args.used.now c.loop-net.net _ c.clock.result c.clock_place.result false _ c.loop-net-test.true c.clock.ensures c.clock_place.ensures (sym c.is_some.ensures ∙ w.if-is_some.false) refl in
          c.loop-net.invariant ∙ range_on test c.loop-net.net (length c.args.roots.now) c.loop-net-test.true is)
    ]

pub returns-clause-first : goal.returns-clause-first
returns-clause-first c = sym (c.loop-net.invariant ∙ range_over (is_marked_clock c.args.domains.now c.args.roots.now c.args.used.now) c.loop-net.net (length c.args.roots.now) c.loop-net-test.false)
