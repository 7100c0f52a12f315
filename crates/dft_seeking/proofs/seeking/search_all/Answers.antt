-- One fault after another.
use Rattle.dft_seeking.proofs.SearchLemmas.{fault_of, none_yet, one_more}
use Rattle.dft_seeking.proofs.seeking.search_all.Goals as goal

pub loop-number-init : goal.loop-number-init
loop-number-init c = none_yet c.args.design.now c.args.config.now c.args.seeker.now.domain c.args.limit c.args.faults.now c.nothing-gathered.result (c.nothing-gathered.ensures.gathered c.args.design.now c.args.config.now)

pub seek-requires : goal.seek-requires
seek-requires c = fault_of c.args.seeker.now.design c.args.design.now c.args.faults.now c.loop-number.number _ c.requires.design c.requires.faults c.loop-number-test.true

pub loop-number-preserved : goal.loop-number-preserved
loop-number-preserved c =
    one_more c.args.design.now c.args.config.now c.args.seeker.now.domain c.args.limit c.args.faults.now c.loop-number.number _ c.in_ok-found.found c.loop-number.gathered c.gather.new.gathered c.loop-number-test.true c.loop-number.invariant
    (rw (c.requires.design, c.requires.config, c.in_ok-name.ensures) at c.in_ok-found.ensures) c.in_ok-gather.ensures
