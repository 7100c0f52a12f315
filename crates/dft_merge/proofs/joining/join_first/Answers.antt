use Rattle.std.proofs.Common.{arith}
use Rattle.dft_merge.specs.LoadPlan.{columns_by, rows_by}
use Rattle.dft_merge.proofs.SlotLemmas.{found_joined, found_none, tried}
use Rattle.dft_merge.proofs.joining.join_first.Goals as goal

pub returns-in_err-join-clause-slots : goal.returns-in_err-join-clause-slots
returns-in_err-join-clause-slots c =
    tried (columns_by c.args.loads.now) (rows_by c.args.loads.now) c.args.first c.loop-place.patterns c.loop-place.slots c.loop-place.place c.index-slots-place.result c.join.new.slot c.index-patterns-first.result c.join.new.pattern
    c.loop-place.invariant.slots (omega arith) c.index-slots-place.is c.index-patterns-first.is c.in_err-join.ensures.slot

pub returns-then-branch-clause-slots : goal.returns-then-branch-clause-slots
returns-then-branch-clause-slots c =
    tried (columns_by c.args.loads.now) (rows_by c.args.loads.now) c.args.first c.loop-place.patterns c.loop-place.slots c.loop-place.place c.index-slots-place.result c.join.new.slot c.index-patterns-first.result c.join.new.pattern
    c.loop-place.invariant.slots (omega arith) c.index-slots-place.is c.index-patterns-first.is c.in_ok-join.ensures.slot

pub returns-then-branch-clause-joined : goal.returns-then-branch-clause-joined
returns-then-branch-clause-joined c =
    found_joined (columns_by c.args.loads.now) (rows_by c.args.loads.now) c.args.first c.args.patterns.now c.loop-place.patterns c.loop-place.slots c.loop-place.place c.index-patterns-first.result c.join.new.pattern c.args.cube.now
    c.in_ok-join.field-0 c.loop-place.invariant.slots c.loop-place.invariant.same (omega arith) c.index-patterns-first.is c.if-branch.true c.in_ok-join.ensures.joined c.loop-place.invariant.before

pub loop-place-preserved : goal.loop-place-preserved
loop-place-preserved c =
    let both = found_none (columns_by c.args.loads.now) (rows_by c.args.loads.now) c.args.first c.args.patterns.now c.loop-place.patterns c.loop-place.slots c.loop-place.place c.index-patterns-first.result c.join.new.pattern c.args.cube.now
    c.in_ok-join.field-0 c.loop-place.invariant.slots c.loop-place.invariant.same (omega arith) c.index-patterns-first.is c.if-branch.false c.in_ok-join.ensures.joined c.loop-place.invariant.before in
    record {
      slots = tried (columns_by c.args.loads.now) (rows_by c.args.loads.now) c.args.first c.loop-place.patterns c.loop-place.slots c.loop-place.place c.index-slots-place.result c.join.new.slot c.index-patterns-first.result c.join.new.pattern
          c.loop-place.invariant.slots (omega arith) c.index-slots-place.is c.index-patterns-first.is c.in_ok-join.ensures.slot;
      same = both.0;
      before = both.1;
    }
