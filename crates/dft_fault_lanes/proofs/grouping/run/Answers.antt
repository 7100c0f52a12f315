-- One vector more, or what was found.
use Rattle.std.proofs.Common.{ℕ, List, [], ◌∷◌, ◌+◌, ◌<◌, ◌≡◌, ◌∙◌, ap, length, drop, drop-cons, add-one, get_or}
use Rattle.dft_netlist.specs.Orders.{numbers_of}
use Rattle.dft_patterns.specs.declared.act.Act.{Act}
use Rattle.dft_replay.proofs.ReplayLemmas.{read_at}
use Rattle.dft_fault_lanes.proofs.GroupLemmas.{running_more, running_stops, running_ends}
use Rattle.dft_fault_lanes.proofs.grouping.run.Goals as goal

pub returns-then-vector-count : goal.returns-then-vector-count
returns-then-vector-count c =
    running_stops c.args.group.circuit.now c.args.group.clamps.now (numbers_of c.args.group.nets.now) c.args.vectors.now c.loop-vector.ports c.loop-vector.cells.values c.loop-vector.live c.loop-vector.found c.loop-vector.vector c.loop-vector.invariant.0

pub loop-vector-preserved : goal.loop-vector-preserved
loop-vector-preserved c =
    let vectors : List (List Act) = c.args.vectors.now in
    let v : ℕ = c.loop-vector.vector in
    let acts : List Act = c.as_slice.result.now in
    let less : v < length vectors = c.loop-vector-test.true in
    let here : get_or vectors v [] ≡ acts = read_at vectors v c.index-vectors-vector.result acts less c.index-vectors-vector.is c.as_slice.ensures in
    let first : drop v vectors ≡ get_or vectors v [] ∷ drop (v + 1) vectors = rw (add-one) (drop-cons vectors v [] less) in
    let front : drop v vectors ≡ acts ∷ drop (v + 1) vectors = first ∙ ap (λ (a : List Act). a ∷ drop (v + 1) vectors) here in (
      running_more c.args.group.circuit.now c.args.group.clamps.now (numbers_of c.args.group.nets.now) vectors c.loop-vector.ports c.play.new.ports c.loop-vector.cells.values c.play.new.cells.values c.loop-vector.live c.play.new.live
          c.loop-vector.found c.play.new.found v acts front c.play.ensures.inputs c.play.ensures.steps c.loop-vector.invariant.0,
      (c.play.ensures.each_wide, (c.play.ensures.each_later, (c.play.ensures.each_cell, (c.play.ensures.live, (c.play.ensures.room, (λ made. c.play.ensures.plan, (c.play.ensures.cells ∙ c.loop-vector.invariant.1.1.1.1.1.1.1.0, c.play.ensures.idle))))))),
    )

pub returns : goal.returns
returns c =
    running_ends c.args.group.circuit.now c.args.group.clamps.now (numbers_of c.args.group.nets.now) c.args.vectors.now c.loop-vector.ports c.loop-vector.cells.values c.loop-vector.live c.mark.new.live c.loop-vector.found c.mark.new.found
    c.loop-vector.vector c.loop-vector-test.false c.loop-vector.invariant.0 c.mark.ensures.marked
