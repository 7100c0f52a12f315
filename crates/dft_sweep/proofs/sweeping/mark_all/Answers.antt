-- One net more is marked.
use Rattle.std.proofs.Common.{ℕ, List, Bool, ◌<◌, ◌+◌, ◌∙◌, ap, length, refl, sym, subst, get_or, arith}
use Rattle.dft_netlist.proofs.ListingLemmas.{has_item}
use Rattle.dft_sweep.specs.Fields.{is_needed}
use Rattle.dft_sweep.proofs.Sweeps.{Marking, marked_size, marking_ends, marking_more}
use Rattle.dft_sweep.proofs.sweeping.mark_all.Goals as goal

pub mark-requires : goal.mark-requires
mark-requires c =
    let less = c.requires.live (get_or c.args.nets.now c.loop-net.net-index 0) (has_item c.args.nets.now c.loop-net.net-index 0 c.loop-net-test.true) in
    let e = c.loop-net.invariant.size in
    omega arith

pub loop-net-preserved : goal.loop-net-preserved
loop-net-preserved c =
    let net : ℕ = get_or c.args.nets.now c.loop-net.net-index 0 in
    let was : List Bool = c.loop-net.marks.marked.items in
    let live : net < length was = (let less = c.requires.live net (has_item c.args.nets.now c.loop-net.net-index 0 c.loop-net-test.true) in let e = c.loop-net.invariant.size in omega arith) in
    let P : List Bool → Type 0 = λ l. Marking c.args.needed.now c.args.nets.now c.args.marks.now.marked.items l (c.loop-net.net-index + 1) in
    record {
      size = ap (λ (l : List Bool). length l) c.mark.ensures.marked ∙ marked_size (is_needed c.args.needed.now net) was net ∙ c.loop-net.invariant.size;
      marked = subst P (sym c.mark.ensures.marked) (marking_more c.args.needed.now c.args.nets.now c.args.marks.now.marked.items was c.loop-net.net-index net 0 refl c.loop-net-test.true live c.loop-net.invariant.marked);
      busy = λ h. c.mark.ensures.busy (c.loop-net.invariant.busy h);
    }

pub returns-clause-lowered : goal.returns-clause-lowered
returns-clause-lowered c = λ k down. (marking_ends c.args.needed.now c.args.nets.now c.args.marks.now.marked.items c.loop-net.marks.marked.items c.loop-net.net-index k c.loop-net-test.false c.loop-net.invariant.marked down).0

pub returns-clause-marked : goal.returns-clause-marked
returns-clause-marked c = λ k needs down. (marking_ends c.args.needed.now c.args.nets.now c.args.marks.now.marked.items c.loop-net.marks.marked.items c.loop-net.net-index k c.loop-net-test.false c.loop-net.invariant.marked down).1 needs
