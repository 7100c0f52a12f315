-- One net more has its driver's value.
use Rattle.std.proofs.Common.{◌∙◌, refl, sym, get_or}
use Rattle.dft_netlist.proofs.ListingLemmas.{has_item}
use Rattle.dft_cycle.proofs.Sweepings.{refreshed_more}
use Rattle.dft_cycle.proofs.sweeping.refresh.Goals as goal
use Rattle.dft_cycle.proofs.sweeping.refresh.Goals.{then-any, else-any}

pub renew-moved-requires-clause-live : goal.renew-moved-requires-clause-live
renew-moved-requires-clause-live c = c.requires.live _ (has_item c.args.nets.now c.loop-net.net-index 0 c.loop-net-test.true)

pub loop-net-preserved : goal.loop-net-preserved
loop-net-preserved c = record {
  given = refreshed_more c.args.circuit.now.ops _ c.args.nets.now c.args.values.now c.loop-net.values c.renew-moved.new.values c.args.marked.now c.loop-net.marked c.renew-moved.new.marked c.loop-net.any c.loop-net.net-index
      (get_or c.args.nets.now c.loop-net.net-index 0) 0 c.loop-net-test.true refl c.loop-net.invariant c.renew-moved.ensures.given c.renew-moved.ensures.lowered;
  none = λ h. elim c.if-any.branch [
    | then-any w ↦ (let p = w.any-is in let q = w.if-any.true in absurd (cc))
    | else-any w ↦ (λ k down. c.renew-moved.ensures.none (sym w.any-is ∙ h) k (c.loop-net.invariant.none w.if-any.false k down))
  ];
}
