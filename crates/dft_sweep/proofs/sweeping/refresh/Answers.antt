-- One net more has its value.
use Rattle.std.proofs.Common.{◌∙◌, refl, get_or}
use Rattle.dft_netlist.proofs.ListingLemmas.{has_item}
use Rattle.dft_sweep.specs.Fields.{meaning_at, sources_of}
use Rattle.dft_sweep.proofs.Sweeps.{refreshed_all, refreshed_more}
use Rattle.dft_sweep.proofs.sweeping.refresh.Goals as goal

pub refresh_one-requires-clause-live : goal.refresh_one-requires-clause-live
refresh_one-requires-clause-live c = c.requires.live _ (has_item c.args.nets.now c.loop-net.net-index 0 c.loop-net-test.true)

pub loop-net-init : goal.loop-net-init
loop-net-init c = record { size = refl; given = λ near k down. near k down; busy = λ h. h }

pub loop-net-preserved : goal.loop-net-preserved
loop-net-preserved c =
    let f = c.args.field.now in
    record {
      size = c.refresh_one.ensures.size ∙ c.loop-net.invariant.size;
      given = refreshed_more f.needed.now (meaning_at f) (sources_of f.sources) c.args.nets.now c.args.values.now c.loop-net.values c.refresh_one.new.values c.args.marks.now.marked.items c.loop-net.marks.marked.items c.refresh_one.new.marks.marked.items c.loop-net.net-index
          (get_or c.args.nets.now c.loop-net.net-index 0) 0 c.loop-net-test.true refl c.loop-net.invariant.given c.refresh_one.ensures.given c.refresh_one.ensures.lowered;
      busy = λ h. c.refresh_one.ensures.busy (c.loop-net.invariant.busy h);
    }

pub returns-clause-given : goal.returns-clause-given
returns-clause-given c =
    let f = c.args.field.now in
    refreshed_all f.needed.now (meaning_at f) (sources_of f.sources) c.args.nets.now c.args.values.now c.loop-net.values c.args.marks.now.marked.items c.loop-net.marks.marked.items c.loop-net.net-index c.loop-net-test.false c.loop-net.invariant.given
