-- One name more.
use Rattle.std.proofs.Common.{List, sym, ap, ◌∙◌, Vec, Global}
use Rattle.dft_netlist.specs.declared.ids.NetId.{NetId}
use Rattle.dft_faults.specs.Faults.{is_clock_in}
use Rattle.dft_seek.proofs.ListingLemmas.{named_all, named_push, named_skip}
use Rattle.dft_seek.proofs.listing.port_nets.Goals as goal
use Rattle.dft_seek.proofs.listing.port_nets.Goals.{in-Some+in_ok-push-in-Some, in-None}

pub loop-name-init : goal.loop-name-init
loop-name-init c net = ap (λ (nets : List NetId). is_clock_in nets net) c.new-nets.ensures.items

pub loop-name-preserved : goal.loop-name-preserved
loop-name-preserved c =
    let n = c.args.design.now in
    let names = c.args.names.now in
    let k = c.loop-name.name-index in
    elim c.match-input.branch [
      | in-Some+in_ok-push-in-Some w ↦ named_push n names k c.name-item.result w.in-Some.net c.loop-name.nets.items c.match-input.nets.items c.loop-name-test.true c.name-item.is
          (sym (rw c.as_slice.ensures.bytes at c.input.ensures.net) ∙ w.in-Some.is) (ap (λ (v : Vec NetId Global). v.items) w.nets-is ∙ w.in_ok-push-in-Some.ensures.items) c.loop-name.invariant
      | in-None w ↦ λ net. ap (λ (v : Vec NetId Global). is_clock_in v.items net) w.nets-is
          ∙ named_skip n names k c.name-item.result c.loop-name.nets.items c.loop-name-test.true c.name-item.is (sym (rw c.as_slice.ensures.bytes at c.input.ensures.net) ∙ w.in-None.is) c.loop-name.invariant net
    ]

pub returns : goal.returns
returns c net = c.loop-name.invariant net ∙ named_all c.args.design.now c.args.names.now c.loop-name.name-index net c.loop-name-test.false
