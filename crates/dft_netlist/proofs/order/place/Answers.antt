use Rattle.std.proofs.Common.{◌≡◌, ◌<◌, ◌∙◌, sym, ap, arith, length, slice_get, Option, Some, None}
use Rattle.std.proofs.lemmas.Option.{slice_get-get_or}
use Rattle.dft_netlist.specs.Drivers.{nets_read}
use Rattle.dft_netlist.specs.Orders.{reads_of}
use Rattle.dft_netlist.specs.Progress.{first_open, number_of}
use Rattle.dft_netlist.specs.declared.ids.NetId.{NetId}
use Rattle.dft_netlist.specs.declared.net_driver.NetDriver.TheVariants.{Input}
use Rattle.dft_netlist.specs.declared.progress.State.TheVariants.{Walked, Placed}
use Rattle.dft_netlist.proofs.StandLemmas.{enters, leaves, meets, ends, skips, no_walk, top_walked, top_live, walked_state, next_new, next_chain, not_new, first_enters, first_started}
use Rattle.dft_netlist.proofs.Weights.{weight_met, weight_placed}
use Rattle.dft_netlist.proofs.order.place.Goals as goal

pub bounds-drivers-net : goal.bounds-drivers-net
bounds-drivers-net c =
    let top = sym c.top.ensures ∙ c.in-Some.is in
    let live = top_live c.args.builder.now c.args.start.0 c.loop-net.progress c.in-Some.net c.loop-net.invariant.way top in
    let count = c.loop-net.invariant.way.count in
    let covered = c.requires.drivers.covered in
    omega arith

pub first_open_net-requires-clause-drives : goal.first_open_net-requires-clause-drives
first_open_net-requires-clause-drives c =
    let top = sym c.top.ensures ∙ c.in-Some.is in
    let live = top_live c.args.builder.now c.args.start.0 c.loop-net.progress c.in-Some.net c.loop-net.invariant.way top in
    let count = c.loop-net.invariant.way.count in
    let covered = c.requires.drivers.covered in
    c.requires.drivers.drives c.in-Some.net.0 _ (slice_get-get_or c.args.drivers.now c.in-Some.net.0 Input (omega arith))

pub leave-requires : goal.leave-requires
leave-requires c = top_live c.args.builder.now c.args.start.0 c.loop-net.progress c.in-Some.net c.loop-net.invariant.way (sym c.top.ensures ∙ c.in-Some.is)

pub loop-net-smaller-in-Continue-branch-2 : goal.loop-net-smaller-in-Continue-branch-2
loop-net-smaller-in-Continue-branch-2 c =
    let top = sym c.top.ensures ∙ c.in-Some.is in
    let s = c.loop-net.progress in
    rw c.in_ok-leave-in-None.ensures (weight_placed s.states c.in-Some.net.0 (top_walked c.args.builder.now c.args.start.0 s c.in-Some.net c.loop-net.invariant.way top))

pub loop-net-preserved-in-Continue-branch-2 : goal.loop-net-preserved-in-Continue-branch-2
loop-net-preserved-in-Continue-branch-2 c =
    let n = c.args.builder.now in
    let s = c.loop-net.progress in
    let net = c.in-Some.net in
    let way = c.loop-net.invariant.way in
    let top = sym c.top.ensures ∙ c.in-Some.is in
    let live = top_live n c.args.start.0 s net way top in
    let count = way.count in
    let covered = c.requires.drivers.covered in
    let lt : net.0 < length c.args.drivers.now = omega arith in
    let by = c.requires.drivers.driven net.0 _ (slice_get-get_or c.args.drivers.now net.0 Input lt) in
    let found : first_open s.states (reads_of n net.0) ≡ None = ap (λ d. first_open s.states (nets_read n d)) by ∙ sym (rw c.states.ensures at c.first_open_net.ensures.first) ∙ ap (λ (o : Option NetId). number_of o) c.in-None.is in
    rw c.in_ok-leave-in-None.ensures (record {
      way = leaves n c.args.start.0 s net way top found;
      started = not_new s.states net.0 c.args.start.0 Placed (λ e. cc) c.loop-net.invariant.started;
    })

pub is_walked-requires : goal.is_walked-requires
is_walked-requires c = rw (c.in-Some-first_open_net.is, c.states.ensures) at c.first_open_net.ensures.live

pub returns-then-is_walked : goal.returns-then-is_walked
returns-then-is_walked c =
    let n = c.args.builder.now in
    let s = c.loop-net.progress in
    let net = c.in-Some.net in
    let next = c.in-Some-first_open_net.next in
    let way = c.loop-net.invariant.way in
    let top = sym c.top.ensures ∙ c.in-Some.is in
    let live = top_live n c.args.start.0 s net way top in
    let count = way.count in
    let covered = c.requires.drivers.covered in
    let lt : net.0 < length c.args.drivers.now = omega arith in
    let by = c.requires.drivers.driven net.0 _ (slice_get-get_or c.args.drivers.now net.0 Input lt) in
    let found : first_open s.states (reads_of n net.0) ≡ Some next.0 = ap (λ d. first_open s.states (nets_read n d)) by ∙ sym (rw c.states.ensures at c.first_open_net.ensures.first) ∙ ap (λ (o : Option NetId). number_of o) c.in-Some-first_open_net.is in
    meets n c.args.start.0 s net next way c.requires.live top found (walked_state (slice_get s.states next.0) (sym c.is_walked.ensures ∙ c.if-is_walked.true))

pub enter-requires-in-Some-first_open_net : goal.enter-requires-in-Some-first_open_net
enter-requires-in-Some-first_open_net c = rw (c.in-Some-first_open_net.is, c.states.ensures) at c.first_open_net.ensures.live

pub loop-net-smaller : goal.loop-net-smaller
loop-net-smaller c =
    let n = c.args.builder.now in
    let s = c.loop-net.progress in
    let net = c.in-Some.net in
    let next = c.in-Some-first_open_net.next in
    let way = c.loop-net.invariant.way in
    let top = sym c.top.ensures ∙ c.in-Some.is in
    let live = top_live n c.args.start.0 s net way top in
    let count = way.count in
    let covered = c.requires.drivers.covered in
    let lt : net.0 < length c.args.drivers.now = omega arith in
    let by = c.requires.drivers.driven net.0 _ (slice_get-get_or c.args.drivers.now net.0 Input lt) in
    let found : first_open s.states (reads_of n net.0) ≡ Some next.0 = ap (λ d. first_open s.states (nets_read n d)) by ∙ sym (rw c.states.ensures at c.first_open_net.ensures.first) ∙ ap (λ (o : Option NetId). number_of o) c.in-Some-first_open_net.is in
    let next_live : next.0 < length s.states = rw (c.in-Some-first_open_net.is, c.states.ensures) at c.first_open_net.ensures.live in
    rw c.in_ok-enter-in-Some-first_open_net.ensures (weight_met s.states next.0 (next_new n s net next found (sym c.is_walked.ensures ∙ c.if-is_walked.false) next_live))

pub loop-net-preserved : goal.loop-net-preserved
loop-net-preserved c =
    let n = c.args.builder.now in
    let s = c.loop-net.progress in
    let net = c.in-Some.net in
    let next = c.in-Some-first_open_net.next in
    let way = c.loop-net.invariant.way in
    let top = sym c.top.ensures ∙ c.in-Some.is in
    let live = top_live n c.args.start.0 s net way top in
    let count = way.count in
    let covered = c.requires.drivers.covered in
    let lt : net.0 < length c.args.drivers.now = omega arith in
    let by = c.requires.drivers.driven net.0 _ (slice_get-get_or c.args.drivers.now net.0 Input lt) in
    let found : first_open s.states (reads_of n net.0) ≡ Some next.0 = ap (λ d. first_open s.states (nets_read n d)) by ∙ sym (rw c.states.ensures at c.first_open_net.ensures.first) ∙ ap (λ (o : Option NetId). number_of o) c.in-Some-first_open_net.is in
    let next_live : next.0 < length s.states = rw (c.in-Some-first_open_net.is, c.states.ensures) at c.first_open_net.ensures.live in
    let new = next_new n s net next found (sym c.is_walked.ensures ∙ c.if-is_walked.false) next_live in
    rw c.in_ok-enter-in-Some-first_open_net.ensures (record {
      way = enters n c.args.start.0 s next way new (next_chain n c.args.start.0 s net next way top found);
      started = not_new s.states next.0 c.args.start.0 Walked (λ e. cc) c.loop-net.invariant.started;
    })

pub returns : goal.returns
returns c = ends c.args.builder.now c.args.start.0 c.loop-net.progress c.loop-net.invariant.way (no_walk c.loop-net.progress.walk (sym c.top.ensures ∙ c.in_default.is)) c.requires.live c.loop-net.invariant.started

pub returns-then-not-is_new : goal.returns-then-not-is_new
returns-then-not-is_new c = skips c.args.builder.now c.args.start.0 c.args.progress.now c.requires.between (sym c.is_new.ensures ∙ c.if-not-is_new.true) c.requires.live

pub loop-net-init : goal.loop-net-init
loop-net-init c =
    let count = c.requires.between.way.count in
    let live = c.requires.live in
    let within : c.args.start.0 < length c.args.progress.now.states = omega arith in
    rw c.in_ok-enter.ensures (record {
      way = first_enters c.args.builder.now c.args.start c.args.progress.now c.requires.between (sym c.is_new.ensures ∙ c.if-not-is_new.false);
      started = first_started c.args.progress.now c.args.start within;
    })
