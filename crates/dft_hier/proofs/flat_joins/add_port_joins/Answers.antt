use Rattle.std.proofs.Common.{◌≡◌, ◌<◌, ◌+◌, ◌^◌, Some, slice_get}
use Rattle.dft_netlist.specs.declared.ids.NetId.{NetId}
use Rattle.dft_netlist.specs.declared.instance.Signal.{Signal}
use Rattle.dft_hier.specs.Moving.{IsWritable}
use Rattle.dft_hier.proofs.JoinLemmas.{bit_here, bit_more, bits_end, bits_over, all_at}
use Rattle.dft_hier.proofs.flat_joins.add_port_joins.Goals as goal

pub moved_net-inner-requires : goal.moved_net-inner-requires
moved_net-inner-requires c =
    let at : slice_get c.args.port.now.bits c.loop-place.place ≡ Some c.in-Some.bit = rw c.as_slice.ensures at c.in-Some.ensures.bit in
    all_at (λ (b : NetId). c.args.within + b.0 < 2 ^ 32) c.args.port.now.bits c.loop-place.place c.in-Some.bit c.requires.bits at

pub moved-outer-requires : goal.moved-outer-requires
moved-outer-requires c = all_at (λ (s : Signal). IsWritable c.args.outside s) c.args.signals.now c.loop-place.place c.in-Some.signal c.requires.signals c.in-Some.ensures.signal

pub add_bit_join-requires : goal.add_bit_join-requires
add_bit_join-requires c =
    let at : slice_get c.args.port.now.bits c.loop-place.place ≡ Some c.in-Some.bit = rw c.as_slice.ensures at c.in-Some.ensures.bit in
    rw (c.moved_net-inner.ensures, c.moved-outer.ensures) (bit_here c.loop-place.builder _ c.args.port.now.dir c.args.within c.args.outside c.args.port.now.bits c.args.signals.now c.loop-place.place c.in-Some.bit c.in-Some.signal at c.in-Some.ensures.signal c.loop-place.invariant)

pub loop-place-preserved : goal.loop-place-preserved
loop-place-preserved c =
    let at : slice_get c.args.port.now.bits c.loop-place.place ≡ Some c.in-Some.bit = rw c.as_slice.ensures at c.in-Some.ensures.bit in
    bit_more c.loop-place.builder c.add_bit_join.new.builder _ c.args.port.now.dir c.args.within c.args.outside c.args.port.now.bits c.args.signals.now c.loop-place.place c.in-Some.bit c.in-Some.signal at c.in-Some.ensures.signal
    (rw (c.moved_net-inner.ensures, c.moved-outer.ensures) at c.in_ok-add_bit_join-in-Some.ensures) c.loop-place.invariant

pub returns-in-None : goal.returns-in-None
returns-in-None c = bits_end c.loop-place.builder _ c.args.port.now.dir c.args.within c.args.outside c.args.port.now.bits c.args.signals.now c.loop-place.place (rw c.as_slice.ensures at c.in-None.ensures.none) c.loop-place.invariant

pub returns : goal.returns
returns c = bits_over c.loop-place.builder _ c.args.port.now.dir c.args.within c.args.outside c.args.port.now.bits c.args.signals.now c.loop-place.place c.loop-place-test.false c.loop-place.invariant
