use Rattle.std.proofs.Common.{◌∙◌, ◌+◌, [], drop, sym}
use Rattle.std.proofs.lemmas.Option.{get_or_from_slice_get, slice_get_within}
use Rattle.dft_base.specs.Lexing.{Text}
use Rattle.dft_netlist.specs.Netlist.{Netlist}
use Rattle.dft_scan_frame.specs.Growing.{ANet, net_things, with_things}
use Rattle.dft_scan_frame.proofs.Completing.{next_thing, goes_on}
use Rattle.dft_scan_frame.proofs.carrying.carry_nets.Goals as goal

pub add_net-requires : goal.add_net-requires
add_net-requires c =
    let nets = c.args.design.now.nets in
    let k = c.loop-net.net in
    let whole : Netlist = with_things c.args.builder.now (net_things (drop c.args.first nets)) in
    let name : Text = c.in_ok-copy.field-0 in
    let within = slice_get_within nets k c.net_name.result.now c.net_name.ensures in
    (next_thing whole c.loop-net.builder (λ x. ANet x) nets k name [] within (c.in_ok-copy.ensures ∙ sym (get_or_from_slice_get nets k c.net_name.result.now [] c.net_name.ensures)) c.loop-net.invariant).fit.0

pub loop-net-preserved : goal.loop-net-preserved
loop-net-preserved c =
    let nets = c.args.design.now.nets in
    let k = c.loop-net.net in
    let whole : Netlist = with_things c.args.builder.now (net_things (drop c.args.first nets)) in
    let name : Text = c.in_ok-copy.field-0 in
    let within = slice_get_within nets k c.net_name.result.now c.net_name.ensures in
    goes_on whole c.loop-net.builder c.add_net.new.builder (ANet name) (net_things (drop (k + 1) nets))
    (next_thing whole c.loop-net.builder (λ x. ANet x) nets k name [] within (c.in_ok-copy.ensures ∙ sym (get_or_from_slice_get nets k c.net_name.result.now [] c.net_name.ensures)) c.loop-net.invariant)
    c.in_ok-add_net.ensures
