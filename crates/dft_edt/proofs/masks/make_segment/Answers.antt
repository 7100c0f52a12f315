use Rattle.std.proofs.lemmas.Result.{err_from_is_err_and}
use Rattle.dft_edt.proofs.Masking.{ports_on, segment_starts, segment_goes, segment_stops, segment_ends}
use Rattle.dft_edt.proofs.masks.make_segment.Goals as goal

pub loop-chain-init : goal.loop-chain-init
loop-chain-init c = segment_starts c.args.ports.now c.args.run c.args.port c.args.count c.args.parts.now c.new-masks.result.items c.new-masks.ensures.items c.requires.port

pub make_mask-requires-clause-ports : goal.make_mask-requires-clause-ports
make_mask-requires-clause-ports c = ports_on c.args.parts.now.netlist c.loop-chain.parts.netlist c.args.ports.now c.args.run c.loop-chain.invariant.more c.requires.ports

pub returns-in_err-nets-clause-makes : goal.returns-in_err-nets-clause-makes
returns-in_err-nets-clause-makes c =
    let p = err_from_is_err_and c.from_residual.result c.from_residual.ensures.1 in
    rw (p.1, p.2)
    (segment_stops c.args.ports.now c.args.run c.args.port c.args.count c.args.parts.now c.loop-chain.parts c.loop-chain.chain c.loop-chain.before c.loop-chain.masks.items c.in_err-nets.field-0.0 c.loop-chain.invariant c.loop-chain-test.true
    c.in_err-nets.ensures.makes)

pub loop-chain-preserved : goal.loop-chain-preserved
loop-chain-preserved c =
    segment_goes c.args.ports.now c.args.run c.args.port c.args.count c.args.parts.now c.loop-chain.parts c.make_mask.new.parts c.loop-chain.chain c.loop-chain.before c.loop-chain.masks.items c.push_masks.new.masks.items c.in_ok-nets.nets
    c.loop-chain.invariant c.loop-chain-test.true c.in_ok-nets.ensures.makes c.in_ok-nets.ensures.there c.in_ok-nets.ensures.nets c.in_ok-push_masks.ensures

pub returns-clause-makes : goal.returns-clause-makes
returns-clause-makes c =
    segment_ends c.args.ports.now c.args.run c.args.port c.args.count c.args.parts.now c.loop-chain.parts c.loop-chain.chain c.loop-chain.before c.loop-chain.masks.items c.loop-chain.invariant c.loop-chain-test.false
