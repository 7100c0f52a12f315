use Rattle.std.proofs.Common.{◌≡◌, ◌++◌, ◌<◌, ℕ, List, Ok, length, sym, subst, ap, arith, ◌∙◌}
use Rattle.std.proofs.lemmas.Result.{err_from_is_err_and}
use Rattle.dft_netlist.specs.declared.ids.NetId.{NetId}
use Rattle.dft_parts.specs.Recipes.{net_at, outcome, IsRefusal}
use Rattle.dft_config.specs.Segments.{segment_start}
use Rattle.dft_edt.proofs.Steps.{all_segments}
use Rattle.dft_edt.specs.CompactorRecipe.{a_segment}
use Rattle.dft_edt.proofs.Masking.{ports_on, cut_starts, cut_goes, cut_stops, cut_ends}
use Rattle.dft_edt.proofs.masks.make_masks.Goals as goal

pub loop-segment-init : goal.loop-segment-init
loop-segment-init c = cut_starts c.args.config.now c.args.ports.now c.args.run c.args.config.now.compactor.mask_inputs c.args.parts.now c.new-masks.result.items c.new-masks.ensures.items

pub make_segment-requires-clause-ports : goal.make_segment-requires-clause-ports
make_segment-requires-clause-ports c = ports_on c.args.parts.now.netlist c.loop-segment.parts.netlist c.args.ports.now c.args.run c.loop-segment.invariant.more c.requires.ports

pub make_segment-requires-clause-port : goal.make_segment-requires-clause-port
make_segment-requires-clause-port c =
    let more = c.loop-segment.invariant.more in
    let less = (rw c.compactor.ensures at c.loop-segment-test.true) in
    let there = c.requires.ports.masks c.loop-segment.segment (record { 0 = 0 }) (omega (arith, less, c.requires.masks)) in
    subst (λ (ms : List NetId). (net_at ms c.loop-segment.segment).0 < length c.loop-segment.parts.netlist.nets) (sym c.as_slice.ensures) (omega (arith, more, there))

pub returns-in_err-chains-clause-makes : goal.returns-in_err-chains-clause-makes
returns-in_err-chains-clause-makes c =
    let p = err_from_is_err_and c.from_residual.result c.from_residual.ensures.1 in
    let ports = c.args.ports.now in
    rw (p.1, p.2)
    (cut_stops c.args.config.now ports c.args.run c.args.config.now.compactor.mask_inputs c.args.parts.now c.loop-segment.parts c.loop-segment.segment c.loop-segment.masks.items c.in_err-chains.field-0.0 c.loop-segment.invariant (rw c.compactor.ensures at c.loop-segment-test.true)
    (subst (λ (n : ℕ). IsRefusal (outcome (a_segment ports c.args.run (net_at ports.masks c.loop-segment.segment) n) c.loop-segment.parts) c.in_err-chains.field-0.0) c.segment_length-count.ensures
    (subst (λ (ms : List NetId). IsRefusal (outcome (a_segment ports c.args.run (net_at ms c.loop-segment.segment) c.segment_length-count.result) c.loop-segment.parts) c.in_err-chains.field-0.0) c.as_slice.ensures c.in_err-chains.ensures.makes)))

pub loop-segment-preserved : goal.loop-segment-preserved
loop-segment-preserved c =
    let ports = c.args.ports.now in
    let chains = c.in_ok-chains.chains.items in
    let made = subst (λ (n : ℕ). outcome (a_segment ports c.args.run (net_at ports.masks c.loop-segment.segment) n) c.loop-segment.parts ≡ Ok (chains, c.make_segment.new.parts)) c.segment_length-count.ensures
    (subst (λ (ms : List NetId). outcome (a_segment ports c.args.run (net_at ms c.loop-segment.segment) c.segment_length-count.result) c.loop-segment.parts ≡ Ok (chains, c.make_segment.new.parts)) c.as_slice.ensures c.in_ok-chains.ensures.makes) in
    cut_goes c.args.config.now ports c.args.run c.args.config.now.compactor.mask_inputs c.args.parts.now c.loop-segment.parts c.make_segment.new.parts c.loop-segment.segment c.loop-segment.masks.items c.extend_from_slice.new.self.items chains
    c.loop-segment.invariant (rw c.compactor.ensures at c.loop-segment-test.true) made c.in_ok-chains.ensures.there (c.in_ok-chains.ensures.count ∙ c.segment_length-count.ensures) c.in_ok-chains.ensures.nets
    (c.in_ok-extend_from_slice.ensures.items ∙ ap (λ xs. c.loop-segment.masks.items ++ xs) c.deref.ensures.value)

pub returns-clause-makes : goal.returns-clause-makes
returns-clause-makes c =
    cut_ends c.args.config.now c.args.ports.now c.args.run c.args.config.now.compactor.mask_inputs c.args.parts.now c.loop-segment.parts c.loop-segment.segment c.loop-segment.masks.items c.loop-segment.invariant (rw c.compactor.ensures at c.loop-segment-test.false)

pub returns-clause-count : goal.returns-clause-count
returns-clause-count c =
    let end : (c.loop-segment.segment ≡ c.args.config.now.compactor.mask_inputs) = omega (arith, (rw c.compactor.ensures at c.loop-segment-test.false), (rw c.compactor.ensures at c.loop-segment.auto.segment-end)) in
    c.loop-segment.invariant.made ∙ ap (segment_start c.args.config.now) end ∙ all_segments c.args.config.now c.soundness.ensures.compactor.mask_inputs.0
