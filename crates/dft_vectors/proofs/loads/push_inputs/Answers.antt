-- The pulsing inputs, the controls, the channels and the mask ports.
use Rattle.std.proofs.Common.{◌+◌, ◌*◌, ◌-◌, ℕ, map, refl, ap, ◌∙◌}
use Rattle.dft_base.specs.Packed.{packed_bit}
use Rattle.dft_base.specs.Solutions.{bit_at}
use Rattle.dft_config.specs.Config.{Config}
use Rattle.dft_config.specs.declared.config.RingConfig.{RingConfig}
use Rattle.dft_stitch.specs.Plans.{Plan}
use Rattle.dft_vectors.specs.declared.added.Segment.{Segment}
use Rattle.dft_vectors.specs.OwnPorts.{set_to}
use Rattle.dft_vectors.specs.AddedPorts.{set_all}
use Rattle.dft_vectors.specs.Segments.{sent_in}
use Rattle.dft_vectors.specs.Shown.{plan_in}
use Rattle.dft_vectors.proofs.ListLemmas.{four_more}
use Rattle.dft_vectors.proofs.SegmentLemmas.{sent_masks}
use Rattle.dft_vectors.proofs.loads.push_inputs.Goals as goal

pub returns : goal.returns
returns c =
    let l = c.args.layout.now in
    let config = l.planned.now.config in
    let masks = bit_at c.args.masks.now in
    four_more c.args.acts.now.items c.extend_from_slice.new.self.items c.push_controls.new.acts.items c.push_channels.new.acts.items c.push_masks.new.acts.items _ _ _ _ _ _ _ _
    c.in_ok-extend_from_slice.ensures.items c.in_ok-push_controls.ensures c.in_ok-push_channels.ensures c.in_ok-push_masks.ensures
    (c.deref.ensures.value ∙ c.requires.layout.own.pulsing) refl
    (ap (λ (k : ℕ). set_all c.ring.result.now.channels (λ channel. packed_bit c.args.bits.now (c.args.cycle * k + channel))) c.from-2.ensures
    ∙ ap (λ (r : RingConfig). set_all r.channels (λ channel. packed_bit c.args.bits.now (c.args.cycle * r.channels + channel))) (c.ring.ensures ∙ ap (λ (g : Config). g.ring) c.config.ensures))
    (ap (λ (k : ℕ). map (λ (segment : Segment). set_to (sent_in segment masks (k - (c.args.cycle + 1)))) c.deref-2.result.now) (c.from.ensures ∙ c.cycles.ensures ∙ ap (λ (p : Plan). p.cycles) c.chains.ensures)
    ∙ ap (map (λ (segment : Segment). set_to (sent_in segment masks ((plan_in l).cycles - (c.args.cycle + 1))))) (c.deref-2.ensures.value ∙ c.requires.layout.segments)
    ∙ sent_masks config masks (plan_in l).cycles c.args.cycle)
