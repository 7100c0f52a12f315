-- The ring in every settled assignment.
use Rattle.std.proofs.Common.{Bool, [], ◌∷◌, ap, map, ◌∙◌}
use Rattle.std.specs.Prelude.{◌&&◌}
use Rattle.dft_cells.specs.declared.kind.Gate.TheVariants.{Inv, And}
use Rattle.dft_cells.specs.Gates.{tri_of}
use Rattle.dft_netlist.specs.Drivers.{Net}
use Rattle.dft_behavior.specs.Logic.{Cell, Gate}
use Rattle.dft_behavior.specs.Settled.{bit_from, value_from}
use Rattle.dft_behavior.proofs.SettledLemmas.{value_at}
use Rattle.dft_config.specs.Ring.{phase_of}
use Rattle.dft_parts.specs.Recipes.{net_at}
use Rattle.dft_parts.specs.SumTrees.{sum_bits, tri_sum}
use Rattle.dft_parts.proofs.Trees.{bit_at, sum_value, sum_bit}
use Rattle.dft_edt.specs.Feeds.{at_feed, feeds}
use Rattle.dft_edt.specs.Hardware.{HasStage}
use Rattle.dft_edt.proofs.Sums.{at_feeds, at_nets, sum_of_bits, feeds_step}
use Rattle.dft_edt.proofs.Parts.{and_one, and_zero, and_bit}
use Rattle.dft_edt.specs.RingStands.{RingBits, RingValues}

pub ring_bits : RingBits
ring_bits l config hw phase_nets s bits has settled = (
  (λ stage less.
      (let h : HasStage l config.ring hw stage = has.stages stage less in
      ap (λ (c : Cell). bit_from s bits c.takes.input) h.flop.cell
      ∙ bit_at l s bits h.kept (Gate And (Net h.sum ∷ Net hw.run ∷ [])) settled h.gate
      ∙ and_bit (bits h.sum) (bits hw.run)
      ∙ ap (λ (b : Bool). bits hw.run && b)
      (sum_bit l s bits h.sum (map (at_feed hw.stage_net hw.channel) (feeds config.ring stage)) settled h.sums
      ∙ ap sum_bits (at_feeds bits hw.stage_net hw.channel (feeds config.ring stage))
      ∙ feeds_step config.ring (λ j. bits (hw.channel j)) (λ k. bits (hw.stage_net k)) stage less))),
  bit_at l s bits hw.run (Gate Inv (Net hw.update ∷ [])) settled has.run,
  (λ chain less.
      sum_bit l s bits (net_at phase_nets chain).0 (map hw.stage_net (phase_of config.ring chain)) settled (has.phases chain less)
      ∙ ap sum_bits (at_nets bits hw.stage_net (phase_of config.ring chain))
      ∙ sum_of_bits (λ k. bits (hw.stage_net k)) (phase_of config.ring chain)),
)

pub ring_values : RingValues
ring_values l config hw phase_nets s values has settled = (
  (λ stage less.
      (let h : HasStage l config.ring hw stage = has.stages stage less in
      let run = value_at l s values hw.run (Gate Inv (Net hw.update ∷ [])) settled has.run in
      let input = ap (λ (c : Cell). value_from values c.takes.input) h.flop.cell ∙ value_at l s values h.kept (Gate And (Net h.sum ∷ Net hw.run ∷ [])) settled h.gate in (
        (λ zero_there. input ∙ ap (λ t. tri_of And (values h.sum ∷ t ∷ [])) (run ∙ ap (λ t. tri_of Inv (t ∷ [])) zero_there) ∙ and_one (values h.sum)
            ∙ sum_value l s values h.sum (map (at_feed hw.stage_net hw.channel) (feeds config.ring stage)) settled h.sums
            ∙ ap tri_sum (at_feeds values hw.stage_net hw.channel (feeds config.ring stage))),
        (λ one_there. input ∙ ap (λ t. tri_of And (values h.sum ∷ t ∷ [])) (run ∙ ap (λ t. tri_of Inv (t ∷ [])) one_there) ∙ and_zero (values h.sum)),
      ))),
  (λ chain less.
      sum_value l s values (net_at phase_nets chain).0 (map hw.stage_net (phase_of config.ring chain)) settled (has.phases chain less) ∙ ap tri_sum (at_nets values hw.stage_net (phase_of config.ring chain))),
)
