-- Masks and compactor in every settled assignment.
use Rattle.std.proofs.Common.{ℕ, Bool, [], ◌∷◌, ◌≡◌, ap, map, ◌∙◌}
use Rattle.std.specs.Prelude.{not, ◌&&◌, if◌then◌else◌}
use Rattle.dft_base.specs.declared.tri.Tri.{Tri}
use Rattle.dft_cells.specs.declared.kind.Gate.TheVariants.{Buf, Inv, And, Or}
use Rattle.dft_cells.specs.Gates.{bit_of, tri_of}
use Rattle.dft_netlist.specs.Drivers.{Net}
use Rattle.dft_behavior.specs.Logic.{Logic, Cell, Gate}
use Rattle.dft_behavior.specs.Settled.{Sources, bit_from, IsSettled, TriSources, value_from, IsTriSettled}
use Rattle.dft_behavior.proofs.SettledLemmas.{value_at}
use Rattle.dft_parts.specs.SumTrees.{sum_bits, tri_sum}
use Rattle.dft_parts.proofs.Trees.{bit_at, sum_value, sum_bit}
use Rattle.dft_edt.specs.Hardware.{EdtNets, HasHold, HasOutput, group_of}
use Rattle.dft_edt.specs.Parts.{shown_by}
use Rattle.dft_edt.proofs.Parts.{group_below, next_bit, gate_bit, same_bits, hold_kept, hold_taken, gate_value, buffered, next_hold}
use Rattle.dft_edt.proofs.Sums.{at_nets, sum_of_bits, same_sum}
use Rattle.dft_edt.specs.CompactorStands.{HasGated, CompactorBits, CompactorValues}

-- ---- bits

hold_bit : (l : Logic) (hw : EdtNets) (s : Sources) (bits : ℕ → Bool) (chain : ℕ) → l.net hw.run ≡ Gate Inv (Net hw.update ∷ []) → HasHold l hw chain → IsSettled l s bits →
    bit_from s bits (l.cell (hw.hold chain)).takes.input ≡ (if bits hw.update then bits (hw.mask_net chain) else bits (hw.hold_net chain))
hold_bit l hw s bits chain run h settled =
    let run_is = bit_at l s bits hw.run (Gate Inv (Net hw.update ∷ [])) settled run in
    let taken = bit_at l s bits h.taken (Gate And (Net hw.update ∷ Net (hw.mask_net chain) ∷ [])) settled h.take in
    let kept = bit_at l s bits h.kept (Gate And (Net hw.run ∷ Net (hw.hold_net chain) ∷ [])) settled h.keep ∙ ap (λ t. bit_of And (t ∷ bits (hw.hold_net chain) ∷ [])) run_is in
    ap (λ (c : Cell). bit_from s bits c.takes.input) h.flop.cell
    ∙ bit_at l s bits h.next (Gate Or (Net h.taken ∷ Net h.kept ∷ [])) settled h.either
    ∙ (λ i. bit_of Or (taken i ∷ kept i ∷ []))
    ∙ next_bit (bits hw.update) (bits (hw.mask_net chain)) (bits (hw.hold_net chain))

gated_bit : (l : Logic) (hw : EdtNets) (s : Sources) (bits : ℕ → Bool) (chain : ℕ) → HasGated l hw chain → IsSettled l s bits → bits (hw.gated chain) ≡ (not (bits (hw.hold_net chain)) && bits (hw.end_net chain))
gated_bit l hw s bits chain h settled =
    bit_at l s bits (hw.gated chain) (Gate And (Net h.shown ∷ Net (hw.end_net chain) ∷ [])) settled h.gate
    ∙ gate_bit (bits h.shown) (bits (hw.end_net chain))
    ∙ ap (λ (t : Bool). t && bits (hw.end_net chain)) (bit_at l s bits h.shown (Gate Inv (Net (hw.hold_net chain) ∷ [])) settled h.show)

pub compactor_bits : CompactorBits
compactor_bits l config hw s bits has run range settled = (
  (λ m k m_less k_less. ap (λ (c : Cell). bit_from s bits c.takes.input) (has.masks m k m_less k_less).cell),
  (λ chain less. hold_bit l hw s bits chain run (has.holds chain less) settled),
  (λ j less.
      (let h : HasOutput l config hw j = has.outputs j less in
      bit_at l s bits (hw.output j) (Gate Buf (Net h.sum ∷ [])) settled h.buffer
      ∙ sum_bit l s bits h.sum (map hw.gated (group_of config j)) settled h.sums
      ∙ ap sum_bits (at_nets bits hw.gated (group_of config j))
      ∙ sum_of_bits (λ c. bits (hw.gated c)) (group_of config j)
      ∙ same_bits config.chains (λ c. bits (hw.gated c)) (λ c. not (bits (hw.hold_net c)) && bits (hw.end_net c)) (group_of config j) (group_below config j range less)
      (λ c c_less. gated_bit l hw s bits c (has.gated_ends c c_less) settled))),
)

-- ---- three-valued bits

hold_value : (l : Logic) (hw : EdtNets) (s : TriSources) (values : ℕ → Tri) (chain : ℕ) → l.net hw.run ≡ Gate Inv (Net hw.update ∷ []) → HasHold l hw chain → IsTriSettled l s values →
    value_from values (l.cell (hw.hold chain)).takes.input ≡ next_hold (values hw.update) (values (hw.mask_net chain)) (values (hw.hold_net chain))
unfolding next_hold
hold_value l hw s values chain run h settled =
    let run_is = value_at l s values hw.run (Gate Inv (Net hw.update ∷ [])) settled run in
    let taken = value_at l s values h.taken (Gate And (Net hw.update ∷ Net (hw.mask_net chain) ∷ [])) settled h.take in
    let kept = value_at l s values h.kept (Gate And (Net hw.run ∷ Net (hw.hold_net chain) ∷ [])) settled h.keep ∙ ap (λ t. tri_of And (t ∷ values (hw.hold_net chain) ∷ [])) run_is in
    ap (λ (c : Cell). value_from values c.takes.input) h.flop.cell
    ∙ value_at l s values h.next (Gate Or (Net h.taken ∷ Net h.kept ∷ [])) settled h.either
    ∙ (λ i. tri_of Or (taken i ∷ kept i ∷ []))

gated_value : (l : Logic) (hw : EdtNets) (s : TriSources) (values : ℕ → Tri) (chain : ℕ) → HasGated l hw chain → IsTriSettled l s values → values (hw.gated chain) ≡ shown_by (values (hw.hold_net chain)) (values (hw.end_net chain))
gated_value l hw s values chain h settled =
    value_at l s values (hw.gated chain) (Gate And (Net h.shown ∷ Net (hw.end_net chain) ∷ [])) settled h.gate
    ∙ ap (λ t. tri_of And (t ∷ values (hw.end_net chain) ∷ [])) (value_at l s values h.shown (Gate Inv (Net (hw.hold_net chain) ∷ [])) settled h.show)
    ∙ gate_value (values (hw.hold_net chain)) (values (hw.end_net chain))

pub compactor_values : CompactorValues
compactor_values l config hw s values has run range settled = (
  (λ m k m_less k_less. ap (λ (c : Cell). value_from values c.takes.input) (has.masks m k m_less k_less).cell),
  (λ chain less.
      (let is = hold_value l hw s values chain run (has.holds chain less) settled in (
        (λ zero_there. is ∙ ap (λ t. next_hold t (values (hw.mask_net chain)) (values (hw.hold_net chain))) zero_there ∙ hold_kept (values (hw.mask_net chain)) (values (hw.hold_net chain))),
        (λ one_there. is ∙ ap (λ t. next_hold t (values (hw.mask_net chain)) (values (hw.hold_net chain))) one_there ∙ hold_taken (values (hw.mask_net chain)) (values (hw.hold_net chain))),
      ))),
  (λ j less.
      (let h : HasOutput l config hw j = has.outputs j less in
      value_at l s values (hw.output j) (Gate Buf (Net h.sum ∷ [])) settled h.buffer
      ∙ buffered (values h.sum)
      ∙ sum_value l s values h.sum (map hw.gated (group_of config j)) settled h.sums
      ∙ ap tri_sum (at_nets values hw.gated (group_of config j)
      ∙ same_sum config.chains (λ c. values (hw.gated c)) (λ c. shown_by (values (hw.hold_net c)) (values (hw.end_net c))) (group_of config j) (group_below config j range less)
      (λ c c_less. gated_value l hw s values c (has.gated_ends c c_less) settled)))),
)
