-- The parts in every settled assignment.
use Rattle.std.proofs.Common.{ℕ, zero, suc, Bool, true, false, List, [], ◌∷◌, ◌≡◌, ◌<◌, refl, ap, arith, map, length, ◌∙◌}
use Rattle.std.specs.Prelude.{not, ◌&&◌, if◌then◌else◌}
use Rattle.std.specs.List.{All}
use Rattle.dft_base.specs.declared.tri.Tri.{Tri}
use Rattle.dft_base.specs.declared.tri.Tri.TheVariants.{Zero, One, Unknown}
use Rattle.dft_base.specs.Solutions.{xor}
use Rattle.dft_cells.specs.declared.kind.Gate.TheVariants.{Buf, Inv, And, Or}
use Rattle.dft_cells.specs.Gates.{bit_of, tri_of}
use Rattle.dft_netlist.specs.declared.ids.InstanceId.{InstanceId}
use Rattle.dft_netlist.specs.Drivers.{Source, Net}
use Rattle.dft_behavior.specs.Logic.{Logic, Ports, Cell, Gate}
use Rattle.dft_behavior.specs.Settled.{Sources, bit_from, IsSettled, TriSources, value_from, IsTriSettled}
use Rattle.dft_behavior.proofs.SettledLemmas.{value_at}
use Rattle.dft_config.specs.Config.{Config}
use Rattle.dft_config.specs.Range.{IsInRange}
use Rattle.dft_config.specs.Ring.{sum_of, phase_of}
use Rattle.dft_chains.specs.Hardware.{ChainNets}
use Rattle.dft_edt.specs.Feeds.{at_feed, feeds}
use Rattle.dft_parts.specs.SumTrees.{tri_sum}
use Rattle.dft_edt.specs.Hardware.{EdtNets, HasStage, HasPhase, HasRing, HasHold, HasEnd, HasOutput, HasCompactor, group_of}
use Rattle.dft_edt.specs.Parts.{StageBits, PhaseBits, HoldBits, OutputBits, StageValues, PhaseValues, HoldValues, OutputValues, shown_by}
use Rattle.dft_edt.proofs.Sums.{at_feeds, at_nets, sum_of_bits, feeds_step, same_sum}
use Rattle.dft_parts.specs.SumTrees.{sum_bits}
use Rattle.dft_parts.proofs.Trees.{bit_at, sum_value, sum_bit}

-- ---- three-valued bits

pub and_one : (a : Tri) → tri_of And (a ∷ One ∷ []) ≡ a
and_one Zero = refl
and_one One = refl
and_one Unknown = refl

pub and_zero : (a : Tri) → tri_of And (a ∷ Zero ∷ []) ≡ Zero
and_zero Zero = refl
and_zero One = refl
and_zero Unknown = refl

pub buffered : (a : Tri) → tri_of Buf (a ∷ []) ≡ a
buffered Zero = refl
buffered One = refl
buffered Unknown = refl

run_value : (l : Logic) (ports : Ports) (config : Config) (chains : List (List InstanceId)) (w : ChainNets) (hw : EdtNets) (s : TriSources) (values : ℕ → Tri) → HasRing l ports config chains w hw → IsTriSettled l s values →
    values hw.run ≡ tri_of Inv (values hw.update ∷ [])
run_value l ports config chains w hw s values has settled = value_at l s values hw.run (Gate Inv (Net hw.update ∷ [])) settled has.run

pub stage_values : StageValues
stage_values l ports config chains w hw s values has settled i less =
    let h : HasStage l config.ring hw i = has.stages i less in
    let run = run_value l ports config chains w hw s values has settled in
    let input = ap (λ (c : Cell). value_from values c.takes.input) h.flop.cell ∙ value_at l s values h.kept (Gate And (Net h.sum ∷ Net hw.run ∷ [])) settled h.gate in (
      λ zero_there. input ∙ ap (λ t. tri_of And (values h.sum ∷ t ∷ [])) (run ∙ ap (λ t. tri_of Inv (t ∷ [])) zero_there) ∙ and_one (values h.sum)
          ∙ sum_value l s values h.sum (map (at_feed hw.stage_net hw.channel) (feeds config.ring i)) settled h.sums
          ∙ ap tri_sum (at_feeds values hw.stage_net hw.channel (feeds config.ring i)),
      λ one_there. input ∙ ap (λ t. tri_of And (values h.sum ∷ t ∷ [])) (run ∙ ap (λ t. tri_of Inv (t ∷ [])) one_there) ∙ and_zero (values h.sum),
    )

pub phase_value : (l : Logic) (config : Config) (hw : EdtNets) (into : Source) (falling : Bool) (s : TriSources) (values : ℕ → Tri) (chain : ℕ) → (h : HasPhase l config.ring hw into falling chain) → IsTriSettled l s values →
    values h.sum ≡ tri_sum (map (λ k. values (hw.stage_net k)) (phase_of config.ring chain))
phase_value l config hw into falling s values chain h settled =
    sum_value l s values h.sum (map hw.stage_net (phase_of config.ring chain)) settled h.sums ∙ ap tri_sum (at_nets values hw.stage_net (phase_of config.ring chain))

pub phase_values : PhaseValues
phase_values l ports config chains w hw s values has settled chain cell stands =
    phase_value l config hw (w.into chain zero) (l.cell cell.0).falling s values chain (has.phases chain cell stands) settled

-- the next hold bit, from edt_update, the mask bit and the hold bit
unfoldable pub next_hold : Tri → Tri → Tri → Tri
next_hold u m h = tri_of Or (tri_of And (u ∷ m ∷ []) ∷ tri_of And (tri_of Inv (u ∷ []) ∷ h ∷ []) ∷ [])

pub hold_kept : (m h : Tri) → next_hold Zero m h ≡ h
unfolding next_hold
hold_kept Zero Zero = refl
hold_kept Zero One = refl
hold_kept Zero Unknown = refl
hold_kept One Zero = refl
hold_kept One One = refl
hold_kept One Unknown = refl
hold_kept Unknown Zero = refl
hold_kept Unknown One = refl
hold_kept Unknown Unknown = refl

pub hold_taken : (m h : Tri) → next_hold One m h ≡ m
unfolding next_hold
hold_taken Zero Zero = refl
hold_taken Zero One = refl
hold_taken Zero Unknown = refl
hold_taken One Zero = refl
hold_taken One One = refl
hold_taken One Unknown = refl
hold_taken Unknown Zero = refl
hold_taken Unknown One = refl
hold_taken Unknown Unknown = refl

hold_value : (l : Logic) (ports : Ports) (config : Config) (chains : List (List InstanceId)) (w : ChainNets) (hw : EdtNets) (s : TriSources) (values : ℕ → Tri) →
    HasRing l ports config chains w hw → HasCompactor l config chains hw → IsTriSettled l s values → (chain : ℕ) → chain < config.chains →
    value_from values (l.cell (hw.hold chain)).takes.input ≡ next_hold (values hw.update) (values (hw.mask_net chain)) (values (hw.hold_net chain))
unfolding next_hold
hold_value l ports config chains w hw s values has compactor settled chain less =
    let h : HasHold l hw chain = compactor.holds chain less in
    let run = run_value l ports config chains w hw s values has settled in
    let taken = value_at l s values h.taken (Gate And (Net hw.update ∷ Net (hw.mask_net chain) ∷ [])) settled h.take in
    let kept = value_at l s values h.kept (Gate And (Net hw.run ∷ Net (hw.hold_net chain) ∷ [])) settled h.keep ∙ ap (λ t. tri_of And (t ∷ values (hw.hold_net chain) ∷ [])) run in
    ap (λ (c : Cell). value_from values c.takes.input) h.flop.cell
    ∙ value_at l s values h.next (Gate Or (Net h.taken ∷ Net h.kept ∷ [])) settled h.either
    ∙ (λ i. tri_of Or (taken i ∷ kept i ∷ []))

pub hold_values : HoldValues
hold_values l ports config chains w hw s values has compactor settled chain less =
    let is = hold_value l ports config chains w hw s values has compactor settled chain less in (
      λ zero_there. is ∙ ap (λ t. next_hold t (values (hw.mask_net chain)) (values (hw.hold_net chain))) zero_there ∙ hold_kept (values (hw.mask_net chain)) (values (hw.hold_net chain)),
      λ one_there. is ∙ ap (λ t. next_hold t (values (hw.mask_net chain)) (values (hw.hold_net chain))) one_there ∙ hold_taken (values (hw.mask_net chain)) (values (hw.hold_net chain)),
    )

pub gate_value : (a b : Tri) → tri_of And (tri_of Inv (a ∷ []) ∷ b ∷ []) ≡ shown_by a b
gate_value Zero Zero = refl
gate_value Zero One = refl
gate_value Zero Unknown = refl
gate_value One Zero = refl
gate_value One One = refl
gate_value One Unknown = refl
gate_value Unknown Zero = refl
gate_value Unknown One = refl
gate_value Unknown Unknown = refl

pub gated_value : (l : Logic) (config : Config) (chains : List (List InstanceId)) (hw : EdtNets) (s : TriSources) (values : ℕ → Tri) → HasCompactor l config chains hw → IsTriSettled l s values → (chain : ℕ) → chain < config.chains →
    values (hw.gated chain) ≡ shown_by (values (hw.hold_net chain)) (values (hw.end_net chain))
gated_value l config chains hw s values has settled chain less =
    let h : HasEnd l chains hw chain = has.ends chain less in
    value_at l s values (hw.gated chain) (Gate And (Net h.shown ∷ Net (hw.end_net chain) ∷ [])) settled h.gate
    ∙ ap (λ t. tri_of And (t ∷ values (hw.end_net chain) ∷ [])) (value_at l s values h.shown (Gate Inv (Net (hw.hold_net chain) ∷ [])) settled h.show)
    ∙ gate_value (values (hw.hold_net chain)) (values (hw.end_net chain))

-- a group's chains are there
pub group_below : (config : Config) (j : ℕ) → IsInRange config → j < length config.compactor.groups → All (λ chain. chain < config.chains) (group_of config j)
group_below config j range less = (range.compactor.groups j [] less).below

pub output_values : OutputValues
output_values l config chains hw s values has range settled j less =
    let h : HasOutput l config hw j = has.outputs j less in
    value_at l s values (hw.output j) (Gate Buf (Net h.sum ∷ [])) settled h.buffer
    ∙ buffered (values h.sum)
    ∙ sum_value l s values h.sum (map hw.gated (group_of config j)) settled h.sums
    ∙ ap tri_sum (at_nets values hw.gated (group_of config j)
    ∙ same_sum config.chains (λ c. values (hw.gated c)) (λ c. shown_by (values (hw.hold_net c)) (values (hw.end_net c))) (group_of config j) (group_below config j range less)
    (gated_value l config chains hw s values has settled))

-- ---- bits

run_bit : (l : Logic) (ports : Ports) (config : Config) (chains : List (List InstanceId)) (w : ChainNets) (hw : EdtNets) (s : Sources) (bits : ℕ → Bool) → HasRing l ports config chains w hw → IsSettled l s bits →
    bits hw.run ≡ not (bits hw.update)
run_bit l ports config chains w hw s bits has settled = bit_at l s bits hw.run (Gate Inv (Net hw.update ∷ [])) settled has.run

pub and_bit : (a b : Bool) → bit_of And (a ∷ b ∷ []) ≡ (b && a)
and_bit true true = refl
and_bit true false = refl
and_bit false true = refl
and_bit false false = refl

pub stage_bits : StageBits
stage_bits l ports config chains w hw s bits has settled i less =
    let h : HasStage l config.ring hw i = has.stages i less in
    ap (λ (c : Cell). bit_from s bits c.takes.input) h.flop.cell
    ∙ bit_at l s bits h.kept (Gate And (Net h.sum ∷ Net hw.run ∷ [])) settled h.gate
    ∙ and_bit (bits h.sum) (bits hw.run)
    ∙ (λ t. run_bit l ports config chains w hw s bits has settled t
    && (sum_bit l s bits h.sum (map (at_feed hw.stage_net hw.channel) (feeds config.ring i)) settled h.sums
    ∙ ap sum_bits (at_feeds bits hw.stage_net hw.channel (feeds config.ring i))
    ∙ feeds_step config.ring (λ j. bits (hw.channel j)) (λ k. bits (hw.stage_net k)) i less) t)

pub phase_bits : PhaseBits
phase_bits l ports config chains w hw s bits has settled chain cell stands =
    let h = has.phases chain cell stands in
    sum_bit l s bits h.sum (map hw.stage_net (phase_of config.ring chain)) settled h.sums
    ∙ ap sum_bits (at_nets bits hw.stage_net (phase_of config.ring chain))
    ∙ sum_of_bits (λ k. bits (hw.stage_net k)) (phase_of config.ring chain)

pub next_bit : (u m h : Bool) → bit_of Or (bit_of And (u ∷ m ∷ []) ∷ bit_of And (not u ∷ h ∷ []) ∷ []) ≡ (if u then m else h)
next_bit true true h = refl
next_bit true false h = refl
next_bit false m true = refl
next_bit false m false = refl

pub hold_bits : HoldBits
hold_bits l ports config chains w hw s bits has compactor settled chain less =
    let h : HasHold l hw chain = compactor.holds chain less in
    let taken = bit_at l s bits h.taken (Gate And (Net hw.update ∷ Net (hw.mask_net chain) ∷ [])) settled h.take in
    let kept = bit_at l s bits h.kept (Gate And (Net hw.run ∷ Net (hw.hold_net chain) ∷ [])) settled h.keep
    ∙ ap (λ t. bit_of And (t ∷ bits (hw.hold_net chain) ∷ [])) (run_bit l ports config chains w hw s bits has settled) in
    ap (λ (c : Cell). bit_from s bits c.takes.input) h.flop.cell
    ∙ bit_at l s bits h.next (Gate Or (Net h.taken ∷ Net h.kept ∷ [])) settled h.either
    ∙ (λ i. bit_of Or (taken i ∷ kept i ∷ []))
    ∙ next_bit (bits hw.update) (bits (hw.mask_net chain)) (bits (hw.hold_net chain))

pub gate_bit : (a b : Bool) → bit_of And (a ∷ b ∷ []) ≡ (a && b)
gate_bit true true = refl
gate_bit true false = refl
gate_bit false b = refl

gated_bit : (l : Logic) (config : Config) (chains : List (List InstanceId)) (hw : EdtNets) (s : Sources) (bits : ℕ → Bool) → HasCompactor l config chains hw → IsSettled l s bits → (chain : ℕ) → chain < config.chains →
    bits (hw.gated chain) ≡ (not (bits (hw.hold_net chain)) && bits (hw.end_net chain))
gated_bit l config chains hw s bits has settled chain less =
    let h : HasEnd l chains hw chain = has.ends chain less in
    bit_at l s bits (hw.gated chain) (Gate And (Net h.shown ∷ Net (hw.end_net chain) ∷ [])) settled h.gate
    ∙ gate_bit (bits h.shown) (bits (hw.end_net chain))
    ∙ ap (λ (t : Bool). t && bits (hw.end_net chain)) (bit_at l s bits h.shown (Gate Inv (Net (hw.hold_net chain) ∷ [])) settled h.show)

pub same_bits : (n : ℕ) (s r : ℕ → Bool) (ks : List ℕ) → All (λ k. k < n) ks → ((i : ℕ) → i < n → s i ≡ r i) → sum_of s ks ≡ sum_of r ks
same_bits n s r [] below p = refl
same_bits n s r (k ∷ ks) below p = λ t. xor (p k (below 0 k (omega arith)) t) (same_bits n s r ks (λ i y less. below (suc i) y (omega arith)) p t)

pub output_bits : OutputBits
output_bits l config chains hw s bits has range settled j less =
    let h : HasOutput l config hw j = has.outputs j less in
    bit_at l s bits (hw.output j) (Gate Buf (Net h.sum ∷ [])) settled h.buffer
    ∙ sum_bit l s bits h.sum (map hw.gated (group_of config j)) settled h.sums
    ∙ ap sum_bits (at_nets bits hw.gated (group_of config j))
    ∙ sum_of_bits (λ c. bits (hw.gated c)) (group_of config j)
    ∙ same_bits config.chains (λ c. bits (hw.gated c)) (λ c. not (bits (hw.hold_net c)) && bits (hw.end_net c)) (group_of config j) (group_below config j range less)
    (gated_bit l config chains hw s bits has settled)
