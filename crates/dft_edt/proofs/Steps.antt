-- One vector on the hardware, in the views of its domains.
use Rattle.std.proofs.Common.{ℕ, zero, suc, ◌+◌, ◌-◌, ◌*◌, ◌/◌, ◌%◌, min, Bool, true, false, List, [], ◌∷◌, ◌++◌, ◌≡◌, ◌==◌, ◌<◌, ◌≤◌, refl, sym, subst, ap, arith, map, length, ◌∙◌, Some, get_or, inl, inr}
use Rattle.std.specs.Prelude.{if◌then◌else◌, nat_lt, not, ◌&&◌}
use Rattle.std.specs.List.{All}
use Rattle.std.proofs.lemmas.Bool.{cases_lt}
use Rattle.std.proofs.lemmas.Bool.Decides.{nat_tests}
use Rattle.dft_base.specs.declared.tri.Tri.{Tri}
use Rattle.dft_base.specs.Tri.{known}
use Rattle.dft_netlist.specs.declared.ids.InstanceId.{InstanceId}
use Rattle.dft_cells.specs.FlipFlops.{forced_by, tri_taken_by, tri_forced_by}
use Rattle.dft_netlist.specs.Drivers.{Net}
use Rattle.dft_behavior.specs.Logic.{Logic, Ports, Cell, Flop, Lockup}
use Rattle.dft_behavior.specs.Settled.{Sources, TriSources, value_from, IsTriSettled}
use Rattle.dft_behavior.specs.Runs.{Now, Vector, next_now, set_step, set_ports, sources_of, port_bits, takes}
use Rattle.dft_behavior.proofs.SettledLemmas.{value_at}
use Rattle.dft_abstract.specs.Cycle.{Pulse, changes, view_sources, AreViews, after_pulse, rise_of, fall_of, strobe_sources, Half, Halves, AreHalves, after_halves}
use Rattle.dft_abstract.specs.Laws.{falls_from}
use Rattle.dft_abstract.proofs.Halves.{rising_after, falls_rest, falls_change}
use Rattle.dft_config.specs.declared.config.Tap.{Tap}
use Rattle.dft_config.specs.declared.config.Injector.{Injector}
use Rattle.dft_config.specs.declared.config.RingConfig.{RingConfig}
use Rattle.dft_config.specs.Config.{Config}
use Rattle.dft_config.specs.Range.{IsInRange}
use Rattle.dft_config.specs.Ring.{sum_of, phase_of}
use Rattle.dft_stitch.specs.Plans.{cell_at}
use Rattle.dft_chains.specs.Hardware.{ChainNets}
use Rattle.dft_chains.proofs.Shiftings.{own_net, rest_net, port_value, not_forced, takes_source, rise_takes, link_law}
use Rattle.dft_edt.specs.Feeds.{Feed, Stage, Channel, at_feed, tap_feeds, injector_feeds, feeds}
use Rattle.dft_parts.specs.SumTrees.{tri_sum}
use Rattle.dft_edt.specs.Hardware.{EdtNets, HasStage, HasPhase, HasRing, HeadsAre, HasHold, HasEnd, HasCompactor, before_in, group_of}
use Rattle.dft_config.specs.Segments.{segment_length, segment_start, chain_in}
use Rattle.dft_parts.specs.Standing.{IsFlop}
use Rattle.dft_edt.specs.Parts.{shown_by}
use Rattle.dft_edt.specs.Vectors.{IsEdtShift, ShiftLaw, ClearLaw, MaskLaw, HoldLaw, RestLaw, OutputLaw, OutputInRuns}
use Rattle.dft_edt.proofs.Sums.{AreThere, IsThere, same_feeds, known_sum, same_sum, same_sums}
use Rattle.dft_parts.proofs.Trees.{bit_at}
use Rattle.dft_edt.proofs.Parts.{stage_values, phase_value, hold_values, output_values, output_bits, group_below}

-- ---- what a configuration in range names is there

there_append : (ring : RingConfig) (fs gs : List Feed) → AreThere ring fs → AreThere ring gs → AreThere ring (fs ++ gs)
there_append ring [] gs p q = q
there_append ring (f ∷ fs) gs p q = (p.0, there_append ring fs gs p.1 q)

there_if : (ring : RingConfig) (b : Bool) (f : Feed) (fs : List Feed) → IsThere ring f → AreThere ring fs → AreThere ring (if b then f ∷ fs else fs)
there_if ring true f fs p q = (p, q)
there_if ring false f fs p q = q

taps_there : (ring : RingConfig) (taps : List Tap) (i : ℕ) → All (λ (tap : Tap). (tap.from < ring.stages) × (tap.to < ring.stages)) taps → AreThere ring (tap_feeds taps i)
taps_there ring [] i all = tt
taps_there ring (tap ∷ taps) i all =
    there_if ring (tap.to == i) (Stage tap.from) (tap_feeds taps i) (all 0 tap (omega arith)).0 (taps_there ring taps i (λ k d less. all (suc k) d (omega arith)))

injectors_there : (ring : RingConfig) (injectors : List Injector) (i : ℕ) → All (λ (injector : Injector). (injector.channel < ring.channels) × (injector.stage < ring.stages)) injectors → AreThere ring (injector_feeds injectors i)
injectors_there ring [] i all = tt
injectors_there ring (injector ∷ injectors) i all =
    there_if ring (injector.stage == i) (Channel injector.channel) (injector_feeds injectors i) (all 0 injector (omega arith)).0 (injectors_there ring injectors i (λ k d less. all (suc k) d (omega arith)))

pub feeds_there : (config : Config) (i : ℕ) → IsInRange config → AreThere config.ring (feeds config.ring i)
feeds_there config i range =
    let some = range.ring.stages.0 in
    (omega arith, there_append config.ring (tap_feeds config.ring.taps i) (injector_feeds config.ring.injectors i) (taps_there config.ring config.ring.taps i range.ring.taps) (injectors_there config.ring config.ring.injectors i range.ring.injectors))

all_of_none : (P : ℕ → Type 0) → All P []
all_of_none P k d less = absurd (omega arith)

get_past : (xs : List (List ℕ)) (k : ℕ) → length xs ≤ k → get_or xs k [] ≡ []
get_past [] k past = refl
get_past (x ∷ xs) zero past = absurd (omega arith)
get_past (x ∷ xs) (suc k) past = get_past xs k (omega arith)

pub phase_below : (config : Config) (chain : ℕ) → IsInRange config → All (λ k. k < config.ring.stages) (phase_of config.ring chain)
phase_below config chain range = elim (cases_lt chain (length config.ring.phase)) [
  | inl less ↦ (range.ring.phase chain [] less).below
  | inr past ↦ subst (λ (ks : List ℕ). All (λ k. k < config.ring.stages) ks) (sym (get_past config.ring.phase chain past)) (all_of_none (λ k. k < config.ring.stages))
]

-- ---- flip-flops of edt_clock

-- what a net of such a flip-flop has in the view of edt_clock, and what the flip-flop has after the vector
pub flop_net : (l : Logic) (x : Vector) (old poss : ℕ → Tri) (view : ℕ → ℕ → Tri) (clock flop output input : ℕ) → AreViews l (rise_of l x old) poss view → IsFlop l clock flop output input → view clock output ≡ old flop
flop_net l x old poss view clock flop output input views is =
    own_net l (rise_of l x old) poss view clock flop output views is.net (ap (λ (c : Cell). c.domain) is.cell)
    ∙ ap (λ (c : Cell). tri_forced_by c.forces x.ports (old flop)) is.cell

-- they are rising cells
flop_halves : (l : Logic) (x : Vector) (old : ℕ → Tri) (h : Halves) (clock flop output input : ℕ) → IsFlop l clock flop output input → after_halves l x old h flop ≡ after_pulse l (rise_of l x old) h.rise.view flop
flop_halves l x old h clock flop output input is = rising_after l x old h flop (ap (λ (c : Cell). c.falling) is.cell)

pub flop_after : (l : Logic) (x : Vector) (old : ℕ → Tri) (h : Halves) (clock flop output input : ℕ) → x.pulsed clock ≡ true → IsFlop l clock flop output input →
    after_halves l x old h flop ≡ value_from (h.rise.view clock) (l.cell flop).takes.input
flop_after l x old h clock flop output input pulsed is =
    let p : Pulse = rise_of l x old in
    let view : ℕ → ℕ → Tri = h.rise.view in
    flop_halves l x old h clock flop output input is
    ∙ ap (λ (c : Cell). if p.pulsed c.domain && takes p.rising c.falling then tri_forced_by c.forces p.ports (tri_taken_by c.takes (p.old flop) (value_from (view c.domain))) else p.old flop) is.cell
    ∙ ap (λ (b : Bool). if b && true then view clock input else p.old flop) pulsed
    ∙ sym (ap (λ (c : Cell). value_from (view clock) c.takes.input) is.cell)

-- ---- the ring

stage_net_value : (l : Logic) (ports : Ports) (config : Config) (chains : List (List InstanceId)) (w : ChainNets) (hw : EdtNets) (x : Vector) (old poss : ℕ → Tri) (view : ℕ → ℕ → Tri) →
    HasRing l ports config chains w hw → AreViews l (rise_of l x old) poss view → (i : ℕ) → i < config.ring.stages → view hw.clock (hw.stage_net i) ≡ old (hw.stage i)
stage_net_value l ports config chains w hw x old poss view has views i less =
    let h : HasStage l config.ring hw i = has.stages i less in
    flop_net l x old poss view hw.clock (hw.stage i) (hw.stage_net i) h.kept views h.flop

pub clear_law : ClearLaw
clear_law l ports config chains w hw x old halves has clearing are i less =
    let poss : ℕ → Tri = halves.rise.poss in
    let view : ℕ → ℕ → Tri = halves.rise.view in
    let views : AreViews l (rise_of l x old) poss view = are.rise in
    let h : HasStage l config.ring hw i = has.stages i less in
    let p : Pulse = rise_of l x old in
    flop_after l x old halves hw.clock (hw.stage i) (hw.stage_net i) h.kept clearing.clock h.flop
    ∙ (stage_values l ports config chains w hw (view_sources l p poss view hw.clock) (view hw.clock) has (views hw.clock) i less).1
    (port_value l p poss view hw.clock hw.update views has.update ∙ clearing.update)

pub stage_after : (l : Logic) (ports : Ports) (config : Config) (chains : List (List InstanceId)) (w : ChainNets) (hw : EdtNets) (x : Vector) (old : ℕ → Tri) (halves : Halves) →
    (has : HasRing l ports config chains w hw) → (range : IsInRange config) → (shift : IsEdtShift ports w hw x) → (are : AreHalves l x old halves) → (i : ℕ) → (less : i < config.ring.stages) →
    after_halves l x old halves (hw.stage i) ≡ tri_sum (map (at_feed (λ k. old (hw.stage k)) (λ j. x.ports (hw.channel j))) (feeds config.ring i))
stage_after l ports config chains w hw x old halves has range shift are i less =
    let poss : ℕ → Tri = halves.rise.poss in
    let view : ℕ → ℕ → Tri = halves.rise.view in
    let views : AreViews l (rise_of l x old) poss view = are.rise in
    let h : HasStage l config.ring hw i = has.stages i less in
    let p : Pulse = rise_of l x old in
    flop_after l x old halves hw.clock (hw.stage i) (hw.stage_net i) h.kept shift.clock h.flop
    ∙ (stage_values l ports config chains w hw (view_sources l p poss view hw.clock) (view hw.clock) has (views hw.clock) i less).0
    (port_value l p poss view hw.clock hw.update views has.update ∙ shift.update)
    ∙ ap tri_sum (same_feeds config.ring (λ k. view hw.clock (hw.stage_net k)) (λ j. view hw.clock (hw.channel j)) (λ k. old (hw.stage k)) (λ j. x.ports (hw.channel j)) (feeds config.ring i) (feeds_there config i range)
    (stage_net_value l ports config chains w hw x old poss view has views)
    (λ j inside. port_value l p poss view hw.clock (hw.channel j) views (has.channels j inside)))

-- ---- the first cells of chains

-- in the falls the stages rest, and their nets show them
pub stage_falls : (l : Logic) (ports : Ports) (config : Config) (chains : List (List InstanceId)) (w : ChainNets) (hw : EdtNets) (x : Vector) (old : ℕ → Tri) → HasRing l ports config chains w hw → (i : ℕ) → i < config.ring.stages → changes l (falls_from x old) (hw.stage i) ≡ false
stage_falls l ports config chains w hw x old has i less =
    let h : HasStage l config.ring hw i = has.stages i less in
    falls_rest l (falls_from x old) (hw.stage i) (ap (λ (c : Cell). c.falling) h.flop.cell) refl

-- a falling first cell takes its phase sum of the stages as they are then
pub first_falls : (l : Logic) (ports : Ports) (config : Config) (chains : List (List InstanceId)) (w : ChainNets) (hw : EdtNets) (x : Vector) (old : ℕ → Tri) (half : Half) (chain : ℕ) (cell : InstanceId) →
    (has : HasRing l ports config chains w hw) → IsInRange config → IsEdtShift ports w hw x → AreViews l (falls_from x old) half.poss half.view → cell_at chains chain zero ≡ Some cell → (l.cell cell.0).falling ≡ true → HasPhase l config.ring hw (w.into chain zero) true chain →
    after_pulse l (falls_from x old) half.view cell.0 ≡ tri_sum (map (λ k. old (hw.stage k)) (phase_of config.ring chain))
first_falls l ports config chains w hw x old half chain cell has range shift are stands falls h =
    let q : Pulse = falls_from x old in
    let poss : ℕ → Tri = half.poss in
    let view : ℕ → ℕ → Tri = half.view in
    let d : ℕ = (l.cell cell.0).domain in
    let is = has.chained.cells chain zero cell stands in
    takes_source l ports chains w x q poss view (w.into chain zero) cell.0 has.chained shift.shift refl are (falls_change l q cell.0 falls refl ∙ shift.shift.domains d is.domain) is
    ∙ ap (value_from (view d)) h.entered
    ∙ phase_value l config hw (w.into chain zero) true (view_sources l q poss view d) (view d) chain h (are d)
    ∙ ap tri_sum (same_sum config.ring.stages (λ k. view d (hw.stage_net k)) (λ k. old (hw.stage k)) (phase_of config.ring chain) (phase_below config chain range)
    (λ k less. rest_net l q poss view d (hw.stage k) (hw.stage_net k) are (has.stages k less).flop.net (stage_falls l ports config chains w hw x old has k less)))

pub first_by : (l : Logic) (ports : Ports) (config : Config) (chains : List (List InstanceId)) (w : ChainNets) (hw : EdtNets) (x : Vector) (old : ℕ → Tri) (halves : Halves) (chain : ℕ) (cell : InstanceId) (falling : Bool) →
    (has : HasRing l ports config chains w hw) → IsInRange config → IsEdtShift ports w hw x → AreHalves l x old halves → cell_at chains chain zero ≡ Some cell → (l.cell cell.0).falling ≡ falling → HasPhase l config.ring hw (w.into chain zero) falling chain →
    after_halves l x old halves cell.0 ≡ tri_sum (map (λ k. (if falling then after_halves l x old halves else old) (hw.stage k)) (phase_of config.ring chain))
first_by l ports config chains w hw x old halves chain cell false has range shift are stands rises h =
    let poss : ℕ → Tri = halves.rise.poss in
    let view : ℕ → ℕ → Tri = halves.rise.view in
    let views : AreViews l (rise_of l x old) poss view = are.rise in
    let p : Pulse = rise_of l x old in
    let d : ℕ = (l.cell cell.0).domain in
    let latched = h.entered in
    rise_takes l ports chains w x old halves (w.into chain zero) cell.0 has.chained shift.shift are rises (has.chained.cells chain zero cell stands)
    ∙ ap (value_from (view d)) latched.leads
    ∙ value_at l (view_sources l p poss view d) (view d) latched.entry (Lockup latched.lockup hw.clock false (Net h.sum)) (views d) latched.latch
    ∙ phase_value l config hw (w.into chain zero) false (view_sources l p poss view hw.clock) (view hw.clock) chain h (views hw.clock)
    ∙ ap tri_sum (same_sum config.ring.stages (λ k. view hw.clock (hw.stage_net k)) (λ k. old (hw.stage k)) (phase_of config.ring chain) (phase_below config chain range)
    (stage_net_value l ports config chains w hw x old poss view has views))
first_by l ports config chains w hw x old halves chain cell true has range shift are stands falls h =
    let risen : ℕ → Tri = (fall_of l x old halves.rise.view).old in
    first_falls l ports config chains w hw x risen halves.fall chain cell has range shift are.fall stands falls h
    ∙ ap tri_sum (same_sum config.ring.stages (λ k. risen (hw.stage k)) (λ k. after_halves l x old halves (hw.stage k)) (phase_of config.ring chain) (phase_below config chain range)
    (λ k less. (let stage : HasStage l config.ring hw k = has.stages k less in sym (flop_halves l x old halves hw.clock (hw.stage k) (hw.stage_net k) stage.kept stage.flop))))

first_after : (l : Logic) (ports : Ports) (config : Config) (chains : List (List InstanceId)) (w : ChainNets) (hw : EdtNets) (falling : ℕ → Bool) (x : Vector) (old : ℕ → Tri) (halves : Halves) →
    HasRing l ports config chains w hw → HeadsAre l chains falling → IsInRange config → IsEdtShift ports w hw x → AreHalves l x old halves → (chain : ℕ) (cell : InstanceId) → cell_at chains chain zero ≡ Some cell →
    after_halves l x old halves cell.0 ≡ tri_sum (map (λ k. (if falling chain then after_halves l x old halves else old) (hw.stage k)) (phase_of config.ring chain))
first_after l ports config chains w hw falling x old halves has heads range shift are chain cell stands =
    first_by l ports config chains w hw x old halves chain cell (falling chain) has range shift are stands (heads chain cell stands)
    (subst (λ (b : Bool). HasPhase l config.ring hw (w.into chain zero) b chain) (heads chain cell stands) (has.phases chain cell stands))

pub shift_law : ShiftLaw
shift_law l ports config chains w hw falling x old halves has heads range shift are = record {
  stages = stage_after l ports config chains w hw x old halves has range shift are;
  firsts = first_after l ports config chains w hw falling x old halves has heads range shift are;
  others = link_law l ports chains w x old halves has.chained shift.shift are;
}

-- ---- masks and hold bits

mask_net_value : (l : Logic) (config : Config) (chains : List (List InstanceId)) (hw : EdtNets) (x : Vector) (old poss : ℕ → Tri) (view : ℕ → ℕ → Tri) → HasCompactor l config chains hw → AreViews l (rise_of l x old) poss view →
    (m k : ℕ) → m < config.compactor.mask_inputs → k < segment_length config m → view hw.clock (hw.mask_net (chain_in config m k)) ≡ old (hw.mask (chain_in config m k))
mask_net_value l config chains hw x old poss view has views m k m_less k_less =
    flop_net l x old poss view hw.clock (hw.mask (chain_in config m k)) (hw.mask_net (chain_in config m k)) (before_in config hw.mask_port hw.mask_net m k) views (has.masks m k m_less k_less)

before_value : (l : Logic) (config : Config) (chains : List (List InstanceId)) (hw : EdtNets) (x : Vector) (old poss : ℕ → Tri) (view : ℕ → ℕ → Tri) → HasCompactor l config chains hw → AreViews l (rise_of l x old) poss view →
    (m k : ℕ) → m < config.compactor.mask_inputs → k < segment_length config m →
    view hw.clock (before_in config hw.mask_port hw.mask_net m k) ≡ before_in config (λ i. x.ports (hw.mask_port i)) (λ chain. old (hw.mask chain)) m k
before_value l config chains hw x old poss view has views m zero m_less k_less = port_value l (rise_of l x old) poss view hw.clock (hw.mask_port m) views (has.ports m m_less)
before_value l config chains hw x old poss view has views m (suc k) m_less k_less = mask_net_value l config chains hw x old poss view has views m k m_less (omega arith)

pub mask_law : MaskLaw
mask_law l config chains hw x old halves has pulsed are m k m_less k_less =
    let poss : ℕ → Tri = halves.rise.poss in
    let view : ℕ → ℕ → Tri = halves.rise.view in
    let views : AreViews l (rise_of l x old) poss view = are.rise in
    let is = has.masks m k m_less k_less in
    flop_after l x old halves hw.clock (hw.mask (chain_in config m k)) (hw.mask_net (chain_in config m k)) (before_in config hw.mask_port hw.mask_net m k) pulsed is
    ∙ ap (λ (c : Cell). value_from (view hw.clock) c.takes.input) is.cell
    ∙ before_value l config chains hw x old poss view has views m k m_less k_less

-- each chain stands in a segment
pub record Standing (config : Config) (chain : ℕ) : Type 0 where
  pub segment : ℕ
  pub place : ℕ
  pub in_segments : segment < config.compactor.mask_inputs
  pub in_segment : place < segment_length config segment
  pub there : chain_in config segment place ≡ chain

standing_at : (config : Config) (m chain place : ℕ) → m < config.compactor.mask_inputs → place < segment_length config m → segment_start config m + place ≡ chain → Standing config chain
standing_at config m chain place m_less place_less there = record { segment = m; place = place; in_segments = m_less; in_segment = place_less; there = there }

standing_before : (config : Config) (segments chain : ℕ) → segments ≤ config.compactor.mask_inputs → chain < segment_start config segments → Standing config chain
standing_before config zero chain within less = absurd (omega arith)
standing_before config (suc m) chain within less = elim (cases_lt chain (segment_start config m)) [
  | inl before ↦ standing_before config m chain (omega arith) before
  | inr past ↦ standing_at config m chain (chain - segment_start config m) (omega arith) (omega arith) (omega arith)
]

extra_parts : (items parts m : ℕ) (b : Bool) → nat_lt m (items % parts) ≡ b → min m (items % parts) + (if b then 1 else 0) ≡ min (suc m) (items % parts)
extra_parts items parts m true h = let less : m < items % parts = grind (arith, nat_tests) in omega arith
extra_parts items parts m false h = let past : items % parts ≤ m = grind (arith, nat_tests) in omega arith

start_is : (config : Config) (m : ℕ) → segment_start config m ≡ m * (config.chains / config.compactor.mask_inputs) + min m (config.chains % config.compactor.mask_inputs)
start_is config zero = omega arith
start_is config (suc m) =
    let each : ℕ = config.chains / config.compactor.mask_inputs in
    let left : ℕ = config.chains % config.compactor.mask_inputs in
    let rest = start_is config m in
    let more = extra_parts config.chains config.compactor.mask_inputs m (nat_lt m left) refl in
    let times : suc m * each ≡ each + m * each = omega arith in
    omega (arith, rest, more, times)

pub all_segments : (config : Config) → 1 ≤ config.compactor.mask_inputs → segment_start config config.compactor.mask_inputs ≡ config.chains
all_segments config some =
    let segments : ℕ = config.compactor.mask_inputs in
    let at = start_is config segments in
    let less : config.chains % segments < segments = omega arith in
    let whole : segments * (config.chains / segments) + config.chains % segments ≡ config.chains = omega arith in
    omega (arith, at, less, whole)

pub standing : (config : Config) (chain : ℕ) → IsInRange config → chain < config.chains → Standing config chain
standing config chain range less =
    standing_before config config.compactor.mask_inputs chain (omega arith) (let all = all_segments config range.compactor.mask_inputs.0 in omega arith)

chain_mask : (l : Logic) (config : Config) (chains : List (List InstanceId)) (hw : EdtNets) (x : Vector) (old poss : ℕ → Tri) (view : ℕ → ℕ → Tri) → HasCompactor l config chains hw → IsInRange config → AreViews l (rise_of l x old) poss view →
    (chain : ℕ) → chain < config.chains → view hw.clock (hw.mask_net chain) ≡ old (hw.mask chain)
chain_mask l config chains hw x old poss view has range views chain less =
    let at : Standing config chain = standing config chain range less in
    subst (λ (c : ℕ). view hw.clock (hw.mask_net c) ≡ old (hw.mask c)) at.there (mask_net_value l config chains hw x old poss view has views at.segment at.place at.in_segments at.in_segment)

pub hold_law : HoldLaw
hold_law l ports config chains w hw x old halves ring has range pulsed are =
    let poss : ℕ → Tri = halves.rise.poss in
    let view : ℕ → ℕ → Tri = halves.rise.view in
    let views : AreViews l (rise_of l x old) poss view = are.rise in
    let p : Pulse = rise_of l x old in
    let values = λ (chain : ℕ) (less : chain < config.chains). hold_values l ports config chains w hw (view_sources l p poss view hw.clock) (view hw.clock) ring has (views hw.clock) chain less in
    let after = λ (chain : ℕ) (less : chain < config.chains). (let h : HasHold l hw chain = has.holds chain less in flop_after l x old halves hw.clock (hw.hold chain) (hw.hold_net chain) h.next pulsed h.flop) in (
      λ off chain less. (let h : HasHold l hw chain = has.holds chain less in
          after chain less ∙ (values chain less).0 (port_value l p poss view hw.clock hw.update views ring.update ∙ off) ∙ flop_net l x old poss view hw.clock (hw.hold chain) (hw.hold_net chain) h.next views h.flop),
      λ on chain less. after chain less ∙ (values chain less).1 (port_value l p poss view hw.clock hw.update views ring.update ∙ on) ∙ chain_mask l config chains hw x old poss view has range views chain less,
    )

-- ---- a vector in which edt_clock rests

flop_rests : (l : Logic) (x : Vector) (old : ℕ → Tri) (h : Halves) (clock flop output input : ℕ) → x.pulsed clock ≡ false → IsFlop l clock flop output input → after_halves l x old h flop ≡ old flop
flop_rests l x old h clock flop output input rests is =
    let p : Pulse = rise_of l x old in
    let view : ℕ → ℕ → Tri = h.rise.view in
    flop_halves l x old h clock flop output input is
    ∙ ap (λ (c : Cell). if p.pulsed c.domain && takes p.rising c.falling then tri_forced_by c.forces p.ports (tri_taken_by c.takes (p.old flop) (value_from (view c.domain))) else tri_forced_by c.forces x.ports (old flop)) is.cell
    ∙ ap (λ (b : Bool). if b && true then view clock input else old flop) rests

-- so a mask bit stays, by its segment and its place
pub mask_rests : (l : Logic) (config : Config) (chains : List (List InstanceId)) (hw : EdtNets) (x : Vector) (old : ℕ → Tri) (h : Halves) → HasCompactor l config chains hw → x.pulsed hw.clock ≡ false →
    (m k : ℕ) → m < config.compactor.mask_inputs → k < segment_length config m → after_halves l x old h (hw.mask (chain_in config m k)) ≡ old (hw.mask (chain_in config m k))
mask_rests l config chains hw x old h has rests m k m_less k_less =
    flop_rests l x old h hw.clock (hw.mask (chain_in config m k)) (hw.mask_net (chain_in config m k)) (before_in config hw.mask_port hw.mask_net m k) rests (has.masks m k m_less k_less)

pub rest_law : RestLaw
rest_law l ports config chains w hw x old halves ring has range rests = (
  λ i less. (let h : HasStage l config.ring hw i = ring.stages i less in flop_rests l x old halves hw.clock (hw.stage i) (hw.stage_net i) h.kept rests h.flop),
  λ chain less. (
      let at : Standing config chain = standing config chain range less in
      subst (λ (c : ℕ). after_halves l x old halves (hw.mask c) ≡ old (hw.mask c)) at.there
      (mask_rests l config chains hw x old halves has rests at.segment at.place at.in_segments at.in_segment)
      ),
  λ chain less. (let h : HasHold l hw chain = has.holds chain less in flop_rests l x old halves hw.clock (hw.hold chain) (hw.hold_net chain) h.next rests h.flop),
)

-- ---- the outputs at a strobe

pub output_law : OutputLaw
output_law l config chains hw x old values has range settled last at j less =
    let s : TriSources = strobe_sources l x old values in
    output_values l config chains hw s values has range settled j less
    ∙ ap tri_sum (same_sum config.chains (λ c. shown_by (values (hw.hold_net c)) (values (hw.end_net c))) (λ c. shown_by (old (hw.hold c)) (last c)) (group_of config j) (group_below config j range less)
    (λ c c_less. (
    let h : HasHold l hw c = has.holds c c_less in
    let e : HasEnd l chains hw c = has.ends c c_less in
    let held : values (hw.hold_net c) ≡ old (hw.hold c) =
    value_at l s values (hw.hold_net c) (Flop (hw.hold c) false) settled h.flop.net ∙ ap (λ (y : Cell). tri_forced_by y.forces x.ports (old (hw.hold c))) h.flop.cell in
    let ended : values (hw.end_net c) ≡ last c = value_at l s values (hw.end_net c) (Flop e.cell.0 false) settled e.end ∙ sym (at c c_less) in
    λ i. shown_by (held i) (ended i)
    )))

-- what an output shows at the strobe of a shift vector, where what the compactor takes of each chain is known
pub shifts_shown : (l : Logic) (ports : Ports) (config : Config) (chains : List (List InstanceId)) (w : ChainNets) (hw : EdtNets) (x : Vector) (old values : ℕ → Tri) →
    (ring : HasRing l ports config chains w hw) → (has : HasCompactor l config chains hw) → (range : IsInRange config) → (shift : IsEdtShift ports w hw x) → (settled : IsTriSettled l (strobe_sources l x old values) values) → (j : ℕ) → j < length config.compactor.groups →
    (taken : ℕ → Bool) → (is : ((chain : ℕ) (less : chain < config.chains) → shown_by (old (hw.hold chain)) (old ((has.ends chain less).cell.0)) ≡ known (taken chain))) → values (hw.output j) ≡ known (sum_of taken (group_of config j))
shifts_shown l ports config chains w hw x old values ring has range shift settled j less taken is =
    let s : TriSources = strobe_sources l x old values in
    output_values l config chains hw s values has range settled j less
    ∙ known_sum config.chains (λ c. shown_by (values (hw.hold_net c)) (values (hw.end_net c))) taken (group_of config j) (group_below config j range less)
    (λ c c_less. (
    let h : HasHold l hw c = has.holds c c_less in
    let e : HasEnd l chains hw c = has.ends c c_less in
    let held : values (hw.hold_net c) ≡ old (hw.hold c) =
    value_at l s values (hw.hold_net c) (Flop (hw.hold c) false) settled h.flop.net ∙ ap (λ (y : Cell). tri_forced_by y.forces x.ports (old (hw.hold c))) h.flop.cell in
    let ended : values (hw.end_net c) ≡ old e.cell.0 =
    value_at l s values (hw.end_net c) (Flop e.cell.0 false) settled e.end
    ∙ not_forced ports w.enable x (l.cell e.cell.0).forces (old e.cell.0) (ring.chained.cells c e.place e.cell e.here).forces shift.shift in
    (λ i. shown_by (held i) (ended i)) ∙ is c c_less
    ))

pub output_in_runs : OutputInRuns
output_in_runs l config chains hw x now t has range turn last at j less =
    let then_ : Now = next_now l now (set_step x t) in
    let s : Sources = sources_of then_ in
    output_bits l config chains hw s t.strobe.seen has range turn.steps.0 j less
    ∙ same_sums (λ c. not (t.strobe.seen (hw.hold_net c)) && t.strobe.seen (hw.end_net c)) (λ c. not (now.state.flops (hw.hold c)) && last c) config.chains (group_of config j) (group_below config j range less)
    (λ c c_less. (
    let h : HasHold l hw c = has.holds c c_less in
    let e : HasEnd l chains hw c = has.ends c c_less in
    let held : t.strobe.seen (hw.hold_net c) ≡ now.state.flops (hw.hold c) =
    bit_at l s t.strobe.seen (hw.hold_net c) (Flop (hw.hold c) false) turn.steps.0 h.flop.net ∙ ap (λ (y : Cell). forced_by y.forces (port_bits (set_ports now x.ports) t.strobe) (now.state.flops (hw.hold c))) h.flop.cell in
    let ended : t.strobe.seen (hw.end_net c) ≡ last c = bit_at l s t.strobe.seen (hw.end_net c) (Flop e.cell.0 false) turn.steps.0 e.end ∙ sym (at c c_less) in
    λ i. not (held i) && ended i
    ))
