-- A signal that pulses in some listed vector is low or pulses in each.
use Rattle.std.proofs.Common.{ℕ, zero, suc, ◌+◌, ◌≡◌, ◌==◌, Bool, true, false, List, [], ◌∷◌, ◌++◌, length, map, get_or, Option, None, Some, slice_get, refl, sym, ap, subst, ◌∙◌}
use Rattle.std.specs.Prelude.{if◌then◌else◌, replicate, ◌≢◌}
use Rattle.std.specs.List.{AllZip, AllByRecursion}
use Rattle.std.proofs.lemmas.Bool.{eqb-true, false_from_ne_true}
use Rattle.std.proofs.lemmas.List.{append_assoc}
use Rattle.dft_base.specs.declared.tri.Tri.{Tri}
use Rattle.dft_base.specs.declared.tri.Tri.TheVariants.{Zero, One, Unknown}
use Rattle.dft_base.specs.Solutions.{bit_at}
use Rattle.dft_base.proofs.BitLemmas.{true_false}
use Rattle.dft_netlist.specs.declared.ids.NetId.{NetId}
use Rattle.dft_netlist.specs.Netlist.{Netlist}
use Rattle.dft_behavior.specs.Runs.{Vector}
use Rattle.dft_config.specs.Config.{Config}
use Rattle.dft_config.specs.Range.{IsInRange}
use Rattle.dft_config.specs.Ring.{Table}
use Rattle.dft_stitch.specs.Chains.{plan_of}
use Rattle.dft_config.specs.Segments.{sent_mask}
use Rattle.dft_stitch.specs.Plans.{falling_head}
use Rattle.dft_cubes.specs.declared.cube.Merged.{Merged}
use Rattle.dft_cubes.specs.Domains.{later_of}
use Rattle.dft_encode.specs.Laws.{HasOutputs}
use Rattle.dft_expect.specs.Captures.{bit_of_port, config_ports, output_bits, port_value, vector_of}
use Rattle.dft_expect.specs.Expected.{output_bit}
use Rattle.dft_expect.specs.Masks.{by_chain}
use Rattle.dft_patterns.specs.Patterns.{IsSteady, Patterns}
use Rattle.dft_patterns.specs.declared.act.Act.{Act}
use Rattle.dft_patterns.specs.declared.act.Act.TheVariants.{Unset, Low, High, Pulse, ExpectLow, ExpectHigh, Ignore}
use Rattle.dft_pattern_behavior.proofs.Clocks.{pulsed_clock, reset_rests}
use Rattle.dft_vectors.specs.AddedPorts.{added_inputs, no_bits, ring_clock, set_all, shifting}
use Rattle.dft_vectors.specs.OwnPorts.{compare, driven, expect, ignored, inputs_by, outputs_ignored, pulsing_vector, quiet_vector, set_to}
use Rattle.dft_vectors.specs.PatternData.{PatternData}
use Rattle.dft_vectors.specs.Signals.{input_bits}
use Rattle.dft_vectors.specs.VectorList.{capture_acts, capture_with, set_up_acts, shift_acts, unloaded, vectors_of}
use Rattle.dft_pattern_behavior.proofs.Playing.{act_by, bits_from}
use Rattle.dft_compile_laws.proofs.Full.{captures_each, each_listed, zip_append}
use Rattle.dft_compile_laws.proofs.Sides.{capture_outs, no_outs, shift_outs}

-- a clock is low or pulses, and no other signal pulses
abbrev Fit : (clock : Bool) → Act → Type 0
Fit true Low = Unit {0}
Fit true Pulse = Unit {0}
Fit true High = ⊥
Fit true Unset = ⊥
Fit true ExpectLow = ⊥
Fit true ExpectHigh = ⊥
Fit true Ignore = ⊥
Fit false Pulse = ⊥
Fit false Low = Unit {0}
Fit false High = Unit {0}
Fit false Unset = Unit {0}
Fit false ExpectLow = Unit {0}
Fit false ExpectHigh = Unit {0}
Fit false Ignore = Unit {0}

abbrev none_of : ℕ → List Bool
none_of count = replicate count false

-- ---- which signals are clocks

abbrev is_clock : Netlist → Config → NetId → Bool
is_clock n config k = (config_ports n config).is_clock k.0

abbrev own_flags : Netlist → Config → List Bool
own_flags n config = map (is_clock n config) (input_bits n.ports)

abbrev added_flags : Config → List Bool
added_flags config = false ∷ true ∷ false ∷ (none_of config.ring.channels ++ none_of config.compactor.mask_inputs)

abbrev out_flags : Netlist → Config → List Bool
out_flags n config = none_of (length (output_bits n.ports)) ++ none_of (length config.compactor.groups)

abbrev flags : Netlist → Config → List Bool
flags n config = own_flags n config ++ (added_flags config ++ out_flags n config)

-- ---- parts of vectors

bit_fits : (b : Bool) → Fit false (set_to b)
bit_fits true = tt
bit_fits false = tt

bits_fit : (from count : ℕ) (bits : ℕ → Bool) → AllZip Fit (none_of count) (bits_from bits from count)
bits_fit from zero bits = tt
bits_fit from (suc count) bits = (bit_fits (bits from), bits_fit (from + 1) count bits)

-- edt_clock may pulse
ring_fits : (pulse : Bool) → Fit true (ring_clock pulse)
ring_fits true = tt
ring_fits false = tt

added_fit : (config : Config) (enable pulse update : Bool) (channels masks : ℕ → Bool) → AllZip Fit (added_flags config) (added_inputs config enable pulse update channels masks)
added_fit config enable pulse update channels masks = (
  bit_fits enable,
  (
    ring_fits pulse,
    (
      bit_fits update,
      zip_append Fit (none_of config.ring.channels) (none_of config.compactor.mask_inputs) (set_all config.ring.channels channels) (set_all config.compactor.mask_inputs masks) (bits_fit 0 config.ring.channels channels)
          (bits_fit 0 config.compactor.mask_inputs masks),
    ),
  ),
)

ignored_fit : (count : ℕ) → AllZip Fit (none_of count) (ignored count)
ignored_fit zero = tt
ignored_fit (suc count) = (tt, ignored_fit count)

expect_fits : (b : Bool) → Fit false (expect b)
expect_fits true = tt
expect_fits false = tt

expected_fit : (bit : List ℕ → Bool) (groups : List (List ℕ)) → AllZip Fit (none_of (length groups)) (map (λ group. expect (bit group)) groups)
expected_fit bit [] = tt
expected_fit bit (group ∷ groups) = (expect_fits (bit group), expected_fit bit groups)

compare_fits : (t : Tri) → Fit false (compare t)
compare_fits Zero = tt
compare_fits One = tt
compare_fits Unknown = tt

captured_fit : (outputs : List Tri) → AllZip Fit (none_of (length outputs)) (map compare outputs)
captured_fit [] = tt
captured_fit (t ∷ outputs) = (compare_fits t, captured_fit outputs)

-- ---- the design's inputs

fit_by : (clock pulsed : Bool) (t : Tri) → (clock ≡ true → t ≡ Zero) → (clock ≡ false → pulsed ≡ false) → Fit clock (driven pulsed t)
fit_by true true t low rests = tt
fit_by true false Zero low rests = tt
fit_by true false One low rests = absurd (let e = low refl in cc)
fit_by true false Unknown low rests = absurd (let e = low refl in cc)
fit_by false true t low rests = absurd (true_false true refl (rests refl))
fit_by false false Zero low rests = tt
fit_by false false One low rests = tt
fit_by false false Unknown low rests = tt

own_fit : (n : Netlist) (config : Config) (v : Vector) (own : List NetId) → ((k : NetId) → Fit (is_clock n config k) (act_by v k)) → AllZip Fit (map (is_clock n config) own) (map (act_by v) own)
own_fit n config v [] fits = tt
own_fit n config v (k ∷ own) fits = (fits k, own_fit n config v own fits)

-- a clock is no reset, so it rests at 0 where it is given no bit
clock_low : (n : Netlist) (config : Config) (k : ℕ) (given : Option Bool) → IsInRange config → given ≡ None → (config_ports n config).is_clock k ≡ true → port_value ((config_ports n config).is_reset k) given ≡ Zero
clock_low n config k given range none clock =
    let reset : (config_ports n config).is_reset k ≡ false = false_from_ne_true ((config_ports n config).is_reset k) (λ is. true_false ((config_ports n config).is_clock k) clock (reset_rests n config k range is)) in
    ap (λ (g : Option Bool). port_value ((config_ports n config).is_reset k) g) none ∙ ap (λ (b : Bool). port_value b None) reset

abbrev pub GivesNoClock : Netlist → Config → Merged → Type 0
GivesNoClock n config merged = (j : ℕ) (given : NetId × Bool) → slice_get merged.ports j ≡ Some given → (config_ports n config).is_clock given.0.0 ≡ false

-- a pattern that gives no clock a bit, and captures a value for each output bit in each of its vectors
abbrev pub Gives : Netlist → Config → PatternData → Type 0
Gives n config p = GivesNoClock n config p.merged × HasOutputs n p

none_given : (n : Netlist) (config : Config) (k : ℕ) (ports : List (NetId × Bool)) → ((j : ℕ) (given : NetId × Bool) → slice_get ports j ≡ Some given → (config_ports n config).is_clock given.0.0 ≡ false) → (config_ports n config).is_clock k ≡ true →
    bit_of_port ports k ≡ None
none_given n config k [] h clock = refl
none_given n config k (given ∷ ports) h clock =
    let apart : (given.0.0 == k) ≡ false = false_from_ne_true (given.0.0 == k) (λ is. true_false ((config_ports n config).is_clock k) clock (ap (config_ports n config).is_clock (sym (eqb-true given.0.0 k is)) ∙ h 0 given refl)) in
    ap (λ (b : Bool). if b then Some given.1 else bit_of_port ports k) apart ∙ none_given n config k ports (λ j other at. h (suc j) other at) clock

-- ---- vectors

module _ (n : Netlist) (config : Config) (range : IsInRange config) where
  vector_fits : (v : Vector) (enable pulse update : Bool) (channels masks : ℕ → Bool) (outs : List Act) → ((k : NetId) → Fit (is_clock n config k) (act_by v k)) → AllZip Fit (out_flags n config) outs →
      AllZip Fit (flags n config) (inputs_by n v ++ (added_inputs config enable pulse update channels masks ++ outs))
  vector_fits v enable pulse update channels masks outs own out =
      zip_append Fit (own_flags n config) (added_flags config ++ out_flags n config) (inputs_by n v) (added_inputs config enable pulse update channels masks ++ outs) (own_fit n config v (input_bits n.ports) own)
      (zip_append Fit (added_flags config) (out_flags n config) (added_inputs config enable pulse update channels masks) outs (added_fit config enable pulse update channels masks) out)

  quiet_fits : (k : NetId) → Fit (is_clock n config k) (act_by (quiet_vector n config) k)
  quiet_fits k = fit_by (is_clock n config k) false (port_value ((config_ports n config).is_reset k.0) None) (λ clock. clock_low n config k.0 None range refl clock) (λ no. refl)

  pulsing_fits : (k : NetId) → Fit (is_clock n config k) (act_by (pulsing_vector n config) k)
  pulsing_fits k = fit_by (is_clock n config k) (is_clock n config k) (port_value ((config_ports n config).is_reset k.0) None) (λ clock. clock_low n config k.0 None range refl clock) (λ no. no)

  capture_fits : (merged : Merged) (domain : ℕ) → GivesNoClock n config merged → (k : NetId) → Fit (is_clock n config k) (act_by (vector_of n config merged domain) k)
  capture_fits merged domain gives k =
      fit_by (is_clock n config k) ((vector_of n config merged domain).pulsed k.0) ((vector_of n config merged domain).ports k.0)
      (λ clock. clock_low n config k.0 (bit_of_port merged.ports k.0) range (none_given n config k.0 merged.ports gives clock) clock)
      (λ no. false_from_ne_true ((vector_of n config merged domain).pulsed k.0) (λ is. true_false (is_clock n config k) (pulsed_clock n config k.0 domain is) no))

  no_outs_fit : AllZip Fit (out_flags n config) (no_outs n config)
  no_outs_fit =
      zip_append Fit (none_of (length (output_bits n.ports))) (none_of (length config.compactor.groups)) (outputs_ignored n) (ignored (length config.compactor.groups)) (ignored_fit (length (output_bits n.ports)))
      (ignored_fit (length config.compactor.groups))

  set_up_fits : AllZip Fit (flags n config) (set_up_acts n config)
  set_up_fits = vector_fits (quiet_vector n config) false true true no_bits no_bits (no_outs n config) quiet_fits no_outs_fit

  unloaded_fits : (table : Table) (before : Option PatternData) (t : ℕ) → AllZip Fit (none_of (length config.compactor.groups)) (unloaded config (plan_of n config) table before t)
  unloaded_fits table None t = ignored_fit (length config.compactor.groups)
  unloaded_fits table (Some q) t = expected_fit (λ group. output_bit config.ring table (falling_head (plan_of n config)) q.masks (by_chain (plan_of n config).chains q.response.cells) t group) config.compactor.groups

  shift_fits : (table : Table) (masks : List Bool) (before : Option PatternData) (t : ℕ) → AllZip Fit (flags n config) (shift_acts n config (plan_of n config) table masks before t)
  shift_fits table masks before t =
      let sent : ℕ → Bool = λ segment. sent_mask config (bit_at masks) (plan_of n config).cycles segment t in
      let outs : List Act = shift_outs n config table before t in
      subst (λ (acts : List Act). AllZip Fit (flags n config) acts) (sym (append_assoc (inputs_by n (pulsing_vector n config)) (shifting config (λ channel. table channel t) sent) outs))
      (vector_fits (pulsing_vector n config) true true false (λ channel. table channel t) sent outs pulsing_fits
      (zip_append Fit (none_of (length (output_bits n.ports))) (none_of (length config.compactor.groups)) (outputs_ignored n) (unloaded config (plan_of n config) table before t) (ignored_fit (length (output_bits n.ports)))
      (unloaded_fits table before t)))

  capture_acts_fit : (merged : Merged) → GivesNoClock n config merged → (domain : ℕ) (pulse update : Bool) (outputs : List Tri) → length outputs ≡ length (output_bits n.ports) →
      AllZip Fit (flags n config) (capture_with n config merged domain (added_inputs config false pulse update no_bits no_bits) outputs)
  capture_acts_fit merged gives domain pulse update outputs width =
      vector_fits (vector_of n config merged domain) false pulse update no_bits no_bits (capture_outs config outputs) (capture_fits merged domain gives)
      (zip_append Fit (none_of (length (output_bits n.ports))) (none_of (length config.compactor.groups)) (map compare outputs) (ignored (length config.compactor.groups))
      (subst (λ (k : ℕ). AllZip Fit (none_of k) (map compare outputs)) width (captured_fit outputs)) (ignored_fit (length config.compactor.groups)))

  captures_fit : (p : PatternData) → Gives n config p → AllByRecursion (λ acts. AllZip Fit (flags n config) acts) (capture_acts n config p)
  captures_fit p h = captures_each n config p.merged (λ acts. AllZip Fit (flags n config) acts) (capture_acts_fit p.merged h.0) p.merged.domains.first (later_of p.merged.domains) p.response.outputs h.1

  all_fit : (ps : List PatternData) → AllByRecursion (Gives n config) ps → AllByRecursion (λ acts. AllZip Fit (flags n config) acts) (vectors_of n config (plan_of n config) ps)
  all_fit ps h = each_listed n config (λ acts. AllZip Fit (flags n config) acts) (Gives n config) set_up_fits shift_fits captures_fit ps h

-- ---- by number

fit_pulse : (b : Bool) (a : Act) → Fit b a → a ≡ Pulse → b ≡ true
fit_pulse true a h e = refl
fit_pulse false Pulse h e = absurd h
fit_pulse false Low h e = absurd cc
fit_pulse false High h e = absurd cc
fit_pulse false Unset h e = absurd cc
fit_pulse false ExpectLow h e = absurd cc
fit_pulse false ExpectHigh h e = absurd cc
fit_pulse false Ignore h e = absurd cc

pulse_at : (fs : List Bool) (acts : List Act) (k : ℕ) → AllZip Fit fs acts → get_or acts k Ignore ≡ Pulse → get_or fs k false ≡ true
pulse_at [] [] k h e = absurd cc
pulse_at [] (a ∷ acts) k h e = absurd h
pulse_at (b ∷ fs) [] k h e = absurd h
pulse_at (b ∷ fs) (a ∷ acts) zero h e = fit_pulse b a h.0 e
pulse_at (b ∷ fs) (a ∷ acts) (suc k) h e = pulse_at fs acts k h.1 e

abbrev LowOrNone : Act → Type 0
LowOrNone a = (a ≢ High) × (a ≢ Unset)

fit_low : (b : Bool) (a : Act) → Fit b a → b ≡ true → LowOrNone a
fit_low false a h e = absurd (true_false false e refl)
fit_low true Low h e = ((λ f. cc), (λ f. cc))
fit_low true Pulse h e = ((λ f. cc), (λ f. cc))
fit_low true High h e = absurd h
fit_low true Unset h e = absurd h
fit_low true ExpectLow h e = absurd h
fit_low true ExpectHigh h e = absurd h
fit_low true Ignore h e = absurd h

low_at : (fs : List Bool) (acts : List Act) (k : ℕ) → AllZip Fit fs acts → get_or fs k false ≡ true → LowOrNone (get_or acts k Ignore)
low_at [] [] k h e = absurd (true_false false e refl)
low_at [] (a ∷ acts) k h e = absurd h
low_at (b ∷ fs) [] k h e = absurd h
low_at (b ∷ fs) (a ∷ acts) zero h e = fit_low b a h.0 e
low_at (b ∷ fs) (a ∷ acts) (suc k) h e = low_at fs acts k h.1 e

pulse_in : (fs : List Bool) (vectors : List (List Act)) (v k : ℕ) → AllByRecursion (λ acts. AllZip Fit fs acts) vectors → get_or (get_or vectors v []) k Ignore ≡ Pulse → get_or fs k false ≡ true
pulse_in fs [] v k h e = absurd cc
pulse_in fs (acts ∷ vectors) zero k h e = pulse_at fs acts k h.0 e
pulse_in fs (acts ∷ vectors) (suc v) k h e = pulse_in fs vectors v k h.1 e

low_in : (fs : List Bool) (vectors : List (List Act)) (v k : ℕ) → AllByRecursion (λ acts. AllZip Fit fs acts) vectors → get_or fs k false ≡ true → LowOrNone (get_or (get_or vectors v []) k Ignore)
low_in fs [] v k h e = ((λ f. cc), (λ f. cc))
low_in fs (acts ∷ vectors) zero k h e = low_at fs acts k h.0 e
low_in fs (acts ∷ vectors) (suc v) k h e = low_in fs vectors v k h.1 e

pub steady : (n : Netlist) (config : Config) (p : Patterns) (ps : List PatternData) → IsInRange config → p.vectors ≡ vectors_of n config (plan_of n config) ps → AllByRecursion (Gives n config) ps → IsSteady p
steady n config p ps range same h = λ signal pulsed other e.
    let fit : AllByRecursion (λ acts. AllZip Fit (flags n config) acts) p.vectors = subst (λ (vs : List (List Act)). AllByRecursion (λ acts. AllZip Fit (flags n config) acts) vs) (sym same) (all_fit n config range ps h) in
    low_in (flags n config) p.vectors other signal fit (pulse_in (flags n config) p.vectors pulsed signal fit e)
