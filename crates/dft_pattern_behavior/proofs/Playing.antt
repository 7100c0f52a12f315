-- Listed vectors clear, load and capture.
use Rattle.std.proofs.Common.{ℕ, zero, suc, ◌+◌, ◌<◌, ◌≤◌, ◌≡◌, ◌==◌, ◌||◌, ◌⊎◌, inl, inr, Bool, true, false, List, [], ◌∷◌, ◌++◌, drop, length, map, Option, None, Some, refl, sym, ap, subst, arith, ◌∙◌}
use Rattle.std.specs.List.{range_with_len}
use Rattle.std.proofs.lemmas.Bool.{cases_lt, eqb-true, false_from_ne_true}
use Rattle.std.proofs.lemmas.List.{append_assoc}
use Rattle.dft_base.specs.declared.tri.Tri.{Tri}
use Rattle.dft_base.specs.declared.tri.Tri.TheVariants.{Zero, One, Unknown}
use Rattle.dft_base.specs.Solutions.{bit_at}
use Rattle.dft_base.specs.Tri.{known}
use Rattle.dft_base.proofs.BitLemmas.{true_false}
use Rattle.dft_netlist.specs.declared.ids.NetId.{NetId}
use Rattle.dft_netlist.specs.Connections.{is_input}
use Rattle.dft_netlist.specs.Drivers.{driver}
use Rattle.dft_netlist.specs.NetNumbers.{nets_from}
use Rattle.dft_netlist.specs.Netlist.{Netlist}
use Rattle.dft_behavior.specs.Runs.{Vector}
use Rattle.dft_netlist.specs.Sound.{bits_of}
use Rattle.dft_config.specs.Config.{Config}
use Rattle.dft_config.specs.Ring.{Table}
use Rattle.dft_stitch.specs.Chains.{plan_of}
use Rattle.dft_edt.specs.Loads.{CarryTable}
use Rattle.dft_edt.specs.Unloads.{SendMasks}
use Rattle.dft_config.specs.Segments.{sent_mask}
use Rattle.dft_edt.specs.Vectors.{IsEdtShift}
use Rattle.dft_cubes.specs.declared.cube.Merged.{Merged}
use Rattle.dft_expect.specs.Captures.{bit_of_port, output_bits, port_value, vector_of}
use Rattle.dft_patterns.specs.declared.act.Act.{Act}
use Rattle.dft_patterns.specs.Steadiness.{is_pulse}
use Rattle.dft_scan_frame.specs.ConfigPorts.{config_ports}
use Rattle.dft_scan_frame.specs.Moves.{Gap, moved}
use Rattle.dft_scan_frame.specs.Statements.{IsReady}
use Rattle.dft_scan_frame.proofs.Containing.{input_less}
use Rattle.dft_scan_frame.proofs.Fine.{driver_fine}
use Rattle.dft_scan_frame.proofs.Whole.{moved_back, moved_front}
use Rattle.dft_insert.specs.declared.style.Style.TheVariants.{Edt}
use Rattle.dft_insert.specs.Ports.{gap_in}
use Rattle.dft_insert.specs.Statements.{scanned}
use Rattle.dft_insert.specs.Agreeing.{ports_in}
use Rattle.dft_insert.proofs.MadeGood.{from_at}
use Rattle.dft_scan_behavior.specs.Facts.{chain_nets, edt_hardware}
use Rattle.dft_pattern_behavior.proofs.Clocks.{named_input, pulsed_clock, reset_rests}
use Rattle.dft_vectors.specs.AddedPorts.{added_inputs, no_bits, ring_clock, set_all, shifting}
use Rattle.dft_vectors.specs.OwnPorts.{driven, inputs_by, outputs_ignored, pulsing_vector, quiet_vector, set_to}
use Rattle.dft_vectors.specs.PatternData.{PatternData}
use Rattle.dft_vectors.specs.Signals.{input_bits}
use Rattle.dft_vectors.specs.VectorList.{shift_acts, unloaded}
use Rattle.dft_pattern_behavior.specs.Given.{IsCaptureOf, Pattern}
use Rattle.dft_pattern_behavior.specs.Doing.{set_by, DoesAt, Does, AllDo, SetUpClears, LoadsLoad, CapturesCapture}
use Rattle.dft_pattern_behavior.proofs.Listed.{is_in, input_listed}
use Rattle.dft_pattern_behavior.proofs.Places.{added_nets, all_inputs, gap_within, not_in, not_in_both, own_before}

-- ---- acts

set_bit : (b : Bool) → set_by (set_to b) ≡ known b
set_bit true = refl
set_bit false = refl

pub pulse_is : (b : Bool) (t : Tri) → is_pulse (driven b t) ≡ b
pulse_is true t = refl
pulse_is false Zero = refl
pulse_is false One = refl
pulse_is false Unknown = refl

ring_is : (b : Bool) → is_pulse (ring_clock b) ≡ b
ring_is true = refl
ring_is false = refl

value_is : (b : Bool) (o : Option Bool) → set_by (driven false (port_value b o)) ≡ port_value b o
value_is true o = refl
value_is false (Some true) = refl
value_is false (Some false) = refl
value_is false None = refl

-- ---- vectors that do acts

abbrev pub Acts : (x v : Vector) → (net : ℕ) → Type 0
Acts x v net = (x.ports net ≡ set_by (driven (v.pulsed net) (v.ports net))) × (x.pulsed net ≡ is_pulse (driven (v.pulsed net) (v.ports net)))

abbrev pub act_by : Vector → NetId → Act
act_by v k = driven (v.pulsed k.0) (v.ports k.0)

own_by : (x v : Vector) (net k : ℕ) (more b : Bool) → (k == net) ≡ b → Acts x v k → (b || more) ≡ true → (more ≡ true → Acts x v net) → Acts x v net
own_by x v net k more true is here h later = subst (λ (m : ℕ). Acts x v m) (eqb-true k net is) here
own_by x v net k more false is here h later = later h

pub does_own : (x v : Vector) (net : ℕ) (own more : List NetId) (rest : List Act) → DoesAt x (own ++ more) (map (act_by v) own ++ rest) → is_in own net ≡ true → Acts x v net
does_own x v net [] more rest h is = absurd cc
does_own x v net (k ∷ own) more rest h is = own_by x v net k.0 (is_in own net) (k.0 == net) refl h.0 is (λ later. does_own x v net own more rest h.1 later)

pub does_more : (x v : Vector) (own more : List NetId) (rest : List Act) → DoesAt x (own ++ more) (map (act_by v) own ++ rest) → DoesAt x more rest
does_more x v [] more rest h = h
does_more x v (k ∷ own) more rest h = does_more x v own more rest h.1

pub does_head : (x : Vector) (net : NetId) (nets : List NetId) (act : Act) (acts : List Act) → DoesAt x (net ∷ nets) (act ∷ acts) → (x.ports net.0 ≡ set_by act) × (x.pulsed net.0 ≡ is_pulse act)
does_head x net nets act acts h = h.0

pub does_tail : (x : Vector) (net : NetId) (nets : List NetId) (act : Act) (acts : List Act) → DoesAt x (net ∷ nets) (act ∷ acts) → DoesAt x nets acts
does_tail x net nets act acts h = h.1

abbrev pub bits_from : (ℕ → Bool) → (from count : ℕ) → List Act
bits_from bits from count = map (λ k. set_to (bits k)) (range_with_len from count)

does_bits : (x : Vector) (b from count : ℕ) (bits : ℕ → Bool) (more : List NetId) (rest : List Act) → DoesAt x (nets_from b count ++ more) (bits_from bits from count ++ rest) → (j : ℕ) → j < count → x.ports (b + j) ≡ known (bits (from + j))
does_bits x b from zero bits more rest h j less = absurd (omega (arith, less))
does_bits x b from (suc count) bits more rest h zero less =
    let at : b + zero ≡ b = omega arith in
    let here : from ≡ from + zero = omega arith in
    ap x.ports at ∙ h.0.0 ∙ set_bit (bits from) ∙ ap (λ k. known (bits k)) here
does_bits x b from (suc count) bits more rest h (suc j) less =
    let at : b + suc j ≡ suc b + j = omega arith in
    let here : from + 1 + j ≡ from + suc j = omega arith in
    ap x.ports at ∙ does_bits x (suc b) (from + 1) count bits more rest h.1 j (omega (arith, less)) ∙ ap (λ k. known (bits k)) here

pub does_past : (x : Vector) (b from count : ℕ) (bits : ℕ → Bool) (more : List NetId) (rest : List Act) → DoesAt x (nets_from b count ++ more) (bits_from bits from count ++ rest) → DoesAt x more rest
does_past x b from zero bits more rest h = h
does_past x b from (suc count) bits more rest h = does_past x (suc b) (from + 1) count bits more rest h.1

-- ---- what a listed vector does

pub record Plays (n : Netlist) (config : Config) (v : Vector) (enable pulse update : Bool) (channels masks : ℕ → Bool) (x : Vector) : Type 0 where
  pub own : (net : ℕ) → is_in (input_bits n.ports) net ≡ true → Acts x v net
  pub enabled : x.ports (gap_in Edt n config).before ≡ known enable
  pub clock : x.pulsed ((gap_in Edt n config).before + 1) ≡ pulse
  pub updated : x.ports ((gap_in Edt n config).before + 2) ≡ known update
  pub carried : (j : ℕ) → j < config.ring.channels → x.ports ((gap_in Edt n config).before + 3 + j) ≡ known (channels j)
  pub sent : (m : ℕ) → m < config.compactor.mask_inputs → x.ports ((gap_in Edt n config).before + 3 + config.ring.channels + m) ≡ known (masks m)
  pub others : (net : ℕ) → is_in (input_bits n.ports) net ≡ false → (net < (gap_in Edt n config).before) ⊎ ((gap_in Edt n config).before + (gap_in Edt n config).width ≤ net) → x.pulsed net ≡ false

outside : (low width net : ℕ) → (net < low) ⊎ (low + width ≤ net) → (low ≤ net) × (net < low + width) → ⊥
outside low width net (inl less) h = omega (arith, less, h.0)
outside low width net (inr past) h = omega (arith, past, h.1)

pub plays : (n : Netlist) (config : Config) (v : Vector) (enable pulse update : Bool) (channels masks : ℕ → Bool) (outs : List Act) (x : Vector) → IsReady n config →
    Does (scanned Edt n config) (inputs_by n v ++ (added_inputs config enable pulse update channels masks ++ outs)) x → Plays n config v enable pulse update channels masks x
plays n config v enable pulse update channels masks outs x ready does =
    let before : ℕ = (gap_in Edt n config).before in
    let own : List NetId = input_bits n.ports in
    let cs : List NetId = nets_from (before + 3) config.ring.channels in
    let ms : List NetId = nets_from (before + 3 + config.ring.channels) config.compactor.mask_inputs in
    let two : List NetId = record { 0 = before + 2 } ∷ (cs ++ (ms ++ [])) in
    let a : List Act = set_all config.ring.channels channels in
    let b : List Act = set_all config.compactor.mask_inputs masks in
    let rest : List Act = (a ++ b) ++ outs in
    let all : DoesAt x (own ++ added_nets before config.ring.channels config.compactor.mask_inputs) (inputs_by n v ++ (added_inputs config enable pulse update channels masks ++ outs)) =
    subst (λ (nets : List NetId). DoesAt x nets (inputs_by n v ++ (added_inputs config enable pulse update channels masks ++ outs))) (all_inputs n config) does.inputs in
    let added : DoesAt x (added_nets before config.ring.channels config.compactor.mask_inputs) (added_inputs config enable pulse update channels masks ++ outs) =
    does_more x v own (added_nets before config.ring.channels config.compactor.mask_inputs) (added_inputs config enable pulse update channels masks ++ outs) all in
    let first = does_head x (record { 0 = before }) (record { 0 = before + 1 } ∷ two) (set_to enable) (ring_clock pulse ∷ set_to update ∷ rest) added in
    let after_one = does_tail x (record { 0 = before }) (record { 0 = before + 1 } ∷ two) (set_to enable) (ring_clock pulse ∷ set_to update ∷ rest) added in
    let second = does_head x (record { 0 = before + 1 }) two (ring_clock pulse) (set_to update ∷ rest) after_one in
    let after_two = does_tail x (record { 0 = before + 1 }) two (ring_clock pulse) (set_to update ∷ rest) after_one in
    let third = does_head x (record { 0 = before + 2 }) (cs ++ (ms ++ [])) (set_to update) rest after_two in
    let after_three = does_tail x (record { 0 = before + 2 }) (cs ++ (ms ++ [])) (set_to update) rest after_two in
    let both : DoesAt x (cs ++ (ms ++ [])) (a ++ (b ++ outs)) = subst (λ (acts : List Act). DoesAt x (cs ++ (ms ++ [])) acts) (append_assoc a b outs) after_three in
    let last : DoesAt x (ms ++ []) (b ++ outs) = does_past x (before + 3) 0 config.ring.channels channels (ms ++ []) (b ++ outs) both in
    record {
      own = λ net is. does_own x v net own (added_nets before config.ring.channels config.compactor.mask_inputs) (added_inputs config enable pulse update channels masks ++ outs) all is;
      enabled = first.0 ∙ set_bit enable;
      clock = second.1 ∙ ring_is pulse;
      updated = third.0 ∙ set_bit update;
      carried = λ j less. does_bits x (before + 3) 0 config.ring.channels channels (ms ++ []) (b ++ outs) both j less ∙ (let at : 0 + j ≡ j = omega arith in ap (λ k. known (channels k)) at);
      sent = λ m less. does_bits x (before + 3 + config.ring.channels) 0 config.compactor.mask_inputs masks [] outs last m less ∙ (let at : 0 + m ≡ m = omega arith in ap (λ k. known (masks k)) at);
      others = λ net apart place. does.others net (ap (λ (nets : List NetId). is_in nets net) (all_inputs n config)
          ∙ not_in_both own (added_nets before config.ring.channels config.compactor.mask_inputs) net apart (not_in _ (added_nets before config.ring.channels config.compactor.mask_inputs) net (gap_within n config) (outside before (gap_in Edt n config).width net place)));
    }

-- ---- the set-up vector

pub set_up_clears : SetUpClears
set_up_clears n config x ready does =
    let p = plays n config (quiet_vector n config) false true true no_bits no_bits _ x ready does in
    record { update = p.updated; clock = p.clock }

-- ---- loads

pub clock_pulses : (n : Netlist) (config : Config) (channels masks : ℕ → Bool) (x : Vector) → Plays n config (pulsing_vector n config) true true false channels masks x → (net : ℕ) (a b : Bool) →
    (config_ports n config).is_clock net ≡ a → (net == (gap_in Edt n config).before + 1) ≡ b → (a || b) ≡ true → x.pulsed net ≡ true
clock_pulses n config channels masks x p net true b is at h = (p.own net (input_listed n net (named_input n net config.domains is))).1 ∙ pulse_is ((config_ports n config).is_clock net) _ ∙ is
clock_pulses n config channels masks x p net false true is at h = ap x.pulsed (eqb-true net ((gap_in Edt n config).before + 1) at) ∙ p.clock
clock_pulses n config channels masks x p net false false is at h = absurd cc

shift_is : (n : Netlist) (config : Config) (channels masks : ℕ → Bool) (x : Vector) → IsReady n config → Plays n config (pulsing_vector n config) true true false channels masks x → IsEdtShift (ports_in Edt n config) (chain_nets Edt n config) (edt_hardware n config) x
shift_is n config channels masks x ready p = record {
  shift = record {
    enabled = p.enabled;
    resets = λ net is.
        (p.own net (input_listed n net (named_input n net config.resets is))).0
        ∙ ap (λ b. set_by (driven b (port_value ((config_ports n config).is_reset net) None))) (reset_rests n config net ready.range is)
        ∙ ap (λ b. set_by (driven false (port_value b None))) is;
    domains = λ net is. clock_pulses n config channels masks x p net ((config_ports n config).is_clock net) (net == (gap_in Edt n config).before + 1) refl refl is;
  };
  update = p.updated;
  clock = p.clock;
}

pub record AreLoads (n : Netlist) (config : Config) (table : Table) (masks : List Bool) (from size : ℕ) (xs : List Vector) : Type 0 where
  pub count : length xs ≡ size
  pub carries : CarryTable (ports_in Edt n config) config (chain_nets Edt n config) (edt_hardware n config) table from xs
  pub sends : SendMasks config (edt_hardware n config) (bit_at masks) (plan_of n config).cycles from xs

pub loads_from : (n : Netlist) (config : Config) (table : Table) (masks : List Bool) (shown : Option PatternData) (from count : ℕ) (xs : List Vector) → IsReady n config →
    AllDo (scanned Edt n config) (map (shift_acts n config (plan_of n config) table masks shown) (range_with_len from count)) xs → AreLoads n config table masks from count xs
loads_from n config table masks shown from zero [] ready h = record { count = refl; carries = tt; sends = tt }
loads_from n config table masks shown from zero (x ∷ xs) ready h = absurd h
loads_from n config table masks shown from (suc count) [] ready h = absurd h
loads_from n config table masks shown from (suc count) (x ∷ xs) ready h =
    let before : ℕ = (gap_in Edt n config).before in
    let channels : ℕ → Bool = λ channel. table channel from in
    let sent : ℕ → Bool = λ segment. sent_mask config (bit_at masks) (plan_of n config).cycles segment from in
    let outs : List Act = outputs_ignored n ++ unloaded config (plan_of n config) table shown from in
    let does : Does (scanned Edt n config) (inputs_by n (pulsing_vector n config) ++ (shifting config channels sent ++ outs)) x =
    subst (λ (acts : List Act). Does (scanned Edt n config) acts x) (append_assoc (inputs_by n (pulsing_vector n config)) (shifting config channels sent) outs) h.0 in
    let p = plays n config (pulsing_vector n config) true true false channels sent outs x ready does in
    let more = loads_from n config table masks shown (from + 1) count xs ready h.1 in
    let next : from + 1 ≡ suc from = omega arith in
    record {
      count = ap suc more.count;
      carries = ((shift_is n config channels sent x ready p, λ j less. ap x.ports (from_at (before + 3) config.ring.channels j less) ∙ p.carried j less), subst (λ (k : ℕ). CarryTable (ports_in Edt n config) config (chain_nets Edt n config) (edt_hardware n config) table k xs) next more.carries);
      sends = ((p.clock, λ m less. ap x.ports (from_at (before + 3 + config.ring.channels) config.compactor.mask_inputs m less) ∙ p.sent m less), subst (λ (k : ℕ). SendMasks config (edt_hardware n config) (bit_at masks) (plan_of n config).cycles k xs) next more.sends);
    }

pub loads_load : LoadsLoad
loads_load n config p before xs ready h =
    let are = loads_from n config p.table p.masks before 0 (plan_of n config).cycles xs ready h in
    record { count = are.count; carries = are.carries; sends = subst (λ (k : ℕ). SendMasks config (edt_hardware n config) (bit_at p.masks) k 0 xs) (sym are.count) are.sends }

-- ---- captures

module _ (n : Netlist) (config : Config) (ready : IsReady n config) where
  abbrev gap : Gap
  gap = gap_in Edt n config

  pub input_before : (net : ℕ) → is_input (driver n net) ≡ true → net < gap.before
  input_before net is = input_less n net (driver n net) is (driver_fine n config net ready)

  clock_input : (merged : Merged) (domain : ℕ) (e : ℕ) → (vector_of n config merged domain).pulsed e ≡ true → is_input (driver n e) ≡ true
  clock_input merged domain e pulse = named_input n e config.domains (pulsed_clock n config e domain pulse)

  -- no other clock of the design pulses
  front : (merged : Merged) (domain : ℕ) (pulse update : Bool) (x : Vector) → Plays n config (vector_of n config merged domain) false pulse update no_bits no_bits x → (e : ℕ) (b : Bool) → is_in (input_bits n.ports) e ≡ b → e < gap.before → x.pulsed e ≡ (vector_of n config merged domain).pulsed e
  front merged domain pulse update x it e true is less = (it.own e is).1 ∙ pulse_is ((vector_of n config merged domain).pulsed e) ((vector_of n config merged domain).ports e)
  front merged domain pulse update x it e false is less =
      it.others e is (inl less) ∙ sym (false_from_ne_true ((vector_of n config merged domain).pulsed e) (λ does. true_false (is_in (input_bits n.ports) e) (input_listed n e (clock_input merged domain e does)) is))

  capture_pulses : (merged : Merged) (domain : ℕ) (pulse update : Bool) (x : Vector) → Plays n config (vector_of n config merged domain) false pulse update no_bits no_bits x → (e : ℕ) → x.pulsed (moved gap e) ≡ (vector_of n config merged domain).pulsed e
  capture_pulses merged domain pulse update x it e = elim (cases_lt e gap.before) [
    | inl less ↦ ap x.pulsed (moved_front gap e less) ∙ front merged domain pulse update x it e (is_in (input_bits n.ports) e) refl less
    | inr past ↦ (
        let back : gap.before ≤ e = omega (arith, past) in
        let none : is_in (input_bits n.ports) (e + gap.width) ≡ false = not_in (λ k. k < length (bits_of n.ports)) (input_bits n.ports) (e + gap.width) (own_before n config ready) (λ less. omega (arith, less, back)) in
        let rests : (vector_of n config merged domain).pulsed e ≡ false = false_from_ne_true ((vector_of n config merged domain).pulsed e) (λ does. (let less = input_before e (clock_input merged domain e does) in omega (arith, less, back))) in
        ap x.pulsed (moved_back gap e back) ∙ it.others (e + gap.width) none (inr (omega (arith, back))) ∙ sym rests)
  ]

-- a vector that does what is listed for a capture vector is one
capture_is : (n : Netlist) (config : Config) (p : Pattern) (domain : ℕ) (pulse update : Bool) (x : Vector) → IsReady n config → Plays n config (vector_of n config p.merged domain) false pulse update no_bits no_bits x → IsCaptureOf n config p domain x
capture_is n config p domain pulse update x ready it =
    let cv : Vector = vector_of n config p.merged domain in
    record {
      off = it.enabled;
      pulsed = λ e. capture_pulses n config ready p.merged domain pulse update x it e;
      ports = λ net is rests.
          ap x.ports (moved_front (gap_in Edt n config) net (input_before n config ready net is))
          ∙ (it.own net (input_listed n net is)).0
          ∙ ap (λ b. set_by (driven b (cv.ports net))) rests
          ∙ value_is ((config_ports n config).is_reset net) (bit_of_port p.merged.ports net);
    }

pub captures_capture : CapturesCapture
captures_capture n config p domain [] outputs [] ready does = absurd does
captures_capture n config p domain [] outputs (x ∷ []) ready does =
    let it = plays n config (vector_of n config p.merged domain) false true true no_bits no_bits _ x ready does.0 in (capture_is n config p domain true true x ready it, record { update = it.updated; clock = it.clock })
captures_capture n config p domain [] outputs (x ∷ y ∷ xs) ready does = absurd does.1
captures_capture n config p domain (next ∷ later) outputs [] ready does = absurd does
captures_capture n config p domain (next ∷ later) outputs (x ∷ xs) ready does =
    let it = plays n config (vector_of n config p.merged domain) false false false no_bits no_bits _ x ready does.0 in (
      capture_is n config p domain false false x ready it,
      it.clock,
      captures_capture n config p next later (drop (length (output_bits n.ports)) outputs) xs ready does.1,
    )
