-- The ports of listed vectors suit those of the configuration: its clocks and edt_clock pulse, and nothing else does.
use Rattle.std.proofs.Common.{ℕ, zero, suc, ◌+◌, ◌≤◌, ◌≡◌, ◌==◌, ◌||◌, Bool, true, false, not, List, [], ◌∷◌, ◌++◌, drop, length, map, Option, None, Some, refl, sym, ap, subst, arith, ◌∙◌}
use Rattle.std.specs.List.{list_any, range_with_len}
use Rattle.std.proofs.lemmas.Bool.{eqb-true, or_left, or_right, false_from_ne_true}
use Rattle.std.proofs.lemmas.List.{append_assoc}
use Rattle.dft_base.specs.Solutions.{bit_at}
use Rattle.dft_base.proofs.BitLemmas.{or_later, same_tests, true_false}
use Rattle.dft_base.proofs.NumberLemmas.{eqb_turned}
use Rattle.dft_netlist.specs.declared.ids.NetId.{NetId}
use Rattle.dft_netlist.specs.NetNumbers.{nets_from}
use Rattle.dft_netlist.specs.Netlist.{Netlist}
use Rattle.dft_behavior.specs.Runs.{Vector}
use Rattle.dft_base.specs.declared.tri.Tri.{Tri}
use Rattle.dft_cubes.specs.declared.cube.Merged.{Merged}
use Rattle.dft_cubes.specs.Domains.{later_of}
use Rattle.dft_config.specs.Config.{Config}
use Rattle.dft_config.specs.Ring.{Table}
use Rattle.dft_stitch.specs.Chains.{plan_of}
use Rattle.dft_stitch.proofs.LengthLemmas.{some_cycle}
use Rattle.dft_config.specs.Segments.{sent_mask}
use Rattle.dft_expect.specs.Captures.{output_bits, vector_of}
use Rattle.dft_patterns.specs.declared.act.Act.{Act}
use Rattle.dft_patterns.specs.Steadiness.{is_pulse}
use Rattle.dft_scan_frame.specs.ConfigPorts.{config_ports}
use Rattle.dft_scan_frame.specs.Statements.{IsReady}
use Rattle.dft_insert.specs.declared.style.Style.TheVariants.{Edt}
use Rattle.dft_insert.specs.Ports.{gap_in}
use Rattle.dft_insert.specs.Statements.{scanned}
use Rattle.dft_insert.specs.Agreeing.{ports_in}
use Rattle.dft_pattern_behavior.proofs.Clocks.{named_input, pulsed_clock, reset_rests}
use Rattle.dft_vectors.specs.AddedPorts.{added_inputs, no_bits, ring_clock, set_all, shifting}
use Rattle.dft_vectors.specs.OwnPorts.{inputs_by, outputs_ignored, pulsing_vector, quiet_vector, set_to}
use Rattle.dft_vectors.specs.PatternData.{PatternData, load_of}
use Rattle.dft_vectors.specs.Signals.{input_bits}
use Rattle.dft_vectors.specs.VectorList.{capture_acts, captures_with, load_vectors, no_table, last_of, pattern_vectors, set_up_acts, shift_acts, unloaded, vectors_of}
use Rattle.dft_pattern_behavior.specs.Doing.{DoesAt, Does, AllDo, SetSuits}
use Rattle.dft_pattern_behavior.proofs.Listed.{is_in}
use Rattle.dft_pattern_behavior.proofs.Places.{added_nets, all_inputs, not_in_both}
use Rattle.dft_pattern_behavior.proofs.Playing.{bits_from, clock_pulses, does_head, does_more, does_own, does_past, does_tail, input_before, plays, pulse_is}

-- ---- what does not pulse

low_act : (b : Bool) → is_pulse (set_to b) ≡ false
low_act true = refl
low_act false = refl

low_by : (x : Vector) (net k : ℕ) (more b : Bool) → (k == net) ≡ b → x.pulsed k ≡ false → (b || more) ≡ true → (more ≡ true → x.pulsed net ≡ false) → x.pulsed net ≡ false
low_by x net k more true is here h later = ap x.pulsed (sym (eqb-true k net is)) ∙ here
low_by x net k more false is here h later = later h

low_all : (x : Vector) (net b from count : ℕ) (bits : ℕ → Bool) (more : List NetId) (rest : List Act) → DoesAt x (nets_from b count ++ more) (bits_from bits from count ++ rest) → (is_in more net ≡ true → x.pulsed net ≡ false) →
    is_in (nets_from b count ++ more) net ≡ true → x.pulsed net ≡ false
low_all x net b from zero bits more rest h past is = past is
low_all x net b from (suc count) bits more rest h past is =
    low_by x net b (is_in (nets_from (suc b) count ++ more) net) (b == net) refl (h.0.1 ∙ low_act (bits from)) is (λ later. low_all x net (suc b) (from + 1) count bits more rest h.1 past later)

module _ (n : Netlist) (config : Config) (v : Vector) (enable pulse update : Bool) (channels masks : ℕ → Bool) (outs : List Act) (x : Vector) (does : Does (scanned Edt n config) (inputs_by n v ++ (added_inputs config enable pulse update channels masks ++ outs)) x) where
  abbrev before : ℕ
  before = (gap_in Edt n config).before

  abbrev own : List NetId
  own = input_bits n.ports

  abbrev added : List NetId
  added = added_nets before config.ring.channels config.compactor.mask_inputs

  all : DoesAt x (own ++ added) (inputs_by n v ++ (added_inputs config enable pulse update channels masks ++ outs))
  all = subst (λ (nets : List NetId). DoesAt x nets (inputs_by n v ++ (added_inputs config enable pulse update channels masks ++ outs))) (all_inputs n config) does.inputs

  -- no added port but edt_clock pulses
  added_rest : (net : ℕ) → is_in added net ≡ true → (net == before + 1) ≡ false → x.pulsed net ≡ false
  added_rest net is apart =
      let cs : List NetId = nets_from (before + 3) config.ring.channels in
      let ms : List NetId = nets_from (before + 3 + config.ring.channels) config.compactor.mask_inputs in
      let two : List NetId = record { 0 = before + 2 } ∷ (cs ++ (ms ++ [])) in
      let a : List Act = set_all config.ring.channels channels in
      let b : List Act = set_all config.compactor.mask_inputs masks in
      let rest : List Act = (a ++ b) ++ outs in
      let here : DoesAt x added (added_inputs config enable pulse update channels masks ++ outs) = does_more x v own added (added_inputs config enable pulse update channels masks ++ outs) all in
      let first = does_head x (record { 0 = before }) (record { 0 = before + 1 } ∷ two) (set_to enable) (ring_clock pulse ∷ set_to update ∷ rest) here in
      let after_one = does_tail x (record { 0 = before }) (record { 0 = before + 1 } ∷ two) (set_to enable) (ring_clock pulse ∷ set_to update ∷ rest) here in
      let after_two = does_tail x (record { 0 = before + 1 }) two (ring_clock pulse) (set_to update ∷ rest) after_one in
      let third = does_head x (record { 0 = before + 2 }) (cs ++ (ms ++ [])) (set_to update) rest after_two in
      let after_three = does_tail x (record { 0 = before + 2 }) (cs ++ (ms ++ [])) (set_to update) rest after_two in
      let both : DoesAt x (cs ++ (ms ++ [])) (a ++ (b ++ outs)) = subst (λ (acts : List Act). DoesAt x (cs ++ (ms ++ [])) acts) (append_assoc a b outs) after_three in
      let last : DoesAt x (ms ++ []) (b ++ outs) = does_past x (before + 3) 0 config.ring.channels channels (ms ++ []) (b ++ outs) both in
      low_by x net before (is_in (record { 0 = before + 1 } ∷ two) net) (before == net) refl (first.1 ∙ low_act enable) is
      (λ behind. low_by x net (before + 2) (is_in (cs ++ (ms ++ [])) net) (before + 2 == net) refl (third.1 ∙ low_act update) (or_later (before + 1 == net) (is_in two net) (eqb_turned (before + 1) net ∙ apart) behind)
      (λ next. low_all x net (before + 3) 0 config.ring.channels channels (ms ++ []) (b ++ outs) both
      (λ past. low_all x net (before + 3 + config.ring.channels) 0 config.compactor.mask_inputs masks [] outs last (λ none. absurd (true_false false none refl)) past) next))

  rest_by : (net : ℕ) (t : Bool) → is_in added net ≡ t → is_in own net ≡ false → (net == before + 1) ≡ false → x.pulsed net ≡ false
  rest_by net true is apart unlike = added_rest net is unlike
  rest_by net false is apart unlike = does.others net (ap (λ (nets : List NetId). is_in nets net) (all_inputs n config) ∙ not_in_both own added net apart is)

  tame_cases : ((net : ℕ) → v.pulsed net ≡ true → (config_ports n config).is_clock net ≡ true) → (net : ℕ) (s t : Bool) → is_in own net ≡ s → (net == before + 1) ≡ t → x.pulsed net ≡ true → (ports_in Edt n config).is_clock net ≡ true
  tame_cases clocks net true t is at up =
      or_left ((config_ports n config).is_clock net) (net == before + 1) (clocks net (sym ((does_own x v net own added (added_inputs config enable pulse update channels masks ++ outs) all is).1 ∙ pulse_is (v.pulsed net) (v.ports net)) ∙ up))
  tame_cases clocks net false true is at up = or_right ((config_ports n config).is_clock net) (net == before + 1) at
  tame_cases clocks net false false is at up = absurd (true_false (x.pulsed net) up (rest_by net (is_in added net) refl is at))

  -- only clocks pulse
  tame : ((net : ℕ) → v.pulsed net ≡ true → (config_ports n config).is_clock net ≡ true) → (net : ℕ) → x.pulsed net ≡ true → (ports_in Edt n config).is_clock net ≡ true
  tame clocks net up = tame_cases clocks net (is_in own net) (net == before + 1) refl refl up

-- ---- lists of vectors in which only clocks pulse

abbrev Tame : Netlist → Config → List Act → Type 0
Tame n config acts = (x : Vector) → Does (scanned Edt n config) acts x → (net : ℕ) → x.pulsed net ≡ true → (ports_in Edt n config).is_clock net ≡ true

abbrev AllTame : Netlist → Config → List (List Act) → Type 0
AllTame n config [] = Unit {0}
AllTame n config (acts ∷ vectors) = Tame n config acts × AllTame n config vectors

tame_append : (n : Netlist) (config : Config) (a b : List (List Act)) → AllTame n config a → AllTame n config b → AllTame n config (a ++ b)
tame_append n config [] b h k = k
tame_append n config (acts ∷ a) b h k = (h.0, tame_append n config a b h.1 k)

either : {G : Type 0} (a b : Bool) → (a || b) ≡ true → (a ≡ true → G) → (b ≡ true → G) → G
either true b h f g = f refl
either false b h f g = g h

tame_list : (n : Netlist) (config : Config) (vectors : List (List Act)) (xs : List Vector) → AllTame n config vectors → AllDo (scanned Edt n config) vectors xs → (net : ℕ) → list_any (λ x. x.pulsed net) xs ≡ true → (ports_in Edt n config).is_clock net ≡ true
tame_list n config [] [] t d net h = absurd (true_false false h refl)
tame_list n config [] (x ∷ xs) t d net h = absurd d
tame_list n config (acts ∷ vectors) [] t d net h = absurd d
tame_list n config (acts ∷ vectors) (x ∷ xs) t d net h =
    either (x.pulsed net) (list_any (λ (y : Vector). y.pulsed net) xs) h (λ pulse. t.0 x d.0 net pulse) (λ later. tame_list n config vectors xs t.1 d.1 net later)

abbrev sent_at : (config : Config) (masks : List Bool) (cycles cycle : ℕ) → ℕ → Bool
sent_at config masks cycles cycle = λ segment. sent_mask config (bit_at masks) cycles segment cycle

-- a shift vector as it is listed
shift_does : (n : Netlist) (config : Config) (table : Table) (masks : List Bool) (shown : Option PatternData) (t : ℕ) (x : Vector) → Does (scanned Edt n config) (shift_acts n config (plan_of n config) table masks shown t) x →
    Does (scanned Edt n config)
    (inputs_by n (pulsing_vector n config)
    ++ (added_inputs config true true false (λ channel. table channel t) (sent_at config masks (plan_of n config).cycles t) ++ (outputs_ignored n ++ unloaded config (plan_of n config) table shown t))) x
shift_does n config table masks shown t x does =
    subst (λ (acts : List Act). Does (scanned Edt n config) acts x)
    (append_assoc (inputs_by n (pulsing_vector n config)) (shifting config (λ channel. table channel t) (sent_at config masks (plan_of n config).cycles t)) (outputs_ignored n ++ unloaded config (plan_of n config) table shown t)) does

tame_loads : (n : Netlist) (config : Config) (table : Table) (masks : List Bool) (shown : Option PatternData) (from count : ℕ) → AllTame n config (map (shift_acts n config (plan_of n config) table masks shown) (range_with_len from count))
tame_loads n config table masks shown from zero = tt
tame_loads n config table masks shown from (suc count) = (
  (λ x does net pulse.
      tame n config (pulsing_vector n config) true true false (λ channel. table channel from) (sent_at config masks (plan_of n config).cycles from) (outputs_ignored n ++ unloaded config (plan_of n config) table shown from) x (shift_does n config table masks shown from x does)
      (λ k is. is) net pulse),
  tame_loads n config table masks shown (from + 1) count,
)

tame_captures : (n : Netlist) (config : Config) (merged : Merged) (domain : ℕ) (later : List ℕ) (outputs : List Tri) → AllTame n config (captures_with n config merged domain later outputs)
tame_captures n config merged domain [] outputs = ((λ x does net pulse. tame n config (vector_of n config merged domain) false true true no_bits no_bits _ x does (λ k is. pulsed_clock n config k domain is) net pulse), tt)
tame_captures n config merged domain (next ∷ later) outputs = (
  (λ x does net pulse. tame n config (vector_of n config merged domain) false false false no_bits no_bits _ x does (λ k is. pulsed_clock n config k domain is) net pulse),
  tame_captures n config merged next later (drop (length (output_bits n.ports)) outputs),
)

tame_patterns : (n : Netlist) (config : Config) (shown : Option PatternData) (ps : List PatternData) → AllTame n config (pattern_vectors n config (plan_of n config) shown ps)
tame_patterns n config shown [] = tt
tame_patterns n config shown (p ∷ ps) =
    tame_append n config (load_vectors n config (plan_of n config) (load_of config p) p.masks shown) (capture_acts n config p ++ pattern_vectors n config (plan_of n config) (Some p) ps)
    (tame_loads n config (load_of config p) p.masks shown 0 (plan_of n config).cycles)
    (tame_append n config (capture_acts n config p) (pattern_vectors n config (plan_of n config) (Some p) ps)
    (tame_captures n config p.merged p.merged.domains.first (later_of p.merged.domains) p.response.outputs) (tame_patterns n config (Some p) ps))

tame_set : (n : Netlist) (config : Config) (p : PatternData) (ps : List PatternData) → AllTame n config (vectors_of n config (plan_of n config) (p ∷ ps))
tame_set n config p ps =
    tame_append n config (set_up_acts n config ∷ pattern_vectors n config (plan_of n config) None (p ∷ ps)) (load_vectors n config (plan_of n config) no_table [] (last_of None (p ∷ ps)))
    ((λ x does net pulse. tame n config (quiet_vector n config) false true true no_bits no_bits _ x does (λ k is. absurd (true_false false is refl)) net pulse), tame_patterns n config None (p ∷ ps))
    (tame_loads n config no_table [] (last_of None (p ∷ ps)) 0 (plan_of n config).cycles)

-- ---- each clock pulses in the first shift vector

shift_in : (n : Netlist) (config : Config) (table : Table) (masks : List Bool) (shown : Option PatternData) (size : ℕ) (a b : List (List Act)) (xs : List Vector) → IsReady n config → 1 ≤ size →
    AllDo (scanned Edt n config) ((map (shift_acts n config (plan_of n config) table masks shown) (range_with_len 0 size) ++ a) ++ b) xs → (net : ℕ) → (ports_in Edt n config).is_clock net ≡ true → list_any (λ x. x.pulsed net) xs ≡ true
shift_in n config table masks shown zero a b xs ready some h net clock = absurd (omega (arith, some))
shift_in n config table masks shown (suc size) a b [] ready some h net clock = absurd h
shift_in n config table masks shown (suc size) a b (x ∷ xs) ready some h net clock =
    let channels : ℕ → Bool = λ channel. table channel 0 in
    let sent : ℕ → Bool = sent_at config masks (plan_of n config).cycles 0 in
    let it = plays n config (pulsing_vector n config) true true false channels sent (outputs_ignored n ++ unloaded config (plan_of n config) table shown 0) x ready (shift_does n config table masks shown 0 x h.0) in
    or_left (x.pulsed net) (list_any (λ (y : Vector). y.pulsed net) xs) (clock_pulses n config channels sent x it net ((config_ports n config).is_clock net) (net == (gap_in Edt n config).before + 1) refl refl clock)

clocks_pulse : (n : Netlist) (config : Config) (p : PatternData) (ps : List PatternData) (xs : List Vector) → IsReady n config → AllDo (scanned Edt n config) (vectors_of n config (plan_of n config) (p ∷ ps)) xs →
    (net : ℕ) → (ports_in Edt n config).is_clock net ≡ true → list_any (λ x. x.pulsed net) xs ≡ true
clocks_pulse n config p ps [] ready h net clock = absurd h
clocks_pulse n config p ps (x ∷ xs) ready h net clock =
    or_right (x.pulsed net) (list_any (λ (y : Vector). y.pulsed net) xs)
    (shift_in n config (load_of config p) p.masks None (plan_of n config).cycles (capture_acts n config p ++ pattern_vectors n config (plan_of n config) (Some p) ps)
    (load_vectors n config (plan_of n config) no_table [] (last_of None (p ∷ ps))) xs ready (some_cycle n config ready.range) h.1 net clock)

-- ---- the ports

-- a reset is no clock there
reset_apart : (n : Netlist) (config : Config) (net : ℕ) → IsReady n config → (config_ports n config).is_reset net ≡ true → (ports_in Edt n config).is_clock net ≡ true → ⊥
reset_apart n config net ready is clock =
    either ((config_ports n config).is_clock net) (net == (gap_in Edt n config).before + 1) clock (λ own. true_false ((config_ports n config).is_clock net) own (reset_rests n config net ready.range is))
    (λ at. (let same = eqb-true net ((gap_in Edt n config).before + 1) at in let less = input_before n config ready net (named_input n net config.resets is) in omega (arith, same, less)))

pub set_suits : SetSuits
set_suits n config p ps xs ready h =
    let tame_all = tame_set n config p ps in
    record {
      clocks = λ net. same_tests (list_any (λ (x : Vector). x.pulsed net) xs) ((ports_in Edt n config).is_clock net) (λ pulse. tame_list n config (vectors_of n config (plan_of n config) (p ∷ ps)) xs tame_all h net pulse)
          (λ clock. clocks_pulse n config p ps xs ready h net clock);
      resets = λ net is. ap not (false_from_ne_true (list_any (λ (x : Vector). x.pulsed net) xs) (λ pulse. reset_apart n config net ready is (tame_list n config (vectors_of n config (plan_of n config) (p ∷ ps)) xs tame_all h net pulse)));
    }
