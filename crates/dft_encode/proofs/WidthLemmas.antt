-- Each vector has an act for each signal.
use Rattle.std.proofs.Common.{◌≡◌, ◌≤◌, ℕ, ◌+◌, ◌-◌, Bool, true, false, List, [], ◌∷◌, ◌++◌, map, take, drop, length, Option, None, Some, suc, ◌*◌, refl, ap, ◌∙◌, append_assoc, length-append, arith}
use Rattle.std.specs.List.{All, range_with_len}
use Rattle.std.proofs.lemmas.List.{length-drop, length-map, length-replicate, length-take-le}
use Rattle.std.proofs.lemmas.List.Sums.{sum_by-cons}
use Rattle.std.proofs.lemmas.List.FromFn.{length-map-range_with_len}
use Rattle.std.proofs.lemmas.List.Elements.{All-nil, All-cons, All-head, All-tail, All-append, All-map}
use Rattle.dft_netlist.specs.declared.ids.NetId.{NetId}
use Rattle.dft_netlist.specs.Netlist.{Netlist}
use Rattle.dft_behavior.specs.Runs.{Vector}
use Rattle.dft_base.specs.declared.tri.Tri.{Tri}
use Rattle.dft_cubes.specs.declared.cube.Merged.{Merged}
use Rattle.dft_cubes.specs.Domains.{captures_of, later_of}
use Rattle.dft_config.specs.Config.{Config}
use Rattle.dft_config.specs.Ring.{Table}
use Rattle.dft_stitch.specs.Plans.{Plan, falling_head}
use Rattle.dft_base.specs.Solutions.{bit_at}
use Rattle.dft_config.specs.Segments.{sent_mask}
use Rattle.dft_patterns.specs.declared.act.Act.{Act}
use Rattle.dft_patterns.specs.declared.act.Act.TheVariants.{Ignore}
use Rattle.dft_expect.specs.Captures.{output_bits, vector_of}
use Rattle.dft_expect.specs.Expected.{output_bit}
use Rattle.dft_expect.specs.Masks.{by_chain}
use Rattle.dft_vectors.specs.Signals.{input_bits}
use Rattle.dft_vectors.specs.OwnPorts.{set_to, driven, expect, compare, ignored, inputs_by, outputs_ignored, quiet_vector, pulsing_vector}
use Rattle.dft_vectors.specs.AddedPorts.{added_inputs, controls, set_all, clearing, shifting, waiting, no_bits}
use Rattle.dft_vectors.specs.PatternData.{PatternData, load_of, merged_of}
use Rattle.dft_vectors.specs.VectorList.{set_up_acts, unloaded, shift_acts, load_vectors, capture_acts, capture_with, captures_in, captures_with, pattern_vectors, vectors_for, vectors_before_end, last_load, vectors_of, last_of, no_table}
use Rattle.dft_encode.specs.Laws.{HasOutputs, width, vectors_in, VectorsHaveWidth}

added_width : (config : Config) (enable pulse update : Bool) (channels masks : ℕ → Bool) → length (added_inputs config enable pulse update channels masks) ≡ 3 + (config.ring.channels + config.compactor.mask_inputs)
added_width config enable pulse update channels masks =
    omega (
      arith,
      length-append (controls enable pulse update) (set_all config.ring.channels channels ++ set_all config.compactor.mask_inputs masks),
      length-append (set_all config.ring.channels channels) (set_all config.compactor.mask_inputs masks),
      length-map-range_with_len (λ number. set_to (channels number)) 0 config.ring.channels,
      length-map-range_with_len (λ number. set_to (masks number)) 0 config.compactor.mask_inputs,
    )

-- the acts of inputs, of the design's outputs and of the compactor's
joined_width : (n : Netlist) (config : Config) (x : Vector) (added shown seen : List Act) → length added ≡ 3 + (config.ring.channels + config.compactor.mask_inputs) → length shown ≡ length (output_bits n.ports) → length seen ≡ length config.compactor.groups →
    length (inputs_by n x ++ (added ++ (shown ++ seen))) ≡ width n config
joined_width n config x added shown seen a s o =
    omega (arith, length-append (inputs_by n x) (added ++ (shown ++ seen)), length-append added (shown ++ seen), length-append shown seen, a, s, o, length-map (input_bits n.ports) (λ (net : NetId). driven (x.pulsed net.0) (x.ports net.0)))

unloaded_width : (config : Config) (plan : Plan) (load : Table) (before : Option PatternData) (t : ℕ) → length (unloaded config plan load before t) ≡ length config.compactor.groups
unloaded_width config plan load None t = length-replicate (length config.compactor.groups) Ignore
unloaded_width config plan load (Some p) t = length-map config.compactor.groups (λ (group : List ℕ). expect (output_bit config.ring load (falling_head plan) p.masks (by_chain plan.chains p.response.cells) t group))

set_up_width : (n : Netlist) (config : Config) → length (set_up_acts n config) ≡ width n config
set_up_width n config =
    joined_width n config (quiet_vector n config) (clearing config) (outputs_ignored n) (ignored (length config.compactor.groups)) (added_width config false true true no_bits no_bits)
    (length-replicate (length (output_bits n.ports)) Ignore) (length-replicate (length config.compactor.groups) Ignore)

shift_width : (n : Netlist) (config : Config) (plan : Plan) (load : Table) (masks : List Bool) (before : Option PatternData) (t : ℕ) → length (shift_acts n config plan load masks before t) ≡ width n config
shift_width n config plan load masks before t =
    let x = pulsing_vector n config in
    let added = shifting config (λ channel. load channel t) (λ segment. sent_mask config (bit_at masks) plan.cycles segment t) in
    let seen = unloaded config plan load before t in
    ap length (append_assoc (inputs_by n x) added (outputs_ignored n ++ seen))
    ∙ joined_width n config x added (outputs_ignored n) seen (added_width config true true false (λ channel. load channel t) (λ segment. sent_mask config (bit_at masks) plan.cycles segment t))
    (length-replicate (length (output_bits n.ports)) Ignore) (unloaded_width config plan load before t)

abbrev Wide : Netlist → Config → List Act → Type 0
Wide n config acts = length acts ≡ width n config

capture_width : (n : Netlist) (config : Config) (merged : Merged) (domain : ℕ) (pulse update : Bool) (outputs : List Tri) → length outputs ≡ length (output_bits n.ports) →
    Wide n config (capture_with n config merged domain (added_inputs config false pulse update no_bits no_bits) outputs)
capture_width n config merged domain pulse update outputs fits =
    joined_width n config (vector_of n config merged domain) (added_inputs config false pulse update no_bits no_bits) (map compare outputs) (ignored (length config.compactor.groups)) (added_width config false pulse update no_bits no_bits)
    (length-map outputs compare ∙ fits) (length-replicate (length config.compactor.groups) Ignore)

-- the outputs of one vector, and those that are left
pub one_left : (outputs own k : ℕ) → outputs ≡ suc (suc k) * own → (own ≤ outputs) × (outputs - own ≡ suc k * own)
one_left outputs own k is = let more : suc (suc k) * own ≡ own + suc k * own = grind arith in (omega (arith, is, more), omega (arith, is, more))

pub last_left : (outputs own : ℕ) → outputs ≡ 1 * own → outputs ≡ own
last_left outputs own is = let one : 1 * own ≡ own = grind arith in is ∙ one

captures_wide : (n : Netlist) (config : Config) (merged : Merged) (domain : ℕ) (later : List ℕ) (outputs : List Tri) → length outputs ≡ suc (length later) * length (output_bits n.ports) → All (Wide n config) (captures_with n config merged domain later outputs)
captures_wide n config merged domain [] outputs fits =
    All-cons (Wide n config) (capture_with n config merged domain (clearing config) outputs) [] (capture_width n config merged domain true true outputs (last_left (length outputs) (length (output_bits n.ports)) fits)) (All-nil (Wide n config))
captures_wide n config merged domain (next ∷ later) outputs fits =
    let own : ℕ = length (output_bits n.ports) in
    let left = one_left (length outputs) own (length later) fits in
    All-cons (Wide n config) (capture_with n config merged domain (waiting config) (take own outputs)) (captures_with n config merged next later (drop own outputs))
    (capture_width n config merged domain false false (take own outputs) (length-take-le own outputs left.0)) (captures_wide n config merged next later (drop own outputs) (length-drop own outputs ∙ left.1))

captures_count : (n : Netlist) (config : Config) (merged : Merged) (domain : ℕ) (later : List ℕ) (outputs : List Tri) → length (captures_with n config merged domain later outputs) ≡ suc (length later)
captures_count n config merged domain [] outputs = refl
captures_count n config merged domain (next ∷ later) outputs = ap suc (captures_count n config merged next later (drop (length (output_bits n.ports)) outputs))

-- ---- all vectors

load_wide : (n : Netlist) (config : Config) (plan : Plan) (load : Table) (masks : List Bool) (before : Option PatternData) → All (Wide n config) (load_vectors n config plan load masks before)
load_wide n config plan load masks before = All-map (Wide n config) (shift_acts n config plan load masks before) (range_with_len 0 plan.cycles) (λ k d less. shift_width n config plan load masks before _)

patterns_wide : (n : Netlist) (config : Config) (plan : Plan) (before : Option PatternData) (patterns : List PatternData) → All (HasOutputs n) patterns → All (Wide n config) (pattern_vectors n config plan before patterns)
patterns_wide n config plan before [] fits = All-nil (Wide n config)
patterns_wide n config plan before (p ∷ patterns) fits =
    All-append (Wide n config) (load_vectors n config plan (load_of config p) p.masks before) (capture_acts n config p ++ pattern_vectors n config plan (Some p) patterns) (load_wide n config plan (load_of config p) p.masks before)
    (All-append (Wide n config) (capture_acts n config p) (pattern_vectors n config plan (Some p) patterns) (captures_wide n config p.merged p.merged.domains.first (later_of p.merged.domains) p.response.outputs (All-head (HasOutputs n) p patterns fits))
    (patterns_wide n config plan (Some p) patterns (All-tail (HasOutputs n) p patterns fits)))

all_wide : (n : Netlist) (config : Config) (plan : Plan) (patterns : List PatternData) → All (HasOutputs n) patterns → All (Wide n config) (vectors_of n config plan patterns)
all_wide n config plan [] fits = All-nil (Wide n config)
all_wide n config plan (p ∷ patterns) fits =
    All-append (Wide n config) (vectors_before_end n config plan (p ∷ patterns)) (last_load n config plan (p ∷ patterns))
    (All-cons (Wide n config) (set_up_acts n config) (pattern_vectors n config plan None (p ∷ patterns)) (set_up_width n config) (patterns_wide n config plan None (p ∷ patterns) fits))
    (load_wide n config plan no_table [] (last_of None (p ∷ patterns)))

load_count : (n : Netlist) (config : Config) (plan : Plan) (load : Table) (masks : List Bool) (before : Option PatternData) → length (load_vectors n config plan load masks before) ≡ plan.cycles
load_count n config plan load masks before = length-map-range_with_len (shift_acts n config plan load masks before) 0 plan.cycles

patterns_count : (n : Netlist) (config : Config) (plan : Plan) (before : Option PatternData) (patterns : List PatternData) → length (pattern_vectors n config plan before patterns) ≡ vectors_for plan.cycles (captures_in (map merged_of patterns))
patterns_count n config plan before [] = refl
patterns_count n config plan before (p ∷ patterns) =
    let load = load_vectors n config plan (load_of config p) p.masks before in
    let rest = pattern_vectors n config plan (Some p) patterns in
    let captures : ℕ = captures_of p.merged in
    let more = sum_by-cons (λ (count : ℕ). plan.cycles + count) captures (captures_in (map merged_of patterns)) in
    omega (
      arith,
      more,
      length-append load (capture_acts n config p ++ rest),
      length-append (capture_acts n config p) rest,
      load_count n config plan (load_of config p) p.masks before,
      captures_count n config p.merged p.merged.domains.first (later_of p.merged.domains) p.response.outputs,
      patterns_count n config plan (Some p) patterns,
    )

all_count : (n : Netlist) (config : Config) (plan : Plan) (patterns : List PatternData) → length (vectors_of n config plan patterns) ≡ vectors_in plan.cycles (captures_in (map merged_of patterns))
all_count n config plan [] = refl
all_count n config plan (p ∷ patterns) =
    omega (arith, length-append (vectors_before_end n config plan (p ∷ patterns)) (last_load n config plan (p ∷ patterns)), patterns_count n config plan None (p ∷ patterns), load_count n config plan no_table [] (last_of None (p ∷ patterns)))

pub vectors_wide : VectorsHaveWidth
vectors_wide n config plan patterns fits = (all_wide n config plan patterns fits, all_count n config plan patterns)
