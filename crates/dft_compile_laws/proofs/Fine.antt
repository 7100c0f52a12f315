-- The listed acts set each input, and no other act pulses.
use Rattle.std.proofs.Common.{ℕ, zero, suc, ◌+◌, ◌≡◌, Bool, true, false, List, [], ◌∷◌, ◌++◌, length, map, take, drop, Option, None, Some, refl, sym, subst}
use Rattle.std.specs.List.{range_with_len}
use Rattle.std.proofs.lemmas.List.{append_assoc}
use Rattle.dft_base.specs.declared.tri.Tri.{Tri}
use Rattle.dft_base.specs.declared.tri.Tri.TheVariants.{Zero, One, Unknown}
use Rattle.dft_base.specs.Solutions.{bit_at}
use Rattle.dft_netlist.specs.declared.ids.NetId.{NetId}
use Rattle.dft_netlist.specs.NetNumbers.{nets_from}
use Rattle.dft_netlist.specs.Netlist.{Netlist}
use Rattle.dft_behavior.specs.Runs.{Vector}
use Rattle.dft_cubes.specs.declared.cube.Merged.{Merged}
use Rattle.dft_cubes.specs.Domains.{later_of}
use Rattle.dft_config.specs.Config.{Config}
use Rattle.dft_config.specs.Ring.{Table}
use Rattle.dft_stitch.specs.Chains.{plan_of}
use Rattle.dft_config.specs.Segments.{sent_mask}
use Rattle.dft_stitch.specs.Plans.{falling_head}
use Rattle.dft_expect.specs.Captures.{output_bits, vector_of}
use Rattle.dft_expect.specs.Expected.{output_bit}
use Rattle.dft_expect.specs.Masks.{by_chain}
use Rattle.dft_patterns.specs.declared.act.Act.{Act}
use Rattle.dft_replay.specs.Rows.{is_pulse}
use Rattle.dft_insert.specs.declared.style.Style.TheVariants.{Edt}
use Rattle.dft_insert.specs.Ports.{gap_in}
use Rattle.dft_insert.specs.Statements.{scanned}
use Rattle.dft_vectors.specs.AddedPorts.{added_inputs, no_bits, ring_clock, set_all, shifting}
use Rattle.dft_vectors.specs.OwnPorts.{compare, driven, expect, ignored, inputs_by, outputs_ignored, pulsing_vector, quiet_vector, set_to}
use Rattle.dft_vectors.specs.PatternData.{PatternData, load_of}
use Rattle.dft_vectors.specs.Signals.{input_bits}
use Rattle.dft_vectors.specs.VectorList.{capture_acts, capture_with, captures_with, load_vectors, no_table, last_of, pattern_vectors, set_up_acts, shift_acts, unloaded, vectors_of}
use Rattle.dft_pattern_behavior.proofs.Places.{added_nets, all_inputs}
use Rattle.dft_pattern_behavior.proofs.Playing.{act_by, bits_from}
use Rattle.dft_compile_laws.proofs.Rows.{AllFine, Fine, Rests, Sets}

pub ring_sets : (b : Bool) → Sets (ring_clock b)
ring_sets true = tt
ring_sets false = tt

pub bit_sets : (b : Bool) → Sets (set_to b)
bit_sets true = tt
bit_sets false = tt

pub driven_sets : (b : Bool) (t : Tri) → Sets (driven b t)
driven_sets true t = tt
driven_sets false Zero = tt
driven_sets false One = tt
driven_sets false Unknown = tt

fine_own : (v : Vector) (own more : List NetId) (rest : List Act) → Fine more rest → Fine (own ++ more) (map (act_by v) own ++ rest)
fine_own v [] more rest h = h
fine_own v (k ∷ own) more rest h = (driven_sets (v.pulsed k.0) (v.ports k.0), fine_own v own more rest h)

fine_bits : (b from count : ℕ) (bits : ℕ → Bool) (more : List NetId) (rest : List Act) → Fine more rest → Fine (nets_from b count ++ more) (bits_from bits from count ++ rest)
fine_bits b from zero bits more rest h = h
fine_bits b from (suc count) bits more rest h = (bit_sets (bits from), fine_bits (suc b) (from + 1) count bits more rest h)

-- inputs that are set, and what is behind them
fine_vector : (n : Netlist) (config : Config) (v : Vector) (enable pulse update : Bool) (channels masks : ℕ → Bool) (outs : List Act) → Rests outs → Fine (input_bits (scanned Edt n config).ports) (inputs_by n v ++ (added_inputs config enable pulse update channels masks ++ outs))
fine_vector n config v enable pulse update channels masks outs rests =
    let before : ℕ = (gap_in Edt n config).before in
    let cs : List NetId = nets_from (before + 3) config.ring.channels in
    let ms : List NetId = nets_from (before + 3 + config.ring.channels) config.compactor.mask_inputs in
    let a : List Act = set_all config.ring.channels channels in
    let b : List Act = set_all config.compactor.mask_inputs masks in
    let numbered : Fine (cs ++ (ms ++ [])) (a ++ (b ++ outs)) =
    fine_bits (before + 3) 0 config.ring.channels channels (ms ++ []) (b ++ outs) (fine_bits (before + 3 + config.ring.channels) 0 config.compactor.mask_inputs masks [] outs rests) in
    let joined : Fine (cs ++ (ms ++ [])) ((a ++ b) ++ outs) = subst (λ (acts : List Act). Fine (cs ++ (ms ++ [])) acts) (sym (append_assoc a b outs)) numbered in
    subst (λ (nets : List NetId). Fine nets (inputs_by n v ++ (added_inputs config enable pulse update channels masks ++ outs))) (sym (all_inputs n config))
    (fine_own v (input_bits n.ports) (added_nets before config.ring.channels config.compactor.mask_inputs) (added_inputs config enable pulse update channels masks ++ outs) (bit_sets enable, (ring_sets pulse, (bit_sets update, joined))))

-- ---- outputs

rests_append : (a b : List Act) → Rests a → Rests b → Rests (a ++ b)
rests_append [] b h k = k
rests_append (x ∷ a) b h k = (h.0, rests_append a b h.1 k)

ignored_rests : (count : ℕ) → Rests (ignored count)
ignored_rests zero = tt
ignored_rests (suc count) = (refl, ignored_rests count)

expect_rests : (b : Bool) → is_pulse (expect b) ≡ false
expect_rests true = refl
expect_rests false = refl

compare_rests : (t : Tri) → is_pulse (compare t) ≡ false
compare_rests Zero = refl
compare_rests One = refl
compare_rests Unknown = refl

map_rests : {X : Type 0} (f : X → Act) (xs : List X) → ((x : X) → is_pulse (f x) ≡ false) → Rests (map f xs)
map_rests f [] h = tt
map_rests f (x ∷ xs) h = (h x, map_rests f xs h)

unloaded_rests : (n : Netlist) (config : Config) (table : Table) (shown : Option PatternData) (t : ℕ) → Rests (unloaded config (plan_of n config) table shown t)
unloaded_rests n config table None t = ignored_rests (length config.compactor.groups)
unloaded_rests n config table (Some p) t =
    map_rests (λ group. expect (output_bit config.ring table (falling_head (plan_of n config)) p.masks (by_chain (plan_of n config).chains p.response.cells) t group)) config.compactor.groups
    (λ group. expect_rests (output_bit config.ring table (falling_head (plan_of n config)) p.masks (by_chain (plan_of n config).chains p.response.cells) t group))

-- ---- lists

fine_append : (ins : List NetId) (a b : List (List Act)) → AllFine ins a → AllFine ins b → AllFine ins (a ++ b)
fine_append ins [] b h k = k
fine_append ins (x ∷ a) b h k = (h.0, fine_append ins a b h.1 k)

module _ (n : Netlist) (config : Config) where
  abbrev ins : List NetId
  ins = input_bits (scanned Edt n config).ports

  fine_set_up : Fine ins (set_up_acts n config)
  fine_set_up = fine_vector n config (quiet_vector n config) false true true no_bits no_bits _ (rests_append (outputs_ignored n) (ignored (length config.compactor.groups)) (ignored_rests _) (ignored_rests (length config.compactor.groups)))

  fine_shift : (table : Table) (masks : List Bool) (shown : Option PatternData) (t : ℕ) → Fine ins (shift_acts n config (plan_of n config) table masks shown t)
  fine_shift table masks shown t =
      let sent : ℕ → Bool = λ segment. sent_mask config (bit_at masks) (plan_of n config).cycles segment t in
      let outs : List Act = outputs_ignored n ++ unloaded config (plan_of n config) table shown t in
      subst (λ (acts : List Act). Fine ins acts) (sym (append_assoc (inputs_by n (pulsing_vector n config)) (shifting config (λ channel. table channel t) sent) outs))
      (fine_vector n config (pulsing_vector n config) true true false (λ channel. table channel t) sent outs (rests_append (outputs_ignored n) (unloaded config (plan_of n config) table shown t) (ignored_rests _) (unloaded_rests n config table shown t)))

  fine_capture : (merged : Merged) (domain : ℕ) (pulse update : Bool) (outputs : List Tri) → Fine ins (capture_with n config merged domain (added_inputs config false pulse update no_bits no_bits) outputs)
  fine_capture merged domain pulse update outputs =
      fine_vector n config (vector_of n config merged domain) false pulse update no_bits no_bits _
      (rests_append (map compare outputs) (ignored (length config.compactor.groups)) (map_rests compare outputs compare_rests) (ignored_rests (length config.compactor.groups)))

  fine_captures : (merged : Merged) (domain : ℕ) (later : List ℕ) (outputs : List Tri) → AllFine ins (captures_with n config merged domain later outputs)
  fine_captures merged domain [] outputs = (fine_capture merged domain true true outputs, tt)
  fine_captures merged domain (next ∷ later) outputs =
      let own : ℕ = length (output_bits n.ports) in (fine_capture merged domain false false (take own outputs), fine_captures merged next later (drop own outputs))

  fine_loads : (table : Table) (masks : List Bool) (shown : Option PatternData) (from count : ℕ) → AllFine ins (map (shift_acts n config (plan_of n config) table masks shown) (range_with_len from count))
  fine_loads table masks shown from zero = tt
  fine_loads table masks shown from (suc count) = (fine_shift table masks shown from, fine_loads table masks shown (from + 1) count)

  fine_patterns : (shown : Option PatternData) (ps : List PatternData) → AllFine ins (pattern_vectors n config (plan_of n config) shown ps)
  fine_patterns shown [] = tt
  fine_patterns shown (p ∷ ps) =
      fine_append ins (load_vectors n config (plan_of n config) (load_of config p) p.masks shown) (capture_acts n config p ++ pattern_vectors n config (plan_of n config) (Some p) ps)
      (fine_loads (load_of config p) p.masks shown 0 (plan_of n config).cycles) (fine_append ins (capture_acts n config p) (pattern_vectors n config (plan_of n config) (Some p) ps)
      (fine_captures p.merged p.merged.domains.first (later_of p.merged.domains) p.response.outputs) (fine_patterns (Some p) ps))

  pub fine_list : (ps : List PatternData) → AllFine ins (vectors_of n config (plan_of n config) ps)
  fine_list [] = tt
  fine_list (p ∷ ps) =
      fine_append ins (set_up_acts n config ∷ pattern_vectors n config (plan_of n config) None (p ∷ ps)) (load_vectors n config (plan_of n config) no_table [] (last_of None (p ∷ ps))) (fine_set_up, fine_patterns None (p ∷ ps))
      (fine_loads no_table [] (last_of None (p ∷ ps)) 0 (plan_of n config).cycles)
