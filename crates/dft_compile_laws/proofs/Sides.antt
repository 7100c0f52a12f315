-- What holds of a listed vector, by induction over the inputs that it sets.
use Rattle.std.proofs.Common.{ℕ, zero, suc, ◌+◌, Bool, true, false, List, [], ◌∷◌, ◌++◌, length, map, Option, sym, subst}
use Rattle.std.proofs.lemmas.List.{append_assoc}
use Rattle.dft_base.specs.Solutions.{bit_at}
use Rattle.dft_netlist.specs.declared.ids.NetId.{NetId}
use Rattle.dft_netlist.specs.NetNumbers.{nets_from}
use Rattle.dft_netlist.specs.Netlist.{Netlist}
use Rattle.dft_behavior.specs.Runs.{Vector}
use Rattle.dft_base.specs.declared.tri.Tri.{Tri}
use Rattle.dft_cubes.specs.declared.cube.Merged.{Merged}
use Rattle.dft_config.specs.Config.{Config}
use Rattle.dft_config.specs.Ring.{Table}
use Rattle.dft_stitch.specs.Chains.{plan_of}
use Rattle.dft_config.specs.Segments.{sent_mask}
use Rattle.dft_expect.specs.Captures.{vector_of}
use Rattle.dft_patterns.specs.declared.act.Act.{Act}
use Rattle.dft_insert.specs.declared.style.Style.TheVariants.{Edt}
use Rattle.dft_insert.specs.Ports.{gap_in}
use Rattle.dft_insert.specs.Statements.{scanned}
use Rattle.dft_vectors.specs.AddedPorts.{added_inputs, no_bits, ring_clock, set_all, shifting}
use Rattle.dft_vectors.specs.OwnPorts.{compare, ignored, inputs_by, outputs_ignored, pulsing_vector, quiet_vector, set_to}
use Rattle.dft_vectors.specs.PatternData.{PatternData}
use Rattle.dft_vectors.specs.Signals.{input_bits}
use Rattle.dft_vectors.specs.VectorList.{capture_with, set_up_acts, shift_acts, unloaded}
use Rattle.dft_pattern_behavior.proofs.Places.{added_nets, all_inputs}
use Rattle.dft_pattern_behavior.proofs.Playing.{act_by, bits_from}
use Rattle.dft_compile_laws.proofs.Rows.{Sets}
use Rattle.dft_compile_laws.proofs.Fine.{bit_sets, driven_sets, ring_sets}

-- the outputs of a set-up vector, of a shift vector and of a capture vector
abbrev pub no_outs : Netlist → Config → List Act
no_outs n config = outputs_ignored n ++ ignored (length config.compactor.groups)

abbrev pub shift_outs : Netlist → Config → Table → (before : Option PatternData) → (cycle : ℕ) → List Act
shift_outs n config table before t = outputs_ignored n ++ unloaded config (plan_of n config) table before t

abbrev pub capture_outs : Config → (outputs : List Tri) → List Act
capture_outs config outputs = map compare outputs ++ ignored (length config.compactor.groups)

-- what one more input keeps that is set
module _ (Q : List NetId → List Act → Type 0) (step : (x : NetId) (ins : List NetId) (a : Act) (acts : List Act) → Sets a → Q ins acts → Q (x ∷ ins) (a ∷ acts)) where
  steps_own : (v : Vector) (own more : List NetId) (rest : List Act) → Q more rest → Q (own ++ more) (map (act_by v) own ++ rest)
  steps_own v [] more rest h = h
  steps_own v (k ∷ own) more rest h = step k (own ++ more) (act_by v k) (map (act_by v) own ++ rest) (driven_sets (v.pulsed k.0) (v.ports k.0)) (steps_own v own more rest h)

  steps_bits : (b from count : ℕ) (bits : ℕ → Bool) (more : List NetId) (rest : List Act) → Q more rest → Q (nets_from b count ++ more) (bits_from bits from count ++ rest)
  steps_bits b from zero bits more rest h = h
  steps_bits b from (suc count) bits more rest h =
      step (record { 0 = b }) (nets_from (suc b) count ++ more) (set_to (bits from)) (bits_from bits (from + 1) count ++ rest) (bit_sets (bits from)) (steps_bits (suc b) (from + 1) count bits more rest h)

  steps_vector : (n : Netlist) (config : Config) (v : Vector) (enable pulse update : Bool) (channels masks : ℕ → Bool) (outs : List Act) → Q [] outs →
      Q (input_bits (scanned Edt n config).ports) (inputs_by n v ++ (added_inputs config enable pulse update channels masks ++ outs))
  steps_vector n config v enable pulse update channels masks outs h =
      let before : ℕ = (gap_in Edt n config).before in
      let cs : List NetId = nets_from (before + 3) config.ring.channels in
      let ms : List NetId = nets_from (before + 3 + config.ring.channels) config.compactor.mask_inputs in
      let a : List Act = set_all config.ring.channels channels in
      let b : List Act = set_all config.compactor.mask_inputs masks in
      let numbered : Q (cs ++ (ms ++ [])) (a ++ (b ++ outs)) =
      steps_bits (before + 3) 0 config.ring.channels channels (ms ++ []) (b ++ outs) (steps_bits (before + 3 + config.ring.channels) 0 config.compactor.mask_inputs masks [] outs h) in
      let joined : Q (cs ++ (ms ++ [])) ((a ++ b) ++ outs) = subst (λ (acts : List Act). Q (cs ++ (ms ++ [])) acts) (sym (append_assoc a b outs)) numbered in
      let two : Q (record { 0 = before + 2 } ∷ (cs ++ (ms ++ []))) (set_to update ∷ ((a ++ b) ++ outs)) = step (record { 0 = before + 2 }) (cs ++ (ms ++ [])) (set_to update) ((a ++ b) ++ outs) (bit_sets update) joined in
      let one : Q (record { 0 = before + 1 } ∷ record { 0 = before + 2 } ∷ (cs ++ (ms ++ []))) (ring_clock pulse ∷ set_to update ∷ ((a ++ b) ++ outs)) =
      step (record { 0 = before + 1 }) (record { 0 = before + 2 } ∷ (cs ++ (ms ++ []))) (ring_clock pulse) (set_to update ∷ ((a ++ b) ++ outs)) (ring_sets pulse) two in
      let zeroth : Q (added_nets before config.ring.channels config.compactor.mask_inputs) (added_inputs config enable pulse update channels masks ++ outs) =
      step (record { 0 = before }) (record { 0 = before + 1 } ∷ record { 0 = before + 2 } ∷ (cs ++ (ms ++ []))) (set_to enable) (ring_clock pulse ∷ set_to update ∷ ((a ++ b) ++ outs)) (bit_sets enable) one in
      subst (λ (nets : List NetId). Q nets (inputs_by n v ++ (added_inputs config enable pulse update channels masks ++ outs))) (sym (all_inputs n config))
      (steps_own v (input_bits n.ports) (added_nets before config.ring.channels config.compactor.mask_inputs) (added_inputs config enable pulse update channels masks ++ outs) zeroth)

  pub by_set_up : (n : Netlist) (config : Config) → Q [] (no_outs n config) → Q (input_bits (scanned Edt n config).ports) (set_up_acts n config)
  by_set_up n config h = steps_vector n config (quiet_vector n config) false true true no_bits no_bits (no_outs n config) h

  pub by_shift : (n : Netlist) (config : Config) (table : Table) (masks : List Bool) (before : Option PatternData) (t : ℕ) → Q [] (shift_outs n config table before t) →
      Q (input_bits (scanned Edt n config).ports) (shift_acts n config (plan_of n config) table masks before t)
  by_shift n config table masks before t h =
      let sent : ℕ → Bool = λ segment. sent_mask config (bit_at masks) (plan_of n config).cycles segment t in
      let outs : List Act = shift_outs n config table before t in
      subst (λ (acts : List Act). Q (input_bits (scanned Edt n config).ports) acts) (sym (append_assoc (inputs_by n (pulsing_vector n config)) (shifting config (λ channel. table channel t) sent) outs))
      (steps_vector n config (pulsing_vector n config) true true false (λ channel. table channel t) sent outs h)

  pub by_capture : (n : Netlist) (config : Config) (merged : Merged) (domain : ℕ) (pulse update : Bool) (outputs : List Tri) → Q [] (capture_outs config outputs) →
      Q (input_bits (scanned Edt n config).ports) (capture_with n config merged domain (added_inputs config false pulse update no_bits no_bits) outputs)
  by_capture n config merged domain pulse update outputs h = steps_vector n config (vector_of n config merged domain) false pulse update no_bits no_bits (capture_outs config outputs) h
