-- Each listed vector sets each input and compares, or passes over, each output.
use Rattle.std.proofs.Common.{ℕ, zero, suc, ◌+◌, ◌≡◌, Bool, true, false, ◌*◌, List, [], ◌∷◌, ◌++◌, length, map, take, drop, Option, None, Some, sym, ap, subst, arith, ◌∙◌}
use Rattle.std.specs.List.{AllByRecursion, AllZip, range_with_len}
use Rattle.std.proofs.lemmas.List.{length-drop, length-take-le, map-append}
use Rattle.dft_base.specs.declared.dir.Dir.TheVariants as dir
use Rattle.dft_base.specs.declared.tri.Tri.{Tri}
use Rattle.dft_base.specs.declared.tri.Tri.TheVariants.{Zero, One, Unknown}
use Rattle.dft_base.proofs.ListLemmas.{all_append}
use Rattle.dft_netlist.specs.declared.ids.NetId.{NetId}
use Rattle.dft_netlist.specs.NetNumbers.{nets_from}
use Rattle.dft_netlist.specs.Netlist.{Netlist}
use Rattle.dft_cubes.specs.declared.cube.Merged.{Merged}
use Rattle.dft_cubes.specs.Domains.{later_of}
use Rattle.dft_config.specs.Config.{Config}
use Rattle.dft_config.specs.Ring.{Table}
use Rattle.dft_stitch.specs.Chains.{plan_of}
use Rattle.dft_stitch.specs.Plans.{falling_head}
use Rattle.dft_expect.specs.Captures.{output_bits}
use Rattle.dft_expect.specs.Expected.{output_bit}
use Rattle.dft_expect.specs.Masks.{by_chain}
use Rattle.dft_patterns.specs.Acts.{IsActOf, IsTold}
use Rattle.dft_patterns.specs.Patterns.{IsFullVector, IsVector}
use Rattle.dft_patterns.specs.declared.act.Act.{Act}
use Rattle.dft_patterns.specs.declared.act.Act.TheVariants.{Unset, Low, High, Pulse, ExpectLow, ExpectHigh, Ignore}
use Rattle.dft_patterns.specs.declared.signal.StilSignal.{StilSignal}
use Rattle.dft_insert.specs.declared.style.Style.TheVariants.{Edt}
use Rattle.dft_insert.specs.Statements.{scanned}
use Rattle.dft_vectors.specs.AddedPorts.{added_inputs, no_bits}
use Rattle.dft_vectors.specs.OwnPorts.{compare, expect, ignored, outputs_ignored}
use Rattle.dft_vectors.specs.PatternData.{PatternData, load_of}
use Rattle.dft_vectors.specs.Signals.{input_bits, signal_of, signals_of}
use Rattle.dft_vectors.specs.VectorList.{capture_acts, capture_with, captures_with, load_vectors, no_table, last_of, pattern_vectors, set_up_acts, shift_acts, unloaded, vectors_of}
use Rattle.dft_encode.specs.Laws.{HasOutputs}
use Rattle.dft_encode.proofs.WidthLemmas.{last_left, one_left}
use Rattle.dft_compile_laws.proofs.OutPlaces.{added_outs, all_outputs, outs_start}
use Rattle.dft_compile_laws.proofs.Rows.{Sets}
use Rattle.dft_compile_laws.proofs.Sides.{by_capture, by_set_up, by_shift}

pub zip_append : {A B : Type 0} (R : A → B → Type 0) (xs us : List A) (ys vs : List B) → AllZip R xs ys → AllZip R us vs → AllZip R (xs ++ us) (ys ++ vs)
zip_append R [] us [] vs h k = k
zip_append R [] us (y ∷ ys) vs h k = absurd h
zip_append R (x ∷ xs) us [] vs h k = absurd h
zip_append R (x ∷ xs) us (y ∷ ys) vs h k = (h.0, zip_append R xs us ys vs h.1 k)

-- ---- lists of vectors

each_from : (P : List Act → Type 0) (f : ℕ → List Act) (from count : ℕ) → ((t : ℕ) → P (f t)) → AllByRecursion P (map f (range_with_len from count))
each_from P f from zero h = tt
each_from P f from (suc count) h = (h from, each_from P f (from + 1) count h)

-- what holds of each capture vector that compares as many values as there are output bits holds of all those of a pattern
pub captures_each : (n : Netlist) (config : Config) (merged : Merged) (P : List Act → Type 0) →
    ((domain : ℕ) (pulse update : Bool) (outputs : List Tri) → length outputs ≡ length (output_bits n.ports) → P (capture_with n config merged domain (added_inputs config false pulse update no_bits no_bits) outputs)) →
    (domain : ℕ) (later : List ℕ) (outputs : List Tri) → length outputs ≡ suc (length later) * length (output_bits n.ports) → AllByRecursion P (captures_with n config merged domain later outputs)
captures_each n config merged P one domain [] outputs fits = (one domain true true outputs (last_left (length outputs) (length (output_bits n.ports)) fits), tt)
captures_each n config merged P one domain (next ∷ later) outputs fits =
    let own : ℕ = length (output_bits n.ports) in
    let left = one_left (length outputs) own (length later) fits in
    (one domain false false (take own outputs) (length-take-le own outputs left.0), captures_each n config merged P one next later (drop own outputs) (length-drop own outputs ∙ left.1))

-- what holds of set-up vectors, shift vectors and capture vectors holds of all listed vectors
module _ (n : Netlist) (config : Config) (P : List Act → Type 0) (Given : PatternData → Type 0) (set_up : P (set_up_acts n config)) (shift : (table : Table) (masks : List Bool) (before : Option PatternData) (t : ℕ) → P (shift_acts n config (plan_of n config) table masks before t)) (capture : (p : PatternData) → Given p → AllByRecursion P (capture_acts n config p)) where
  each_load : (table : Table) (masks : List Bool) (before : Option PatternData) → AllByRecursion P (load_vectors n config (plan_of n config) table masks before)
  each_load table masks before = each_from P (shift_acts n config (plan_of n config) table masks before) 0 (plan_of n config).cycles (λ t. shift table masks before t)

  each_pattern : (before : Option PatternData) (ps : List PatternData) → AllByRecursion Given ps → AllByRecursion P (pattern_vectors n config (plan_of n config) before ps)
  each_pattern before [] h = tt
  each_pattern before (p ∷ ps) h =
      all_append P (load_vectors n config (plan_of n config) (load_of config p) p.masks before) (capture_acts n config p ++ pattern_vectors n config (plan_of n config) (Some p) ps) (each_load (load_of config p) p.masks before)
      (all_append P (capture_acts n config p) (pattern_vectors n config (plan_of n config) (Some p) ps) (capture p h.0) (each_pattern (Some p) ps h.1))

  pub each_listed : (ps : List PatternData) → AllByRecursion Given ps → AllByRecursion P (vectors_of n config (plan_of n config) ps)
  each_listed [] h = tt
  each_listed (p ∷ ps) h =
      all_append P (set_up_acts n config ∷ pattern_vectors n config (plan_of n config) None (p ∷ ps)) (load_vectors n config (plan_of n config) no_table [] (last_of None (p ∷ ps))) (set_up, each_pattern None (p ∷ ps) h)
      (each_load no_table [] (last_of None (p ∷ ps)))

-- ---- acts of signals

abbrev pub Full : StilSignal → Act → Type 0
Full s a = IsActOf s.dir a × IsTold a

set_full : (w : Netlist) (x : NetId) (a : Act) → Sets a → Full (signal_of w dir.Input x) a
set_full w x Low h = (tt, tt)
set_full w x High h = (tt, tt)
set_full w x Pulse h = (tt, tt)
set_full w x Unset h = absurd h
set_full w x ExpectLow h = absurd h
set_full w x ExpectHigh h = absurd h
set_full w x Ignore h = absurd h

abbrev outs_of : Netlist → List NetId → List StilSignal
outs_of w nets = map (signal_of w dir.Output) nets

quiet_full : (w : Netlist) (nets : List NetId) → AllZip Full (outs_of w nets) (ignored (length nets))
quiet_full w [] = tt
quiet_full w (x ∷ nets) = ((tt, tt), quiet_full w nets)

quiet_from : (w : Netlist) (base count : ℕ) → AllZip Full (outs_of w (nets_from base count)) (ignored count)
quiet_from w base zero = tt
quiet_from w base (suc count) = ((tt, tt), quiet_from w (suc base) count)

expect_full : (w : Netlist) (x : NetId) (b : Bool) → Full (signal_of w dir.Output x) (expect b)
expect_full w x true = (tt, tt)
expect_full w x false = (tt, tt)

expected_full : (w : Netlist) (bit : List ℕ → Bool) (groups : List (List ℕ)) (base : ℕ) → AllZip Full (outs_of w (nets_from base (length groups))) (map (λ group. expect (bit group)) groups)
expected_full w bit [] base = tt
expected_full w bit (group ∷ groups) base = (expect_full w (record { 0 = base }) (bit group), expected_full w bit groups (suc base))

compare_full : (w : Netlist) (x : NetId) (t : Tri) → Full (signal_of w dir.Output x) (compare t)
compare_full w x Zero = (tt, tt)
compare_full w x One = (tt, tt)
compare_full w x Unknown = (tt, tt)

captured_full : (w : Netlist) (nets : List NetId) (outputs : List Tri) → length outputs ≡ length nets → AllZip Full (outs_of w nets) (map compare outputs)
captured_full w [] [] e = tt
captured_full w [] (t ∷ outputs) e = absurd (omega (arith, e))
captured_full w (x ∷ nets) [] e = absurd (omega (arith, e))
captured_full w (x ∷ nets) (t ∷ outputs) e = (compare_full w x t, captured_full w nets outputs (omega (arith, e)))

module _ (n : Netlist) (config : Config) where
  abbrev w : Netlist
  w = scanned Edt n config

  abbrev out_signals : List StilSignal
  out_signals = outs_of w (output_bits n.ports) ++ outs_of w (added_outs n config)

  abbrev InFull : List NetId → List Act → Type 0
  InFull ins acts = AllZip Full (map (signal_of w dir.Input) ins ++ out_signals) acts

  in_full : (x : NetId) (ins : List NetId) (a : Act) (acts : List Act) → Sets a → InFull ins acts → InFull (x ∷ ins) (a ∷ acts)
  in_full x ins a acts sets h = (set_full w x a sets, h)

  abbrev all_signals : List StilSignal
  all_signals = map (signal_of w dir.Input) (input_bits w.ports) ++ out_signals

  set_up_full : AllZip Full all_signals (set_up_acts n config)
  set_up_full =
      by_set_up InFull in_full n config
      (zip_append Full (outs_of w (output_bits n.ports)) (outs_of w (added_outs n config)) (outputs_ignored n) (ignored (length config.compactor.groups)) (quiet_full w (output_bits n.ports)) (quiet_from w (outs_start n config) (length config.compactor.groups)))

  unloaded_full : (table : Table) (before : Option PatternData) (t : ℕ) → AllZip Full (outs_of w (added_outs n config)) (unloaded config (plan_of n config) table before t)
  unloaded_full table None t = quiet_from w (outs_start n config) (length config.compactor.groups)
  unloaded_full table (Some q) t = expected_full w (λ group. output_bit config.ring table (falling_head (plan_of n config)) q.masks (by_chain (plan_of n config).chains q.response.cells) t group) config.compactor.groups (outs_start n config)

  shift_full : (table : Table) (masks : List Bool) (before : Option PatternData) (t : ℕ) → AllZip Full all_signals (shift_acts n config (plan_of n config) table masks before t)
  shift_full table masks before t =
      by_shift InFull in_full n config table masks before t
      (zip_append Full (outs_of w (output_bits n.ports)) (outs_of w (added_outs n config)) (outputs_ignored n) (unloaded config (plan_of n config) table before t) (quiet_full w (output_bits n.ports)) (unloaded_full table before t))

  capture_full : (merged : Merged) (domain : ℕ) (pulse update : Bool) (outputs : List Tri) → length outputs ≡ length (output_bits n.ports) →
      AllZip Full all_signals (capture_with n config merged domain (added_inputs config false pulse update no_bits no_bits) outputs)
  capture_full merged domain pulse update outputs width =
      by_capture InFull in_full n config merged domain pulse update outputs
      (zip_append Full (outs_of w (output_bits n.ports)) (outs_of w (added_outs n config)) (map compare outputs) (ignored (length config.compactor.groups)) (captured_full w (output_bits n.ports) outputs width)
      (quiet_from w (outs_start n config) (length config.compactor.groups)))

  captures_full : (p : PatternData) → HasOutputs n p → AllByRecursion (λ acts. AllZip Full all_signals acts) (capture_acts n config p)
  captures_full p width = captures_each n config p.merged (λ acts. AllZip Full all_signals acts) (capture_full p.merged) p.merged.domains.first (later_of p.merged.domains) p.response.outputs width

  signals_are : all_signals ≡ signals_of w
  signals_are =
      let outs : outs_of w (output_bits w.ports) ≡ out_signals = ap (outs_of w) (all_outputs n config) ∙ map-append (signal_of w dir.Output) (output_bits n.ports) (added_outs n config) in
      ap (λ (ss : List StilSignal). map (signal_of w dir.Input) (input_bits w.ports) ++ ss) (sym outs)

  pub each_full : (ps : List PatternData) → AllByRecursion (HasOutputs n) ps → AllByRecursion (λ acts. IsFullVector (signals_of w) acts) (vectors_of n config (plan_of n config) ps)
  each_full ps h =
      subst (λ (ss : List StilSignal). AllByRecursion (λ acts. IsFullVector ss acts) (vectors_of n config (plan_of n config) ps)) signals_are
      (each_listed n config (λ acts. AllZip Full all_signals acts) (HasOutputs n) set_up_full shift_full captures_full ps h)

-- a vector that mentions each signal has an act for each
zip_fits : (ss : List StilSignal) (acts : List Act) → IsFullVector ss acts → IsVector ss acts
zip_fits [] [] h = tt
zip_fits [] (a ∷ acts) h = absurd h
zip_fits (s ∷ ss) [] h = absurd h
zip_fits (s ∷ ss) (a ∷ acts) h = (h.0.0, zip_fits ss acts h.1)

pub each_fits : (ss : List StilSignal) (vectors : List (List Act)) → AllByRecursion (λ acts. IsFullVector ss acts) vectors → AllByRecursion (λ acts. IsVector ss acts) vectors
each_fits ss [] h = tt
each_fits ss (acts ∷ vectors) h = (zip_fits ss acts h.0, each_fits ss vectors h.1)
