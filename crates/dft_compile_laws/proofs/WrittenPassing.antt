-- Compiled patterns pass on their scanned netlist.
use Rattle.std.proofs.Common.{ℕ, ◌+◌, ◌≡◌, ◌||◌, List, [], ◌∷◌, ◌++◌, refl, sym, ap, subst, arith, ◌∙◌}
use Rattle.std.specs.Prelude.{not}
use Rattle.std.specs.List.{list_any}
use Rattle.std.proofs.lemmas.List.{map-append}
use Rattle.dft_base.specs.declared.tri.Tri.{Tri}
use Rattle.dft_netlist.specs.declared.ids.NetId.{NetId}
use Rattle.dft_behavior.specs.Logic.{logic_of}
use Rattle.dft_netlist.specs.Netlist.{Netlist}
use Rattle.dft_netlist.specs.Orders.{IsOrder}
use Rattle.dft_behavior.specs.Runs.{Vector}
use Rattle.dft_netlist.specs.Sound.{IsNetlist}
use Rattle.dft_netlist.proofs.RankLemmas.{order_ranks}
use Rattle.dft_abstract.specs.Cycle.{all_unknown}
use Rattle.dft_config.specs.Config.{Config}
use Rattle.dft_stitch.specs.Chains.{plan_of}
use Rattle.dft_expect.specs.Captures.{output_bits}
use Rattle.dft_patterns.specs.declared.act.Act.{Act}
use Rattle.dft_patterns.specs.Patterns.{Patterns}
use Rattle.dft_replay.specs.declared.verdict.Verdict.TheVariants.{Pass}
use Rattle.dft_replay.specs.Rows.{act_on, is_pulse, nets_of, ports_in, ports_of, pulses, row_of, rows_from, rows_of}
use Rattle.dft_replay.specs.Verdicts.{HasVerdict}
use Rattle.dft_replay.proofs.Soundness.{pass_sound}
use Rattle.dft_scan_frame.specs.Statements.{IsReady}
use Rattle.dft_insert.specs.declared.style.Style.TheVariants.{Edt}
use Rattle.dft_insert.specs.Statements.{scanned}
use Rattle.dft_scan_behavior.specs.EdtVectors.{SuitsEdt}
use Rattle.dft_vectors.specs.PatternData.{PatternData}
use Rattle.dft_vectors.specs.Signals.{input_bits, signals_of}
use Rattle.dft_vectors.specs.VectorList.{vectors_of}
use Rattle.dft_pattern_behavior.specs.Doing.{AllDo, ports_by}
use Rattle.dft_pattern_behavior.specs.Listed.{ArePatterns}
use Rattle.dft_pattern_behavior.proofs.Clocking.{set_suits}
use Rattle.dft_compile_laws.specs.Passing.{set_of}
use Rattle.dft_compile_laws.specs.Written.{WrittenPass, all_compared}
use Rattle.dft_compile_laws.proofs.Agreements.{AllAgree, all_compared_in, passes_from}
use Rattle.dft_compile_laws.proofs.Counting.{listed_count}
use Rattle.dft_compile_laws.proofs.Fitting.{signals_fit}
use Rattle.dft_compile_laws.proofs.Listing.{rows_play, signals_at}
use Rattle.dft_compile_laws.proofs.Muting.{rounds_exist, vectors_by}
use Rattle.dft_compile_laws.proofs.OutPlaces.{added_outs, all_outputs}
use Rattle.dft_compile_laws.proofs.Outs.{signal_nets}
use Rattle.dft_compile_laws.proofs.Rows.{numbers}
use Rattle.dft_compile_laws.proofs.Shown.{listed_agree}

-- ---- ports

pulses_by : (nets : List ℕ) (before : ℕ → Tri) (vectors : List (List Act)) (net : ℕ) → list_any (λ (x : Vector). x.pulsed net) (vectors_by (rows_from nets before vectors)) ≡ pulses nets vectors net
pulses_by nets before [] net = refl
pulses_by nets before (acts ∷ vectors) net = ap (λ b. is_pulse (act_on nets acts net) || b) (pulses_by nets (row_of nets before acts).vector.ports vectors net)

-- the ports of rows are those of their vectors
ports_same : (nets : List ℕ) (before : ℕ → Tri) (vectors : List (List Act)) → ports_by (vectors_by (rows_from nets before vectors)) ≡ ports_in nets vectors
ports_same nets before vectors = λ i. record { is_clock = λ net. pulses_by nets before vectors net i; is_reset = λ net. not (pulses_by nets before vectors net i) }

-- ---- nets

nets_same : (n : Netlist) (config : Config) → IsNetlist (scanned Edt n config) → nets_of (scanned Edt n config) (signals_of (scanned Edt n config)) ≡ signal_nets n config
nets_same n config sound =
    let w : Netlist = scanned Edt n config in
    signals_at w sound
    ∙ ap (λ (xs : List NetId). numbers (input_bits w.ports) ++ numbers xs) (all_outputs n config)
    ∙ ap (λ (ks : List ℕ). numbers (input_bits w.ports) ++ ks) (map-append (λ (k : NetId). k.0) (output_bits n.ports) (added_outs n config))

-- ---- the verdict

verdict_of : (n : Netlist) (config : Config) (patterns : List PatternData) (order : List ℕ) → IsReady n config → IsNetlist (scanned Edt n config) → IsOrder (scanned Edt n config) order → ArePatterns n config patterns →
    HasVerdict (scanned Edt n config) (set_of n config patterns) (Pass (all_compared config (plan_of n config) patterns))
verdict_of n config [] order ready sound ordered are = refl
verdict_of n config (p ∷ ps) order ready sound ordered are =
    let w : Netlist = scanned Edt n config in
    let set : Patterns = set_of n config (p ∷ ps) in
    let vectors : List (List Act) = vectors_of n config (plan_of n config) (p ∷ ps) in
    let nets : List ℕ = nets_of w (signals_of w) in
    let same : nets ≡ signal_nets n config = nets_same n config sound in
    let ranked = order_ranks w order sound ordered in
    let found = rounds_exist w ranked.0 set ranked.1 in
    let xs : List Vector = vectors_by (rows_of w set) in
    let does : AllDo w vectors xs = rows_play n config (p ∷ ps) sound in
    let suits : SuitsEdt n config (ports_of w set) = subst (SuitsEdt n config) (ports_same nets all_unknown vectors) (set_suits n config p ps xs ready does) in
    let agree : AllAgree nets vectors found.0 =
    subst (λ (ks : List ℕ). AllAgree ks vectors found.0) (sym same) (listed_agree n config (ports_of w set) p ps all_unknown xs found.0 ready suits are does found.1) in
    let count : 0 + all_compared_in nets vectors ≡ all_compared config (plan_of n config) (p ∷ ps) =
    (let of_set = ap (λ (ks : List ℕ). all_compared_in ks vectors) same ∙ listed_count n config p ps are in omega (arith, of_set)) in
    subst (λ (m : ℕ). HasVerdict w set (Pass m)) count (passes_from (logic_of w (ports_of w set)) nets all_unknown all_unknown 0 0 vectors found.0 found.1 agree)

pub written_pass : WrittenPass
written_pass n config patterns order ready sound ordered are =
    let w : Netlist = scanned Edt n config in
    let set : Patterns = set_of n config patterns in
    let verdict = verdict_of n config patterns order ready sound ordered are in
    let ranked = order_ranks w order sound ordered in
    record {
      fits = signals_fit w sound;
      verdict = verdict;
      shows = λ start turns run. pass_sound w ranked.0 set (all_compared config (plan_of n config) patterns) start turns ranked.1 verdict run;
    }
