-- All compared bits of listed vectors agree with their rounds.
use Rattle.std.proofs.Common.{ℕ, zero, suc, ◌+◌, ◌*◌, ◌≡◌, Bool, true, false, List, [], ◌∷◌, ◌++◌, length, take, drop, slice_get, Option, None, Some, refl, sym, ap, subst, arith, ◌∙◌}
use Rattle.std.proofs.lemmas.List.{append_assoc, length-drop, length-take-le}
use Rattle.std.proofs.lemmas.Option.{none-some}
use Rattle.dft_base.specs.declared.tri.Tri.{Tri}
use Rattle.dft_behavior.specs.Logic.{Logic, Ports}
use Rattle.dft_netlist.specs.Netlist.{Netlist}
use Rattle.dft_behavior.specs.Runs.{Vector}
use Rattle.dft_abstract.specs.Cycle.{Round, after_round}
use Rattle.dft_cubes.specs.declared.cube.Merged.{Merged}
use Rattle.dft_cubes.specs.Domains.{later_of}
use Rattle.dft_config.specs.Config.{Config}
use Rattle.dft_config.specs.Ring.{Table}
use Rattle.dft_runs.specs.Passes.{AreRounds, after_rounds}
use Rattle.dft_stitch.specs.Chains.{plan_of}
use Rattle.dft_expect.specs.Captures.{output_bits}
use Rattle.dft_expect.proofs.VectorLemmas.{outputs_count}
use Rattle.dft_patterns.specs.declared.act.Act.{Act}
use Rattle.dft_scan_frame.specs.Statements.{IsReady}
use Rattle.dft_insert.specs.declared.style.Style.TheVariants.{Edt}
use Rattle.dft_insert.specs.Statements.{scanned}
use Rattle.dft_scan_behavior.specs.EdtVectors.{SuitsEdt, edt_logic}
use Rattle.dft_pattern_behavior.specs.Given.{IsPattern, Pattern}
use Rattle.dft_pattern_behavior.specs.Rounds.{ArePlayed, AreShown, LastLoad, Played, ShowsBefore, ShowsCaptures}
use Rattle.dft_pattern_behavior.proofs.Patterns.{patterns_show}
use Rattle.dft_vectors.specs.PatternData.{PatternData, load_of}
use Rattle.dft_vectors.specs.VectorList.{capture_acts, captures_with, load_vectors, no_table, last_of, pattern_vectors, set_up_acts, shift_acts, vectors_of}
use Rattle.dft_pattern_behavior.specs.Doing.{AllDo}
use Rattle.dft_pattern_behavior.specs.Listed.{ArePatterns, pattern_of}
use Rattle.dft_pattern_behavior.proofs.Splitting.{first_do, split_do, split_rounds, first_round}
use Rattle.dft_pattern_behavior.proofs.Playing.{captures_capture, loads_from, loads_load, set_up_clears}
use Rattle.dft_compile_laws.specs.Agreeing.{Agrees}
use Rattle.dft_compile_laws.proofs.Agreements.{AllAgree, agree_append, agree_from}
use Rattle.dft_encode.specs.Laws.{HasOutputs}
use Rattle.dft_encode.proofs.WidthLemmas.{last_left, one_left}
use Rattle.dft_compile_laws.proofs.Played.{captures_count}
use Rattle.dft_compile_laws.proofs.Outs.{capture_agrees, set_up_agrees, shift_agrees, shown_of, signal_nets, unloads_at}

-- ---- lists of vectors and rounds

rounds_length : (l : Logic) (old : ℕ → Tri) (xs : List Vector) (rs : List Round) → AreRounds l old xs rs → length rs ≡ length xs
rounds_length l old [] [] h = refl
rounds_length l old [] (r ∷ rs) h = absurd h
rounds_length l old (x ∷ xs) [] h = absurd h
rounds_length l old (x ∷ xs) (r ∷ rs) h = ap suc (rounds_length l (after_round l x old r) xs rs h.1)

-- ---- loads

load_agrees : (n : Netlist) (config : Config) (table : Table) (masks : List Bool) (before : Option PatternData) (rs : List Round) → length rs ≡ (plan_of n config).cycles → ShowsBefore n config (shown_of config before) table rs →
    AllAgree (signal_nets n config) (load_vectors n config (plan_of n config) table masks before) rs
load_agrees n config table masks before rs count h =
    agree_from (signal_nets n config) (shift_acts n config (plan_of n config) table masks before) 0 (plan_of n config).cycles rs count
    (λ t r at. let same : t ≡ 0 + t = omega arith in
    subst (λ (k : ℕ). Agrees r.strobe (signal_nets n config) (shift_acts n config (plan_of n config) table masks before k)) same (shift_agrees n config table masks before t r.strobe (unloads_at n config table before rs h t r at)))

-- a pattern captures a value for each output bit in each of its vectors
pub outputs_width : (n : Netlist) (config : Config) (p : PatternData) → IsPattern n config (pattern_of config p) → HasOutputs n p
outputs_width n config p is = outputs_count n config (plan_of n config).chains (pattern_of config p).merged _ _ is.captured

-- ---- captures

front_at : {X : Type 0} (xs : List X) (m k : ℕ) (x : X) → slice_get (take m xs) k ≡ Some x → slice_get xs k ≡ Some x
front_at xs zero k x at = absurd (none-some x at)
front_at [] (suc m) k x at = absurd (none-some x at)
front_at (y ∷ xs) (suc m) zero x at = at
front_at (y ∷ xs) (suc m) (suc k) x at = front_at xs m k x at

captures_agree : (n : Netlist) (config : Config) (merged : Merged) (domain : ℕ) (later : List ℕ) (outputs : List Tri) (rs : List Round) → IsReady n config → length outputs ≡ suc (length later) * length (output_bits n.ports) → length rs ≡ suc (length later) →
    ShowsCaptures n config outputs rs → AllAgree (signal_nets n config) (captures_with n config merged domain later outputs) rs
captures_agree n config merged domain [] outputs [] ready width count shown = absurd (omega (arith, count))
captures_agree n config merged domain [] outputs (r ∷ q ∷ rs) ready width count shown = absurd (omega (arith, count))
captures_agree n config merged domain [] outputs (r ∷ []) ready width count shown =
    (capture_agrees n config merged domain true true outputs r ready (last_left (length outputs) (length (output_bits n.ports)) width) shown.0, tt)
captures_agree n config merged domain (next ∷ later) outputs [] ready width count shown = absurd (omega (arith, count))
captures_agree n config merged domain (next ∷ later) outputs (r ∷ rs) ready width count shown =
    let own : ℕ = length (output_bits n.ports) in
    let left = one_left (length outputs) own (length later) width in (
      capture_agrees n config merged domain false false (take own outputs) r ready (length-take-le own outputs left.0) (λ k net value at here. shown.0 k net value at (front_at outputs own k value here)),
      captures_agree n config merged next later (drop own outputs) rs ready (length-drop own outputs ∙ left.1) (omega (arith, count)) shown.1,
    )

-- ---- patterns

-- Patterns that are played, so that their vectors agree where they are shown.
record Plays (n : Netlist) (config : Config) (ports : Ports) (before : Option PatternData) (vectors : List (List Act)) (old : ℕ → Tri) (rs : List Round) : Type 0 where
  pub played : List Played
  pub last : LastLoad
  pub are : ArePlayed n config ports old played last
  pub agree : AreShown n config (shown_of config before) played last → AllAgree (signal_nets n config) vectors rs

play_patterns : (n : Netlist) (config : Config) (ports : Ports) (before : Option PatternData) (ps : List PatternData) (old : ℕ → Tri) (xs : List Vector) (rs : List Round) → IsReady n config → ArePatterns n config ps →
    AllDo (scanned Edt n config) (pattern_vectors n config (plan_of n config) before ps ++ load_vectors n config (plan_of n config) no_table [] (last_of before ps)) xs → AreRounds (edt_logic n config ports) old xs rs →
    Plays n config ports before (pattern_vectors n config (plan_of n config) before ps ++ load_vectors n config (plan_of n config) no_table [] (last_of before ps)) old rs
play_patterns n config ports before [] old xs rs ready are h rounds =
    let loads = loads_from n config no_table [] before 0 (plan_of n config).cycles xs ready h in
    record {
      played = [];
      last = record { table = no_table; load = xs; rounds = rs };
      are = (loads.carries, rounds);
      agree = λ shown. load_agrees n config no_table [] before rs (rounds_length (edt_logic n config ports) old xs rs rounds ∙ loads.count) shown;
    }
play_patterns n config ports before (p ∷ ps) old xs rs ready are h rounds =
    let w : Netlist = scanned Edt n config in
    let l : Logic = edt_logic n config ports in
    let nets : List ℕ = signal_nets n config in
    let its : Pattern = pattern_of config p in
    let load : List (List Act) = load_vectors n config (plan_of n config) (load_of config p) p.masks before in
    let more : List (List Act) = pattern_vectors n config (plan_of n config) (Some p) ps in
    let final : List (List Act) = load_vectors n config (plan_of n config) no_table [] (last_of (Some p) ps) in
    let caught : List (List Act) = capture_acts n config p in
    let parts : (load ++ (caught ++ more)) ++ final ≡ load ++ (caught ++ (more ++ final)) = append_assoc load (caught ++ more) final ∙ ap (λ (vs : List (List Act)). load ++ vs) (append_assoc caught more final) in
    let s = split_do w load (caught ++ (more ++ final)) xs (subst (λ (vs : List (List Act)). AllDo w vs xs) parts h) in
    let c = split_do w caught (more ++ final) s.1 s.4 in
    let joined : xs ≡ s.0 ++ (c.0 ++ c.1) = s.2 ∙ ap (λ (v : List Vector). s.0 ++ v) c.2 in
    let q = split_rounds l old s.0 (c.0 ++ c.1) rs (subst (λ (v : List Vector). AreRounds l old v rs) joined rounds) in
    let loaded : ℕ → Tri = after_rounds l old s.0 q.0 in
    let r = split_rounds l loaded c.0 c.1 q.1 q.4 in
    let all : rs ≡ q.0 ++ (r.0 ++ r.1) = q.2 ∙ ap (λ (v : List Round). q.0 ++ v) r.2 in
    let loads = loads_load n config its before s.0 ready s.3 in
    let first : ℕ = p.merged.domains.first in
    let later : List ℕ = later_of p.merged.domains in
    let captures = captures_capture n config its first later p.response.outputs c.0 ready c.3 in
    let count : length q.0 ≡ (plan_of n config).cycles = rounds_length l old s.0 q.0 q.3 ∙ loads.count in
    let caught_count : length r.0 ≡ suc (length later) = rounds_length l loaded c.0 r.0 r.3 ∙ captures_count n config its first later c.0 captures in
    let rest = play_patterns n config ports (Some p) ps (after_rounds l loaded c.0 r.0) c.1 r.1 ready are.1 c.4 r.4 in
    record {
      played = record { pattern = its; load = s.0; captures = c.0; rounds = q.0; capturing = r.0 } ∷ rest.played;
      last = rest.last;
      are = (are.0, loads, captures, q.3, r.3, rest.are);
      agree = λ shown.
          let listed : AllAgree nets (load ++ (caught ++ (more ++ final))) (q.0 ++ (r.0 ++ r.1)) =
          agree_append nets load (caught ++ (more ++ final)) q.0 (r.0 ++ r.1) (load_agrees n config (load_of config p) p.masks before q.0 count shown.0)
          (agree_append nets caught (more ++ final) r.0 r.1 (captures_agree n config p.merged first later p.response.outputs r.0 ready (outputs_width n config p are.0) caught_count shown.1) (rest.agree shown.2)) in
          let put : AllAgree nets ((load ++ (caught ++ more)) ++ final) (q.0 ++ (r.0 ++ r.1)) = subst (λ (vs : List (List Act)). AllAgree nets vs (q.0 ++ (r.0 ++ r.1))) (sym parts) listed in
          subst (λ (v : List Round). AllAgree nets ((load ++ (caught ++ more)) ++ final) v) (sym all) put;
    }

-- all listed vectors agree with their rounds
pub listed_agree : (n : Netlist) (config : Config) (ports : Ports) (p : PatternData) (ps : List PatternData) (old : ℕ → Tri) (xs : List Vector) (rs : List Round) → IsReady n config → SuitsEdt n config ports →
    ArePatterns n config (p ∷ ps) → AllDo (scanned Edt n config) (vectors_of n config (plan_of n config) (p ∷ ps)) xs → AreRounds (edt_logic n config ports) old xs rs →
    AllAgree (signal_nets n config) (vectors_of n config (plan_of n config) (p ∷ ps)) rs
listed_agree n config ports p ps old xs rs ready suits are h rounds =
    let w : Netlist = scanned Edt n config in
    let l : Logic = edt_logic n config ports in
    let rest : List (List Act) = pattern_vectors n config (plan_of n config) None (p ∷ ps) ++ load_vectors n config (plan_of n config) no_table [] (last_of None (p ∷ ps)) in
    let c = first_do w (set_up_acts n config) rest xs h in
    let r = first_round l old c.0 c.1 rs (subst (λ (v : List Vector). AreRounds l old v rs) c.2 rounds) in
    let plays = play_patterns n config ports None (p ∷ ps) (after_round l c.0 old r.0) c.1 r.1 ready are c.4 r.4 in
    let shown : AreShown n config None plays.played plays.last = patterns_show n config ports c.0 old r.0 plays.played plays.last ready suits (set_up_clears n config c.0 ready c.3) r.3 plays.are in
    subst (λ (v : List Round). AllAgree (signal_nets n config) (set_up_acts n config ∷ rest) v) (sym r.2) (set_up_agrees n config r.0.strobe, plays.agree shown)
