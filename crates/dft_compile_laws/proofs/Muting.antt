-- Rounds exist for the vectors of patterns: those of the same patterns with nothing compared.
use Rattle.std.proofs.Common.{ℕ, suc, ◌+◌, ◌≡◌, ◌==◌, ◌||◌, Bool, true, false, not, List, [], ◌∷◌, length, map, refl, ap, subst, ◌∙◌}
use Rattle.std.specs.Prelude.{if◌then◌else◌}
use Rattle.dft_base.specs.declared.tri.Tri.{Tri}
use Rattle.dft_netlist.specs.Drivers.{IsOrdered}
use Rattle.dft_behavior.specs.Logic.{Logic, Ports, logic_of}
use Rattle.dft_netlist.specs.Netlist.{Netlist}
use Rattle.dft_behavior.specs.Runs.{Vector}
use Rattle.dft_abstract.specs.Cycle.{Round, after_round, all_unknown}
use Rattle.dft_runs.specs.Passes.{AreRounds}
use Rattle.dft_patterns.specs.Patterns.{Patterns}
use Rattle.dft_patterns.specs.declared.act.Act.{Act}
use Rattle.dft_patterns.specs.declared.act.Act.TheVariants.{Unset, Low, High, Pulse, ExpectLow, ExpectHigh, Ignore}
use Rattle.dft_replay.specs.declared.verdict.Verdict.{Verdict}
use Rattle.dft_replay.specs.Plain.{plain_verdict}
use Rattle.dft_replay.specs.Rows.{Compared, Row, act_on, compared_at, compared_from, is_pulse, nets_of, ports_in, ports_of, pulses, row_of, rows_from, rows_of, set_by}
use Rattle.dft_replay.specs.Verdicts.{HasVerdictFrom, Stops, decided}
use Rattle.dft_replay.proofs.PlainLemmas.{verdict_plain}

-- the act that compares nothing, and else does the same
abbrev mute : Act → Act
mute ExpectLow = Ignore
mute ExpectHigh = Ignore
mute Unset = Unset
mute Low = Low
mute High = High
mute Pulse = Pulse
mute Ignore = Ignore

mute_sets : (a : Act) (t : Tri) → set_by (mute a) t ≡ set_by a t
mute_sets ExpectLow t = refl
mute_sets ExpectHigh t = refl
mute_sets Unset t = refl
mute_sets Low t = refl
mute_sets High t = refl
mute_sets Pulse t = refl
mute_sets Ignore t = refl

mute_pulses : (a : Act) → is_pulse (mute a) ≡ is_pulse a
mute_pulses ExpectLow = refl
mute_pulses ExpectHigh = refl
mute_pulses Unset = refl
mute_pulses Low = refl
mute_pulses High = refl
mute_pulses Pulse = refl
mute_pulses Ignore = refl

abbrev muted : List Act → List Act
muted acts = map (λ a. mute a) acts

abbrev all_muted : List (List Act) → List (List Act)
all_muted vectors = map (λ acts. muted acts) vectors

muted_if : (b : Bool) (a c : Act) → (if b then mute a else mute c) ≡ mute (if b then a else c)
muted_if true a c = refl
muted_if false a c = refl

on_muted : (nets : List ℕ) (acts : List Act) (net : ℕ) → act_on nets (muted acts) net ≡ mute (act_on nets acts net)
on_muted [] acts net = refl
on_muted (first ∷ nets) [] net = refl
on_muted (first ∷ nets) (act ∷ acts) net = ap (λ (x : Act). if first == net then mute act else x) (on_muted nets acts net) ∙ muted_if (first == net) act (act_on nets acts net)

set_muted : (nets : List ℕ) (acts : List Act) (net : ℕ) (t : Tri) → set_by (act_on nets (muted acts) net) t ≡ set_by (act_on nets acts net) t
set_muted nets acts net t = ap (λ (x : Act). set_by x t) (on_muted nets acts net) ∙ mute_sets (act_on nets acts net) t

pulse_muted : (nets : List ℕ) (acts : List Act) (net : ℕ) → is_pulse (act_on nets (muted acts) net) ≡ is_pulse (act_on nets acts net)
pulse_muted nets acts net = ap is_pulse (on_muted nets acts net) ∙ mute_pulses (act_on nets acts net)

-- ---- rows

abbrev pub vectors_by : List Row → List Vector
vectors_by rows = map (λ x. x.vector) rows

muted_row : (nets : List ℕ) (before : ℕ → Tri) (acts : List Act) → (row_of nets before (muted acts)).vector ≡ (row_of nets before acts).vector
muted_row nets before acts = λ i. record { ports = λ net. set_muted nets acts net (before net) i; pulsed = λ net. pulse_muted nets acts net i }

muted_rows : (nets : List ℕ) (before : ℕ → Tri) (vectors : List (List Act)) → vectors_by (rows_from nets before (all_muted vectors)) ≡ vectors_by (rows_from nets before vectors)
muted_rows nets before [] = refl
muted_rows nets before (acts ∷ vectors) =
    ap (λ (x : Vector). x ∷ vectors_by (rows_from nets x.ports (all_muted vectors))) (muted_row nets before acts)
    ∙ ap (λ (xs : List Vector). (row_of nets before acts).vector ∷ xs) (muted_rows nets (row_of nets before acts).vector.ports vectors)

muted_pulses : (nets : List ℕ) (vectors : List (List Act)) (net : ℕ) → pulses nets (all_muted vectors) net ≡ pulses nets vectors net
muted_pulses nets [] net = refl
muted_pulses nets (acts ∷ vectors) net =
    ap (λ (b : Bool). b || pulses nets (all_muted vectors) net) (pulse_muted nets acts net) ∙ ap (λ (b : Bool). is_pulse (act_on nets acts net) || b) (muted_pulses nets vectors net)

muted_ports : (nets : List ℕ) (vectors : List (List Act)) → ports_in nets (all_muted vectors) ≡ ports_in nets vectors
muted_ports nets vectors = λ i. record { is_clock = λ net. muted_pulses nets vectors net i; is_reset = λ net. not (muted_pulses nets vectors net i) }

-- ---- nothing is compared

abbrev AllQuiet : List Row → Type 0
AllQuiet [] = Unit {0}
AllQuiet (x ∷ xs) = (x.compared ≡ []) × AllQuiet xs

muted_at : (i net : ℕ) (a : Act) (rest : List Compared) → compared_at i net (mute a) rest ≡ rest
muted_at i net ExpectLow rest = refl
muted_at i net ExpectHigh rest = refl
muted_at i net Unset rest = refl
muted_at i net Low rest = refl
muted_at i net High rest = refl
muted_at i net Pulse rest = refl
muted_at i net Ignore rest = refl

muted_compares : (i : ℕ) (nets : List ℕ) (acts : List Act) → compared_from i nets (muted acts) ≡ []
muted_compares i [] acts = refl
muted_compares i (net ∷ nets) [] = refl
muted_compares i (net ∷ nets) (a ∷ acts) = muted_at i net a (compared_from (suc i) nets (muted acts)) ∙ muted_compares (suc i) nets acts

muted_quiet : (nets : List ℕ) (before : ℕ → Tri) (vectors : List (List Act)) → AllQuiet (rows_from nets before (all_muted vectors))
muted_quiet nets before [] = tt
muted_quiet nets before (acts ∷ vectors) = (muted_compares 0 nets acts, muted_quiet nets (row_of nets before (muted acts)).vector.ports vectors)

-- where nothing is compared a verdict has a round for each vector
rounds_of : (l : Logic) (old : ℕ → Tri) (v count : ℕ) (rows : List Row) (verdict : Verdict) → AllQuiet rows → HasVerdictFrom l old v count rows verdict → (rs : List Round) × AreRounds l old (vectors_by rows) rs
rounds_of l old v count [] verdict quiet h = ([], tt)
rounds_of l old v count (x ∷ xs) verdict quiet h =
    let next : ℕ → Tri = after_round l x.vector old h.0 in
    let later : HasVerdictFrom l next (suc v) (count + length x.compared) xs verdict =
    subst (λ (cs : List Compared). Stops (decided h.0.strobe v cs) verdict (HasVerdictFrom l next (suc v) (count + length x.compared) xs verdict)) quiet.0 h.1.1 in
    let more = rounds_of l next (suc v) (count + length x.compared) xs verdict quiet.1 later in
    (h.0 ∷ more.0, (h.1.0, more.1))

pub rounds_exist : (n : Netlist) (rank : ℕ → ℕ) (p : Patterns) → IsOrdered n rank → (rs : List Round) × AreRounds (logic_of n (ports_of n p)) all_unknown (vectors_by (rows_of n p)) rs
rounds_exist n rank p ordered =
    let nets : List ℕ = nets_of n p.signals in
    let quiet : Patterns = record { signals = p.signals; vectors = all_muted p.vectors; notes = p.notes } in
    let found = rounds_of (logic_of n (ports_of n quiet)) all_unknown 0 0 (rows_of n quiet) (plain_verdict n quiet) (muted_quiet nets all_unknown p.vectors) (verdict_plain n rank quiet ordered) in
    let same_ports : AreRounds (logic_of n (ports_of n p)) all_unknown (vectors_by (rows_of n quiet)) found.0 =
    subst (λ (ports : Ports). AreRounds (logic_of n ports) all_unknown (vectors_by (rows_of n quiet)) found.0) (muted_ports nets p.vectors) found.1 in
    (found.0, subst (λ (xs : List Vector). AreRounds (logic_of n (ports_of n p)) all_unknown xs found.0) (muted_rows nets all_unknown p.vectors) same_ports)
