-- From vector to vector: what is left of the verdict after one.
use Rattle.std.proofs.Common.{Fits, w64, ℕ, suc, ◌+◌, ◌*◌, ◌^◌, ◌<◌, ◌≤◌, not, List, [], ◌∷◌, ◌≡◌, Option, None, Some, length, map, drop, refl, sym, ap, ◌∙◌, subst, get_or, arith}
use Rattle.std.specs.Prelude.{All, count_by}
use Rattle.std.proofs.Math.Seq.{drop-cons}
use Rattle.std.proofs.lemmas.List.{drop_all, get_or_default}
use Rattle.std.proofs.lemmas.Nat.{mul-le}
use Rattle.std.proofs.lemmas.List.Sums.{count_by-le-length}
use Rattle.dft_base.specs.declared.tri.Tri.{Tri}
use Rattle.dft_netlist.specs.declared.ids.NetId.{NetId}
use Rattle.dft_netlist.specs.Netlist.{Netlist}
use Rattle.dft_behavior.specs.Logic.{Logic, logic_of}
use Rattle.dft_netlist.specs.Orders.{numbers_of}
use Rattle.dft_abstract.specs.Cycle.{Round, IsRound, after_round, all_unknown}
use Rattle.dft_cycle.specs.Machine.{Machine, value_at, logic, is_one_of, IsStart}
use Rattle.dft_patterns.specs.declared.act.Act.{Act}
use Rattle.dft_replay.specs.declared.verdict.Unknowns.{Unknowns}
use Rattle.dft_replay.specs.declared.verdict.Verdict.{Verdict}
use Rattle.dft_replay.specs.declared.verdict.Verdict.TheVariants.{Pass}
use Rattle.dft_replay.specs.Rows.{Row, row_of, rows_from, ports_in, pulses}
use Rattle.dft_replay.specs.Vectors.{net_at, clocks_of, is_compared, IsPlayed}
use Rattle.dft_replay.specs.Verdicts.{bits_decide, Stops, EndsFrom}
use Rattle.dft_replay.proofs.Uniqueness.{same_map}
use Rattle.dft_replay.proofs.VectorLemmas.{Differ, count_compared, clocks_pulse}

-- ---- counts

pub few_more : (compared v signals count : ℕ) → compared ≤ v * signals → count ≤ signals → compared + count ≤ (v + 1) * signals
few_more compared v signals count few less = grind arith

pub few_counted : (compared v signals count : ℕ) (acts : List Act) → compared ≤ v * signals → count ≡ count_by is_compared acts → length acts ≡ signals → compared + count ≤ (v + 1) * signals
few_counted compared v signals count acts few counted same = (let most : count_by is_compared acts ≤ length acts = count_by-le-length is_compared acts in few_more compared v signals count few (omega arith))

-- as many compared bits as vectors times signals fit in 64 bits
product_fits : (a b : ℕ) → a ≤ 2 ^ 32 → b ≤ 2 ^ 31 → a * b ≤ 2 ^ 32 * 2 ^ 31
product_fits a b few short = mul-le a b (2 ^ 32) (2 ^ 31) few short

pub count_fits : (compared v vectors signals count : ℕ) (acts : List Act) → compared ≤ v * signals → count ≡ count_by is_compared acts → length acts ≡ signals → v < vectors → vectors < 2 ^ 32 → signals < 2 ^ 31 → Fits w64 (compared + count)
count_fits compared v vectors signals count acts few counted same less short narrow =
    let all = few_counted compared v signals count acts few counted same in
    let most = product_fits (v + 1) signals (omega (arith, less, short)) (omega (arith, narrow)) in
    omega (arith, all, most)

-- no vector is left
pub none_left : (u : Unknowns) (l : Logic) (old inputs : ℕ → Tri) (v compared : ℕ) (nets : List ℕ) (vectors : List (List Act)) → length vectors ≤ v → EndsFrom u l old v compared (rows_from nets inputs (drop v vectors)) (Pass compared)
none_left u l old inputs v compared nets vectors end =
    subst (λ (left : List (List Act)). EndsFrom u l old v compared (rows_from nets inputs left) (Pass compared)) (sym (drop_all v vectors end)) refl

-- ---- the vector with a number

pub read_at : (vectors : List (List Act)) (v : ℕ) (item acts : List Act) → v < length vectors → item ≡ get_or vectors v item → acts ≡ item → get_or vectors v [] ≡ acts
read_at vectors v item acts less is same = get_or_default vectors v [] item less ∙ sym is ∙ sym same

pub long_at : (vectors : List (List Act)) (v count : ℕ) (acts : List Act) → All (λ acts. length acts ≡ count) vectors → v < length vectors → get_or vectors v [] ≡ acts → length acts ≡ count
long_at vectors v count acts all less here = sym (ap length here) ∙ all v [] less

-- ---- the machine means what the design does

pub machine_means : (n : Netlist) (m : Machine) (nets : List NetId) (vectors : List (List Act)) → m.netlist ≡ n → m.clocks ≡ map (net_at nets) (clocks_of (length nets) vectors) → Differ (numbers_of nets) → All (λ acts. length acts ≡ length nets) vectors →
    logic m ≡ logic_of n (ports_in (numbers_of nets) vectors)
unfolding logic
machine_means n m nets vectors netlist clocks differ same =
    let clock : (e : ℕ) → is_one_of m.clocks e ≡ pulses (numbers_of nets) vectors e = λ e. ap (λ (cs : List NetId). is_one_of cs e) clocks ∙ clocks_pulse nets vectors e differ same in
    λ t. logic_of (netlist t) (record { is_clock = λ e. clock e t; is_reset = λ e. not (clock e t) })

-- ---- vectors

-- the rest of the vectors begins with this one
rows_split : (nets : List ℕ) (before : ℕ → Tri) (vectors : List (List Act)) (v : ℕ) (acts : List Act) → v < length vectors → get_or vectors v [] ≡ acts →
    rows_from nets before (drop v vectors) ≡ row_of nets before acts ∷ rows_from nets (row_of nets before acts).vector.ports (drop (suc v) vectors)
rows_split nets before vectors v acts within here = ap (rows_from nets before) (drop-cons vectors v [] within ∙ ap (λ (row : List Act). row ∷ drop (suc v) vectors) here)

-- a vector that decided ends the verdict
pub ends : (u : Unknowns) (l : Logic) (nets : List ℕ) (vectors : List (List Act)) (v compared : ℕ) (acts : List Act) (m after : Machine) (decision : Option Verdict) (verdict : Verdict) → logic m ≡ l → v < length vectors → get_or vectors v [] ≡ acts →
    IsPlayed u m (row_of nets (value_at m.inputs) acts) v decision after → decision ≡ Some verdict → EndsFrom u l (value_at m.cells) v compared (rows_from nets (value_at m.inputs) (drop v vectors)) verdict
ends u l nets vectors v compared acts m after decision verdict means within here played is =
    let x : Row = row_of nets (value_at m.inputs) acts in
    let old : ℕ → Tri = value_at m.cells in
    let r : Round = played.round in
    let holds : IsRound l x.vector old r = subst (λ (k : Logic). IsRound k x.vector old r) means played.holds in
    let rest : List Row = rows_from nets x.vector.ports (drop (suc v) vectors) in
    let Later : Type 0 = EndsFrom u l (after_round l x.vector old r) (suc v) (compared + length x.compared) rest verdict in
    let stops : Stops (bits_decide u r.strobe v x.compared) verdict Later = subst (λ (d : Option Verdict). Stops d verdict Later) (sym is ∙ played.says) refl in
    subst (λ (rows : List Row). EndsFrom u l old v compared rows verdict) (sym (rows_split nets (value_at m.inputs) vectors v acts within here)) (r, (holds, stops))

-- a vector that decided nothing leaves the verdict to the others
pub goes_on : (u : Unknowns) (l : Logic) (nets : List ℕ) (vectors : List (List Act)) (v compared count : ℕ) (acts : List Act) (m after : Machine) (decision : Option Verdict) (verdict : Verdict) → (means : logic m ≡ l) → (within : v < length vectors) → (here : get_or vectors v [] ≡ acts) → (same : length acts ≡ length nets) → (counted : count ≡ count_by is_compared acts) →
    (played : IsPlayed u m (row_of nets (value_at m.inputs) acts) v decision after) → (is : decision ≡ None) → (later : EndsFrom u l (value_at after.cells) (v + 1) (compared + count) (rows_from nets (value_at after.inputs) (drop (v + 1) vectors)) verdict) →
    EndsFrom u l (value_at m.cells) v compared (rows_from nets (value_at m.inputs) (drop v vectors)) verdict
goes_on u l nets vectors v compared count acts m after decision verdict means within here same counted played is later =
    let x : Row = row_of nets (value_at m.inputs) acts in
    let old : ℕ → Tri = value_at m.cells in
    let r : Round = played.round in
    let holds : IsRound l x.vector old r = subst (λ (k : Logic). IsRound k x.vector old r) means played.holds in
    let cells : value_at after.cells ≡ after_round l x.vector old r = same_map _ _ (λ c. played.cells c ∙ ap (λ (k : Logic). after_round k x.vector old r c) means) in
    let inputs : value_at after.inputs ≡ x.vector.ports = same_map _ _ played.inputs in
    let number : v + 1 ≡ suc v = omega arith in
    let sum : compared + count ≡ compared + length x.compared = ap (λ (k : ℕ). compared + k) (counted ∙ sym (count_compared 0 nets acts same)) in
    let Later : Type 0 = EndsFrom u l (after_round l x.vector old r) (suc v) (compared + length x.compared) (rows_from nets x.vector.ports (drop (suc v) vectors)) verdict in
    let then : Later = subst (λ (s : ℕ). EndsFrom u l (after_round l x.vector old r) (suc v) s (rows_from nets x.vector.ports (drop (suc v) vectors)) verdict) sum
    (subst (λ (k : ℕ). EndsFrom u l (after_round l x.vector old r) k (compared + count) (rows_from nets x.vector.ports (drop k vectors)) verdict) number
    (subst (λ (w : ℕ → Tri). EndsFrom u l (after_round l x.vector old r) (v + 1) (compared + count) (rows_from nets w (drop (v + 1) vectors)) verdict) inputs
    (subst (λ (w : ℕ → Tri). EndsFrom u l w (v + 1) (compared + count) (rows_from nets (value_at after.inputs) (drop (v + 1) vectors)) verdict) cells later))) in
    let stops : Stops (bits_decide u r.strobe v x.compared) verdict Later = subst (λ (d : Option Verdict). Stops d verdict Later) (sym is ∙ played.says) then in
    subst (λ (rows : List Row). EndsFrom u l old v compared rows verdict) (sym (rows_split nets (value_at m.inputs) vectors v acts within here)) (r, (holds, stops))

-- at the start nothing is known
pub starts : (u : Unknowns) (l : Logic) (n : Netlist) (clocks : List NetId) (m : Machine) (nets : List ℕ) (vectors : List (List Act)) (verdict : Verdict) → IsStart n clocks m →
    EndsFrom u l (value_at m.cells) 0 0 (rows_from nets (value_at m.inputs) (drop 0 vectors)) verdict → EndsFrom u l all_unknown 0 0 (rows_from nets all_unknown vectors) verdict
starts u l n clocks m nets vectors verdict start h =
    let cells : value_at m.cells ≡ all_unknown = same_map _ _ start.cells in
    let inputs : value_at m.inputs ≡ all_unknown = same_map _ _ start.inputs in
    subst (λ (w : ℕ → Tri). EndsFrom u l all_unknown 0 0 (rows_from nets w (drop 0 vectors)) verdict) inputs
    (subst (λ (w : ℕ → Tri). EndsFrom u l w 0 0 (rows_from nets (value_at m.inputs) (drop 0 vectors)) verdict) cells h)
