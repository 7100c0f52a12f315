-- Where the abstract values decide, every run agrees.
use Rattle.std.proofs.Common.{ℕ, suc, ◌+◌, Bool, true, false, not, List, [], ◌∷◌, ◌≡◌, ◌⊎◌, inl, inr, refl, length, Option}
use Rattle.dft_base.specs.declared.tri.Tri.{Tri}
use Rattle.dft_base.specs.declared.tri.Tri.TheVariants.{Zero, One, Unknown}
use Rattle.dft_base.specs.Tri.{Above}
use Rattle.dft_behavior.specs.Logic.{Logic, IsRanked, logic_of}
use Rattle.dft_behavior.specs.Runs.{Now, Turn, AreTurns, after_turn}
use Rattle.dft_netlist.specs.Netlist.{Netlist}
use Rattle.dft_netlist.specs.Orders.{IsOrder}
use Rattle.dft_netlist.specs.Sound.{IsNetlist}
use Rattle.dft_behavior.proofs.Ranks.{order_is_rank}
use Rattle.dft_netlist.proofs.RankLemmas.{order_ranks}
use Rattle.dft_abstract.specs.Cycle.{Round, after_round, all_unknown}
use Rattle.dft_abstract.specs.Laws.{Stands}
use Rattle.dft_abstract.proofs.Halves.{least_closed}
use Rattle.dft_abstract.proofs.Turns.{strobe_stands, turn_stands}
use Rattle.dft_replay.specs.declared.verdict.Verdict.{Verdict}
use Rattle.dft_replay.specs.declared.verdict.Verdict.TheVariants.{Pass, Mismatch, Undetermined}
use Rattle.dft_replay.specs.Rows.{Compared, Row, rows_of, ports_of}
use Rattle.dft_patterns.specs.Patterns.{Patterns}
use Rattle.dft_replay.specs.Verdicts.{decided_by, decided, Stops, HasVerdictFrom, HasVerdict}
use Rattle.dft_replay.specs.Laws.{vectors_of, Shows, AllShow, Breaks, FirstBreak, PassIsSound, MismatchIsSound, HoldsInRuns}

-- ---- Pass

bit_shows : (v i : ℕ) (t : Tri) (printed seen : Bool) (rest : Option Verdict) (compared : ℕ) (later : Type 0) → Above t seen → Stops (decided_by v i t printed rest) (Pass compared) later → (seen ≡ printed) × Stops rest (Pass compared) later
bit_shows v i Unknown printed seen rest compared later above stops = absurd cc
bit_shows v i Zero false false rest compared later above stops = (refl, stops)
bit_shows v i Zero false true rest compared later above stops = absurd above
bit_shows v i Zero true seen rest compared later above stops = absurd cc
bit_shows v i One true true rest compared later above stops = (refl, stops)
bit_shows v i One true false rest compared later above stops = absurd above
bit_shows v i One false seen rest compared later above stops = absurd cc

vector_shows : (values : ℕ → Tri) (seen : ℕ → Bool) (v : ℕ) (cs : List Compared) (compared : ℕ) (later : Type 0) → ((net : ℕ) → Above (values net) (seen net)) → Stops (decided values v cs) (Pass compared) later → Shows seen cs × later
vector_shows values seen v [] compared later above stops = (tt, stops)
vector_shows values seen v (c ∷ cs) compared later above stops =
    let here = bit_shows v c.signal (values c.net) c.bit (seen c.net) (decided values v cs) compared later (above c.net) stops in
    let there = vector_shows values seen v cs compared later above here.1 in
    ((here.0, there.0), there.1)

all_show : (l : Logic) (rank : ℕ → ℕ) (old : ℕ → Tri) (v count compared : ℕ) (rows : List Row) (now : Now) (turns : List Turn) → IsRanked l rank → HasVerdictFrom l old v count rows (Pass compared) → Stands old now.state → AreTurns l now (vectors_of rows) turns → AllShow rows turns
all_show l rank old v count compared [] now turns ranked verdict stands run = tt
all_show l rank old v count compared (x ∷ xs) now [] ranked verdict stands run = absurd run
all_show l rank old v count compared (x ∷ xs) now (t ∷ ts) ranked verdict stands run =
    let r : Round = verdict.0 in
    let above = strobe_stands l rank x.vector old r.strobe now t ranked stands run.0 verdict.1.0.strobe in
    let here = vector_shows r.strobe t.strobe.seen v x.compared compared _ above verdict.1.1 in
    let after = turn_stands l rank x.vector old now t r.halves ranked stands run.0 (least_closed l x.vector old r.halves verdict.1.0.least) in
    (here.0, all_show l rank (after_round l x.vector old r) (suc v) (count + length x.compared) compared xs (after_turn l x.vector now t) ts ranked here.1 after run.1)

pub pass_sound : PassIsSound
pass_sound n rank p compared start turns order verdict run =
    all_show (logic_of n (ports_of n p)) rank all_unknown 0 0 compared (rows_of n p) start turns (order_is_rank n (ports_of n p) rank order) verdict (record { above = λ c. tt; low = run.low }) run.turns

-- ---- Mismatch

bit_breaks : (u j v i : ℕ) (t : Tri) (printed seen : Bool) (rest : Option Verdict) (later : Type 0) → Above t seen → Stops (decided_by u j t printed rest) (Mismatch v i) later →
    ((u ≡ v) × (j ≡ i) × (seen ≡ not printed)) ⊎ ((seen ≡ printed) × Stops rest (Mismatch v i) later)
bit_breaks u j v i Unknown printed seen rest later above stops = absurd cc
bit_breaks u j v i Zero false false rest later above stops = inr (refl, stops)
bit_breaks u j v i Zero false true rest later above stops = absurd above
bit_breaks u j v i Zero true false rest later above stops = inl (cc, cc, refl)
bit_breaks u j v i Zero true true rest later above stops = absurd above
bit_breaks u j v i One true true rest later above stops = inr (refl, stops)
bit_breaks u j v i One true false rest later above stops = absurd above
bit_breaks u j v i One false true rest later above stops = inl (cc, cc, refl)
bit_breaks u j v i One false false rest later above stops = absurd above

vector_breaks : (values : ℕ → Tri) (seen : ℕ → Bool) (u v i : ℕ) (cs : List Compared) (later : Type 0) → ((net : ℕ) → Above (values net) (seen net)) → Stops (decided values u cs) (Mismatch v i) later →
    ((u ≡ v) × Breaks seen i cs) ⊎ (Shows seen cs × later)
vector_breaks values seen u v i [] later above stops = inr (tt, stops)
vector_breaks values seen u v i (c ∷ cs) later above stops = elim (bit_breaks u c.signal v i (values c.net) c.bit (seen c.net) (decided values u cs) later (above c.net) stops) [
  | inl here ↦ inl (here.0, inl (here.1, here.2))
  | inr on ↦ elim (vector_breaks values seen u v i cs later above on.1) [
    | inl there ↦ inl (there.0, inr (on.0, there.1))
    | inr past ↦ inr ((on.0, past.0), past.1)
  ]
]

first_break : (l : Logic) (rank : ℕ → ℕ) (old : ℕ → Tri) (u v i count : ℕ) (rows : List Row) (now : Now) (turns : List Turn) → IsRanked l rank → HasVerdictFrom l old u count rows (Mismatch v i) → Stands old now.state → AreTurns l now (vectors_of rows) turns → FirstBreak u v i rows turns
first_break l rank old u v i count [] now turns ranked verdict stands run = absurd cc
first_break l rank old u v i count (x ∷ xs) now [] ranked verdict stands run = absurd run
first_break l rank old u v i count (x ∷ xs) now (t ∷ ts) ranked verdict stands run =
    let r : Round = verdict.0 in
    let above = strobe_stands l rank x.vector old r.strobe now t ranked stands run.0 verdict.1.0.strobe in
    let after = turn_stands l rank x.vector old now t r.halves ranked stands run.0 (least_closed l x.vector old r.halves verdict.1.0.least) in
    elim (vector_breaks r.strobe t.strobe.seen u v i x.compared _ above verdict.1.1) [
      | inl here ↦ inl here
      | inr past ↦ inr (past.0, first_break l rank (after_round l x.vector old r) (suc u) v i (count + length x.compared) xs (after_turn l x.vector now t) ts ranked past.1 after run.1)
    ]

pub mismatch_sound : MismatchIsSound
mismatch_sound n rank p v i start turns order verdict run =
    first_break (logic_of n (ports_of n p)) rank all_unknown 0 v i 0 (rows_of n p) start turns (order_is_rank n (ports_of n p) rank order) verdict (record { above = λ c. tt; low = run.low }) run.turns

-- ---- designs, which have an order

pub verdict_holds : (n : Netlist) (order : List ℕ) (p : Patterns) (verdict : Verdict) → IsNetlist n → IsOrder n order → HasVerdict n p verdict → HoldsInRuns n p verdict
verdict_holds n order p (Pass compared) sound is has = (let r = order_ranks n order sound is in λ start turns run. pass_sound n r.0 p compared start turns r.1 has run)
verdict_holds n order p (Mismatch vector signal) sound is has = (let r = order_ranks n order sound is in λ start turns run. mismatch_sound n r.0 p vector signal start turns r.1 has run)
verdict_holds n order p (Undetermined vector signal) sound is has = tt
