-- Where the abstract values of the design with the fault are known, every run of it agrees.
use Rattle.std.proofs.Common.{ℕ, suc, ◌+◌, Bool, true, false, not, List, [], ◌∷◌, ◌≡◌, ◌⊎◌, inl, inr, refl, length, Option}
use Rattle.dft_base.specs.declared.tri.Tri.{Tri}
use Rattle.dft_base.specs.declared.tri.Tri.TheVariants.{Zero, One, Unknown}
use Rattle.dft_base.specs.Tri.{Above}
use Rattle.dft_behavior.specs.Logic.{Logic, IsRanked, logic_of}
use Rattle.dft_netlist.specs.Netlist.{Netlist}
use Rattle.dft_netlist.specs.Orders.{IsOrder}
use Rattle.dft_behavior.specs.Runs.{Now, Turn, AreTurns, after_turn}
use Rattle.dft_netlist.specs.Sound.{IsNetlist}
use Rattle.dft_behavior.proofs.Ranks.{order_is_rank}
use Rattle.dft_netlist.proofs.RankLemmas.{order_ranks}
use Rattle.dft_abstract.specs.Cycle.{Round, after_round, all_unknown}
use Rattle.dft_abstract.specs.Laws.{Stands}
use Rattle.dft_abstract.proofs.Halves.{least_closed}
use Rattle.dft_abstract.proofs.Turns.{strobe_stands, turn_stands}
use Rattle.dft_patterns.specs.Patterns.{Patterns}
use Rattle.dft_replay.specs.declared.verdict.Unknowns.TheVariants.{Skip}
use Rattle.dft_replay.specs.declared.verdict.Verdict.{Verdict}
use Rattle.dft_replay.specs.declared.verdict.Verdict.TheVariants.{Pass, Mismatch, Undetermined}
use Rattle.dft_replay.specs.Laws.{vectors_of}
use Rattle.dft_replay.specs.Rows.{Compared, Row, rows_of, ports_of}
use Rattle.dft_replay.specs.Verdicts.{bit_decides, bits_decide, Stops, EndsFrom, EndsAt}
use Rattle.dft_replay.specs.Plain.{plain_end}
use Rattle.dft_replay.proofs.Uniqueness.{end_one}
use Rattle.dft_replay.proofs.PlainLemmas.{end_plain}
use Rattle.dft_faults.specs.declared.fault.Fault.{Fault}
use Rattle.dft_faults.specs.Faulty.{faulty}
use Rattle.dft_grade.specs.declared.found.Grade.{Grade}
use Rattle.dft_grade.specs.declared.found.Grade.TheVariants.{Detected, Undetected}
use Rattle.dft_grade.specs.Grades.{HasGrade, IsGraded, grade_of}
use Rattle.dft_grade.specs.Laws.{ShowsOpposite, FailsAt, DetectedIsSound, GradeIsOne, GradeIsPlain, FailsInRuns}

-- ---- one strobe

-- a bit that ends the replay is shown as the opposite; any other leaves the end to the bits after it
bit_fails : (u j v i : ℕ) (t : Tri) (printed seen : Bool) (rest : Option Verdict) (later : Type 0) → Above t seen → Stops (bit_decides Skip u j t printed rest) (Mismatch v i) later →
    ((u ≡ v) × (j ≡ i) × (seen ≡ not printed)) ⊎ Stops rest (Mismatch v i) later
bit_fails u j v i Unknown printed seen rest later above stops = inr stops
bit_fails u j v i Zero false seen rest later above stops = inr stops
bit_fails u j v i Zero true false rest later above stops = inl (cc, cc, refl)
bit_fails u j v i Zero true true rest later above stops = absurd above
bit_fails u j v i One true seen rest later above stops = inr stops
bit_fails u j v i One false true rest later above stops = inl (cc, cc, refl)
bit_fails u j v i One false false rest later above stops = absurd above

vector_fails : (values : ℕ → Tri) (seen : ℕ → Bool) (u v i : ℕ) (cs : List Compared) (later : Type 0) → ((net : ℕ) → Above (values net) (seen net)) → Stops (bits_decide Skip values u cs) (Mismatch v i) later →
    ((u ≡ v) × ShowsOpposite seen i cs) ⊎ later
vector_fails values seen u v i [] later above stops = inr stops
vector_fails values seen u v i (c ∷ cs) later above stops = elim (bit_fails u c.signal v i (values c.net) c.bit (seen c.net) (bits_decide Skip values u cs) later (above c.net) stops) [
  | inl here ↦ inl (here.0, inl (here.1, here.2))
  | inr on ↦ elim (vector_fails values seen u v i cs later above on) [
    | inl there ↦ inl (there.0, inr there.1)
    | inr past ↦ inr past
  ]
]

-- ---- all vectors

fails : (l : Logic) (rank : ℕ → ℕ) (old : ℕ → Tri) (u v i count : ℕ) (rows : List Row) (now : Now) (turns : List Turn) → IsRanked l rank → EndsFrom Skip l old u count rows (Mismatch v i) → Stands old now.state → AreTurns l now (vectors_of rows) turns → FailsAt u v i rows turns
fails l rank old u v i count [] now turns ranked ends stands run = absurd cc
fails l rank old u v i count (x ∷ xs) now [] ranked ends stands run = absurd run
fails l rank old u v i count (x ∷ xs) now (t ∷ ts) ranked ends stands run =
    let r : Round = ends.0 in
    let above = strobe_stands l rank x.vector old r.strobe now t ranked stands run.0 ends.1.0.strobe in
    let after = turn_stands l rank x.vector old now t r.halves ranked stands run.0 (least_closed l x.vector old r.halves ends.1.0.least) in
    elim (vector_fails r.strobe t.strobe.seen u v i x.compared _ above ends.1.1) [
      | inl here ↦ inl here
      | inr past ↦ inr (fails l rank (after_round l x.vector old r) (suc u) v i (count + length x.compared) xs (after_turn l x.vector now t) ts ranked past after run.1)
    ]

pub detected_sound : DetectedIsSound
detected_sound n f rank p v i start turns order graded run =
    let m : Netlist = faulty n f in
    fails (logic_of m (ports_of m p)) rank all_unknown 0 v i 0 (rows_of m p) start turns (order_is_rank m (ports_of m p) rank order) graded (record { above = λ c. tt; low = run.low }) run.turns

-- ---- a replay that passes over unknown bits is never Undetermined

bit_decided : (u j v i : ℕ) (t : Tri) (printed : Bool) (rest : Option Verdict) (later : Type 0) → Stops (bit_decides Skip u j t printed rest) (Undetermined v i) later → Stops rest (Undetermined v i) later
bit_decided u j v i Unknown printed rest later stops = stops
bit_decided u j v i Zero false rest later stops = stops
bit_decided u j v i Zero true rest later stops = absurd cc
bit_decided u j v i One true rest later stops = stops
bit_decided u j v i One false rest later stops = absurd cc

vector_decided : (values : ℕ → Tri) (u v i : ℕ) (cs : List Compared) (later : Type 0) → Stops (bits_decide Skip values u cs) (Undetermined v i) later → later
vector_decided values u v i [] later stops = stops
vector_decided values u v i (c ∷ cs) later stops = vector_decided values u v i cs later (bit_decided u c.signal v i (values c.net) c.bit (bits_decide Skip values u cs) later stops)

decided_from : (l : Logic) (old : ℕ → Tri) (u v i count : ℕ) (rows : List Row) → EndsFrom Skip l old u count rows (Undetermined v i) → ⊥
decided_from l old u v i count [] ends = (let f : ⊥ = cc in f)
decided_from l old u v i count (x ∷ xs) ends =
    let r : Round = ends.0 in
    decided_from l (after_round l x.vector old r) (suc u) v i (count + length x.compared) xs (vector_decided r.strobe u v i x.compared _ ends.1.1)

-- what a replay comes to that passes over unknown bits is a grade
pub end_grades : (n : Netlist) (p : Patterns) (verdict : Verdict) → EndsAt Skip n p verdict → HasGrade n p (grade_of verdict)
end_grades n p (Pass compared) ends = (compared, ends)
end_grades n p (Mismatch vector signal) ends = ends
end_grades n p (Undetermined vector signal) ends = absurd (decided_from (logic_of n (ports_of n p)) all_unknown 0 vector signal 0 (rows_of n p) ends)

-- ---- one grade

pub grade_one : GradeIsOne
grade_one n f rank p (Detected v i) (Detected w j) order a b = (let same : Mismatch v i ≡ Mismatch w j = end_one Skip (faulty n f) rank p (Mismatch v i) (Mismatch w j) order a b in cc)
grade_one n f rank p (Detected v i) Undetected order a b = (let same : Mismatch v i ≡ Pass b.0 = end_one Skip (faulty n f) rank p (Mismatch v i) (Pass b.0) order a b.1 in absurd cc)
grade_one n f rank p Undetected (Detected w j) order a b = (let same : Pass a.0 ≡ Mismatch w j = end_one Skip (faulty n f) rank p (Pass a.0) (Mismatch w j) order a.1 b in absurd cc)
grade_one n f rank p Undetected Undetected order a b = refl

-- ---- a grade

pub grade_plain : GradeIsPlain
grade_plain n f rank p order = end_grades (faulty n f) p (plain_end Skip (faulty n f) p) (end_plain Skip (faulty n f) rank p order)

-- ---- designs, which have an order

pub grade_holds : (n : Netlist) (f : Fault) (order : List ℕ) (p : Patterns) (grade : Grade) → IsNetlist (faulty n f) → IsOrder (faulty n f) order → IsGraded n p f grade → FailsInRuns n p f grade
grade_holds n f order p (Detected vector signal) sound is graded = (let r = order_ranks (faulty n f) order sound is in λ start turns run. detected_sound n f r.0 p vector signal start turns r.1 graded run)
grade_holds n f order p Undetected sound is graded = tt
