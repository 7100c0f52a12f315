-- The verdict: the first compared bit that is unknown or differs, by vectors and then by signals, or else Pass.
use Rattle.std.specs.Prelude.{ℕ, suc, ◌+◌, ◌<◌, Bool, List, [], ◌∷◌, length, ◌≡◌, Option, None, Some, if◌then◌else◌}
use Rattle.dft_base.specs.declared.tri.Tri.{Tri}
use Rattle.dft_base.specs.declared.tri.Tri.TheVariants.{Zero, One, Unknown}
use Rattle.dft_netlist.specs.Netlist.{Netlist}
use Rattle.dft_behavior.specs.Logic.{Logic, logic_of}
use Rattle.dft_abstract.specs.Cycle.{Round, IsRound, after_round, all_unknown}
use Rattle.dft_patterns.specs.Patterns.{Patterns}
use Rattle.dft_replay.specs.declared.verdict.Unknowns.{Unknowns}
use Rattle.dft_replay.specs.declared.verdict.Unknowns.TheVariants.{Stop, Skip}
use Rattle.dft_replay.specs.declared.verdict.Verdict.{Verdict}
use Rattle.dft_replay.specs.declared.verdict.Verdict.TheVariants.{Pass, Mismatch, Undetermined}
use Rattle.dft_replay.specs.Rows.{Compared, Row, rows_of, ports_of}

-- what an unknown bit decides, where the bits after it decide `rest`: it stops a replay, or is passed over
abbrev pub at_unknown : Unknowns → (vector signal : ℕ) → Option Verdict → Option Verdict
at_unknown Stop v i rest = Some (Undetermined v i)
at_unknown Skip v i rest = rest

-- what a compared bit decides, where the bits after it decide `rest`
abbrev pub bit_decides : Unknowns → (vector signal : ℕ) → Tri → (printed : Bool) → Option Verdict → Option Verdict
bit_decides u v i Unknown printed rest = at_unknown u v i rest
bit_decides u v i Zero printed rest = if printed then Some (Mismatch v i) else rest
bit_decides u v i One printed rest = if printed then rest else Some (Mismatch v i)

-- what the compared bits of a vector decide; nothing where all are as printed, or are passed over
abbrev pub bits_decide : Unknowns → (values : ℕ → Tri) → (vector : ℕ) → List Compared → Option Verdict
bits_decide u values v [] = None
bits_decide u values v (c ∷ cs) = bit_decides u v c.signal (values c.net) c.bit (bits_decide u values v cs)

-- the same for a verdict, which unknown bits stop
abbrev pub decided_by : (vector signal : ℕ) → Tri → (printed : Bool) → Option Verdict → Option Verdict
decided_by v i value printed rest = bit_decides Stop v i value printed rest

abbrev pub decided : (values : ℕ → Tri) → (vector : ℕ) → List Compared → Option Verdict
decided values v compared = bits_decide Stop values v compared

-- the verdict is what was decided, or what comes later
abbrev pub Stops : Option Verdict → Verdict → (later : Type 0) → Type 0
Stops None verdict later = later
Stops (Some d) verdict later = verdict ≡ d

-- What a replay comes to from the vector with a number on, where the flip-flops have these values and so many bits were compared: the first bit that
-- decides something, or Pass.
abbrev pub EndsFrom : Unknowns → Logic → (old : ℕ → Tri) → (vector compared : ℕ) → List Row → Verdict → Type 0
EndsFrom u l old v count [] verdict = verdict ≡ Pass count
EndsFrom u l old v count (x ∷ xs) verdict =
    (r : Round) × (IsRound l x.vector old r × Stops (bits_decide u r.strobe v x.compared) verdict (EndsFrom u l (after_round l x.vector old r) (suc v) (count + length x.compared) xs verdict))

-- What a replay of patterns on a design comes to, where unknown bits stop it or are passed over.
abbrev pub EndsAt : Unknowns → Netlist → Patterns → Verdict → Type 0
EndsAt u n p verdict = EndsFrom u (logic_of n (ports_of n p)) all_unknown 0 0 (rows_of n p) verdict

-- The verdict: unknown bits stop the replay.
abbrev pub HasVerdictFrom : Logic → (old : ℕ → Tri) → (vector compared : ℕ) → List Row → Verdict → Type 0
HasVerdictFrom l old v count rows verdict = EndsFrom Stop l old v count rows verdict

abbrev pub HasVerdict : Netlist → Patterns → Verdict → Type 0
HasVerdict n p verdict = EndsAt Stop n p verdict

-- a verdict's vector and signal are among the vectors and the signals
abbrev pub IsPlaced : (vectors signals : ℕ) → Verdict → Type 0
IsPlaced vectors signals (Pass compared) = Unit {0}
IsPlaced vectors signals (Mismatch vector signal) = (vector < vectors) × (signal < signals)
IsPlaced vectors signals (Undetermined vector signal) = (vector < vectors) × (signal < signals)
