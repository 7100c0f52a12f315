-- What a verdict says of every run.
use Rattle.std.specs.Prelude.{ℕ, suc, Bool, not, List, [], ◌∷◌, map, ◌≡◌, ◌⊎◌}
use Rattle.dft_netlist.specs.Netlist.{Netlist}
use Rattle.dft_netlist.specs.Drivers.{IsOrdered}
use Rattle.dft_behavior.specs.Logic.{logic_of}
use Rattle.dft_behavior.specs.Runs.{Now, Turn, Vector, IsRun}
use Rattle.dft_patterns.specs.Patterns.{Patterns}
use Rattle.dft_replay.specs.declared.verdict.Verdict.{Verdict}
use Rattle.dft_replay.specs.declared.verdict.Verdict.TheVariants.{Pass, Mismatch, Undetermined}
use Rattle.dft_replay.specs.Rows.{Compared, Row, rows_of, ports_of}
use Rattle.dft_replay.specs.Verdicts.{HasVerdict}

abbrev pub vectors_of : List Row → List Vector
vectors_of rows = map (λ row. row.vector) rows

-- a run of a design over patterns, with the ports of the patterns
abbrev pub IsRunOf : Netlist → Patterns → (start : Now) → List Turn → Type 0
IsRunOf n p start turns = IsRun (logic_of n (ports_of n p)) (vectors_of (rows_of n p)) start turns

-- these bits are shown as printed
abbrev pub Shows : (seen : ℕ → Bool) → List Compared → Type 0
Shows seen [] = Unit {0}
Shows seen (c ∷ cs) = (seen c.net ≡ c.bit) × Shows seen cs

-- at the strobe of each vector each compared bit is shown as printed
abbrev pub AllShow : List Row → List Turn → Type 0
AllShow [] turns = Unit {0}
AllShow (x ∷ xs) [] = ⊥
AllShow (x ∷ xs) (t ∷ ts) = Shows t.strobe.seen x.compared × AllShow xs ts

-- the bit of this signal is the opposite of what is printed, and those before it are as printed
abbrev pub Breaks : (seen : ℕ → Bool) → (signal : ℕ) → List Compared → Type 0
Breaks seen i [] = ⊥
Breaks seen i (c ∷ cs) = ((c.signal ≡ i) × (seen c.net ≡ not c.bit)) ⊎ ((seen c.net ≡ c.bit) × Breaks seen i cs)

-- the first bit that is not as printed is that of this signal in this vector, the first vector having the number u
abbrev pub FirstBreak : (u vector signal : ℕ) → List Row → List Turn → Type 0
FirstBreak u v i [] turns = ⊥
FirstBreak u v i (x ∷ xs) [] = ⊥
FirstBreak u v i (x ∷ xs) (t ∷ ts) = ((u ≡ v) × Breaks t.strobe.seen i x.compared) ⊎ (Shows t.strobe.seen x.compared × FirstBreak (suc u) v i xs ts)

abbrev pub PassIsSound : Type 0
PassIsSound =
    (n : Netlist) (rank : ℕ → ℕ) (p : Patterns) (compared : ℕ) (start : Now) (turns : List Turn) →
    IsOrdered n rank → HasVerdict n p (Pass compared) → IsRunOf n p start turns → AllShow (rows_of n p) turns

abbrev pub MismatchIsSound : Type 0
MismatchIsSound =
    (n : Netlist) (rank : ℕ → ℕ) (p : Patterns) (vector signal : ℕ) (start : Now) (turns : List Turn) →
    IsOrdered n rank → HasVerdict n p (Mismatch vector signal) → IsRunOf n p start turns → FirstBreak 0 vector signal (rows_of n p) turns

abbrev pub VerdictIsOne : Type 0
VerdictIsOne = (n : Netlist) (rank : ℕ → ℕ) (p : Patterns) (a b : Verdict) → IsOrdered n rank → HasVerdict n p a → HasVerdict n p b → a ≡ b

-- What a verdict says of every run over the patterns: where it is Pass, each compared bit is shown as printed.
-- Where it is Mismatch, the bit that it names is the first that is not.
abbrev pub HoldsInRuns : Netlist → Patterns → Verdict → Type 0
HoldsInRuns n p (Pass compared) = (start : Now) (turns : List Turn) → IsRunOf n p start turns → AllShow (rows_of n p) turns
HoldsInRuns n p (Mismatch vector signal) = (start : Now) (turns : List Turn) → IsRunOf n p start turns → FirstBreak 0 vector signal (rows_of n p) turns
HoldsInRuns n p (Undetermined vector signal) = Unit {0}
