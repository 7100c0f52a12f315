-- What a scanned netlist of style Edt shows while the listed vectors of patterns are played.
use Rattle.std.specs.Prelude.{ℕ, ◌≡◌, List, [], ◌∷◌, ◌++◌, map, None}
use Rattle.dft_base.specs.declared.tri.Tri.{Tri}
use Rattle.dft_behavior.specs.Logic.{Ports}
use Rattle.dft_netlist.specs.Netlist.{Netlist}
use Rattle.dft_behavior.specs.Runs.{Vector}
use Rattle.dft_abstract.specs.Cycle.{Round}
use Rattle.dft_config.specs.Config.{Config}
use Rattle.dft_runs.specs.Passes.{AreRounds}
use Rattle.dft_stitch.specs.Chains.{plan_of}
use Rattle.dft_scan_frame.specs.Statements.{IsReady}
use Rattle.dft_insert.specs.declared.style.Style.TheVariants.{Edt}
use Rattle.dft_insert.specs.Statements.{scanned}
use Rattle.dft_scan_behavior.specs.EdtVectors.{SuitsEdt, edt_logic}
use Rattle.dft_pattern_behavior.specs.Given.{Pattern, IsPattern}
use Rattle.dft_pattern_behavior.specs.Rounds.{AreShown, LastLoad, Played}
use Rattle.dft_vectors.specs.PatternData.{PatternData, load_of}
use Rattle.dft_vectors.specs.VectorList.{vectors_of}
use Rattle.dft_pattern_behavior.specs.Doing.{AllDo}

abbrev pub pattern_of : Config → PatternData → Pattern
pattern_of config p = record { table = load_of config p; masks = p.masks; merged = p.merged; response = p.response }

abbrev pub ArePatterns : Netlist → Config → List PatternData → Type 0
ArePatterns n config [] = Unit {0}
ArePatterns n config (p ∷ ps) = IsPattern n config (pattern_of config p) × ArePatterns n config ps

-- the vectors of patterns that are played and of the last load, and their rounds
abbrev pub vectors_in : List Played → LastLoad → List Vector
vectors_in [] end = end.load
vectors_in (p ∷ more) end = p.load ++ (p.captures ++ vectors_in more end)

abbrev pub rounds_in : List Played → LastLoad → List Round
rounds_in [] end = end.rounds
rounds_in (p ∷ more) end = p.rounds ++ (p.capturing ++ rounds_in more end)

-- these vectors and rounds are those of a set-up vector and of these patterns, which are shown
pub record ListShown (n : Netlist) (config : Config) (ps : List PatternData) (xs : List Vector) (rs : List Round) : Type 0 where
  pub clear : Vector
  pub first : Round
  pub played : List Played
  pub last : LastLoad
  pub patterns : map (λ q. q.pattern) played ≡ map (pattern_of config) ps
  pub vectors : xs ≡ clear ∷ vectors_in played last
  pub rounds : rs ≡ first ∷ rounds_in played last
  pub shown : AreShown n config None played last

-- Vectors that do what some patterns list show these patterns, from any values before them.
abbrev pub ListedShow : Type 0
ListedShow =
    (n : Netlist) (config : Config) (ports : Ports) (p : PatternData) (ps : List PatternData) (old : ℕ → Tri) (xs : List Vector) (rs : List Round) → IsReady n config → SuitsEdt n config ports → ArePatterns n config (p ∷ ps) →
    AllDo (scanned Edt n config) (vectors_of n config (plan_of n config) (p ∷ ps)) xs → AreRounds (edt_logic n config ports) old xs rs → ListShown n config (p ∷ ps) xs rs
