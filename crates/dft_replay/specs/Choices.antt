-- Every choice of what a run is free to choose is that of a run of the design under the patterns.
use Rattle.std.specs.Prelude.{ℕ, List}
use Rattle.dft_netlist.specs.Netlist.{Netlist}
use Rattle.dft_netlist.specs.Drivers.{IsOrdered}
use Rattle.dft_behavior.specs.Runs.{Now, Turn, AreLow}
use Rattle.dft_patterns.specs.Patterns.{Patterns}
use Rattle.dft_replay.specs.Rows.{rows_of}
use Rattle.dft_replay.specs.Laws.{vectors_of, IsRunOf}
use Rattle.dft_runs.specs.Choices.{SameChoices, AreOrders}

-- Every choice is that of a run, on a design with an order.
abbrev pub EveryChoiceRuns : Type 0
EveryChoiceRuns =
    (n : Netlist) (rank : ℕ → ℕ) (p : Patterns) (start : Now) (choices : List Turn) →
    IsOrdered n rank → AreLow start.state → AreOrders (vectors_of (rows_of n p)) choices → (turns : List Turn) × (IsRunOf n p start turns × SameChoices choices turns)
