-- What settling from given values says of the settled assignments of a design, and what a tree of choices says of a table.
use Rattle.std.specs.Prelude.{ℕ, Bool, ◌≡◌, List, map}
use Rattle.dft_base.specs.declared.tri.Tri.{Tri}
use Rattle.dft_cells.specs.Gates.{shared}
use Rattle.dft_netlist.specs.Netlist.{Netlist}
use Rattle.dft_behavior.specs.Logic.{Logic, Ports, logic_of}
use Rattle.dft_behavior.specs.Settled.{TriSources, IsTriSettled}
use Rattle.dft_evaluator.specs.Wides.{may, tree}
use Rattle.dft_evaluator.specs.Evaluations.{IsSettledFrom, AreGiven}

-- values that are settled from what sources show are the settled values of these sources, and the other way round
abbrev pub SettledFromSources : Type 0
SettledFromSources = (l : Logic) (s : TriSources) (given values : ℕ → Tri) → AreGiven l.net s given →
    (IsSettledFrom l.net given values → IsTriSettled l s values) × (IsTriSettled l s values → IsSettledFrom l.net given values)

-- whatever ports are clocks and resets, the same values are settled from what is given
abbrev pub SettledForAnyPorts : Type 0
SettledForAnyPorts = (n : Netlist) (ports other : Ports) (given values : ℕ → Tri) → IsSettledFrom (logic_of n ports).net given values → IsSettledFrom (logic_of n other).net given values

-- a tree of choices over the inputs of a table gives the bit that all completions of the unknown inputs share, and otherwise either
abbrev pub TreesComplete : Type 0
TreesComplete = (table : List Bool → Bool) (values : List Tri) (bit : Bool) → tree table (map may values) bit ≡ may (shared table values) bit
