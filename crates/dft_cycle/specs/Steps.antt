-- Steps: what the nets of a list take their values from, packed.
use Rattle.std.specs.Prelude.{ℕ, true, false, ◌≡◌, ◌<◌, List, [], ◌∷◌, map, length}
use Rattle.dft_cells.specs.declared.kind.Gate.TheVariants as gate
use Rattle.dft_netlist.specs.declared.ids.NetId.{NetId}
use Rattle.dft_netlist.specs.Drivers.{Net}
use Rattle.dft_behavior.specs.Logic.{Meaning}
use Rattle.dft_behavior.specs.Logic as meanings
use Rattle.dft_logic.specs.Circuit.{Circuit, meaning, op_at}
use Rattle.dft_cycle.specs.declared.steps.What.{What}
use Rattle.dft_cycle.specs.declared.steps.What.TheVariants.{Buf, Inv, And, Nand, Or, Nor, Xor, Xnor, Mux2, Joined, Flop, Inverse, Low, High, Other}
use Rattle.dft_cycle.specs.declared.steps.Step.{Step}

-- what a net takes its value from where a step has these numbers; some steps leave that as it is
abbrev pub told : What → (a b c : ℕ) → Meaning → Meaning
told Buf a b c m = meanings.Gate gate.Buf (Net a ∷ [])
told Inv a b c m = meanings.Gate gate.Inv (Net a ∷ [])
told And a b c m = meanings.Gate gate.And (Net a ∷ Net b ∷ [])
told Nand a b c m = meanings.Gate gate.Nand (Net a ∷ Net b ∷ [])
told Or a b c m = meanings.Gate gate.Or (Net a ∷ Net b ∷ [])
told Nor a b c m = meanings.Gate gate.Nor (Net a ∷ Net b ∷ [])
told Xor a b c m = meanings.Gate gate.Xor (Net a ∷ Net b ∷ [])
told Xnor a b c m = meanings.Gate gate.Xnor (Net a ∷ Net b ∷ [])
told Mux2 a b c m = meanings.Gate gate.Mux2 (Net a ∷ Net b ∷ Net c ∷ [])
told Joined a b c m = meanings.Joined (Net a)
told Flop a b c m = meanings.Flop a false
told Inverse a b c m = meanings.Flop a true
told Low a b c m = meanings.Lockup b c false (Net a)
told High a b c m = meanings.Lockup b c true (Net a)
told Other a b c m = m

abbrev pub told_by : Step → Meaning → Meaning
told_by step m = told step.what step.first step.second step.third m

-- the nets that such a step reads are below this number
abbrev pub IsWithin : What → (a b c count : ℕ) → Type 0
IsWithin Buf a b c count = a < count
IsWithin Inv a b c count = a < count
IsWithin And a b c count = (a < count) × (b < count)
IsWithin Nand a b c count = (a < count) × (b < count)
IsWithin Or a b c count = (a < count) × (b < count)
IsWithin Nor a b c count = (a < count) × (b < count)
IsWithin Xor a b c count = (a < count) × (b < count)
IsWithin Xnor a b c count = (a < count) × (b < count)
IsWithin Mux2 a b c count = (a < count) × (b < count) × (c < count)
IsWithin Joined a b c count = a < count
IsWithin Flop a b c count = Unit {0}
IsWithin Inverse a b c count = Unit {0}
IsWithin Low a b c count = a < count
IsWithin High a b c count = a < count
IsWithin Other a b c count = Unit {0}

-- the step's net takes its value from what the step tells, which is there
pub record IsStep (x : Circuit) (step : Step) : Type 0 where
  pub told : meaning (op_at x.ops step.net.0) ≡ told_by step (meaning (op_at x.ops step.net.0))
  pub within : IsWithin step.what step.first step.second step.third (length x.ops)

-- the nets of steps
abbrev pub step_nets : List Step → List NetId
step_nets steps = map (λ step. step.net) steps
