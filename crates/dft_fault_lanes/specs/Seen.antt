-- Nets that are seen through cells: what such a net has is what a cell holds, so it need not be settled.
use Rattle.std.specs.Prelude.{ℕ, suc, Bool, true, false, ◌||◌, List, [], ◌∷◌, length, Option, None, Some, if◌then◌else◌}
use Rattle.dft_lanes.specs.declared.wide.Wide.{Wide}
use Rattle.dft_logic.specs.declared.circuit.Op.{Op}
use Rattle.dft_logic.specs.declared.circuit.Op.TheVariants.{Input, Clock, Gate, Joined, Flop, Lockup, Free}
use Rattle.dft_logic.specs.Circuit.{op_at, flag_at}
use Rattle.dft_evaluator.specs.Wides.{wide_at}
use Rattle.dft_fault_lanes.specs.declared.clamps.Clamp.{Clamp}
use Rattle.dft_fault_lanes.specs.Lanes.{clamp_at}
use Rattle.dft_fault_lanes.specs.Plans.{needs_of}

-- the flip-flop whose bit a net is, by its instance
abbrev pub flop_shown : Op → Option ℕ
flop_shown Input = None
flop_shown Clock = None
flop_shown (Gate kind inputs) = None
flop_shown (Joined source) = None
flop_shown (Flop instance inverted) = if inverted then None else Some instance.0
flop_shown (Lockup instance domain high source) = None
flop_shown Free = None

-- the same of a net that has no bounds
abbrev pub shown_within : Option Clamp → Op → Option ℕ
shown_within None op = flop_shown op
shown_within (Some c) op = None

abbrev pub cell_shown : List Op → List (Option Clamp) → (net : ℕ) → Option ℕ
cell_shown ops clamps net = shown_within (clamp_at clamps net) (op_at ops net)

-- what a net has: what it was settled to where it is marked, else what the cell holds whose bit it is
abbrev pub seen_at : (marked : Bool) → (cell : Option ℕ) → (held : List Wide) → (own : Wide) → Wide
seen_at true cell held own = own
seen_at false None held own = own
seen_at false (Some c) held own = wide_at held c

-- the nets of a list, from a number on
abbrev pub seen_from : List Op → List (Option Clamp) → (marked : List Bool) → (held : List Wide) → (net : ℕ) → List Wide → List Wide
seen_from ops clamps marked held net [] = []
seen_from ops clamps marked held net (wide ∷ wides) = seen_at (flag_at marked net) (cell_shown ops clamps net) held wide ∷ seen_from ops clamps marked held (suc net) wides

abbrev pub seen : List Op → List (Option Clamp) → (marked : List Bool) → (held wides : List Wide) → List Wide
seen ops clamps marked held wides = seen_from ops clamps marked held 0 wides

-- the nets of which this is so, beside those that a plan needs
abbrev pub is_some : Option ℕ → Bool
is_some None = false
is_some (Some c) = true

abbrev pub knows : List Op → List (Option Clamp) → (marked : List Bool) → (net : ℕ) → Bool
knows ops clamps marked net = is_some (cell_shown ops clamps net) || needs_of (length ops) marked net
