-- Operands whose bits come behind those before, and what a draft and its bits keep.
use Rattle.std.specs.Prelude.{ℕ, Bool, true, false, ◌≡◌, ◌<◌, ◌≤◌, List, ◌++◌, length, Ok, Err}
use Rattle.std.specs.List.{All}
use Rattle.dft_netlist.specs.declared.instance.Signal.{Signal}
use Rattle.dft_netlist.specs.declared.instance.Signal.TheVariants as signal
use Rattle.dft_netlist_text.specs.Steps.{Outcome}
use Rattle.dft_netlist_text.specs.Modules.{Draft}
use Rattle.dft_netlist_text.specs.Expressions.{Operand}

-- the bits of an operand come behind these
abbrev pub operand_behind : List Signal → Outcome Operand → Outcome Operand
operand_behind before (Ok p) = Ok ((p.0.0, before ++ p.0.1), p.1)
operand_behind before (Err f) = Err f

-- the draft has the same cells and instances, and its nets, perhaps with more behind them
pub record Grows (old new : Draft) : Type 0 where
  pub library : new.library ≡ old.library
  pub instances : new.instances ≡ old.instances
  pub nets : length old.nets ≤ length new.nets

-- a bit is one of the first `count` nets, or a constant that is not driven
abbrev pub IsBit : (count : ℕ) → (drives : Bool) → Signal → Type 0
IsBit count drives (signal.Net net) = net.0 < count
IsBit count true (signal.Constant bit) = ⊥
IsBit count false (signal.Constant bit) = Unit {0}
IsBit count drives signal.Unconnected = ⊥

-- each of these is
abbrev pub AreBits : (count : ℕ) → (drives : Bool) → List Signal → Type 0
AreBits count drives bits = All (λ (s : Signal). IsBit count drives s) bits
