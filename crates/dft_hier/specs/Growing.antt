-- A netlist that grows by parts, or is refused.
use Rattle.std.specs.Prelude.{ℕ, ◌≡◌, ◌≤◌, List, Result, Ok, Err}
use Rattle.std.specs.List.{All}
use Rattle.std.specs.Result.{MatchResult}
use Rattle.dft_netlist.specs.declared.error.NetlistError.{NetlistError}
use Rattle.dft_netlist.specs.declared.error.NetlistError.TheVariants as error
use Rattle.dft_netlist.specs.Netlist.{Netlist}
use Rattle.dft_netlist_text.specs.NetlistText.{Grown}

-- the outcome is this refusal; nothing where memory runs out
abbrev pub IsRefusal : Grown → NetlistError → Type 0
IsRefusal outcome (error.MultipleDrivers name) = outcome ≡ Err (error.MultipleDrivers name)
IsRefusal outcome (error.Loop name) = outcome ≡ Err (error.Loop name)
IsRefusal outcome (error.DuplicateName name) = outcome ≡ Err (error.DuplicateName name)
IsRefusal outcome (error.TooMany what limit) = outcome ≡ Err (error.TooMany what limit)
IsRefusal outcome (error.Memory failed) = Unit {0}

-- the outcome is the netlist that is there after a step, or its refusal
abbrev pub Grows : {X : Type 0} → Grown → Result X NetlistError → (new : Netlist) → Type 0
Grows outcome result new = MatchResult result (λ _. outcome ≡ Ok new) (IsRefusal outcome)

-- the outcome is the netlist that is given, or its refusal
abbrev pub Builds : Grown → Result Netlist NetlistError → Type 0
Builds outcome result = MatchResult result (λ netlist. outcome ≡ Ok netlist) (IsRefusal outcome)

-- each byte may stand in a name
abbrev pub IsPrefix : List ℕ → Type 0
IsPrefix bytes = All (λ b. (33 ≤ b) × (b ≤ 126)) bytes
