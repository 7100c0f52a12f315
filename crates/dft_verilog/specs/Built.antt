-- What is built of a draft, and why it is refused.
use Rattle.std.specs.Prelude.{◌≡◌, ◌⊎◌, length, Result, Ok, Err}
use Rattle.std.specs.Result.{MatchResult}
use Rattle.dft_netlist.specs.declared.error.NetlistError.{NetlistError}
use Rattle.dft_netlist.specs.declared.error.NetlistError.TheVariants as error
use Rattle.dft_netlist.specs.Netlist.{Netlist}
use Rattle.dft_netlist.specs.Finishing.{IsFinished, CannotFinish}
use Rattle.dft_netlist_text.specs.Modules.{Draft}
use Rattle.dft_netlist_text.specs.NetlistText.{Grown, built, net_order}

-- the outcome is this refusal; nothing where memory runs out
abbrev pub IsRefusal : Grown → NetlistError → Type 0
IsRefusal outcome (error.MultipleDrivers name) = outcome ≡ Err (error.MultipleDrivers name)
IsRefusal outcome (error.Loop name) = outcome ≡ Err (error.Loop name)
IsRefusal outcome (error.DuplicateName name) = outcome ≡ Err (error.DuplicateName name)
IsRefusal outcome (error.TooMany what limit) = outcome ≡ Err (error.TooMany what limit)
IsRefusal outcome (error.Memory failed) = Unit {0}

-- the step is not refused
abbrev pub IsGrown : Grown → Type 0
IsGrown outcome = (netlist : Netlist) × (outcome ≡ Ok netlist)

-- the outcome is the netlist that is there after a step, or its refusal
abbrev pub Grows : {X : Type 0} → Grown → Result X NetlistError → (new : Netlist) → Type 0
Grows outcome result new = MatchResult result (λ _. outcome ≡ Ok new) (IsRefusal outcome)

-- the outcome is the netlist that is given, or its refusal
abbrev pub Builds : Grown → Result Netlist NetlistError → Type 0
Builds outcome result = MatchResult result (λ netlist. outcome ≡ Ok netlist) (IsRefusal outcome)

-- a netlist over a draft's cells that has its nets
pub record HasNetsOf (d : Draft) (n : Netlist) : Type 0 where
  pub library : n.library ≡ d.library
  pub nets : length n.nets ≡ length (net_order d)

-- the draft is built, no net has two drivers, and the nets have an order
pub record IsBuilt (d : Draft) (design : Netlist) : Type 0 where
  pub grown : Netlist
  pub parts : built d ≡ Ok grown
  pub finished : IsFinished grown design

-- a part of the draft is refused, or its netlist cannot be finished
abbrev pub IsRefusedAs : Draft → NetlistError → Type 0
IsRefusedAs d why = (built d ≡ Err why) ⊎ ((grown : Netlist) × (built d ≡ Ok grown) × CannotFinish grown why)

-- why a draft is refused; nothing where memory runs out
abbrev pub CannotBuild : Draft → NetlistError → Type 0
CannotBuild d (error.MultipleDrivers name) = IsRefusedAs d (error.MultipleDrivers name)
CannotBuild d (error.Loop name) = IsRefusedAs d (error.Loop name)
CannotBuild d (error.DuplicateName name) = IsRefusedAs d (error.DuplicateName name)
CannotBuild d (error.TooMany what limit) = IsRefusedAs d (error.TooMany what limit)
CannotBuild d (error.Memory failed) = Unit {0}
