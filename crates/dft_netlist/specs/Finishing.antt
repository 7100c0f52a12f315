-- What a builder is finished to, and why it is refused.
use Rattle.std.specs.Prelude.{ℕ, ◌≡◌, ◌<◌, Some, slice_get, length}
use Rattle.dft_netlist.specs.declared.error.NetlistError.{NetlistError}
use Rattle.dft_netlist.specs.declared.error.NetlistError.TheVariants.{MultipleDrivers, Loop, DuplicateName, TooMany, Memory}
use Rattle.dft_netlist.specs.Netlist.{Netlist}
use Rattle.dft_netlist.specs.NetDrivers.{IsSingle, IsFirstMultiple}
use Rattle.dft_netlist.specs.Orders.{IsOrderable, IsLoopNet}
use Rattle.dft_base.specs.Lexing.{Text}

-- the design is the netlist, no net has two drivers, and every net can be ordered
pub record IsFinished (n design : Netlist) : Type 0 where
  pub same : design ≡ n
  pub single : IsSingle n
  pub orderable : (net : ℕ) → net < length n.nets → IsOrderable n net

-- the net with this name is the first with two drivers
pub record IsMultiple (n : Netlist) (name : Text) : Type 0 where
  pub net : ℕ
  pub named : slice_get n.nets net ≡ Some name
  pub first : IsFirstMultiple n net

-- no net has two drivers, and the net with this name is the one that first comes again on the walk back
pub record IsLoop (n : Netlist) (name : Text) : Type 0 where
  pub net : ℕ
  pub named : slice_get n.nets net ≡ Some name
  pub single : IsSingle n
  pub again : IsLoopNet n net

-- why the netlist cannot be finished
abbrev pub CannotFinish : Netlist → NetlistError → Type 0
CannotFinish n (MultipleDrivers name) = IsMultiple n name
CannotFinish n (Loop name) = IsLoop n name
CannotFinish n (DuplicateName name) = ⊥
CannotFinish n (TooMany what limit) = ⊥
CannotFinish n (Memory error) = Unit {0}
