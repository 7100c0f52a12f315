-- What drives a net, by its place in the netlist.
use Rattle.std.specs.Prelude.{ℕ, ◌≡◌, ◌<◌, ◌≤◌, Bool, true, false, List, [], Option, None, Some, count_by, ◌==◌, slice_get}
use Rattle.dft_cells.specs.declared.kind.Role.{Role}
use Rattle.dft_cells.specs.declared.kind.Role.TheVariants.{Inverted}
use Rattle.dft_netlist.specs.declared.port.Port.{Port}
use Rattle.dft_base.specs.declared.dir.Dir.TheVariants.{Input as AnInput}
use Rattle.dft_netlist.specs.declared.instance.Instance.{Instance}
use Rattle.dft_netlist.specs.declared.instance.Join.{Join}
use Rattle.dft_netlist.specs.declared.instance.Signal.TheVariants.{Net}
use Rattle.dft_netlist.specs.declared.net_driver.NetDriver.{NetDriver}
use Rattle.dft_netlist.specs.declared.net_driver.NetDriver.TheVariants.{Input, Pin, Join as AJoin, Nothing}
use Rattle.dft_netlist.specs.Netlist.{Netlist}
use Rattle.dft_netlist.specs.Drivers.{Driver, Joined, Free, driver_of_kind, inputs_of, shape_of, source_of, kind_at, pins_of, all_driven}
use Rattle.dft_netlist.specs.Drivers as drivers
use Rattle.dft_netlist.specs.Sound.{is_output}

-- how many drivers a net has among the bits of input ports, output pins and joins
abbrev pub times_driven : Netlist → (net : ℕ) → ℕ
times_driven n net = count_by (λ d. d.0 == net) (all_driven n)

-- no net has two drivers
abbrev pub IsSingle : Netlist → Type 0
IsSingle n = (net : ℕ) → times_driven n net ≤ 1

-- this is the first net with two drivers
pub record IsFirstMultiple (n : Netlist) (net : ℕ) : Type 0 where
  pub twice : 2 ≤ times_driven n net
  pub first : (other : ℕ) → other < net → times_driven n other ≤ 1

-- whether a pin of this role has the inverse of a flip-flop's bit
abbrev pub is_inverted : Option Role → Bool
is_inverted (Some Inverted) = true
is_inverted _ = false

-- the roles of the pins of the instance with this number
abbrev pub roles_in : Netlist → Option Instance → List Role
roles_in n None = []
roles_in n (Some instance) = (shape_of n.library instance.cell).roles

abbrev pub roles_at : Netlist → (instance : ℕ) → List Role
roles_at n i = roles_in n (slice_get n.instances i)

abbrev pub joined_by : Option Join → Driver
joined_by None = Free
joined_by (Some join) = Joined (source_of 0 0 join.source)

-- the driver at a place of the netlist
abbrev pub driver_at : Netlist → NetDriver → Driver
driver_at n Input = drivers.Input
driver_at n (Pin instance pin) = driver_of_kind (kind_at n instance.0) instance.0 (is_inverted (slice_get (roles_at n instance.0) pin)) (inputs_of instance.0 (pins_of n instance.0))
driver_at n (AJoin number) = joined_by (slice_get n.joins number)
driver_at n Nothing = Free

-- the net is a bit of an input port
pub record IsInputBit (n : Netlist) (net : ℕ) : Type 0 where
  pub place : ℕ
  pub port : Port
  pub at : slice_get n.ports place ≡ Some port
  pub input : port.dir ≡ AnInput
  pub bit : ℕ
  pub joined : slice_get port.bits bit ≡ Some (record { 0 = net })

-- the net is joined to an output pin with this number of the instance with this number
pub record IsOutputPin (n : Netlist) (number pin net : ℕ) : Type 0 where
  pub instance : Instance
  pub at : slice_get n.instances number ≡ Some instance
  pub role : Role
  pub role_at : slice_get (shape_of n.library instance.cell).roles pin ≡ Some role
  pub output : is_output role ≡ true
  pub joined : slice_get instance.pins pin ≡ Some (Net (record { 0 = net }))

-- the net is the target of the join with this number
pub record IsTarget (n : Netlist) (number net : ℕ) : Type 0 where
  pub join : Join
  pub at : slice_get n.joins number ≡ Some join
  pub target : join.target.0 ≡ net

-- the place is there, and drives the net
abbrev pub Drives : Netlist → NetDriver → (net : ℕ) → Type 0
Drives n Input net = IsInputBit n net
Drives n (Pin instance pin) net = IsOutputPin n instance.0 pin net
Drives n (AJoin number) net = IsTarget n number net
Drives n Nothing net = times_driven n net ≡ 0
