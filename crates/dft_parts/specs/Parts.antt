-- A netlist that grows by made parts, one after another.
use Rattle.std.specs.Prelude.{ℕ, zero, suc, ◌+◌, Bool, true, false, List, [], ◌∷◌, ◌++◌, Option, None, Some, slice_get}
use Rattle.dft_netlist.specs.declared.ids.NetId.{NetId}
use Rattle.dft_netlist.specs.declared.ids.InstanceId.{InstanceId}
use Rattle.dft_netlist.specs.declared.instance.CellRef.{CellRef}
use Rattle.dft_netlist.specs.declared.instance.Signal.{Signal}
use Rattle.dft_netlist.specs.declared.instance.Signal.TheVariants.{Net, Constant, Unconnected}
use Rattle.dft_netlist.specs.declared.instance.Instance.{Instance}
use Rattle.dft_netlist.specs.declared.error.NetlistError.{NetlistError}
use Rattle.dft_netlist.specs.Building.{net_refusal, instance_refusal}
use Rattle.dft_netlist.specs.Netlist.{Netlist}
use Rattle.dft_parts.specs.declared.made.Made.{Made}
use Rattle.dft_parts.specs.MadeNames.{made_net, made_instance}

-- what is made: a net of the next made name, an instance of the next made name, or a pin that is open is joined to a net
pub data Part : Type 0 where
  ANet : Part
  AnInstance : (cell : CellRef) → (pins : List Signal) → Part
  APin : (instance : InstanceId) → (pin : ℕ) → (net : NetId) → Part

-- a netlist, and how many made names were given
pub record Making : Type 0 where
  pub netlist : Netlist
  pub made : Made

-- ---- the netlist that results

abbrev pub with_net : Making → Making
with_net s = record {
  netlist = record s.netlist { nets = s.netlist.nets ++ made_net s.made.nets ∷ [] };
  made = record s.made { nets = s.made.nets + 1 };
}

-- an instance of the next made name
abbrev pub next_instance : Made → CellRef → List Signal → Instance
next_instance made cell pins = record { name = Some (made_instance made.instances); cell = cell; pins = pins }

abbrev pub with_instance : Making → CellRef → List Signal → Making
with_instance s cell pins = record {
  netlist = record s.netlist { instances = s.netlist.instances ++ next_instance s.made cell pins ∷ [] };
  made = record s.made { instances = s.made.instances + 1 };
}

-- what an open pin is joined to; what is joined stays
abbrev pub joined_to : NetId → Signal → Signal
joined_to net Unconnected = Net net
joined_to net (Net other) = Net other
joined_to net (Constant bit) = Constant bit

abbrev pub pin_joined : (pin : ℕ) → NetId → List Signal → List Signal
pin_joined pin net [] = []
pin_joined zero net (signal ∷ signals) = joined_to net signal ∷ signals
pin_joined (suc pin) net (signal ∷ signals) = signal ∷ pin_joined pin net signals

abbrev pub instance_joined : (instance pin : ℕ) → NetId → List Instance → List Instance
instance_joined i pin net [] = []
instance_joined zero pin net (x ∷ xs) = record x { pins = pin_joined pin net x.pins } ∷ xs
instance_joined (suc i) pin net (x ∷ xs) = x ∷ instance_joined i pin net xs

abbrev pub with_pin : Making → InstanceId → (pin : ℕ) → NetId → Making
with_pin s instance pin net = record s { netlist = record s.netlist { instances = instance_joined instance.0 pin net s.netlist.instances } }

-- whether a pin of this number is there, joined to nothing
abbrev pub is_unconnected : Option Signal → Bool
is_unconnected None = false
is_unconnected (Some Unconnected) = true
is_unconnected (Some (Net net)) = false
is_unconnected (Some (Constant bit)) = false

abbrev pub is_open_in : Option Instance → (pin : ℕ) → Bool
is_open_in None pin = false
is_open_in (Some x) pin = is_unconnected (slice_get x.pins pin)

abbrev pub is_open_at : Netlist → InstanceId → (pin : ℕ) → Bool
is_open_at n instance pin = is_open_in (slice_get n.instances instance.0) pin

-- one part more
abbrev pub with_part : Making → Part → Making
with_part s ANet = with_net s
with_part s (AnInstance cell pins) = with_instance s cell pins
with_part s (APin instance pin net) = with_pin s instance pin net

-- all of these, one after another
abbrev pub with_parts : Making → List Part → Making
with_parts s [] = s
with_parts s (part ∷ parts) = with_parts (with_part s part) parts

-- ---- the part that is refused

-- why a part is refused: a made name is taken, or a limit would be passed
abbrev pub part_refusal : Making → Part → Option NetlistError
part_refusal s ANet = net_refusal s.netlist (made_net s.made.nets)
part_refusal s (AnInstance cell pins) = instance_refusal s.netlist (Some (made_instance s.made.instances))
part_refusal s (APin instance pin net) = None

abbrev pub or_else : Option NetlistError → Option NetlistError → Option NetlistError
or_else None later = later
or_else (Some error) later = Some error

-- the refusal of the first part that is refused
abbrev pub parts_refusal : Making → List Part → Option NetlistError
parts_refusal s [] = None
parts_refusal s (part ∷ parts) = or_else (part_refusal s part) (parts_refusal (with_part s part) parts)
