-- Joins and instances of a module that stand in a flat netlist.
use Rattle.std.specs.Prelude.{ℕ, ◌+◌, ◌<◌, ◌^◌, List, ◌++◌, map}
use Rattle.std.specs.List.{All, AllByRecursion}
use Rattle.dft_base.specs.Lexing.{Text}
use Rattle.dft_netlist.specs.declared.ids.NetId.{NetId}
use Rattle.dft_netlist.specs.declared.instance.Instance.{Instance}
use Rattle.dft_netlist.specs.declared.instance.Join.{Join}
use Rattle.dft_netlist.specs.declared.instance.Signal.{Signal}
use Rattle.dft_netlist.specs.Netlist.{Netlist}
use Rattle.dft_netlist.specs.Sound.{IsInstanceOf, IsJoinOf, IsLive}
use Rattle.dft_modules.specs.declared.connections.Connection.{Connection}
use Rattle.dft_hier.specs.Flat.{moved}

-- a net's number in the flat netlist can be written
abbrev pub IsWritable : (first : ℕ) → Signal → Type 0
IsWritable first signal = IsLive (2 ^ 32) (moved first signal)

abbrev pub AreWritable : (first : ℕ) → List Signal → Type 0
AreWritable first signals = All (λ (s : Signal). IsWritable first s) signals

abbrev pub AreBitsWritable : (first : ℕ) → List NetId → Type 0
AreBitsWritable first bits = All (λ (bit : NetId). first + bit.0 < 2 ^ 32) bits

-- each of these joins can stand in a netlist
abbrev pub AreJoinsOf : Netlist → List Join → Type 0
AreJoinsOf n joins = AllByRecursion (λ (j : Join). IsJoinOf n j.target j.source) joins

-- a netlist with more joins
abbrev pub with_joins : Netlist → List Join → Netlist
with_joins n joins = record n { joins = n.joins ++ joins }

-- an instance can stand in a netlist
abbrev pub IsInstanceIn : Netlist → Instance → Type 0
IsInstanceIn n i = IsInstanceOf n i.name i.cell i.pins

abbrev pub connection_names : List Connection → List Text
connection_names connections = map (λ (c : Connection). c.port) connections
