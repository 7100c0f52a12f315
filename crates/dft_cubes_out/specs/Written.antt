-- The written form of test cubes that capture once: one text for each list of them.
use Rattle.std.specs.Prelude.{ℕ, Bool, true, false, List, [], ◌++◌, flat_map, slice_get, Option, None, Some, codes}
use Rattle.std.specs.Option.{option_and_then}
use Rattle.dft_base.specs.Lexing.{Text}
use Rattle.dft_netlist.specs.declared.ids.NetId.{NetId}
use Rattle.dft_netlist.specs.declared.ids.InstanceId.{InstanceId}
use Rattle.dft_netlist.specs.Netlist.{Netlist}
use Rattle.dft_netlist.specs.Names.{instance_name}
use Rattle.dft_config.specs.Config.{Config}
use Rattle.dft_cubes.specs.declared.cube.Cube.{Cube}

-- ---- names

abbrev pub name_of : Option Text → Text
name_of None = []
name_of (Some name) = name

-- the name of a clock, by its place among the domains; there is one at each place that a cube has
abbrev pub clock_name : Config → (domain : ℕ) → Text
clock_name config domain = name_of (slice_get config.domains domain)

-- the name of an instance; each that a cube gives has one
abbrev pub cell_name : Netlist → (cell : ℕ) → Text
cell_name n cell = name_of (option_and_then instance_name (slice_get n.instances cell))

-- the name of a net; there is one of each number that a cube gives
abbrev pub port_name : Netlist → (net : ℕ) → Text
port_name n net = name_of (slice_get n.nets net)

-- ---- lines

abbrev pub bit_text : Bool → Text
bit_text false = codes " 0\n"
bit_text true = codes " 1\n"

-- `cube NAME CLOCK`
unfoldable pub begin_line : (name clock : Text) → Text
begin_line name clock = codes "cube " ++ (name ++ (codes " " ++ (clock ++ codes "\n")))

-- `cell NAME 0|1`
unfoldable pub cell_line : Netlist → InstanceId × Bool → Text
cell_line n given = codes "cell " ++ (cell_name n given.0.0 ++ bit_text given.1)

-- `port NAME 0|1`
unfoldable pub port_line : Netlist → NetId × Bool → Text
port_line n given = codes "port " ++ (port_name n given.0.0 ++ bit_text given.1)

-- ---- cubes

-- its first line, then its cells and its ports in order, then `end`
unfoldable pub cube_text : Netlist → Config → Cube → Text
cube_text n config cube = begin_line cube.name (clock_name config cube.domains.first) ++ (flat_map (cell_line n) cube.cells ++ (flat_map (port_line n) cube.ports ++ codes "end\n"))

abbrev pub cubes_text : Netlist → Config → List Cube → Text
cubes_text n config cubes = flat_map (cube_text n config) cubes
