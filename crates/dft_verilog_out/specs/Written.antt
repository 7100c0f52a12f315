-- The written form of a netlist: one text for each (IEEE 1364, structural part).
use Rattle.std.specs.Prelude.{ℕ, ◌-◌, Bool, true, false, if◌then◌else◌, List, [], ◌∷◌, ◌++◌, length, map, flat_map, take, drop, get_or, Option, Some, None, codes, decimal, slice_get}
use Rattle.dft_base.specs.declared.place.Range.{Range}
use Rattle.dft_base.specs.Lexing.{Text}
use Rattle.dft_base.specs.Words.{needs_escape}
use Rattle.dft_cells.specs.declared.kind.Gate.{Gate as GateKind}
use Rattle.dft_cells.specs.declared.kind.Gate.TheVariants.{Buf, Inv, And, Nand, Or, Nor, Xor, Xnor}
use Rattle.dft_cells.specs.declared.cell.Pin.{Pin}
use Rattle.dft_cells.specs.declared.cell.Cell.{Cell}
use Rattle.dft_base.specs.declared.dir.Dir.{Dir}
use Rattle.dft_base.specs.declared.dir.Dir.TheVariants.{Input, Output}
use Rattle.dft_netlist.specs.declared.port.Port.{Port}
use Rattle.dft_netlist.specs.declared.instance.Signal.{Signal}
use Rattle.dft_netlist.specs.declared.instance.Signal.TheVariants.{Net, Constant, Unconnected}
use Rattle.dft_netlist.specs.declared.instance.CellRef.TheVariants.{Library, Gate}
use Rattle.dft_netlist.specs.declared.instance.Instance.{Instance}
use Rattle.dft_netlist.specs.declared.instance.Join.{Join}
use Rattle.dft_netlist.specs.Names.{indices_of}
use Rattle.dft_netlist.specs.Sound.{bit_names_of}
use Rattle.dft_netlist.specs.Netlist.{Netlist}

-- ---- names

-- a name as it is written: as it is, or behind a backslash and with a blank behind it
abbrev pub name_text : Text → Text
name_text name = if needs_escape name then 92 ∷ (name ++ 32 ∷ []) else name

-- texts one behind the other, with a comma and a blank between them, and this before the first
abbrev pub list_text_behind : Text → List Text → Text
list_text_behind before [] = []
list_text_behind before (text ∷ texts) = before ++ (text ++ list_text_behind (codes ", ") texts)

-- texts with a comma and a blank between them
abbrev pub list_text : List Text → Text
list_text texts = list_text_behind [] texts

-- ---- nets

-- a bit of a vector, by its index
abbrev pub bit_select_text : Text → (index : ℕ) → Text
bit_select_text name index = name_text name ++ (91 ∷ (decimal index ++ 93 ∷ []))

-- the bits of a port, leftmost first
abbrev pub bit_texts : Text → Option Range → List Text
bit_texts name None = name_text name ∷ []
bit_texts name (Some range) = map (bit_select_text name) (indices_of range)

abbrev pub port_texts : Port → List Text
port_texts port = bit_texts port.name port.range

-- the names of the nets that are no port's bits
abbrev pub wire_names : Netlist → List Text
wire_names n = drop (length (bit_names_of n.ports)) n.nets

-- the nets as they are written where they are joined: a bit by its vector and its index, any other by its name
abbrev pub net_texts : Netlist → List Text
net_texts n = flat_map port_texts n.ports ++ map name_text (wire_names n)

-- a net, or a constant of one bit
abbrev pub signal_text : (nets : List Text) → Signal → Text
signal_text nets (Net net) = get_or nets net.0 []
signal_text nets (Constant false) = codes "1'b0"
signal_text nets (Constant true) = codes "1'b1"
signal_text nets Unconnected = []

-- ---- declarations

-- `module`, its name and its ports
unfoldable pub module_line : Text → List Port → Text
module_line name ports = codes "module " ++ (name_text name ++ (codes " (" ++ (list_text (map (λ (port : Port). name_text port.name) ports) ++ codes ");\n")))

abbrev pub dir_text : Dir → Text
dir_text Input = codes "input "
dir_text Output = codes "output "

-- a range, and a blank behind it
abbrev pub range_text : Option Range → Text
range_text None = []
range_text (Some range) = 91 ∷ (decimal range.left ++ (58 ∷ (decimal range.right ++ codes "] ")))

-- the line of a port, as `input [3:0] a;`
unfoldable pub port_line : Port → Text
port_line port = dir_text port.dir ++ (range_text port.range ++ (name_text port.name ++ codes ";\n"))

-- the line of another net, as it is written
unfoldable pub wire_line : Text → Text
wire_line net = codes "wire " ++ (net ++ codes ";\n")

-- ---- joins

-- the line of a join, as `assign y = a[3];`
unfoldable pub join_line : (nets : List Text) → Join → Text
join_line nets join = codes "assign " ++ (signal_text nets (Net join.target) ++ (codes " = " ++ (signal_text nets join.source ++ codes ";\n")))

-- ---- instances

-- a pin and what it is joined to, as `.D(d0)`
abbrev pub connection_text : (nets : List Text) → Text → Signal → Text
connection_text nets pin to = 46 ∷ (name_text pin ++ (40 ∷ (signal_text nets to ++ 41 ∷ [])))

-- whether a pin is joined to something
abbrev pub is_joined : Signal → Bool
is_joined (Net net) = true
is_joined (Constant bit) = true
is_joined Unconnected = false

-- the pins that are joined, in their order
abbrev pub connection_texts : (nets : List Text) → List Pin → List Signal → List Text
connection_texts nets [] signals = []
connection_texts nets (pin ∷ pins) [] = []
connection_texts nets (pin ∷ pins) (to ∷ signals) = if is_joined to then connection_text nets pin.name to ∷ connection_texts nets pins signals else connection_texts nets pins signals

-- the primitive of a kind of gate
abbrev pub gate_text : GateKind → Text
gate_text Buf = codes "buf"
gate_text Inv = codes "not"
gate_text And = codes "and"
gate_text Nand = codes "nand"
gate_text Or = codes "or"
gate_text Nor = codes "nor"
gate_text Xor = codes "xor"
gate_text Xnor = codes "xnor"
gate_text _ = []

-- a gate's output is its last pin, and is written first
abbrev pub output_first : List Signal → List Signal
output_first pins = drop (length pins - 1) pins ++ take (length pins - 1) pins

-- a blank and a name, where there is one
abbrev pub own_name_text : Option Text → Text
own_name_text None = []
own_name_text (Some name) = 32 ∷ name_text name

-- the line of a gate, as `xor g1 (y, a, b);`
unfoldable pub gate_line : (nets : List Text) → GateKind → Instance → Text
gate_line nets kind i = gate_text kind ++ (own_name_text i.name ++ (codes " (" ++ (list_text (map (signal_text nets) (output_first i.pins)) ++ codes ");\n")))

-- the line of an instance of a cell, as `DFF f0 (.CK(clk), .D(d0), .Q(q0));`
unfoldable pub cell_line : (nets : List Text) → Cell → Instance → Text
cell_line nets cell i = name_text cell.name ++ (own_name_text i.name ++ (codes " (" ++ (list_text (connection_texts nets cell.pins i.pins) ++ codes ");\n")))

-- a number that names no cell has no line
abbrev pub found_cell_line : (nets : List Text) → Option Cell → Instance → Text
found_cell_line nets None i = []
found_cell_line nets (Some cell) i = cell_line nets cell i

abbrev pub instance_line : List Cell → (nets : List Text) → Instance → Text
instance_line library nets i = elim i.cell [ Library id ↦ found_cell_line nets (slice_get library id.0) i | Gate kind inputs ↦ gate_line nets kind i ]

-- ---- the whole

-- the lines behind the heading
unfoldable pub body : Netlist → Text
body n = flat_map port_line n.ports ++ (flat_map wire_line (map name_text (wire_names n))
    ++ (flat_map (join_line (net_texts n)) n.joins ++ (flat_map (instance_line n.library (net_texts n)) n.instances ++ codes "endmodule\n")))

-- the written form
unfoldable pub written : Netlist → Text
written n = module_line n.name n.ports ++ body n
