-- The design that a generated netlist stands for: its nets in the order in which they are first named, a gate and a flip-flop for each cell.
use Rattle.std.specs.Prelude.{ℕ, suc, ◌+◌, ◌*◌, ◌%◌, ◌==◌, List, [], ◌∷◌, ◌++◌, Some, None, codes, decimal, flat_map, if◌then◌else◌}
use Rattle.std.specs.List.{range_with_len}
use Rattle.std.specs.Str.{bytes_eq}
use Rattle.dft_base.specs.Lexing.{Text}
use Rattle.dft_base.specs.declared.dir.Dir.{Dir}
use Rattle.dft_base.specs.declared.dir.Dir.TheVariants.{Input, Output}
use Rattle.dft_cells.specs.Standard.{standard_cells}
use Rattle.dft_cells.specs.WellFormed.{has_name}
use Rattle.dft_netlist.specs.declared.port.Port.{Port}
use Rattle.dft_netlist.specs.declared.instance.Signal.{Signal}
use Rattle.dft_netlist.specs.declared.instance.Signal.TheVariants.{Net, Unconnected}
use Rattle.dft_netlist.specs.declared.instance.CellRef.TheVariants.{Library}
use Rattle.dft_netlist.specs.declared.instance.Instance.{Instance}
use Rattle.dft_netlist.specs.declared.instance.Join.{Join}
use Rattle.dft_netlist.specs.Netlist.{Netlist}
use Rattle.dft_generate.specs.Words.{word_at}

-- ---- names

-- a letter and the number of a cell, as `q5`
abbrev pub numbered : (letter cell : ℕ) → Text
numbered letter cell = letter ∷ decimal cell

-- the nets of a cell: its flip-flop's output, as `q5`, and its gate's, as `d5`
abbrev pub q_of : (cell : ℕ) → Text
q_of cell = numbered 113 cell

abbrev pub d_of : (cell : ℕ) → Text
d_of cell = numbered 100 cell

-- its gate, as `g5`, and its flip-flop, as `f5`
abbrev pub g_of : (cell : ℕ) → Text
g_of cell = numbered 103 cell

abbrev pub f_of : (cell : ℕ) → Text
f_of cell = numbered 102 cell

-- ---- nets

-- a name is a net from its first mention on
abbrev pub with_net : (name : Text) → List Text → List Text
with_net name nets = if has_name nets name then nets else nets ++ name ∷ []

-- the cells whose bits a cell's gate takes
abbrev pub first_of : (size : ℕ) → (words : List ℕ) → (cell : ℕ) → ℕ
first_of size words cell = word_at words (cell * 3 + 1) % size

abbrev pub second_of : (size : ℕ) → (words : List ℕ) → (cell : ℕ) → ℕ
second_of size words cell = word_at words (cell * 3 + 2) % size

-- the nets behind the lines of a cell: its gate names two flip-flops' nets and its own, its flip-flop its own
abbrev pub with_cell : (size : ℕ) → (words : List ℕ) → (cell : ℕ) → List Text → List Text
with_cell size words cell nets = with_net (q_of cell) (with_net (d_of cell) (with_net (q_of (second_of size words cell)) (with_net (q_of (first_of size words cell)) nets)))

-- those behind the lines of these cells
abbrev pub with_cells : (size : ℕ) → (words : List ℕ) → (cells : List ℕ) → List Text → List Text
with_cells size words [] nets = nets
with_cells size words (cell ∷ cells) nets = with_cells size words cells (with_cell size words cell nets)

-- the nets of the ports
abbrev pub port_nets : List Text
port_nets = codes "clk0" ∷ codes "clk1" ∷ codes "y" ∷ []

-- all nets
unfoldable pub nets_of : (size : ℕ) → (words : List ℕ) → List Text
nets_of size words = with_cells size words (range_with_len 0 size) port_nets

-- the number of a name among nets, and how many they are where it is none
abbrev pub number_in : List Text → (name : Text) → ℕ
number_in [] name = 0
number_in (net ∷ nets) name = if bytes_eq net name then 0 else suc (number_in nets name)

abbrev pub net_in : List Text → (name : Text) → Signal
net_in nets name = Net (record { 0 = number_in nets name })

-- ---- instances

-- the cell of a gate, by a word: NAND2, NOR2, XOR2 or AND2 of the standard library
abbrev pub gate_cell : (word : ℕ) → ℕ
gate_cell word = if word % 4 == 0 then 12 else (if word % 4 == 1 then 15 else (if word % 4 == 2 then 27 else 0))

abbrev pub gate_in : List Text → (size : ℕ) → (words : List ℕ) → (cell : ℕ) → Instance
gate_in nets size words cell = record {
  name = Some (g_of cell);
  cell = Library (record { 0 = gate_cell (word_at words (cell * 3)) });
  pins = net_in nets (q_of (first_of size words cell)) ∷ net_in nets (q_of (second_of size words cell)) ∷ net_in nets (d_of cell) ∷ [];
}

-- a flip-flop, of two domains in turn: the standard DFF, whose inverted output is not joined
abbrev pub flop_in : List Text → (cell : ℕ) → Instance
flop_in nets cell = record {
  name = Some (f_of cell);
  cell = Library (record { 0 = 5 });
  pins = Net (record { 0 = cell % 2 }) ∷ net_in nets (d_of cell) ∷ net_in nets (q_of cell) ∷ Unconnected ∷ [];
}

-- the gate and the flip-flop of a cell
abbrev pub cell_in : List Text → (size : ℕ) → (words : List ℕ) → (cell : ℕ) → List Instance
cell_in nets size words cell = gate_in nets size words cell ∷ flop_in nets cell ∷ []

-- ---- the design

-- a port of one bit
abbrev pub scalar : Text → Dir → (net : ℕ) → Port
scalar name dir net = record { name = name; dir = dir; range = None; bits = record { 0 = net } ∷ [] }

abbrev pub design_ports : List Port
design_ports = scalar (codes "clk0") Input 0 ∷ scalar (codes "clk1") Input 1 ∷ scalar (codes "y") Output 2 ∷ []

-- the output is the bit of the first flip-flop
abbrev pub design_joins : List Text → List Join
design_joins nets = record { target = record { 0 = 2 }; source = net_in nets (q_of 0) } ∷ []

-- the instances of these cells
abbrev pub instances_in : List Text → (size : ℕ) → (words cells : List ℕ) → List Instance
instances_in nets size words cells = flat_map (cell_in nets size words) cells

abbrev pub design : (size : ℕ) → (words : List ℕ) → Netlist
design size words = record {
  name = codes "gen";
  library = standard_cells;
  ports = design_ports;
  nets = nets_of size words;
  instances = instances_in (nets_of size words) size words (range_with_len 0 size);
  joins = design_joins (nets_of size words);
}
