-- The cells that stand where no library is given, in byte order of their names.
use Rattle.std.specs.Prelude.{codes, ℕ, true, false, List, [], ◌∷◌, ◌++◌, map, Some, None}
use Rattle.dft_cells.specs.declared.kind.Kind.TheVariants as kind
use Rattle.dft_cells.specs.declared.kind.Gate.{Gate}
use Rattle.dft_cells.specs.declared.kind.Gate.TheVariants.{Buf, Inv, And, Nand, Or, Nor, Xor, Xnor, Mux2, Tie0, Tie1}
use Rattle.dft_cells.specs.declared.kind.Forcing.{Forcing}
use Rattle.dft_cells.specs.declared.kind.Forcing.TheVariants as force
use Rattle.dft_cells.specs.declared.kind.Role.{Role}
use Rattle.dft_cells.specs.declared.kind.Role.TheVariants.{Input, Clock, Din, Reset, Preset, ScanIn, ScanEnable, Output, Inverted}
use Rattle.dft_cells.specs.declared.cell.Pin.{Pin}
use Rattle.dft_cells.specs.declared.cell.Cell.{Cell}

-- a pin with a name and a role
abbrev pub pin : List ℕ → Role → Pin
pin name role = record { name = name; role = role }

-- an input pin whose name is one letter
abbrev pub letter_pin : ℕ → Pin
letter_pin letter = pin (letter ∷ []) Input

-- a gate: its inputs are named by one letter each, its output is Y
abbrev pub gate : List ℕ → Gate → List ℕ → Cell
gate name its letters = record { name = name; kind = kind.Gate its; pins = map letter_pin letters ++ pin (codes "Y") Output ∷ []; scan = None }

-- the reset pin RN or the set pin SN of a flip-flop that has one
abbrev pub forcing_pins : Forcing → List Pin
forcing_pins force.Nothing = []
forcing_pins force.Reset = pin (codes "RN") Reset ∷ []
forcing_pins force.Set = pin (codes "SN") Preset ∷ []

-- the pins of each flip-flop before its outputs, but for the scan pins
abbrev pub front_pins : Forcing → List Pin
front_pins force = (pin (codes "CK") Clock ∷ pin (codes "D") Din ∷ []) ++ forcing_pins force

-- the scan pins SI and SE
abbrev pub scan_pins : List Pin
scan_pins = pin (codes "SI") ScanIn ∷ pin (codes "SE") ScanEnable ∷ []

-- the outputs of a flip-flop: Q and its inverse QN
abbrev pub back_pins : List Pin
back_pins = pin (codes "Q") Output ∷ pin (codes "QN") Inverted ∷ []

-- a flip-flop that names its scan cell by its number
abbrev pub flip_flop : List ℕ → Forcing → ℕ → Cell
flip_flop name force scan = record { name = name; kind = kind.Flop (record { force = force; scan = false }); pins = front_pins force ++ back_pins; scan = Some (record { 0 = scan }) }

-- a scan flip-flop
abbrev pub scan_flip_flop : List ℕ → Forcing → Cell
scan_flip_flop name force = record { name = name; kind = kind.Flop (record { force = force; scan = true }); pins = (front_pins force ++ scan_pins) ++ back_pins; scan = None }

-- a clock gate, whose output may have any bit
abbrev pub clock_gate : Cell
clock_gate = record { name = codes "CKGATE"; kind = kind.Opaque; pins = pin (codes "CK") Input ∷ pin (codes "EN") Input ∷ pin (codes "GCK") Output ∷ []; scan = None }

-- a latch, whose output may have any bit
abbrev pub latch : Cell
latch = record { name = codes "LATCH"; kind = kind.Opaque; pins = pin (codes "G") Input ∷ pin (codes "D") Input ∷ pin (codes "Q") Output ∷ []; scan = None }

-- the lock-up
abbrev pub lockup : Cell
lockup = record { name = codes "LOCKUP"; kind = kind.Lockup; pins = pin (codes "CK") Clock ∷ pin (codes "D") Din ∷ pin (codes "Q") Output ∷ []; scan = None }

-- the gates of two to four inputs, in byte order of their names
abbrev pub and_gates : List Cell
and_gates = gate (codes "AND2") And (codes "AB") ∷ gate (codes "AND3") And (codes "ABC") ∷ gate (codes "AND4") And (codes "ABCD") ∷ []

abbrev pub nand_gates : List Cell
nand_gates = gate (codes "NAND2") Nand (codes "AB") ∷ gate (codes "NAND3") Nand (codes "ABC") ∷ gate (codes "NAND4") Nand (codes "ABCD") ∷ []

abbrev pub nor_gates : List Cell
nor_gates = gate (codes "NOR2") Nor (codes "AB") ∷ gate (codes "NOR3") Nor (codes "ABC") ∷ gate (codes "NOR4") Nor (codes "ABCD") ∷ []

abbrev pub or_gates : List Cell
or_gates = gate (codes "OR2") Or (codes "AB") ∷ gate (codes "OR3") Or (codes "ABC") ∷ gate (codes "OR4") Or (codes "ABCD") ∷ []

-- the flip-flops; their scan cells are the cells 21, 22 and 23
abbrev pub flip_flops : List Cell
flip_flops = flip_flop (codes "DFF") force.Nothing 21 ∷ flip_flop (codes "DFFR") force.Reset 22 ∷ flip_flop (codes "DFFS") force.Set 23 ∷ []

abbrev pub scan_flip_flops : List Cell
scan_flip_flops = scan_flip_flop (codes "SDFF") force.Nothing ∷ scan_flip_flop (codes "SDFFR") force.Reset ∷ scan_flip_flop (codes "SDFFS") force.Set ∷ []

-- the cells between DFFS and NAND2, and those after SDFFS
abbrev pub inverter_to_mux : List Cell
inverter_to_mux = gate (codes "INV") Inv (codes "A") ∷ latch ∷ lockup ∷ gate (codes "MUX2") Mux2 (codes "ABS") ∷ []

abbrev pub tie_to_xor : List Cell
tie_to_xor = gate (codes "TIE0") Tie0 [] ∷ gate (codes "TIE1") Tie1 [] ∷ gate (codes "XNOR2") Xnor (codes "AB") ∷ gate (codes "XOR2") Xor (codes "AB") ∷ []

-- the cells between AND4 and DFF
abbrev pub buffer_and_clock_gate : List Cell
buffer_and_clock_gate = gate (codes "BUF") Buf (codes "A") ∷ clock_gate ∷ []

-- all standard cells, in byte order of their names
abbrev pub standard_cells : List Cell
standard_cells =
    and_gates ++ buffer_and_clock_gate ++ flip_flops ++ inverter_to_mux ++ nand_gates ++ nor_gates ++ or_gates
    ++ scan_flip_flops ++ tie_to_xor
