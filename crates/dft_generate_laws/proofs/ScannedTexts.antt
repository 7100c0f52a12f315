-- The scanned netlist of a generated design has a short text.
use Rattle.std.proofs.Common.{◌≡◌, ℕ, zero, suc, ◌+◌, ◌-◌, ◌*◌, ◌<◌, ◌≤◌, Bool, true, false, List, [], ◌∷◌, ◌++◌, length, map, flat_map, take, drop, get_or, slice_get, Option, None, Some, codes, refl, sym, ap, ◌∙◌, subst, arith, length-append}
use Rattle.std.specs.Prelude.{nat_le, if◌then◌else◌}
use Rattle.std.specs.List.{list_all, range_with_len}
use Rattle.std.proofs.lemmas.Bool.{and_parts, leb-true}
use Rattle.std.proofs.lemmas.Fmt.{decimal_digit, length-decimal-le, length-decimal-le_wide}
use Rattle.std.proofs.lemmas.List.{length-map}
use Rattle.std.proofs.lemmas.List.FromFn.{length-range_with_len}
use Rattle.std.proofs.lemmas.Option.{none-some, same_Some}
use Rattle.std.proofs.Math.Nat.{suc-mul}
use Rattle.dft_base.specs.Lexing.{Text}
use Rattle.dft_base.specs.declared.dir.Dir.{Dir}
use Rattle.dft_base.specs.declared.dir.Dir.TheVariants.{Input, Output}
use Rattle.dft_base.specs.Words.{needs_escape}
use Rattle.dft_cells.specs.declared.cell.Cell.{Cell}
use Rattle.dft_cells.specs.declared.cell.CellId.{CellId}
use Rattle.dft_cells.specs.declared.cell.Pin.{Pin}
use Rattle.dft_cells.specs.declared.kind.Gate.{Gate as GateKind}
use Rattle.dft_cells.specs.declared.kind.Gate.TheVariants as primitive
use Rattle.dft_cells.specs.Standard.{standard_cells}
use Rattle.dft_netlist.specs.declared.ids.NetId.{NetId}
use Rattle.dft_netlist.specs.declared.instance.CellRef.{CellRef}
use Rattle.dft_netlist.specs.declared.instance.CellRef.TheVariants.{Library, Gate}
use Rattle.dft_netlist.specs.declared.instance.Instance.{Instance}
use Rattle.dft_netlist.specs.declared.instance.Join.{Join}
use Rattle.dft_netlist.specs.declared.instance.Signal.{Signal}
use Rattle.dft_netlist.specs.declared.instance.Signal.TheVariants.{Net, Constant, Unconnected}
use Rattle.dft_netlist.specs.declared.port.Port.{Port}
use Rattle.dft_netlist.specs.Netlist.{Netlist}
use Rattle.dft_netlist.specs.Sound.{bit_names_of}
use Rattle.dft_rules.specs.Refusals.{is_scanned}
use Rattle.dft_rules.specs.Rules.{judged, scan_cell_in}
use Rattle.dft_stitch.specs.Chains.{plan_of}
use Rattle.dft_stitch.specs.Plans.{Plan}
use Rattle.dft_verilog_out.specs.Written.{body, cell_line, connection_texts, dir_text, found_cell_line, gate_line, gate_text, instance_line, join_line, list_text, list_text_behind, module_line, name_text, net_texts, output_first, own_name_text, port_line, port_texts, signal_text, wire_line, wire_names, written}
use Rattle.dft_parts.specs.Growth.{IsGrown}
use Rattle.dft_parts.specs.MadeNames.{made_instance, made_net}
use Rattle.dft_parts.specs.Parts.{ANet, AnInstance, APin, Making, Part, instance_joined, next_instance, with_instance, with_net, with_parts, with_pin}
use Rattle.dft_parts.specs.Recipes.{nets_in, start_of}
use Rattle.dft_parts.proofs.Growing.{parts_grow}
use Rattle.dft_scan_frame.specs.AddedPorts.{NewPort, port_name, ports_from}
use Rattle.dft_scan_frame.specs.Moves.{Gap, map_from}
use Rattle.dft_insert.specs.declared.style.Style.TheVariants.{Edt}
use Rattle.dft_insert.specs.Frame.{as_scan_cell, framed_at, framed_instance}
use Rattle.dft_insert.specs.Ports.{added_ports, edt_nets, gap_in}
use Rattle.dft_insert.specs.Scanned.{framed, parts_of}
use Rattle.dft_insert.specs.Statements.{scanned}
use Rattle.dft_insert.proofs.Joins.{one_width}
use Rattle.dft_insert.proofs.Weights.{sum_of}
use Rattle.dft_generate.specs.Configurations.{configuration}
use Rattle.dft_generate_laws.specs.Designs.{design, design_ports, flop_in, gate_in, instances_in, nets_of, numbered, scalar}
use Rattle.dft_generate_laws.specs.Laws.{ScannedAreShort}
use Rattle.dft_generate_laws.proofs.Added.{edt_most}
use Rattle.dft_generate_laws.proofs.Framed.{plan_small}
use Rattle.dft_generate_laws.proofs.NetNames.{IsNetName, OfCell, OfClock0, OfClock1, OfOutput, are_nets}
use Rattle.dft_generate_laws.proofs.Places.{nets-few}
use Rattle.dft_generate_laws.proofs.Sizes.{size_of}

-- ---- short texts

-- each has so many bytes at most
abbrev AllUnder : (most : ℕ) → List Text → Type 0
AllUnder most [] = Unit {0}
AllUnder most (t ∷ ts) = (length t ≤ most) × AllUnder most ts

under_both : (most : ℕ) (xs ys : List Text) → AllUnder most xs → AllUnder most ys → AllUnder most (xs ++ ys)
under_both most [] ys a b = b
under_both most (x ∷ xs) ys a b = (a.0, under_both most xs ys a.1 b)

under_take : (most k : ℕ) (xs : List Text) → AllUnder most xs → AllUnder most (take k xs)
under_take most zero xs a = tt
under_take most (suc k) [] a = tt
under_take most (suc k) (x ∷ xs) a = (a.0, under_take most k xs a.1)

under_drop : (most k : ℕ) (xs : List Text) → AllUnder most xs → AllUnder most (drop k xs)
under_drop most zero xs a = a
under_drop most (suc k) [] a = tt
under_drop most (suc k) (x ∷ xs) a = under_drop most k xs a.1

under_at : (most k : ℕ) (xs : List Text) → AllUnder most xs → length (get_or xs k []) ≤ most
under_at most k [] a = omega arith
under_at most zero (x ∷ xs) a = a.0
under_at most (suc k) (x ∷ xs) a = under_at most k xs a.1

under_each : (most : ℕ) (xs : List Text) → ((k : ℕ) (w : Text) → slice_get xs k ≡ Some w → length w ≤ most) → AllUnder most xs
under_each most [] each = tt
under_each most (x ∷ xs) each = (each 0 x refl, under_each most xs (λ k w at. each (suc k) w at))

under_tested : (most : ℕ) (xs : List Text) → list_all (λ (t : Text). nat_le (length t) most) xs ≡ true → AllUnder most xs
under_tested most [] h = tt
under_tested most (x ∷ xs) h = let p = and_parts (nat_le (length x) most) (list_all (λ (t : Text). nat_le (length t) most) xs) h in (leb-true (length x) most p.0, under_tested most xs p.1)

drop_short : {X : Type 0} (k : ℕ) (xs : List X) → length (drop k xs) ≤ length xs
drop_short zero xs = omega arith
drop_short (suc k) [] = omega arith
drop_short (suc k) (x ∷ xs) = let i = drop_short k xs in omega (arith, i)

-- a name may be escaped
escaped : (name : Text) → length (name_text name) ≤ length name + 2
escaped name = by (needs_escape name)
  where
    by : (t : Bool) → length (if t then 92 ∷ (name ++ 32 ∷ []) else name) ≤ length name + 2
    by true = omega (arith, length-append name (32 ∷ []))
    by false = omega arith

under_names : (most : ℕ) (xs : List Text) → AllUnder most xs → AllUnder (most + 2) (map name_text xs)
under_names most [] a = tt
under_names most (x ∷ xs) a = ((let le = a.0 in omega (arith, le, escaped x)), under_names most xs a.1)

-- ---- lines of instances

-- the most bytes of a pin that is joined, with what is before it
abbrev pin_most : Pin → ℕ
pin_most pin = length pin.name + 31

pin_joined_short : (before : Text) (pin : Pin) (to rest : Text) (most : ℕ) → length before ≤ 2 → length to ≤ 24 → length rest ≤ most → length (before ++ ((46 ∷ (name_text pin.name ++ (40 ∷ (to ++ 41 ∷ [])))) ++ rest)) ≤ pin_most pin + most
pin_joined_short before pin to rest most le short behind =
    let text : Text = 46 ∷ (name_text pin.name ++ (40 ∷ (to ++ 41 ∷ []))) in
    omega (arith, le, short, behind, escaped pin.name, length-append before (text ++ rest), length-append text rest, length-append (name_text pin.name) (40 ∷ (to ++ 41 ∷ [])), length-append to (41 ∷ []))

module _ (nets : List Text) (short : AllUnder 24 nets) where
  signal_short : (s : Signal) → length (signal_text nets s) ≤ 24
  signal_short (Net net) = under_at 24 net.0 nets short
  signal_short (Constant false) = omega arith
  signal_short (Constant true) = omega arith
  signal_short Unconnected = omega arith

  signals_short : (before : Text) (pins : List Signal) → length before ≤ 2 → length (list_text_behind before (map (signal_text nets) pins)) ≤ length pins * 26
  signals_short before [] le = omega arith
  signals_short before (s ∷ pins) le =
      let rest : Text = list_text_behind (codes ", ") (map (signal_text nets) pins) in
      omega (arith, le, signal_short s, signals_short (codes ", ") pins (omega arith), suc-mul (length pins) 26, length-append before (signal_text nets s ++ rest), length-append (signal_text nets s) rest)

  pins_short : (before : Text) (pins : List Pin) (signals : List Signal) → length before ≤ 2 → length (list_text_behind before (connection_texts nets pins signals)) ≤ sum_of pin_most pins
  pins_short before [] signals le = omega arith
  pins_short before (pin ∷ pins) [] le = omega arith
  pins_short before (pin ∷ pins) (Unconnected ∷ signals) le = let i = pins_short before pins signals le in omega (arith, i)
  pins_short before (pin ∷ pins) (Net net ∷ signals) le =
      pin_joined_short before pin (signal_text nets (Net net)) (list_text_behind (codes ", ") (connection_texts nets pins signals)) (sum_of pin_most pins) le (signal_short (Net net)) (pins_short (codes ", ") pins signals (omega arith))
  pins_short before (pin ∷ pins) (Constant bit ∷ signals) le =
      pin_joined_short before pin (signal_text nets (Constant bit)) (list_text_behind (codes ", ") (connection_texts nets pins signals)) (sum_of pin_most pins) le (signal_short (Constant bit)) (pins_short (codes ", ") pins signals (omega arith))

  join_short : (j : Join) → length (join_line nets j) ≤ 60
  unfolding join_line
  join_short j =
      let target : Text = signal_text nets (Net j.target) in
      let source : Text = signal_text nets j.source in
      omega (arith, signal_short (Net j.target), signal_short j.source, length-append target (codes " = " ++ (source ++ codes ";\n")), length-append source (codes ";\n"))

  gate_short : (kind : GateKind) (i : Instance) → length (gate_line nets kind i) ≤ length (own_name_text i.name) + (20 + length i.pins * 26)
  unfolding gate_line
  gate_short kind i =
      let pins : Text = list_text (map (signal_text nets) (output_first i.pins)) in
      let own : Text = own_name_text i.name in
      omega (
        arith,
        kind_short kind,
        signals_short [] (output_first i.pins) (omega arith),
        ap (λ (k : ℕ). k * 26) (turned (length i.pins - 1) i.pins),
        length-append (gate_text kind) (own ++ (codes " (" ++ (pins ++ codes ");\n"))),
        length-append own (codes " (" ++ (pins ++ codes ");\n")),
        length-append pins (codes ");\n"),
      )
    where
      kind_short : (kind : GateKind) → length (gate_text kind) ≤ 4
      kind_short primitive.Nand = omega arith
      kind_short _ = omega arith

      turned : (k : ℕ) (pins : List Signal) → length (drop k pins ++ take k pins) ≡ length pins
      turned k pins = let c = cut k pins in omega (arith, c, length-append (drop k pins) (take k pins))
        where
          cut : (k : ℕ) (pins : List Signal) → length (take k pins) + length (drop k pins) ≡ length pins
          cut zero pins = omega arith
          cut (suc k) [] = omega arith
          cut (suc k) (x ∷ pins) = let i = cut k pins in omega (arith, i)

  cell_short : (cell : Cell) (i : Instance) → length cell.name + sum_of pin_most cell.pins ≤ 245 → length (cell_line nets cell i) ≤ length (own_name_text i.name) + 260
  unfolding cell_line
  cell_short cell i le =
      let pins : Text = list_text (connection_texts nets cell.pins i.pins) in
      let own : Text = own_name_text i.name in
      omega (
        arith,
        le,
        escaped cell.name,
        pins_short [] cell.pins i.pins (omega arith),
        length-append (name_text cell.name) (own ++ (codes " (" ++ (pins ++ codes ");\n"))),
        length-append own (codes " (" ++ (pins ++ codes ");\n")),
        length-append pins (codes ");\n"),
      )

-- the standard cells have few pins
cells_tested : (cells : List Cell) (k : ℕ) (cell : Cell) → list_all (λ (cell : Cell). nat_le (length cell.name + sum_of pin_most cell.pins) 245) cells ≡ true → slice_get cells k ≡ Some cell → length cell.name + sum_of pin_most cell.pins ≤ 245
cells_tested [] k cell h at = absurd (none-some cell at)
cells_tested (x ∷ cells) zero cell h at =
    let p = and_parts (nat_le (length x.name + sum_of pin_most x.pins) 245) (list_all (λ (cell : Cell). nat_le (length cell.name + sum_of pin_most cell.pins) 245) cells) h in
    subst (λ (c : Cell). length c.name + sum_of pin_most c.pins ≤ 245) (same_Some x cell at) (leb-true (length x.name + sum_of pin_most x.pins) 245 p.0)
cells_tested (x ∷ cells) (suc k) cell h at =
    cells_tested cells k cell (and_parts (nat_le (length x.name + sum_of pin_most x.pins) 245) (list_all (λ (cell : Cell). nat_le (length cell.name + sum_of pin_most cell.pins) 245) cells) h).1 at

-- the most bytes of an instance's line
abbrev cell_most : CellRef → (pins : ℕ) → ℕ
cell_most (Library id) pins = 260
cell_most (Gate kind inputs) pins = 20 + pins * 26

abbrev line_most : Instance → ℕ
line_most i = length (own_name_text i.name) + cell_most i.cell (length i.pins)

line_short : (nets : List Text) (i : Instance) → AllUnder 24 nets → length (instance_line standard_cells nets i) ≤ line_most i
line_short nets i short = by i.cell
  where
    found : (id : ℕ) (o : Option Cell) → slice_get standard_cells id ≡ o → length (found_cell_line nets o i) ≤ length (own_name_text i.name) + 260
    found id None at = omega arith
    found id (Some cell) at = cell_short nets short cell i (cells_tested standard_cells id cell refl at)

    by : (cell : CellRef) → length {A = ℕ} (elim cell [ Library id ↦ found_cell_line nets (slice_get standard_cells id.0) i | Gate kind inputs ↦ gate_line nets kind i ]) ≤ length (own_name_text i.name) + cell_most cell (length i.pins)
    by (Library id) = found id.0 (slice_get standard_cells id.0) refl
    by (Gate kind inputs) = gate_short nets short kind i

lines_short : (nets : List Text) (xs : List Instance) → AllUnder 24 nets → length (flat_map (instance_line standard_cells nets) xs) ≤ sum_of line_most xs
lines_short nets [] short = omega arith
lines_short nets (x ∷ xs) short = omega (arith, line_short nets x short, lines_short nets xs short, length-append (instance_line standard_cells nets x) (flat_map (instance_line standard_cells nets) xs))

-- ---- what is made

sum_append : (f : Instance → ℕ) (xs ys : List Instance) → sum_of f (xs ++ ys) ≡ sum_of f xs + sum_of f ys
sum_append f [] ys = omega arith
sum_append f (x ∷ xs) ys = let i = sum_append f xs ys in omega (arith, i)

sum_joined : (i pin : ℕ) (net : NetId) (xs : List Instance) → sum_of line_most (instance_joined i pin net xs) ≡ sum_of line_most xs
sum_joined i pin net [] = refl
sum_joined zero pin net (x ∷ xs) = ap (λ (k : ℕ). length (own_name_text x.name) + cell_most x.cell k + sum_of line_most xs) (one_width pin net x.pins)
sum_joined (suc i) pin net (x ∷ xs) = ap (λ (k : ℕ). line_most x + k) (sum_joined i pin net xs)

made_short : (number : ℕ) → number < 1000000 → length (own_name_text (Some (made_instance number))) ≤ 20
made_short number lt = let d = length-decimal-le 6 number (omega arith) (omega (arith, lt)) (omega (arith, lt)) in omega (arith, d, escaped (made_instance number))

-- each made instance adds no more than its parts count for
made_most : (parts : List Part) (s : Making) → s.made.instances + size_of parts ≤ 1000000 → sum_of line_most (with_parts s parts).netlist.instances ≤ sum_of line_most s.netlist.instances + size_of parts * 280
made_most [] s le = omega arith
made_most (ANet ∷ parts) s le = let i = made_most parts (with_net s) (omega (arith, le)) in omega (arith, i)
made_most (AnInstance (Library id) pins ∷ parts) s le =
    let i = made_most parts (with_instance s (Library id) pins) (omega (arith, le)) in
    omega (arith, i, made_short s.made.instances (omega (arith, le)), sum_append line_most s.netlist.instances (next_instance s.made (Library id) pins ∷ []))
made_most (AnInstance (Gate kind inputs) pins ∷ parts) s le =
    let i = made_most parts (with_instance s (Gate kind inputs) pins) (omega (arith, le)) in
    omega (arith, i, made_short s.made.instances (omega (arith, le)), sum_append line_most s.netlist.instances (next_instance s.made (Gate kind inputs) pins ∷ []))
made_most (APin instance pin net ∷ parts) s le =
    let i = made_most parts (with_pin s instance pin net) le in
    omega (arith, i, sum_joined instance.0 pin net s.netlist.instances)

nets_counted : (parts : List Part) → nets_in parts ≤ size_of parts
nets_counted [] = omega arith
nets_counted (ANet ∷ parts) = let i = nets_counted parts in omega (arith, i)
nets_counted (AnInstance (Library id) pins ∷ parts) = let i = nets_counted parts in omega (arith, i)
nets_counted (AnInstance (Gate kind inputs) pins ∷ parts) = let i = nets_counted parts in omega (arith, i)
nets_counted (APin instance pin net ∷ parts) = nets_counted parts

-- ---- the frame

framed_most : (gap : Gap) (scanned : Bool) (name : Option Text) (id : CellId) (pins : List Signal) →
    line_most (framed_instance standard_cells gap scanned (record { name = name; cell = Library id; pins = pins })) ≡ length (own_name_text name) + 260
framed_most gap false name id pins = refl
framed_most gap true name id pins = by (scan_cell_in standard_cells (Library id))
  where
    by : (o : Option CellId) → line_most (as_scan_cell standard_cells gap (record { name = name; cell = Library id; pins = pins }) o) ≡ length (own_name_text name) + 260
    by None = refl
    by (Some cell) = refl

own_short : (letter cell : ℕ) → cell < 100000 → length (own_name_text (Some (numbered letter cell))) ≤ 9
own_short letter cell lt = let d = length-decimal-le 5 cell (omega arith) (omega (arith, lt)) (omega (arith, lt)) in omega (arith, d, escaped (numbered letter cell))

frame_most : (n : Netlist) (gap : Gap) (all : List Text) (size : ℕ) (words : List ℕ) (count from number : ℕ) → n.library ≡ standard_cells → from + count ≤ 100000
    → sum_of line_most (map_from (framed_at n configuration gap) number (instances_in all size words (range_with_len from count))) ≤ count * 540
frame_most n gap all size words zero from number cells le = omega arith
frame_most n gap all size words (suc count) from number cells le =
    let rest : ℕ = sum_of line_most (map_from (framed_at n configuration gap) (suc (suc number)) (instances_in all size words (range_with_len (from + 1) count))) in
    let gate = gate_in all size words from in
    let flop = flop_in all from in
    let a = ap (λ (library : List Cell). line_most (framed_instance library gap (is_scanned (judged n configuration number)) gate)) cells ∙ framed_most gap (is_scanned (judged n configuration number)) gate.name _ gate.pins in
    let b = ap (λ (library : List Cell). line_most (framed_instance library gap (is_scanned (judged n configuration (suc number))) flop)) cells ∙ framed_most gap (is_scanned (judged n configuration (suc number))) flop.name _ flop.pins in
    let i = frame_most n gap all size words count (from + 1) (suc (suc number)) cells (omega (arith, le)) in
    omega (arith, a, b, i, own_short 103 from (omega (arith, le)), own_short 102 from (omega (arith, le)), suc-mul count 540)

-- ---- nets

net_short : (w : Text) → IsNetName w → length w ≤ 22
net_short _ OfClock0 = omega arith
net_short _ OfClock1 = omega arith
net_short _ OfOutput = omega arith
net_short w (OfCell i) =
    let small = i.small in
    let d = length-decimal-le_wide 20 i.cell (omega arith) (omega (arith, small)) (omega (arith, small)) in
    subst (λ (t : Text). length t ≤ 22) (sym i.is) (omega (arith, d))

made_nets : (count from : ℕ) → from + count ≤ 1000000 → AllUnder 22 (map made_net (range_with_len from count))
made_nets zero from le = tt
made_nets (suc count) from le =
    (let d = length-decimal-le 6 from (omega arith) (omega (arith, le)) (omega (arith, le)) in omega (arith, d), made_nets count (from + 1) (omega (arith, le)))

wires_short : (names : List Text) → AllUnder 24 names → length (flat_map wire_line names) ≤ length names * 31
unfolding wire_line
wires_short [] short = omega arith
wires_short (x ∷ names) short =
    let le = short.0 in
    omega (arith, le, wires_short names short.1, suc-mul (length names) 31, length-append (codes "wire " ++ (x ++ codes ";\n")) (flat_map wire_line names), length-append x (codes ";\n"))

-- ---- ports

abbrev the_ports : List Port
the_ports = design_ports ++ ports_from 3 (added_ports Edt configuration)

abbrev name_of : Port → Text
name_of port = port.name

nine : length (map port_name (added_ports Edt configuration)) ≡ 9
nine = refl

added_short : list_all (λ (t : Text). nat_le (length t) 22) (map port_name (added_ports Edt configuration)) ≡ true
added_short = rw (decimal_digit 0 (omega arith), decimal_digit 1 (omega arith)) refl

names_tested : list_all (λ (t : Text). nat_le (length t) 22) (map name_of the_ports) ≡ true
names_tested = rw (decimal_digit 0 (omega arith), decimal_digit 1 (omega arith)) refl

names_short : AllUnder 24 (map name_text (map name_of the_ports))
names_short = under_names 22 (map name_of the_ports) (under_tested 22 (map name_of the_ports) names_tested)

ports_short : AllUnder 24 (flat_map port_texts the_ports)
ports_short = names_short

-- the line of a port of one bit
dir_short : (dir : Dir) → length (dir_text dir) ≤ 7
dir_short Input = omega arith
dir_short Output = omega arith

plain_line : (name : Text) (dir : Dir) (bits : List NetId) → length name ≤ 22 → length (port_line (record { name = name; dir = dir; range = None; bits = bits })) ≤ 40
unfolding port_line
plain_line name dir bits le = omega (arith, le, escaped name, dir_short dir, length-append (dir_text dir) (name_text name ++ codes ";\n"), length-append (name_text name) (codes ";\n"))

added_lines : (net : ℕ) (ports : List NewPort) → AllUnder 22 (map port_name ports) → length (flat_map port_line (ports_from net ports)) ≤ length ports * 40
added_lines net [] short = omega arith
added_lines net (port ∷ ports) short =
    let line : Text = port_line (record { name = port.name; dir = port.dir; range = None; bits = record { 0 = net } ∷ [] }) in
    omega (arith, plain_line port.name port.dir (record { 0 = net } ∷ []) short.0, added_lines (suc net) ports short.1, suc-mul (length ports) 40, length-append line (flat_map port_line (ports_from (suc net) ports)))

lines_of_ports : length (flat_map port_line the_ports) ≤ 500
lines_of_ports =
    let added : Text = flat_map port_line (ports_from 3 (added_ports Edt configuration)) in
    let clk0 : Text = port_line (scalar (codes "clk0") Input 0) in
    let clk1 : Text = port_line (scalar (codes "clk1") Input 1) in
    let y : Text = port_line (scalar (codes "y") Output 2) in
    omega (
      arith,
      plain_line (codes "clk0") Input (record { 0 = 0 } ∷ []) (omega arith),
      plain_line (codes "clk1") Input (record { 0 = 1 } ∷ []) (omega arith),
      plain_line (codes "y") Output (record { 0 = 2 } ∷ []) (omega arith),
      added_lines 3 (added_ports Edt configuration) (under_tested 22 (map port_name (added_ports Edt configuration)) added_short),
      nine,
      length-map (added_ports Edt configuration) port_name,
      length-append clk0 (clk1 ++ (y ++ added)),
      length-append clk1 (y ++ added),
      length-append y added,
    )

list_short : (before : Text) (names : List Text) → length before ≤ 2 → AllUnder 24 names → length (list_text_behind before names) ≤ length names * 26
list_short before [] le short = omega arith
list_short before (name ∷ names) le short =
    let here = short.0 in
    let rest : Text = list_text_behind (codes ", ") names in
    omega (arith, le, here, list_short (codes ", ") names (omega arith) short.1, suc-mul (length names) 26, length-append before (name ++ rest), length-append name rest)

twelve : length (map name_text (map name_of the_ports)) ≡ 12
twelve = refl

heading : length (module_line (codes "gen") the_ports) ≤ 400
unfolding module_line
heading =
    let names : Text = list_text (map name_text (map name_of the_ports)) in
    omega (
      arith,
      escaped (codes "gen"),
      list_short [] (map name_text (map name_of the_ports)) (omega arith) names_short,
      twelve,
      length-append (name_text (codes "gen")) (codes " (" ++ (names ++ codes ");\n")),
      length-append names (codes ");\n"),
    )

-- ---- the whole

written_most : (n : Netlist) (wires lines : ℕ) → n.name ≡ codes "gen" → n.ports ≡ the_ports → n.library ≡ standard_cells → (join : Join) → n.joins ≡ join ∷ [] → AllUnder 22 n.nets → length n.nets ≤ wires → sum_of line_most n.instances ≤ lines
    → length (written n) ≤ 1000 + wires * 31 + lines
unfolding written body
written_most n wires lines name of_ports library join joins nets few sum =
    let names : List Text = map name_text (wire_names n) in
    let texts : List Text = net_texts n in
    let wires_under : AllUnder 24 names = under_names 22 (wire_names n) (under_drop 22 _ n.nets nets) in
    let under : AllUnder 24 texts =
    under_both 24 (flat_map port_texts n.ports) names (subst (λ (ps : List Port). AllUnder 24 (flat_map port_texts ps)) (sym of_ports) ports_short) wires_under in
    let first : Text = flat_map port_line n.ports in
    let second : Text = flat_map wire_line names in
    let third : Text = flat_map (join_line texts) n.joins in
    let fourth : Text = flat_map (instance_line n.library texts) n.instances in
    let head = ap (λ (ps : List Port). length (module_line n.name ps)) of_ports ∙ ap (λ (t : Text). length (module_line t the_ports)) name in
    let a = ap (λ (ps : List Port). length (flat_map port_line ps)) of_ports in
    let c = ap (λ (js : List Join). length (flat_map (join_line texts) js)) joins in
    let d = ap (λ (cells : List Cell). length (flat_map (instance_line cells texts) n.instances)) library in
    omega (
      arith,
      head,
      heading,
      a,
      lines_of_ports,
      wires_short names wires_under,
      length-map (wire_names n) name_text,
      drop_short (length (bit_names_of n.ports)) n.nets,
      few,
      c,
      join_short texts under join,
      length-append (join_line texts join) [],
      d,
      lines_short texts n.instances under,
      sum,
      length-append (module_line n.name n.ports) (first ++ (second ++ (third ++ (fourth ++ codes "endmodule\n")))),
      length-append first (second ++ (third ++ (fourth ++ codes "endmodule\n"))),
      length-append second (third ++ (fourth ++ codes "endmodule\n")),
      length-append third (fourth ++ codes "endmodule\n"),
      length-append fourth (codes "endmodule\n"),
    )

take_short : {X : Type 0} (k : ℕ) (xs : List X) → length (take k xs) ≤ k
take_short zero xs = omega arith
take_short (suc k) [] = omega arith
take_short (suc k) (x ∷ xs) = let i = take_short k xs in omega (arith, i)

pub scanned_are_short : ScannedAreShort
scanned_are_short size words is =
    let low = is.low in
    let high = is.high in
    let some : 0 < size = omega (arith, low) in
    let n : Netlist = design size words in
    let all : List Text = nets_of size words in
    let plan : Plan = plan_of n configuration in
    let gap : Gap = gap_in Edt n configuration in
    let start : Making = framed Edt n configuration in
    let parts : List Part = parts_of Edt n configuration plan in
    let small = plan_small size words high some in
    let cells = small.cells in
    let lockups = small.lockups in
    let chains = small.chains in
    let most = edt_most n plan gap (edt_nets gap.before configuration) small.low (start_of start) in
    let weight : size_of parts ≤ 3 * size + 2656 = omega (arith, most, cells, lockups, ap (λ (k : ℕ). k * 2) chains) in
    let counted = nets_counted parts in
    let grown : IsGrown start parts (with_parts start parts) = parts_grow start parts in
    let added : List Text = map port_name (added_ports Edt configuration) in
    let made : List Text = map made_net (range_with_len 0 (nets_in parts)) in
    let own : AllUnder 22 all = (let nets = are_nets size words some high in under_each 22 all (λ k w at. net_short w (nets.each k w at))) in
    let under : AllUnder 22 (scanned Edt n configuration).nets =
    subst (AllUnder 22) (sym grown.nets)
    (under_both 22 (take 3 all ++ (added ++ drop 3 all)) made
    (under_both 22 (take 3 all) (added ++ drop 3 all) (under_take 22 3 all own) (under_both 22 added (drop 3 all) (under_tested 22 added added_short) (under_drop 22 3 all own))) (made_nets (nets_in parts) 0 (omega (arith, counted, weight, high)))) in
    let count : length (scanned Edt n configuration).nets ≤ 7 * size + 2680 =
    omega (
      arith,
      ap length grown.nets,
      length-append (take 3 all ++ (added ++ drop 3 all)) made,
      length-append (take 3 all) (added ++ drop 3 all),
      length-append added (drop 3 all),
      take_short 3 all,
      drop_short 3 all,
      nine,
      nets-few size words,
      length-map (range_with_len 0 (nets_in parts)) made_net,
      length-range_with_len 0 (nets_in parts),
      counted,
      weight,
    ) in
    let frame = frame_most n gap all size words size 0 0 refl (omega (arith, high)) in
    let lines : sum_of line_most (scanned Edt n configuration).instances ≤ 1380 * size + 743680 = (let all_parts = made_most parts start (omega (arith, weight, high)) in omega (arith, all_parts, frame, weight)) in
    let whole = written_most (scanned Edt n configuration) (7 * size + 2680) (1380 * size + 743680) grown.name grown.ports grown.library _ grown.joins under count lines in
    omega (arith, whole)
