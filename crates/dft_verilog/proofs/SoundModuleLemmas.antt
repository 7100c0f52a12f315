-- A module that was said is sound.
use Rattle.std.proofs.Common.{◌≡◌, ℕ, zero, suc, ◌+◌, ◌-◌, ◌≤◌, false, List, [], ◌∷◌, ◌++◌, length, map, drop, get_or, slice_get, Option, Some, None, refl, sym, ap, ap₂, ◌∙◌, subst, arith, length-append}
use Rattle.std.specs.List.{All}
use Rattle.std.proofs.lemmas.List.{append_assoc, map-append, length-map}
use Rattle.std.proofs.lemmas.List.Elements.{All-weaker, All-append, All-cons, All-head, All-tail, All-map, All-take, All-drop}
use Rattle.std.proofs.Math.Seq.{get_or-append_seam}
use Rattle.dft_base.specs.Lexing.{Text}
use Rattle.dft_base.specs.Ranges.{going_up}
use Rattle.dft_base.proofs.ListLemmas.{going_up-append}
use Rattle.dft_cells.specs.declared.cell.Cell.{Cell}
use Rattle.dft_netlist.specs.declared.ids.NetId.{NetId}
use Rattle.dft_netlist.specs.declared.port.Port.{Port}
use Rattle.dft_netlist.specs.declared.instance.Signal.{Signal}
use Rattle.dft_netlist.specs.declared.instance.Signal.TheVariants as signal
use Rattle.dft_netlist.specs.declared.instance.Instance.{Instance}
use Rattle.dft_netlist.specs.declared.instance.Join.{Join}
use Rattle.dft_netlist.specs.Building.{port_of}
use Rattle.dft_netlist.specs.Names.{bit_names}
use Rattle.dft_netlist.specs.Netlist.{Netlist}
use Rattle.dft_netlist.specs.NetNumbers.{nets_from}
use Rattle.dft_netlist.specs.Sound.{IsInstance, IsAJoin, IsLive, IsConnected, bits_of, bit_names_of}
use Rattle.dft_netlist.proofs.BitLemmas.{up_length}
use Rattle.dft_netlist.proofs.NumberLemmas.{net_of}
use Rattle.dft_netlist.proofs.PortLemmas.{nets_from-length}
use Rattle.dft_netlist_text.specs.declared.text.Declared.{Declared}
use Rattle.dft_netlist_text.specs.Modules.{Draft, HeaderPort, empty_draft, net_count}
use Rattle.dft_netlist_text.specs.NetlistText.{nets_of_port, nets_of_ports, other_nets, net_order, names_of_others, final_net, final_signal}
use Rattle.dft_modules.specs.declared.connections.Connection.{Connection}
use Rattle.dft_modules.specs.declared.module.Item.{Item}
use Rattle.dft_modules.specs.SubInstances.{SubConnection, DraftSub, Said}
use Rattle.dft_modules.specs.ModuleTexts.{port_said, ports_said, names_in_order, signal_by, join_said, cell_said, connection_said, sub_said, between, parts_between, items_said, module_said}
use Rattle.dft_modules.specs.Sound.{IsOuterBit, IsConnectionOf, IsItem, IsModule}
use Rattle.dft_verilog_draft.specs.Drafts.{InstanceFits, JoinFits, netlist_of_nets, nets_alone}
use Rattle.dft_verilog_draft.specs.Operands.{IsBit, AreBits}
use Rattle.dft_verilog_draft.proofs.DeclareLemmas.{length-bit_names}
use Rattle.dft_verilog_draft.proofs.OperandLemmas.{live_bit}
use Rattle.dft_verilog.specs.FinalNets.{numbers_among, all_numbered, AreFinal}
use Rattle.dft_verilog.specs.Built.{HasNetsOf}
use Rattle.dft_verilog.proofs.FinalLemmas.{AreFinal-numbered}
use Rattle.dft_verilog.proofs.StandingLemmas.{signal-within, instance-stands, join-stands}
use Rattle.dft_verilog.proofs.SaidLemmas.{IsSaid}
use Rattle.dft_verilog.proofs.SaidPartLemmas.{names_of_all}
use Rattle.dft_verilog.proofs.KeepLemmas.{DeclaredStands, PortStands, Keeps}

-- ---- what one of several modules keeps

-- the bits of a connection are bits of the first so many nets
abbrev pub ConnectionStands : (count : ℕ) → SubConnection → Type 0
ConnectionStands count c = AreBits count false c.signals

abbrev pub SubStands : (count : ℕ) → DraftSub → Type 0
SubStands count s = All (ConnectionStands count) s.connections

pub record KeepsAll (start : Draft) (floor : ℕ) (m : Said) : Type 0 where
  pub draft : Keeps start floor m.draft
  pub subs : All (SubStands (length m.draft.nets)) m.subs

-- ---- ports and their nets

few_by : (first n : ℕ) (word : Text) (declared : Option Declared) (rest : List Port) → length rest ≤ n → length (port_said first word declared ++ rest) ≤ suc n
few_by first n word None rest h = omega arith
few_by first n word (Some declared) rest h = omega arith

ports_few : (first : ℕ) (ports : List HeaderPort) → length (ports_said first ports) ≤ length ports
ports_few first [] = omega arith
ports_few first (p ∷ ports) = few_by first (length ports) p.name p.declared (ports_said (first + length (nets_of_port p.declared)) ports) (ports_few (first + length (nets_of_port p.declared)) ports)

nets_from-behind : (from m n : ℕ) → nets_from from (m + n) ≡ nets_from from m ++ nets_from (from + m) n
nets_from-behind from m n = ap (map net_of) (going_up-append from m n) ∙ map-append net_of (going_up from m) (going_up (from + m) n)

bits_by : (first : ℕ) (word : Text) (declared : Option Declared) (rest : List Port) (more : List ℕ) → bits_of rest ≡ nets_from (first + length (nets_of_port declared)) (length more)
    → bits_of (port_said first word declared ++ rest) ≡ nets_from first (length (nets_of_port declared ++ more))
bits_by first word None rest more h = let same : first + 0 ≡ first = omega arith in h ∙ ap (λ n. nets_from n (length more)) same
bits_by first word (Some declared) rest more h =
    let count = net_count declared.shape.range in
    let mine = nets_of_port (Some declared) in
    let long : length mine ≡ count = up_length declared.shape.first.0 count in
    ap (λ bits. nets_from first count ++ bits) (h ∙ ap (λ n. nets_from (first + n) (length more)) long)
    ∙ sym (nets_from-behind first count (length more))
    ∙ ap (nets_from first) (ap (λ n. n + length more) (sym long) ∙ sym (length-append mine more))

-- the bits of the ports are numbered one after another
ports_numbered : (first : ℕ) (ports : List HeaderPort) → bits_of (ports_said first ports) ≡ nets_from first (length (nets_of_ports ports))
ports_numbered first [] = refl
ports_numbered first (p ∷ ports) = bits_by first p.name p.declared (ports_said (first + length (nets_of_port p.declared)) ports) (nets_of_ports ports) (ports_numbered (first + length (nets_of_port p.declared)) ports)

-- a port has a bit for each name that its range gives
abbrev IsWide : Port → Type 0
IsWide port = length port.bits ≡ length (bit_names port.name port.range)

wide_by : (first : ℕ) (word : Text) (declared : Option Declared) (rest : List Port) → ((place : ℕ) (port : Port) → slice_get rest place ≡ Some port → IsWide port)
    → (place : ℕ) (port : Port) → slice_get (port_said first word declared ++ rest) place ≡ Some port → IsWide port
wide_by first word None rest h place port at = h place port at
wide_by first word (Some declared) rest h zero port at =
    let range = declared.shape.range in
    let made : Port = port_of word declared.dir range (nets_from first (net_count range)) in
    let same : made ≡ port = cc in
    subst IsWide same (nets_from-length first (net_count range) ∙ sym (length-bit_names word range))
wide_by first word (Some declared) rest h (suc place) port at = h place port at

ports_wide : (first : ℕ) (ports : List HeaderPort) (place : ℕ) (port : Port) → slice_get (ports_said first ports) place ≡ Some port → IsWide port
ports_wide first [] place port at = absurd (cc)
ports_wide first (p ∷ ports) place port at =
    wide_by first p.name p.declared (ports_said (first + length (nets_of_port p.declared)) ports) (ports_wide (first + length (nets_of_port p.declared)) ports) place port at

-- names in a row
run_names : (front names rest all : List Text) (n : ℕ) → all ≡ front ++ (names ++ rest) → n ≡ length front → names_in_order (going_up n (length names)) all ≡ names
run_names front [] rest all n same at = refl
run_names front (x ∷ xs) rest all n same at =
    let one : length (front ++ x ∷ []) ≡ length front + 1 = length-append front (x ∷ []) in
    ap₂ (λ w ws. w ∷ ws)
    (ap₂ (λ (ns : List Text) (k : ℕ). get_or ns k []) same at ∙ get_or-append_seam front x (xs ++ rest) [])
    (run_names (front ++ x ∷ []) xs rest all (suc n) (same ∙ sym (append_assoc front (x ∷ []) (xs ++ rest))) (omega (arith, at, one)))

named_by : (first : ℕ) (nets : List Text) (word : Text) (declared : Option Declared) (rest : List Port) (more : List ℕ) → DeclaredStands nets word declared → names_in_order more nets ≡ bit_names_of rest
    → names_in_order (nets_of_port declared ++ more) nets ≡ bit_names_of (port_said first word declared ++ rest)
named_by first nets word None rest more stands h = h
named_by first nets word (Some declared) rest more stands h =
    let range = declared.shape.range in
    let names = bit_names word range in
    let row : going_up declared.shape.first.0 (net_count range) ≡ going_up declared.shape.first.0 (length names) = ap (going_up declared.shape.first.0) (sym (length-bit_names word range)) in
    map-append (λ net. get_or nets net []) (nets_of_port (Some declared)) more
    ∙ ap₂ (λ xs ys. xs ++ ys)
    (ap (λ ns. names_in_order ns nets) row ∙ run_names stands.front names stands.rest nets declared.shape.first.0 stands.same (sym stands.at)) h

-- the nets of the ports have the names of their bits
ports_named : (first : ℕ) (nets : List Text) (ports : List HeaderPort) → All (PortStands nets) ports → names_in_order (nets_of_ports ports) nets ≡ bit_names_of (ports_said first ports)
ports_named first nets [] h = refl
ports_named first nets (p ∷ ports) h =
    named_by first nets p.name p.declared (ports_said (first + length (nets_of_port p.declared)) ports) (nets_of_ports ports) (All-head (PortStands nets) p ports h)
    (ports_named (first + length (nets_of_port p.declared)) nets ports (All-tail (PortStands nets) p ports h))

-- ---- items

-- the netlist of a module's nets alone
abbrev nets_of : Draft → Netlist
nets_of d = netlist_of_nets d.name d.library (names_in_order (net_order d) d.nets)

has_nets : (d : Draft) → HasNetsOf d (nets_of d)
has_nets d = record { library = refl; nets = length-map (net_order d) (λ net. get_or d.nets net []) }

-- these numbers are final
abbrev finals_of : Draft → List NetId
finals_of d = all_numbered (length (nets_of_ports d.ports)) (numbers_among (nets_of_ports d.ports) (length d.nets))

are_final : (d : Draft) → AreFinal d (finals_of d)
are_final d = AreFinal-numbered d (length (nets_of_ports d.ports)) refl

same_signal : (order : List ℕ) (s : Signal) → final_signal order s ≡ signal_by (final_net order) s
same_signal order (signal.Net net) = refl
same_signal order (signal.Constant bit) = refl
same_signal order signal.Unconnected = refl

same_pins : (order : List ℕ) (pins : List Signal) → map (final_signal order) pins ≡ map (signal_by (final_net order)) pins
same_pins order [] = refl
same_pins order (s ∷ pins) = ap₂ (λ x xs. x ∷ xs) (same_signal order s) (same_pins order pins)

-- an item is sound in the module of a draft
abbrev Stands : List Cell → Draft → Item → Type 0
Stands library d i = IsItem library (length (names_in_order (net_order d) d.nets)) i

join_stands : (library : List Cell) (d : Draft) (j : Join) → JoinFits (nets_alone d) j → Stands library d (join_said (final_net (net_order d)) j)
join_stands library d j h =
    subst (λ (s : Signal). IsAJoin (length (names_in_order (net_order d) d.nets)) (final_net (net_order d) j.target) s) (same_signal (net_order d) j.source) (join-stands d (finals_of d) (nets_of d) j (has_nets d) (are_final d) h)

cell_stands : (library : List Cell) (d : Draft) (i : Instance) → d.library ≡ library → InstanceFits (nets_alone d) i → Stands library d (cell_said (final_net (net_order d)) i)
cell_stands library d i cells h =
    let count = length (names_in_order (net_order d) d.nets) in
    let old : IsInstance d.library count i.name i.cell (map (final_signal (net_order d)) i.pins) = instance-stands d (finals_of d) (nets_of d) i (has_nets d) (are_final d) h in
    subst (λ (pins : List Signal). IsInstance library count i.name i.cell pins) (same_pins (net_order d) i.pins)
    (subst (λ (ls : List Cell). IsInstance ls count i.name i.cell (map (final_signal (net_order d)) i.pins)) cells old)

connected_by : (count : ℕ) (order : List ℕ) (s : Signal) → IsBit count false s → IsConnected (signal_by (final_net order) s)
connected_by count order (signal.Net net) h = tt
connected_by count order (signal.Constant bit) h = tt
connected_by count order signal.Unconnected h = absurd h

bit_stands : (d : Draft) (s : Signal) → IsBit (length d.nets) false s → IsOuterBit (length (names_in_order (net_order d) d.nets)) (signal_by (final_net (net_order d)) s)
bit_stands d s h =
    let live : IsLive (length (net_order d)) (final_signal (net_order d) s) = signal-within d (finals_of d) (are_final d) s (live_bit (length d.nets) false s h) in (
      subst (λ (x : Signal). IsLive (length (names_in_order (net_order d) d.nets)) x) (same_signal (net_order d) s)
          (subst (λ n. IsLive n (final_signal (net_order d) s)) (sym (length-map (net_order d) (λ net. get_or d.nets net []))) live),
      connected_by (length d.nets) (net_order d) s h,
    )

connection_stands : (text : Text) (d : Draft) (c : SubConnection) → ConnectionStands (length d.nets) c → IsConnectionOf (length (names_in_order (net_order d) d.nets)) (connection_said text (final_net (net_order d)) c)
connection_stands text d c h =
    let P : Signal → Type 0 = λ s. IsOuterBit (length (names_in_order (net_order d) d.nets)) s in
    All-map P (signal_by (final_net (net_order d))) c.signals
    (All-weaker (λ (s : Signal). IsBit (length d.nets) false s) (λ (s : Signal). P (signal_by (final_net (net_order d)) s)) (λ s w. bit_stands d s w) c.signals h)

sub_stands : (library : List Cell) (text : Text) (d : Draft) (s : DraftSub) → SubStands (length d.nets) s → Stands library d (sub_said text (final_net (net_order d)) s)
sub_stands library text d s h =
    let P : Connection → Type 0 = λ c. IsConnectionOf (length (names_in_order (net_order d) d.nets)) c in
    All-map P (connection_said text (final_net (net_order d))) s.connections
    (All-weaker (ConnectionStands (length d.nets)) (λ (c : SubConnection). P (connection_said text (final_net (net_order d)) c)) (λ c w. connection_stands text d c w) s.connections h)

all_between : {A : Type 0} (P : A → Type 0) (from to : ℕ) (xs : List A) → All P xs → All P (between from to xs)
all_between P from to xs h = All-take P (to - from) (drop from xs) (All-drop P from xs h)

-- all parts of the draft are
pub record PartsStand (library : List Cell) (d : Draft) : Type 0 where
  pub joins : All (λ (j : Join). Stands library d (join_said (final_net (net_order d)) j)) d.joins
  pub cells : All (λ (i : Instance). Stands library d (cell_said (final_net (net_order d)) i)) d.instances

parts_stand : (library : List Cell) (d : Draft) (join cell joins cells : ℕ) → PartsStand library d → All (Stands library d) (parts_between (final_net (net_order d)) d join cell joins cells)
parts_stand library d join cell joins cells h =
    let number = final_net (net_order d) in
    All-append (Stands library d) (map (join_said number) (between join joins d.joins)) (map (cell_said number) (between cell cells d.instances))
    (All-map (Stands library d) (join_said number) (between join joins d.joins) (all_between (λ (j : Join). Stands library d (join_said number j)) join joins d.joins h.joins))
    (All-map (Stands library d) (cell_said number) (between cell cells d.instances) (all_between (λ (i : Instance). Stands library d (cell_said number i)) cell cells d.instances h.cells))

items_stand : (library : List Cell) (text : Text) (d : Draft) (join cell : ℕ) (subs : List DraftSub) → PartsStand library d → All (SubStands (length d.nets)) subs → All (Stands library d) (items_said text (final_net (net_order d)) d join cell subs)
items_stand library text d join cell [] h ss = parts_stand library d join cell (length d.joins) (length d.instances) h
items_stand library text d join cell (s ∷ subs) h ss =
    let number = final_net (net_order d) in
    All-append (Stands library d) (parts_between number d join cell s.joins s.cells) (sub_said text number s ∷ items_said text number d s.joins s.cells subs)
    (parts_stand library d join cell s.joins s.cells h)
    (All-cons (Stands library d) (sub_said text number s) (items_said text number d s.joins s.cells subs) (sub_stands library text d s (All-head (SubStands (length d.nets)) s subs ss))
    (items_stand library text d s.joins s.cells subs h (All-tail (SubStands (length d.nets)) s subs ss)))

-- ---- the module

-- a module that was said is sound
pub module_sound : (library : List Cell) (word text : Text) (m : Said) → KeepsAll (empty_draft word library) 0 m → IsSaid 0 [] m.draft → IsModule library (module_said text m)
module_sound library word text m h s =
    let d : Draft = m.draft in
    let bits = nets_of_ports d.ports in
    let count : length (names_in_order (net_order d) d.nets) ≡ length (net_order d) = length-map (net_order d) (λ net. get_or d.nets net []) in
    let numbered = ports_numbered 0 d.ports in
    let parts : PartsStand library d = record {
      joins = All-weaker (JoinFits (nets_alone d)) (λ (j : Join). Stands library d (join_said (final_net (net_order d)) j)) (λ j w. join_stands library d j w) d.joins h.draft.joins;
      cells = All-weaker (InstanceFits (nets_alone d)) (λ (i : Instance). Stands library d (cell_said (final_net (net_order d)) i)) (λ i w. cell_stands library d i h.draft.library w) d.instances h.draft.instances;
    } in
    record {
      few_ports = omega (arith, ports_few 0 d.ports, s.few_ports);
      few_nets = omega (arith, count, length-append bits (other_nets d), s.numbered, s.few_nets);
      widths = ports_wide 0 d.ports;
      numbered = numbered ∙ ap (nets_from 0) (sym (ap (λ (ns : List NetId). length ns) numbered ∙ nets_from-length 0 (length bits)));
      bits = record { rest = names_of_others d; same = names_of_all d ∙ ap (λ ns. ns ++ names_of_others d) (ports_named 0 d.nets d.ports h.draft.ports) };
      items = items_stand library text d 0 0 m.subs parts h.subs;
    }
