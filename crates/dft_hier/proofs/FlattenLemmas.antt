-- The flat netlist, from what each of its steps adds.
use Rattle.std.proofs.Common.{ℕ, ◌+◌, ◌<◌, ◌≤◌, ◌≡◌, List, [], ◌∷◌, ◌++◌, length, drop, get_or, map, Option, None, Some, Ok, Err, slice_get, refl, sym, ap, subst, arith, ◌∙◌, length-append}
use Rattle.std.proofs.lemmas.List.{drop-append-le, length-drop}
use Rattle.std.proofs.lemmas.List.Elements.{All-get_or}
use Rattle.std.proofs.lemmas.Option.{slice_get_within, get_or_from_slice_get}
use Rattle.dft_base.specs.Lexing.{Text}
use Rattle.dft_base.proofs.ListLemmas.{drop_over}
use Rattle.dft_cells.specs.declared.cell.Cell.{Cell}
use Rattle.dft_netlist.specs.declared.ids.PortId.{PortId}
use Rattle.dft_netlist.specs.declared.port.Port.{Port}
use Rattle.dft_netlist.specs.declared.error.NetlistError.{NetlistError}
use Rattle.dft_netlist.specs.declared.error.NetlistError.TheVariants as error
use Rattle.dft_netlist.specs.Netlist.{Netlist}
use Rattle.dft_netlist.specs.Building.{Answers, WithPort, empty_netlist, port_of, port_refusal, net_refusal}
use Rattle.dft_netlist.specs.Names.{bit_names}
use Rattle.dft_netlist.specs.NetNumbers.{nets_from}
use Rattle.dft_netlist.specs.Sound.{HasOnlyPorts, bit_names_of}
use Rattle.dft_netlist_text.specs.NetlistText.{Grown, unless_refused, and_grown, add_port, add_nets}
use Rattle.dft_modules.specs.Modules.{Module}
use Rattle.dft_modules.specs.Sound.{IsModule, AreModules}
use Rattle.dft_verilog.proofs.GrowLemmas.{HasOnlyPorts-port, add_nets-append}
use Rattle.dft_hier.specs.Flat.{add_ports, add_parts, add_instances, flat_parts, flat_netlist}
use Rattle.dft_hier.specs.FlatNets.{nets_below, GivesLive}
use Rattle.dft_hier.specs.Growing.{IsRefusal}
use Rattle.dft_hier.specs.ItemWalks.{adds}
use Rattle.dft_hier.specs.Laid.{name_in, name_at, flat_in, flat_at}
use Rattle.dft_hier.specs.Moving.{with_joins}
use Rattle.dft_hier.specs.Weights.{Live}
use Rattle.dft_hier.proofs.NumberLemmas.{drop_next}
use Rattle.dft_hier.proofs.GrowLemmas.{same_refusal}
use Rattle.dft_hier.proofs.PartLemmas.{nets_same}

-- ---- a step behind a step

-- a refusal of the first step is one of both
pub refused_first : (first : Grown) (more : Netlist → Grown) (e : NetlistError) → IsRefusal first e → IsRefusal (and_grown first more) e
refused_first first more (error.MultipleDrivers name) is = ap (λ (g : Grown). and_grown g more) is
refused_first first more (error.Loop name) is = ap (λ (g : Grown). and_grown g more) is
refused_first first more (error.DuplicateName name) is = ap (λ (g : Grown). and_grown g more) is
refused_first first more (error.TooMany what limit) is = ap (λ (g : Grown). and_grown g more) is
refused_first first more (error.Memory failed) is = tt

-- ---- ports

-- the ports from one on give what all give
pub record PortsLeft (ports : List Port) (k : ℕ) (start now : Netlist) : Type 0 where
  pub rest : add_ports (drop k ports) now ≡ add_ports ports start
  pub only : HasOnlyPorts now

port_added : (n new : Netlist) (p : Port) (id : PortId) → WithPort n p.name p.dir p.range id new → port_refusal n p.name p.range ≡ None → add_port n p.name p.dir p.range ≡ Ok new
port_added n new p id w none =
    ap (λ (o : Option NetlistError). unless_refused o (record n { ports = n.ports ++ port_of p.name p.dir p.range (nets_from (length n.nets) (length (bit_names p.name p.range))) ∷ []; nets = n.nets ++ bit_names p.name p.range })) none
    ∙ ap (λ (m : Netlist). Ok m) (sym w.grown)

pub ports_next : (ports : List Port) (k : ℕ) (p : Port) (name : Text) (id : PortId) (start old new : Netlist) → k < length ports → p ≡ get_or ports k p → name ≡ p.name → WithPort old name p.dir p.range id new → port_refusal old name p.range ≡ None → PortsLeft ports k start old → PortsLeft ports (k + 1) start new
ports_next ports k p name id start old new less is named w none h =
    let given : WithPort old p.name p.dir p.range id new = subst (λ (x : Text). WithPort old x p.dir p.range id new) named w in
    let free : port_refusal old p.name p.range ≡ None = subst (λ (x : Text). port_refusal old x p.range ≡ None) named none in
    record {
      rest = sym (ap (λ (g : Grown). and_grown g (add_ports (drop (k + 1) ports))) (port_added old new p id given free)) ∙ ap (λ (ps : List Port). add_ports ps old) (sym (drop_next ports k p less is)) ∙ h.rest;
      only = HasOnlyPorts-port old new p.name p.dir p.range id given h.only;
    }

port_refused_by : (refusal : Option NetlistError) (n : Netlist) (more : Netlist → Grown) (e : NetlistError) → Answers {A = PortId} refusal (Err e) → IsRefusal (and_grown (unless_refused refusal n) more) e
port_refused_by refusal n more (error.MultipleDrivers name) is = rw is refl
port_refused_by refusal n more (error.Loop name) is = rw is refl
port_refused_by refusal n more (error.DuplicateName name) is = rw is refl
port_refused_by refusal n more (error.TooMany what limit) is = rw is refl
port_refused_by refusal n more (error.Memory failed) is = tt

pub port_refused : (ports : List Port) (k : ℕ) (p : Port) (name : Text) (start old : Netlist) (e : NetlistError) → k < length ports → p ≡ get_or ports k p → name ≡ p.name → Answers {A = PortId} (port_refusal old name p.range) (Err e) → PortsLeft ports k start old → IsRefusal (add_ports ports start) e
port_refused ports k p name start old e less is named refused h =
    let told : Answers {A = PortId} (port_refusal old p.name p.range) (Err e) = subst (λ (x : Text). Answers {A = PortId} (port_refusal old x p.range) (Err e)) named refused in
    same_refusal (add_ports (p ∷ drop (k + 1) ports) old) (add_ports ports start) e (ap (λ (ps : List Port). add_ports ps old) (sym (drop_next ports k p less is)) ∙ h.rest)
    (port_refused_by (port_refusal old p.name p.range) (record old { ports = old.ports ++ port_of p.name p.dir p.range (nets_from (length old.nets) (length (bit_names p.name p.range))) ∷ []; nets = old.nets ++ bit_names p.name p.range }) (add_ports (drop (k + 1) ports)) e told)

pub ports_done : (ports : List Port) (k : ℕ) (start now : Netlist) → length ports ≤ k → PortsLeft ports k start now → add_ports ports start ≡ Ok now
ports_done ports k start now past h = sym h.rest ∙ ap (λ (ps : List Port). add_ports ps now) (drop_over ports k past)

-- ports that were added have their bits' nets, and nothing else
pub ports_nets : (ports : List Port) (n m : Netlist) → add_ports ports n ≡ Ok m → (length m.nets ≡ length n.nets + length (bit_names_of ports)) × (m.joins ≡ n.joins) × (m.library ≡ n.library)
ports_nets [] n m e = let f : n ≡ m = cc in ((let g = ap (λ (x : Netlist). length x.nets) f in omega arith), ap (λ (x : Netlist). x.joins) (sym f), ap (λ (x : Netlist). x.library) (sym f))
ports_nets (p ∷ ports) n m e = by (port_refusal n p.name p.range) e (ports_nets ports)
  where
    more : Netlist
    more = record n { ports = n.ports ++ port_of p.name p.dir p.range (nets_from (length n.nets) (length (bit_names p.name p.range))) ∷ []; nets = n.nets ++ bit_names p.name p.range }

    by : (o : Option NetlistError) → and_grown (unless_refused o more) (add_ports ports) ≡ Ok m → ((n m : Netlist) → add_ports ports n ≡ Ok m → (length m.nets ≡ length n.nets + length (bit_names_of ports)) × (m.joins ≡ n.joins) × (m.library ≡ n.library)) →
        (length m.nets ≡ length n.nets + length (bit_names_of (p ∷ ports))) × (m.joins ≡ n.joins) × (m.library ≡ n.library)
    by None e rest = (let r = rest more m e in ((let a = r.0 in let b = length-append n.nets (bit_names p.name p.range) in let d = length-append (bit_names p.name p.range) (bit_names_of ports) in omega arith), r.1, r.2))
    by (Some why) e rest = absurd (let f : ⊥ = cc in f)

-- ---- the whole

pub map_same : (names : List Text) → map (λ name. [] ++ name) names ≡ names
map_same [] = refl
map_same (n ∷ names) = ap (λ (ns : List Text). n ∷ ns) (map_same names)

-- the nets of the whole: the top's, and then those below it
pub whole_nets : (ms : List Module) (items : List Live) (number : ℕ) (m : Module) → GivesLive ms items number m → (flat_parts ms m).nets ≡ m.nets ++ nets_below ms items number
whole_nets ms items number m gives = nets_same (length ms) ms [] 0 m ∙ gives [] ∙ ap (λ (ns : List Text). ns ++ nets_below ms items number) (map_same m.nets)

-- the bits of a module's ports are the first of its nets
pub bits_within : (library : List Cell) (m : Module) → IsModule library m → length (bit_names_of m.ports) ≤ length m.nets
bits_within library m is = let e = ap (λ (xs : List Text). length xs) is.bits.same in let l = length-append (bit_names_of m.ports) is.bits.rest in omega arith

pub sound_at : (library : List Cell) (ms : List Module) (k : ℕ) (m : Module) → AreModules library ms → slice_get ms k ≡ Some m → IsModule library m
sound_at library ms k m sound at =
    let P : Module → Type 0 = λ (x : Module). IsModule library x in
    subst P (get_or_from_slice_get ms k m m at) (All-get_or P ms k m (slice_get_within ms k m at) sound)

-- what comes behind the ports
pub behind_ports : (ms : List Module) (items : List Live) (number : ℕ) (m : Module) (library : List Cell) (start ports : Netlist) → GivesLive ms items number m → IsModule library m → length start.nets ≡ 0 → add_ports m.ports start ≡ Ok ports →
    add_parts (flat_parts ms m) ports ≡ and_grown (and_grown (add_nets (drop (length ports.nets) m.nets) ports) (add_nets (nets_below ms items number))) (λ nets. add_instances (flat_parts ms m).instances (with_joins nets (flat_parts ms m).joins))
behind_ports ms items number m library start ports gives is none added =
    let more : Netlist → Grown = λ (nets : Netlist). add_instances (flat_parts ms m).instances (with_joins nets (flat_parts ms m).joins) in
    let size = (ports_nets m.ports start ports added).0 in
    let within = bits_within library m is in
    let cut : drop (length ports.nets) (m.nets ++ nets_below ms items number) ≡ drop (length ports.nets) m.nets ++ nets_below ms items number = drop-append-le (length ports.nets) m.nets (nets_below ms items number) (omega arith) in
    ap (λ (ns : List Text). and_grown (add_nets (drop (length ports.nets) ns) ports) more) (whole_nets ms items number m gives)
    ∙ ap (λ (ns : List Text). and_grown (add_nets ns ports) more) cut
    ∙ ap (λ (g : Grown). and_grown g more) (add_nets-append (drop (length ports.nets) m.nets) (nets_below ms items number) ports)

-- ---- what is there after each step

pub nets_keep : (names : List Text) (n m : Netlist) → add_nets names n ≡ Ok m → (length m.nets ≡ length n.nets + length names) × (m.library ≡ n.library)
nets_keep [] n m e = let f : n ≡ m = cc in ((let g = ap (λ (x : Netlist). length x.nets) f in omega arith), ap (λ (x : Netlist). x.library) (sym f))
nets_keep (name ∷ names) n m e = by (net_refusal n name) e (nets_keep names (record n { nets = n.nets ++ name ∷ [] }) m)
  where
    by : (o : Option NetlistError) → and_grown (unless_refused o (record n { nets = n.nets ++ name ∷ [] })) (add_nets names) ≡ Ok m → (add_nets names (record n { nets = n.nets ++ name ∷ [] }) ≡ Ok m → (length m.nets ≡ length (n.nets ++ name ∷ []) + length names) × (m.library ≡ n.library)) →
        (length m.nets ≡ length n.nets + length (name ∷ names)) × (m.library ≡ n.library)
    by None e more = (let r = more e in ((let a = r.0 in let b = length-append n.nets (name ∷ []) in omega arith), r.1))
    by (Some why) e more = absurd (let f : ⊥ = cc in f)

pub flat_begins : (ms : List Module) (library : List Cell) (k : ℕ) (m : Module) (start : Netlist) → slice_get ms k ≡ Some m → start ≡ empty_netlist (name_at ms k) library → flat_at ms library k ≡ and_grown (add_ports m.ports start) (add_parts (flat_parts ms m))
unfolding flat_netlist
flat_begins ms library k m start at is =
    ap (flat_in ms library) at ∙ ap (λ (n : Netlist). and_grown (add_ports m.ports n) (add_parts (flat_parts ms m))) (sym (is ∙ ap (λ (o : Option Module). empty_netlist (name_in o) library) at))

-- the netlists behind the ports, the top's nets, and all nets
pub record AreSteps (ms : List Module) (items : List Live) (library : List Cell) (k : ℕ) (m : Module) (start : Netlist) : Type 0 where
  pub at : slice_get ms k ≡ Some m
  pub start_is : start ≡ empty_netlist (name_at ms k) library
  pub gives : GivesLive ms items k m
  pub sound : IsModule library m

pub flat_ports : (ms : List Module) (items : List Live) (library : List Cell) (k : ℕ) (m : Module) (start ports : Netlist) → AreSteps ms items library k m start → add_ports m.ports start ≡ Ok ports →
    flat_at ms library k ≡ and_grown (and_grown (add_nets (drop (length ports.nets) m.nets) ports) (add_nets (nets_below ms items k))) (adds (flat_parts ms m))
flat_ports ms items library k m start ports s added =
    flat_begins ms library k m start s.at s.start_is ∙ ap (λ (g : Grown). and_grown g (add_parts (flat_parts ms m))) added
    ∙ behind_ports ms items k m library start ports s.gives s.sound (ap (λ (n : Netlist). length n.nets) s.start_is) added

pub flat_own : (ms : List Module) (items : List Live) (library : List Cell) (k : ℕ) (m : Module) (start ports own : Netlist) → AreSteps ms items library k m start → add_ports m.ports start ≡ Ok ports → add_nets (drop (length ports.nets) m.nets) ports ≡ Ok own →
    flat_at ms library k ≡ and_grown (add_nets (nets_below ms items k) own) (adds (flat_parts ms m))
flat_own ms items library k m start ports own s added others = flat_ports ms items library k m start ports s added ∙ ap (λ (g : Grown). and_grown (and_grown g (add_nets (nets_below ms items k))) (adds (flat_parts ms m))) others

pub flat_all : (ms : List Module) (items : List Live) (library : List Cell) (k : ℕ) (m : Module) (start ports own all : Netlist) → AreSteps ms items library k m start → add_ports m.ports start ≡ Ok ports → add_nets (drop (length ports.nets) m.nets) ports ≡ Ok own → add_nets (nets_below ms items k) own ≡ Ok all →
    flat_at ms library k ≡ adds (flat_parts ms m) all
flat_all ms items library k m start ports own all s added others below = flat_own ms items library k m start ports own s added others ∙ ap (λ (g : Grown). and_grown g (adds (flat_parts ms m))) below

pub all_there : (ms : List Module) (items : List Live) (library : List Cell) (k : ℕ) (m : Module) (start ports own all : Netlist) → AreSteps ms items library k m start → add_ports m.ports start ≡ Ok ports → add_nets (drop (length ports.nets) m.nets) ports ≡ Ok own → add_nets (nets_below ms items k) own ≡ Ok all →
    (length all.nets ≡ length (flat_parts ms m).nets) × (all.library ≡ start.library)
all_there ms items library k m start ports own all s added others below =
    let a = ports_nets m.ports start ports added in
    let b = nets_keep (drop (length ports.nets) m.nets) ports own others in
    let c = nets_keep (nets_below ms items k) own all below in
    let none : length start.nets ≡ 0 = ap (λ (n : Netlist). length n.nets) s.start_is in
    let within = bits_within library m s.sound in
    let left = length-drop (length ports.nets) m.nets in
    let whole = ap (λ (ns : List Text). length ns) (whole_nets ms items k m s.gives) in
    let split = length-append m.nets (nets_below ms items k) in
    let a0 = a.0 in
    let b0 = b.0 in
    let c0 = c.0 in
    (omega arith, c.1 ∙ b.1 ∙ a.2)
