-- How a netlist grows, step by step.
use Rattle.std.proofs.Common.{◌≡◌, ℕ, suc, ◌+◌, List, [], ◌∷◌, ◌++◌, length, map, Option, Some, None, Ok, Err, refl, sym, ap, ap₂, ◌∙◌, subst, arith, add-zero, add-one, length-append, unwrap_or}
use Rattle.std.proofs.lemmas.List.{append_assoc, append-nil, length_push}
use Rattle.dft_base.specs.declared.place.Range.{Range}
use Rattle.dft_base.specs.Lexing.{Text}
use Rattle.dft_netlist.specs.declared.ids.NetId.{NetId}
use Rattle.dft_netlist.specs.declared.ids.PortId.{PortId}
use Rattle.dft_base.specs.declared.dir.Dir.{Dir}
use Rattle.dft_netlist.specs.declared.instance.Instance.{Instance}
use Rattle.dft_netlist.specs.declared.instance.Join.{Join}
use Rattle.dft_netlist.specs.declared.instance.Signal.{Signal}
use Rattle.dft_netlist.specs.declared.instance.CellRef.{CellRef}
use Rattle.dft_netlist.specs.declared.error.NetlistError.{NetlistError}
use Rattle.dft_netlist.specs.declared.error.NetlistError.TheVariants as error
use Rattle.dft_netlist_text.specs.declared.text.Declared.{Declared}
use Rattle.dft_netlist.specs.Netlist.{Netlist}
use Rattle.dft_netlist.specs.Names.{bit_names}
use Rattle.dft_netlist.specs.Building.{WithPort, port_of, port_refusal, net_refusal, instance_refusal}
use Rattle.dft_netlist.specs.NetNumbers.{nets_from}
use Rattle.dft_netlist.specs.Sound.{HasOnlyPorts, bits_of}
use Rattle.dft_netlist.proofs.BitLemmas.{up_length}
use Rattle.dft_netlist.proofs.PortLemmas.{nets_from-length, bits_behind}
use Rattle.dft_netlist_text.specs.Modules.{HeaderPort, Draft, net_count}
use Rattle.dft_netlist_text.specs.NetlistText.{Grown, add_port, nets_of_port, nets_of_ports, net_order, unless_refused, and_grown, add_declared, add_ports, add_net, add_nets, add_instance, add_instances, add_joins, final_join, final_signal}
use Rattle.dft_verilog.specs.FinalNets.{name_unless, without_number, all_numbered}
use Rattle.dft_verilog_draft.proofs.DeclareLemmas.{length-bit_names}
use Rattle.dft_verilog.specs.Built.{IsGrown, IsRefusal, HasNetsOf}

-- ---- one step behind another

-- two steps behind a first
pub and_grown-assoc : (g : Grown) (both first second : Netlist → Grown) → ((n : Netlist) → both n ≡ and_grown (first n) second) → and_grown g both ≡ and_grown (and_grown g first) second
and_grown-assoc (Ok n) both first second same = same n
and_grown-assoc (Err why) both first second same = refl

-- a step after which the netlist is this one: the one before is another, from which it comes
pub and_grown-Ok : (g : Grown) (more : Netlist → Grown) (m : Netlist) → and_grown g more ≡ Ok m → (n : Netlist) × (g ≡ Ok n) × (more n ≡ Ok m)
and_grown-Ok (Ok n) more m e = (n, refl, e)
and_grown-Ok (Err why) more m e = absurd (cc)

pub unless_refused-Ok : (refusal : Option NetlistError) (n m : Netlist) → unless_refused refusal n ≡ Ok m → m ≡ n
unless_refused-Ok None n m e = cc
unless_refused-Ok (Some why) n m e = absurd (cc)

-- a whole that is not refused has a first step that is not
pub IsGrown-first : (whole first : Grown) (more : Netlist → Grown) → whole ≡ and_grown first more → IsGrown whole → IsGrown first
IsGrown-first whole first more is g = let step = and_grown-Ok first more g.0 (sym is ∙ g.1) in (step.0, step.1)

-- an outcome that is the same as one that is not refused
pub IsGrown-same : (a b : Grown) → a ≡ b → IsGrown b → IsGrown a
IsGrown-same a b is g = (g.0, is ∙ g.1)

-- a step that is not refused has no refusal
pub unrefused : (refusal : Option NetlistError) (n : Netlist) → IsGrown (unless_refused refusal n) → refusal ≡ None
unrefused None n g = refl
unrefused (Some why) n g = let e = g.1 in absurd (cc)

-- a refusal of the first step is one of the whole
pub IsRefusal-then : (whole first : Grown) (more : Netlist → Grown) (why : NetlistError) → whole ≡ and_grown first more → IsRefusal first why → IsRefusal whole why
IsRefusal-then whole first more (error.MultipleDrivers name) e h = e ∙ ap (λ g. and_grown g more) h
IsRefusal-then whole first more (error.Loop name) e h = e ∙ ap (λ g. and_grown g more) h
IsRefusal-then whole first more (error.DuplicateName name) e h = e ∙ ap (λ g. and_grown g more) h
IsRefusal-then whole first more (error.TooMany what limit) e h = e ∙ ap (λ g. and_grown g more) h
IsRefusal-then whole first more (error.Memory failed) e h = tt

-- a refusal of an outcome is one of another that is the same
pub IsRefusal-same : (a b : Grown) (why : NetlistError) → a ≡ b → IsRefusal b why → IsRefusal a why
IsRefusal-same a b why e h = subst (λ g. IsRefusal g why) (sym e) h

-- ---- ports

-- one port more, and all nets are still bits of ports
pub HasOnlyPorts-port : (old new : Netlist) (name : Text) (dir : Dir) (range : Option Range) (port : PortId) → WithPort old name dir range port new → HasOnlyPorts old → HasOnlyPorts new
HasOnlyPorts-port old new name dir range port h only =
    let names = bit_names name range in
    let bits = nets_from (length old.nets) (length names) in
    let nets : length new.nets ≡ length (old.nets ++ names) = ap (λ (n : Netlist). length n.nets) h.grown in
    let ports : length (bits_of new.ports) ≡ length (bits_of (old.ports ++ port_of name dir range bits ∷ [])) = ap (λ (n : Netlist). length (bits_of n.ports)) h.grown in
    omega (arith, length-append old.nets names, bits_behind old.ports (port_of name dir range bits), nets_from-length (length old.nets) (length names))

-- the ports ahead are to be added
pub record PortsAhead (all ahead : List HeaderPort) (start now : Netlist) : Type 0 where
  pub rest : add_ports ahead now ≡ add_ports all start
  pub only : HasOnlyPorts now

-- what a netlist has when ports were added
pub record KeepsWith (more : ℕ) (old new : Netlist) : Type 0 where
  pub library : new.library ≡ old.library
  pub nets : length new.nets ≡ length old.nets + more

-- a port that was added
pub add_port-Ok : (n m : Netlist) (word : Text) (dir : Dir) (range : Option Range) → add_port n word dir range ≡ Ok m
    → m ≡ record n { ports = n.ports ++ port_of word dir range (nets_from (length n.nets) (length (bit_names word range))) ∷ []; nets = n.nets ++ bit_names word range }
add_port-Ok n m word dir range e = unless_refused-Ok (port_refusal n word range) _ m e

pub add_declared-Ok : (n m : Netlist) (word : Text) (declared : Option Declared) → add_declared n word declared ≡ Ok m → KeepsWith (length (nets_of_port declared)) n m
add_declared-Ok n m word None e = let same : m ≡ n = cc in record { library = ap (λ (x : Netlist). x.library) same; nets = ap (λ (x : Netlist). length x.nets) same ∙ sym (add-zero (length n.nets)) }
add_declared-Ok n m word (Some d) e =
    let grown = add_port-Ok n m word d.dir d.shape.range e in
    let count : length (bit_names word d.shape.range) ≡ length (nets_of_port (Some d)) = length-bit_names word d.shape.range ∙ sym (up_length d.shape.first.0 (net_count d.shape.range)) in
    record {
      library = ap (λ (x : Netlist). x.library) grown;
      nets = ap (λ (x : Netlist). length x.nets) grown ∙ length-append n.nets (bit_names word d.shape.range) ∙ ap (λ k. length n.nets + k) count;
    }

pub add_ports-Ok : (ports : List HeaderPort) (n m : Netlist) → add_ports ports n ≡ Ok m → KeepsWith (length (nets_of_ports ports)) n m
add_ports-Ok [] n m e = let same : m ≡ n = cc in record { library = ap (λ (x : Netlist). x.library) same; nets = ap (λ (x : Netlist). length x.nets) same ∙ sym (add-zero (length n.nets)) }
add_ports-Ok (port ∷ ports) n m e =
    let step = and_grown-Ok (add_declared n port.name port.declared) (add_ports ports) m e in
    let here = add_declared-Ok n step.0 port.name port.declared step.1 in
    let there = add_ports-Ok ports step.0 m step.2 in
    record {
      library = there.library ∙ here.library;
      nets = omega (arith, here.nets, there.nets, length-append (nets_of_port port.declared) (nets_of_ports ports));
    }

-- ---- nets

-- one after another, or together
pub add_nets-append : (xs ys : List Text) (n : Netlist) → add_nets (xs ++ ys) n ≡ and_grown (add_nets xs n) (add_nets ys)
add_nets-append [] ys n = refl
add_nets-append (x ∷ xs) ys n = and_grown-assoc (add_net n x) (add_nets (xs ++ ys)) (add_nets xs) (add_nets ys) (λ m. add_nets-append xs ys m)

pub without_number-cons : (word : Text) (words : List Text) (number : Option NetId) (numbers : List (Option NetId)) → without_number (word ∷ words) (number ∷ numbers) ≡ name_unless number word ++ without_number words numbers
without_number-cons word words None numbers = refl
without_number-cons word words (Some number) numbers = refl

-- nets that were added
pub add_nets-Ok : (words : List Text) (n m : Netlist) → add_nets words n ≡ Ok m → m ≡ record n { nets = n.nets ++ words }
add_nets-Ok [] n m e = let same : m ≡ n = cc in same ∙ ap (λ (nets : List Text). record n { nets = nets }) (sym (append-nil n.nets))
add_nets-Ok (word ∷ words) n m e =
    let step = and_grown-Ok (add_net n word) (add_nets words) m e in
    let here = unless_refused-Ok (net_refusal n word) (record n { nets = n.nets ++ word ∷ [] }) step.0 step.1 in
    add_nets-Ok words step.0 m step.2
    ∙ ap (λ (x : Netlist). record x { nets = x.nets ++ words }) here
    ∙ ap (λ (nets : List Text). record n { nets = nets }) (append_assoc n.nets (word ∷ []) words)

-- the nets ahead are to be numbered or added; these are the numbers of those before
pub record NumbersOthers (words : List Text) (numbers : List (Option NetId)) (words_ahead : List Text) (ahead : List (Option NetId)) (start now : Netlist) (finals : List NetId) : Type 0 where
  pub rest : add_nets (without_number words_ahead ahead) now ≡ add_nets (without_number words numbers) start
  pub all : finals ++ all_numbered (length now.nets) ahead ≡ all_numbered (length start.nets) numbers

-- the number of a net that is added now
abbrev pub new_net : Netlist → NetId
new_net n = record { 0 = length n.nets }

rest_of : (word : Text) (words : List Text) (number : Option NetId) (ahead : List (Option NetId)) (now : Netlist)
    → add_nets (without_number (word ∷ words) (number ∷ ahead)) now ≡ and_grown (add_nets (name_unless number word) now) (add_nets (without_number words ahead))
rest_of word words number ahead now =
    ap (λ ws. add_nets ws now) (without_number-cons word words number ahead) ∙ add_nets-append (name_unless number word) (without_number words ahead) now

-- a net that is added is not refused
pub net-free : (number : Option NetId) (word name : Text) (n : Netlist) → number ≡ None → name ≡ word → IsGrown (add_nets (name_unless number word) n) → net_refusal n name ≡ None
net-free (Some k) word name n is same g = absurd (cc)
net-free None word name n is same g =
    let step = and_grown-Ok (add_net n word) (add_nets []) g.0 g.1 in
    ap (net_refusal n) same ∙ unrefused (net_refusal n word) (record n { nets = n.nets ++ word ∷ [] }) (step.0, step.1)

-- nor is the next one
pub NumbersOthers-here : (words : List Text) (numbers : List (Option NetId)) (word : Text) (words_ahead : List Text) (number : Option NetId) (ahead : List (Option NetId)) (start now : Netlist) (finals : List NetId)
    → IsGrown (add_nets (without_number words numbers) start) → NumbersOthers words numbers (word ∷ words_ahead) (number ∷ ahead) start now finals → IsGrown (add_nets (name_unless number word) now)
NumbersOthers-here words numbers word words_ahead number ahead start now finals g h =
    IsGrown-first (add_nets (without_number words numbers) start) (add_nets (name_unless number word) now) (add_nets (without_number words_ahead ahead)) (sym h.rest ∙ rest_of word words_ahead number ahead now) g

all_by : (number : Option NetId) (word : Text) (ahead : List (Option NetId)) (now new : Netlist) (finals : List NetId) → add_nets (name_unless number word) now ≡ Ok new
    → (finals ++ unwrap_or number (new_net now) ∷ []) ++ all_numbered (length new.nets) ahead ≡ finals ++ all_numbered (length now.nets) (number ∷ ahead)
all_by (Some k) word ahead now new finals grown =
    let same : new ≡ now = cc in
    append_assoc finals (k ∷ []) (all_numbered (length new.nets) ahead) ∙ ap (λ (n : Netlist). finals ++ (k ∷ all_numbered (length n.nets) ahead)) same
all_by None word ahead now new finals grown =
    let more : length new.nets ≡ suc (length now.nets) = ap (λ (n : Netlist). length n.nets) (add_nets-Ok (word ∷ []) now new grown) ∙ length_push now.nets word ∙ add-one (length now.nets) in
    append_assoc finals (new_net now ∷ []) (all_numbered (length new.nets) ahead) ∙ ap (λ n. finals ++ (new_net now ∷ all_numbered n ahead)) more

pub NumbersOthers-more : (words : List Text) (numbers : List (Option NetId)) (word : Text) (words_ahead : List Text) (number : Option NetId) (ahead : List (Option NetId)) (start now new : Netlist) (finals after : List NetId) (net : NetId)
    → add_nets (name_unless number word) now ≡ Ok new → net ≡ unwrap_or number (new_net now) → after ≡ finals ++ net ∷ []
    → NumbersOthers words numbers (word ∷ words_ahead) (number ∷ ahead) start now finals → NumbersOthers words numbers words_ahead ahead start new after
NumbersOthers-more words numbers word words_ahead number ahead start now new finals after net grown is pushed h = record {
  rest = sym (rest_of word words_ahead number ahead now ∙ ap (λ g. and_grown g (add_nets (without_number words_ahead ahead))) grown) ∙ h.rest;
  all = ap (λ fs. fs ++ all_numbered (length new.nets) ahead) (pushed ∙ ap (λ f. finals ++ f ∷ []) is) ∙ all_by number word ahead now new finals grown ∙ h.all;
}

-- ---- instances and joins

abbrev pub instance_of : Option Text → CellRef → List Signal → Instance
instance_of name cell pins = record { name = name; cell = cell; pins = pins }

pub add_joins-cons : (order : List ℕ) (join : Join) (joins : List Join) (n : Netlist) → add_joins order (join ∷ joins) n ≡ add_joins order joins (add_joins order (join ∷ []) n)
add_joins-cons order join joins n = ap (λ js. record n { joins = js }) (sym (append_assoc n.joins (final_join order join ∷ []) (map (final_join order) joins)))

-- an instance that is not refused, with the final numbers of its nets
pub add_instance-by : (order : List ℕ) (n new : Netlist) (i : Instance) (name : Option Text) (pins : List Signal) → name ≡ i.name → pins ≡ map (final_signal order) i.pins → instance_refusal n name ≡ None
    → new ≡ record n { instances = n.instances ++ instance_of name i.cell pins ∷ [] } → add_instance order n i ≡ Ok new
add_instance-by order n new i name pins named joined free grown =
    ap (λ r. unless_refused r (record n { instances = n.instances ++ instance_of i.name i.cell (map (final_signal order) i.pins) ∷ [] })) (ap (instance_refusal n) (sym named) ∙ free)
    ∙ ap Ok (sym (grown ∙ ap₂ (λ (w : Option Text) (ps : List Signal). record n { instances = n.instances ++ instance_of w i.cell ps ∷ [] }) named joined))

-- an instance that is added is not refused
pub instance-free : (order : List ℕ) (n : Netlist) (i : Instance) (name : Option Text) → name ≡ i.name → IsGrown (add_instance order n i) → instance_refusal n name ≡ None
instance-free order n i name same g = ap (instance_refusal n) same ∙ unrefused (instance_refusal n i.name) _ g

-- the instances ahead are to be added, behind those before; the nets stay
pub record InstancesAhead (d : Draft) (all ahead : List Instance) (start now : Netlist) : Type 0 where
  pub rest : add_instances (net_order d) ahead now ≡ add_instances (net_order d) all start
  pub nets : HasNetsOf d now

-- the next of them is not refused
pub InstancesAhead-here : (d : Draft) (all : List Instance) (i : Instance) (ahead : List Instance) (start now : Netlist) → IsGrown (add_instances (net_order d) all start) → InstancesAhead d all (i ∷ ahead) start now → IsGrown (add_instance (net_order d) now i)
InstancesAhead-here d all i ahead start now g h = IsGrown-first (add_instances (net_order d) all start) (add_instance (net_order d) now i) (add_instances (net_order d) ahead) (sym h.rest) g

-- the joins ahead are to be added
pub record JoinsAhead (d : Draft) (all ahead : List Join) (start now : Netlist) : Type 0 where
  pub rest : add_joins (net_order d) ahead now ≡ add_joins (net_order d) all start
  pub nets : HasNetsOf d now

pub JoinsAhead-more : (d : Draft) (all : List Join) (j : Join) (ahead : List Join) (start now new : Netlist) → new ≡ add_joins (net_order d) (j ∷ []) now
    → JoinsAhead d all (j ∷ ahead) start now → JoinsAhead d all ahead start new
JoinsAhead-more d all j ahead start now new grown h = record {
  rest = ap (add_joins (net_order d) ahead) grown ∙ sym (add_joins-cons (net_order d) j ahead now) ∙ h.rest;
  nets = record { library = ap (λ (x : Netlist). x.library) grown ∙ h.nets.library; nets = ap (λ (x : Netlist). length x.nets) grown ∙ h.nets.nets };
}
