-- What a draft keeps as the rules say more of it: its name and its cells, where the nets of its ports stand, and that its parts stand among its nets.
use Rattle.std.proofs.Common.{◌≡◌, ℕ, zero, suc, ◌+◌, ◌≤◌, Bool, true, false, not, ◌&&◌, cond, nat_le, nat_lt, List, [], ◌∷◌, ◌++◌, length, map, set, slice_get, is_some, Option, Some, None, Ok, Err, refl, sym, ap, ◌∙◌, subst, arith, length-append}
use Rattle.std.specs.List.{All}
use Rattle.std.specs.Option.{option_and_then}
use Rattle.std.proofs.lemmas.List.{append-nil, append_assoc, map-append, length-map}
use Rattle.std.proofs.lemmas.List.Elements.{All-weaker, All-head, All-tail, All-append, All-cons, All-nil, All-set, All-map}
use Rattle.dft_base.specs.declared.place.Range.{Range}
use Rattle.dft_base.specs.declared.dir.Dir.{Dir}
use Rattle.dft_base.specs.Lexing.{Text}
use Rattle.dft_netlist.specs.declared.instance.Instance.{Instance}
use Rattle.dft_netlist.specs.declared.instance.Join.{Join}
use Rattle.dft_netlist.specs.declared.error.Counted.TheVariants as counted
use Rattle.dft_netlist.specs.declared.limits.TheConstants.{MAX_PORTS, MAX_NETS, MAX_INSTANCES}
use Rattle.dft_netlist.specs.Names.{bit_names}
use Rattle.dft_netlist.proofs.SoundLemmas.{instance_more, join_more}
use Rattle.dft_netlist_text.specs.declared.text.Cause.TheVariants as cause
use Rattle.dft_netlist_text.specs.declared.text.Fault.{Fault}
use Rattle.dft_netlist_text.specs.declared.text.Meaning.{Meaning}
use Rattle.dft_netlist_text.specs.declared.text.Meaning.TheVariants as meaning
use Rattle.dft_netlist_text.specs.declared.text.Declared.{Declared}
use Rattle.dft_netlist_text.specs.Steps.{fault}
use Rattle.dft_netlist_text.specs.Modules.{Draft, HeaderPort, TakenName, empty_draft, meaning_of, is_taken, with_name, net_count, names_of_bits, first_taken, free_bits, next_shape, with_nets, declare_nets, declared_at, port_place, announce, with_declared, declare_found, declare_port, declare_new_port, same_range, repeat_port, declare_wire_as, declare_wire, room_for_instance, name_instance, with_instance, with_join}
use Rattle.dft_modules.specs.SubInstances.{name_sub}
use Rattle.dft_netlist_text.proofs.ParserLemmas.{Gives}
use Rattle.dft_verilog_draft.specs.Drafts.{IsMeaningWithin, AreNamesWithin, IsDeclaredWithin, InstanceFits, JoinFits, nets_alone}
use Rattle.dft_verilog_draft.specs.Free.{taken_bit}
use Rattle.dft_verilog_draft.proofs.DeclareLemmas.{length-bit_names}
use Rattle.dft_verilog_draft.proofs.DraftLemmas.{meaning_more}
use Rattle.dft_verilog.proofs.SaidLemmas.{ArePlaced, port_list, port_named, entry, list_set, get_last, placed_left, placed_append, placed_bits, place_found, with_bits-is}

-- ---- tests

-- what passes its tests
tested : (P : Draft → Type 0) (t u v : Bool) (o : Option Text) (f g i : Fault) (place : ℕ) (new : Draft) → P new → Gives P (cond t (Err f) (free_bits place o (cond u (Err g) (cond v (Err i) (Ok new)))))
tested P true u v o f g i place new k = tt
tested P false u v (Some w) f g i place new k = tt
tested P false true v None f g i place new k = tt
tested P false false true None f g i place new k = tt
tested P false false false None f g i place new k = k

-- ---- where nets stand

-- these names are those of the nets from this one on
pub record NamesAt (nets : List Text) (first : ℕ) (names : List Text) : Type 0 where
  pub front : List Text
  pub rest : List Text
  pub same : nets ≡ front ++ (names ++ rest)
  pub at : length front ≡ first

-- the nets of a port that was declared have the names of its bits
abbrev pub DeclaredStands : List Text → Text → Option Declared → Type 0
DeclaredStands nets word None = Unit {0}
DeclaredStands nets word (Some declared) = NamesAt nets declared.shape.first.0 (bit_names word declared.shape.range)

abbrev pub PortStands : List Text → HeaderPort → Type 0
PortStands nets p = DeclaredStands nets p.name p.declared

names_more : (nets more : List Text) (first : ℕ) (names : List Text) → NamesAt nets first names → NamesAt (nets ++ more) first names
names_more nets more first names h = record {
  front = h.front;
  rest = h.rest ++ more;
  same = ap (λ ns. ns ++ more) h.same ∙ append_assoc h.front (names ++ h.rest) more ∙ ap (λ ns. h.front ++ ns) (append_assoc names h.rest more);
  at = h.at;
}

names_new : (nets names : List Text) → NamesAt (nets ++ names) (length nets) names
names_new nets names = record { front = nets; rest = []; same = ap (λ ns. nets ++ ns) (sym (append-nil names)); at = refl }

declared_more : (nets more : List Text) (word : Text) (declared : Option Declared) → DeclaredStands nets word declared → DeclaredStands (nets ++ more) word declared
declared_more nets more word None h = tt
declared_more nets more word (Some declared) h = names_more nets more declared.shape.first.0 (bit_names word declared.shape.range) h

ports_more : (nets more : List Text) (ports : List HeaderPort) → All (PortStands nets) ports → All (PortStands (nets ++ more)) ports
ports_more nets more ports h = All-weaker (PortStands nets) (PortStands (nets ++ more)) (λ p w. declared_more nets more p.name p.declared w) ports h

-- such nets are there
declared_within : (nets : List Text) (word : Text) (declared : Option Declared) → DeclaredStands nets word declared → IsDeclaredWithin (length nets) declared
declared_within nets word None h = tt
declared_within nets word (Some declared) h =
    let names = bit_names word declared.shape.range in
    omega (arith, ap length h.same, length-append h.front (names ++ h.rest), length-append names h.rest, h.at, length-bit_names word declared.shape.range)

pub within_ports : (nets : List Text) (ports : List HeaderPort) → All (PortStands nets) ports → All (λ (p : HeaderPort). IsDeclaredWithin (length nets) p.declared) ports
within_ports nets ports h = All-weaker (PortStands nets) (λ (p : HeaderPort). IsDeclaredWithin (length nets) p.declared) (λ p w. declared_within nets p.name p.declared w) ports h

pub within_at : (nets : List Text) (ports : List HeaderPort) → All (PortStands nets) ports → (place : ℕ) → IsDeclaredWithin (length nets) (option_and_then (λ (p : HeaderPort). p.declared) (slice_get ports place))
within_at nets [] h place = tt
within_at nets (p ∷ ports) h zero = declared_within nets p.name p.declared (All-head (PortStands nets) p ports h)
within_at nets (p ∷ ports) h (suc place) = within_at nets ports (All-tail (PortStands nets) p ports h) place

-- ---- what is kept

-- what a draft keeps of the one that it began as; it has so many nets at least
pub record Keeps (start : Draft) (floor : ℕ) (d : Draft) : Type 0 where
  pub name : d.name ≡ start.name
  pub library : d.library ≡ start.library
  pub many : floor ≤ length d.nets
  pub places : ArePlaced (port_list d.ports) d.names
  pub names : AreNamesWithin (length d.nets) d.names
  pub ports : All (PortStands d.nets) d.ports
  pub instances : All (InstanceFits (nets_alone d)) d.instances
  pub joins : All (JoinFits (nets_alone d)) d.joins

-- a draft that says nothing yet keeps it
pub keeps_empty : (name : Text) (d : Draft) → d ≡ empty_draft name d.library → Keeps d 0 d
keeps_empty name d e = subst (λ (x : Draft). Keeps x 0 x) (sym e) (record {
  name = refl;
  library = refl;
  many = omega arith;
  places = tt;
  names = All-nil (λ (e : TakenName). IsMeaningWithin 0 e.meaning);
  ports = All-nil (PortStands []);
  instances = All-nil (InstanceFits (nets_alone (empty_draft name d.library)));
  joins = All-nil (JoinFits (nets_alone (empty_draft name d.library)));
})

-- it has as many nets as it has
pub raise : (start : Draft) (floor : ℕ) (d : Draft) → Keeps start floor d → Keeps start (length d.nets) d
raise start floor d h = record { name = h.name; library = h.library; many = omega arith; places = h.places; names = h.names; ports = h.ports; instances = h.instances; joins = h.joins }

pub lower : (start : Draft) (floor more : ℕ) (d : Draft) → floor ≤ more → Keeps start more d → Keeps start floor d
lower start floor more d le h = record { name = h.name; library = h.library; many = omega (arith, h.many); places = h.places; names = h.names; ports = h.ports; instances = h.instances; joins = h.joins }

names_within_more : (a b : ℕ) → a ≤ b → (names : List TakenName) → AreNamesWithin a names → AreNamesWithin b names
names_within_more a b le names h = All-weaker (λ (e : TakenName). IsMeaningWithin a e.meaning) (λ (e : TakenName). IsMeaningWithin b e.meaning) (λ e w. meaning_more a b le e.meaning w) names h

bits_within : (n : ℕ) (words : List Text) → AreNamesWithin n (map taken_bit words)
bits_within n words = All-map (λ (e : TakenName). IsMeaningWithin n e.meaning) taken_bit words (λ k d below. tt)

-- more names, ports and nets
grown : (start : Draft) (floor : ℕ) (d : Draft) (names : List TakenName) (ports : List HeaderPort) (bits : List Text) → Keeps start floor d → ArePlaced (port_list ports) names
    → AreNamesWithin (length (d.nets ++ bits)) names → All (PortStands (d.nets ++ bits)) ports → Keeps start floor (record d { names = names; ports = ports; nets = d.nets ++ bits })
grown start floor d names ports bits h placed within stand =
    let e : Draft = record d { names = names; ports = ports; nets = d.nets ++ bits } in
    let count = length-append d.nets bits in
    let more : length d.nets ≤ length e.nets = omega (arith, count) in
    record {
      name = h.name;
      library = h.library;
      many = omega (arith, h.many, count);
      places = placed;
      names = within;
      ports = stand;
      instances = All-weaker (InstanceFits (nets_alone d)) (InstanceFits (nets_alone e)) (λ i w. instance_more d.library (length d.nets) (length e.nets) more i.name i.cell i.pins w) d.instances h.instances;
      joins = All-weaker (JoinFits (nets_alone d)) (JoinFits (nets_alone e)) (λ j w. join_more (length d.nets) (length e.nets) more j.target j.source w) d.joins h.joins;
    }

-- the same nets, and more names
renamed : (start : Draft) (floor : ℕ) (d : Draft) (names : List TakenName) → Keeps start floor d → ArePlaced (port_list d.ports) names → AreNamesWithin (length d.nets) names → Keeps start floor (record d { names = names })
renamed start floor d names h placed within = record { name = h.name; library = h.library; many = h.many; places = placed; names = within; ports = h.ports; instances = h.instances; joins = h.joins }

-- the names before, one more, and those of bits
names_behind : (n m : ℕ) (d : Draft) (own : TakenName) (ws : List Text) → n ≤ m → AreNamesWithin n d.names → IsMeaningWithin m own.meaning → AreNamesWithin m ((d.names ++ own ∷ []) ++ map taken_bit ws)
names_behind n m d own ws le h here =
    let P : TakenName → Type 0 = λ e. IsMeaningWithin m e.meaning in
    All-append P (d.names ++ own ∷ []) (map taken_bit ws) (All-append P d.names (own ∷ []) (names_within_more n m le d.names h) (All-cons P own [] here (All-nil P))) (bits_within m ws)

-- ---- declarations

pub nets_keep : (start : Draft) (floor place : ℕ) (word : Text) (range : Option Range) (d : Draft) → Keeps start floor d → Gives (Keeps start floor) (declare_nets place word range d)
nets_keep start floor place word range d h =
    let bits = bit_names word range in
    let ws = names_of_bits word range in
    let own = entry word (meaning.Nets (next_shape d range)) in
    let names = (d.names ++ own ∷ []) ++ map taken_bit ws in
    let count = length-append d.nets bits in
    tested (Keeps start floor) (is_taken d word) false (nat_lt MAX_NETS (length d.nets + net_count range)) (first_taken d ws) (fault (cause.Taken word) place) (fault (cause.Taken word) place) (fault (cause.Full counted.Nets) place) place
    (with_nets word range (with_name word (meaning.Nets (next_shape d range)) d))
    (subst (Keeps start floor) (sym (with_bits-is ws (record d { names = d.names ++ own ∷ []; nets = d.nets ++ bits })))
    (grown start floor d names d.ports bits h
    (placed_append (port_list d.ports) (d.names ++ own ∷ []) (map taken_bit ws) (placed_append (port_list d.ports) d.names (own ∷ []) h.places (tt, tt)) (placed_bits (port_list d.ports) ws))
    (names_behind (length d.nets) (length (d.nets ++ bits)) d own ws (omega (arith, count)) h.names (omega (arith, count, length-bit_names word range)))
    (ports_more d.nets bits d.ports h.ports)))

-- a port more, declared or not
push_keep : (start : Draft) (floor : ℕ) (d : Draft) (word : Text) (declared : Option Declared) (bits ws : List Text) → Keeps start floor d → DeclaredStands (d.nets ++ bits) word declared
    → Keeps start floor (record d { names = (d.names ++ entry word (meaning.Port (length d.ports)) ∷ []) ++ map taken_bit ws; ports = d.ports ++ port_named word declared ∷ []; nets = d.nets ++ bits })
push_keep start floor d word declared bits ws h stands =
    let own = entry word (meaning.Port (length d.ports)) in
    let names = (d.names ++ own ∷ []) ++ map taken_bit ws in
    let ports = d.ports ++ port_named word declared ∷ [] in
    let count = length-append d.nets bits in
    let listed : port_list ports ≡ port_list d.ports ++ word ∷ [] = map-append (λ (p : HeaderPort). p.name) d.ports (port_named word declared ∷ []) in
    let last : slice_get (port_list d.ports ++ word ∷ []) (length d.ports) ≡ Some word = subst (λ k. slice_get (port_list d.ports ++ word ∷ []) k ≡ Some word) (length-map d.ports (λ (p : HeaderPort). p.name)) (get_last (port_list d.ports) word) in
    let placed : ArePlaced (port_list d.ports ++ word ∷ []) names =
    placed_append (port_list d.ports ++ word ∷ []) (d.names ++ own ∷ []) (map taken_bit ws)
    (placed_append (port_list d.ports ++ word ∷ []) d.names (own ∷ []) (placed_left (port_list d.ports) (word ∷ []) d.names h.places) (last, tt)) (placed_bits (port_list d.ports ++ word ∷ []) ws) in
    grown start floor d names ports bits h (subst (λ ps. ArePlaced ps names) (sym listed) placed)
    (names_behind (length d.nets) (length (d.nets ++ bits)) d own ws (omega (arith, count)) h.names tt)
    (All-append (PortStands (d.nets ++ bits)) d.ports (port_named word declared ∷ []) (ports_more d.nets bits d.ports h.ports) (All-cons (PortStands (d.nets ++ bits)) (port_named word declared) [] stands (All-nil (PortStands (d.nets ++ bits)))))

pub announce_keep : (start : Draft) (floor place : ℕ) (word : Text) (d : Draft) → Keeps start floor d → Gives (Keeps start floor) (announce place word d)
announce_keep start floor place word d h =
    let own = entry word (meaning.Port (length d.ports)) in
    let ports = d.ports ++ port_named word None ∷ [] in
    tested (Keeps start floor) (is_taken d word) false (nat_le MAX_PORTS (length d.ports)) None (fault (cause.Taken word) place) (fault (cause.Taken word) place) (fault (cause.Full counted.Ports) place) place
    (with_name word (meaning.Port (length d.ports)) (record d { ports = ports }))
    (subst (λ (names : List TakenName). Keeps start floor (record d { names = names; ports = ports })) (append-nil (d.names ++ own ∷ []))
    (subst (λ (nets : List Text). Keeps start floor (record d { names = (d.names ++ own ∷ []) ++ []; ports = ports; nets = nets })) (append-nil d.nets) (push_keep start floor d word None [] [] h tt)))

abbrev facing : Dir → Option Range → Draft → Declared
facing dir range d = record { dir = dir; shape = next_shape d range; repeated = false }

pub new_port_keep : (start : Draft) (floor place : ℕ) (word : Text) (dir : Dir) (range : Option Range) (d : Draft) → Keeps start floor d → Gives (Keeps start floor) (declare_new_port place word dir range d)
new_port_keep start floor place word dir range d h =
    let bits = bit_names word range in
    let ws = names_of_bits word range in
    let own = entry word (meaning.Port (length d.ports)) in
    let ports = d.ports ++ port_named word (Some (facing dir range d)) ∷ [] in
    tested (Keeps start floor) (is_taken d word) (nat_le MAX_PORTS (length d.ports)) (nat_lt MAX_NETS (length d.nets + net_count range)) (first_taken d ws) (fault (cause.Taken word) place) (fault (cause.Full counted.Ports) place) (fault (cause.Full counted.Nets) place) place
    (with_nets word range (with_name word (meaning.Port (length d.ports)) (record d { ports = ports })))
    (subst (Keeps start floor) (sym (with_bits-is ws (record d { names = d.names ++ own ∷ []; ports = ports; nets = d.nets ++ bits })))
    (push_keep start floor d word (Some (facing dir range d)) bits ws h (names_new d.nets bits)))

-- a port of the header is declared
at_keep : (start : Draft) (floor place : ℕ) (word : Text) (dir : Dir) (range : Option Range) (port : ℕ) (d : Draft) → Keeps start floor d → slice_get (port_list d.ports) port ≡ Some word
    → Gives (Keeps start floor) (declare_found place word dir range d (Some port))
at_keep start floor place word dir range port d h stands =
    let bits = bit_names word range in
    let ws = names_of_bits word range in
    let one = port_named word (Some (facing dir range d)) in
    let ports = set d.ports port one in
    let names = d.names ++ map taken_bit ws in
    let count = length-append d.nets bits in
    let P : TakenName → Type 0 = λ e. IsMeaningWithin (length (d.nets ++ bits)) e.meaning in
    tested (Keeps start floor) (is_some (declared_at d port)) false (nat_lt MAX_NETS (length d.nets + net_count range)) (first_taken d ws) (fault (cause.Taken word) place) (fault (cause.Taken word) place) (fault (cause.Full counted.Nets) place) place
    (with_nets word range (with_declared port word (facing dir range d) d))
    (subst (Keeps start floor) (sym (with_bits-is ws (record d { ports = ports; nets = d.nets ++ bits })))
    (grown start floor d names ports bits h
    (subst (λ ps. ArePlaced ps names) (sym (list_set d.ports port word (Some (facing dir range d)) stands)) (placed_append (port_list d.ports) d.names (map taken_bit ws) h.places (placed_bits (port_list d.ports) ws)))
    (All-append P d.names (map taken_bit ws) (names_within_more (length d.nets) (length (d.nets ++ bits)) (omega (arith, count)) d.names h.names) (bits_within (length (d.nets ++ bits)) ws))
    (All-set (PortStands (d.nets ++ bits)) d.ports port one (names_new d.nets bits) (ports_more d.nets bits d.ports h.ports))))

port_by : (start : Draft) (floor place : ℕ) (word : Text) (dir : Dir) (range : Option Range) (d : Draft) (m : Option Meaning) → Keeps start floor d → meaning_of d word ≡ m → Gives (Keeps start floor) (declare_found place word dir range d (port_place m))
port_by start floor place word dir range d None h e = tt
port_by start floor place word dir range d (Some (meaning.Port port)) h e = at_keep start floor place word dir range port d h (place_found (port_list d.ports) d.names word port h.places e)
port_by start floor place word dir range d (Some (meaning.Nets shape)) h e = tt
port_by start floor place word dir range d (Some meaning.Bit) h e = tt
port_by start floor place word dir range d (Some meaning.Instance) h e = tt

pub port_keep : (start : Draft) (floor place : ℕ) (word : Text) (dir : Dir) (range : Option Range) (d : Draft) → Keeps start floor d → Gives (Keeps start floor) (declare_port place word dir range d)
port_keep start floor place word dir range d h = port_by start floor place word dir range d (meaning_of d word) h refl

-- a port that was declared stands so
stands_at : (nets : List Text) (ports : List HeaderPort) (place : ℕ) (word : Text) (declared : Declared) → All (PortStands nets) ports → slice_get (port_list ports) place ≡ Some word
    → option_and_then (λ (p : HeaderPort). p.declared) (slice_get ports place) ≡ Some declared → DeclaredStands nets word (Some declared)
stands_at nets [] place word declared h named was = absurd (cc)
stands_at nets (p ∷ ports) zero word declared h named was =
    let own : p.name ≡ word = cc in
    subst (λ w. DeclaredStands nets w (Some declared)) own (subst (λ o. DeclaredStands nets p.name o) was (All-head (PortStands nets) p ports h))
stands_at nets (p ∷ ports) (suc place) word declared h named was = stands_at nets ports place word declared (All-tail (PortStands nets) p ports h) named was

repeat_by : (start : Draft) (floor : ℕ) (b : Bool) (f : Fault) (new : Draft) → Keeps start floor new → Gives (Keeps start floor) (cond b (Ok new) (Err f))
repeat_by start floor true f new h = h
repeat_by start floor false f new h = tt

repeat_keep : (start : Draft) (floor place : ℕ) (word : Text) (range : Option Range) (d : Draft) (port : ℕ) (declared : Option Declared) → Keeps start floor d → slice_get (port_list d.ports) port ≡ Some word → declared_at d port ≡ declared
    → Gives (Keeps start floor) (repeat_port place word range d port declared)
repeat_keep start floor place word range d port None h named was = tt
repeat_keep start floor place word range d port (Some declared) h named was =
    let again : Declared = record declared { repeated = true } in
    let one = port_named word (Some again) in
    repeat_by start floor (same_range declared.shape.range range && not declared.repeated) (fault (cause.Taken word) place) (with_declared port word again d) (record {
      name = h.name;
      library = h.library;
      many = h.many;
      places = subst (λ ps. ArePlaced ps d.names) (sym (list_set d.ports port word (Some again) named)) h.places;
      names = h.names;
      ports = All-set (PortStands d.nets) d.ports port one (stands_at d.nets d.ports port word declared h.ports named was) h.ports;
      instances = h.instances;
      joins = h.joins;
    })

wire_by : (start : Draft) (floor place : ℕ) (word : Text) (range : Option Range) (d : Draft) (m : Option Meaning) → Keeps start floor d → meaning_of d word ≡ m → Gives (Keeps start floor) (declare_wire_as place word range d (port_place m))
wire_by start floor place word range d None h e = nets_keep start floor place word range d h
wire_by start floor place word range d (Some (meaning.Port port)) h e = repeat_keep start floor place word range d port (declared_at d port) h (place_found (port_list d.ports) d.names word port h.places e) refl
wire_by start floor place word range d (Some (meaning.Nets shape)) h e = nets_keep start floor place word range d h
wire_by start floor place word range d (Some meaning.Bit) h e = nets_keep start floor place word range d h
wire_by start floor place word range d (Some meaning.Instance) h e = nets_keep start floor place word range d h

pub wire_keep : (start : Draft) (floor place : ℕ) (word : Text) (range : Option Range) (d : Draft) → Keeps start floor d → Gives (Keeps start floor) (declare_wire place word range d)
wire_keep start floor place word range d h = wire_by start floor place word range d (meaning_of d word) h refl

-- ---- instances and joins

instance_named : (start : Draft) (floor : ℕ) (word : Text) (d : Draft) → Keeps start floor d → Keeps start floor (with_name word meaning.Instance d)
instance_named start floor word d h =
    let own = entry word meaning.Instance in
    let P : TakenName → Type 0 = λ e. IsMeaningWithin (length d.nets) e.meaning in
    renamed start floor d (d.names ++ own ∷ []) h (placed_append (port_list d.ports) d.names (own ∷ []) h.places (tt, tt)) (All-append P d.names (own ∷ []) h.names (All-cons P own [] tt (All-nil P)))

pub name_keep : (start : Draft) (floor place : ℕ) (word : Text) (d : Draft) → Keeps start floor d → Gives (Keeps start floor) (name_instance place word d)
name_keep start floor place word d h =
    tested (Keeps start floor) (is_taken d word) false (nat_le MAX_INSTANCES (length d.instances)) None (fault (cause.Taken word) place) (fault (cause.Taken word) place) (fault (cause.Full counted.Instances) place) place (with_name word meaning.Instance d) (instance_named start floor word d h)

pub sub_keep : (start : Draft) (floor place : ℕ) (word : Text) (d : Draft) → Keeps start floor d → Gives (Keeps start floor) (name_sub place word d)
sub_keep start floor place word d h =
    tested (Keeps start floor) (is_taken d word) false false None (fault (cause.Taken word) place) (fault (cause.Taken word) place) (fault (cause.Taken word) place) place (with_name word meaning.Instance d) (instance_named start floor word d h)

pub room_keep : (start : Draft) (floor place : ℕ) (d : Draft) → Keeps start floor d → Gives (Keeps start floor) (room_for_instance place d)
room_keep start floor place d h =
    tested (Keeps start floor) (nat_le MAX_INSTANCES (length d.instances)) false false None (fault (cause.Full counted.Instances) place) (fault (cause.Full counted.Instances) place) (fault (cause.Full counted.Instances) place) place d h

-- an instance more, which can stand there
pub instance_keep : (start : Draft) (floor : ℕ) (i : Instance) (d : Draft) → Keeps start floor d → InstanceFits (nets_alone d) i → Keeps start floor (with_instance i d)
instance_keep start floor i d h fits = record {
  name = h.name;
  library = h.library;
  many = h.many;
  places = h.places;
  names = h.names;
  ports = h.ports;
  instances = All-append (InstanceFits (nets_alone d)) d.instances (i ∷ []) h.instances (All-cons (InstanceFits (nets_alone d)) i [] fits (All-nil (InstanceFits (nets_alone d))));
  joins = h.joins;
}

-- a join more, which can stand there
pub join_keep : (start : Draft) (floor : ℕ) (j : Join) (d : Draft) → Keeps start floor d → JoinFits (nets_alone d) j → Keeps start floor (with_join j d)
join_keep start floor j d h fits = record {
  name = h.name;
  library = h.library;
  many = h.many;
  places = h.places;
  names = h.names;
  ports = h.ports;
  instances = h.instances;
  joins = All-append (JoinFits (nets_alone d)) d.joins (j ∷ []) h.joins (All-cons (JoinFits (nets_alone d)) j [] fits (All-nil (JoinFits (nets_alone d))));
}
