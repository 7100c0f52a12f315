-- What each declaration adds to the printed names of a module: names that were free, and no more.
use Rattle.std.proofs.Common.{◌≡◌, ℕ, zero, suc, ◌+◌, ◌<◌, ◌≤◌, ◌^◌, Bool, true, false, not, ◌&&◌, ◌||◌, cond, nat_le, nat_lt, List, [], ◌∷◌, ◌++◌, length, map, set, slice_get, find, is_some, Option, Some, None, option_map, Ok, Err, refl, sym, ap, ap₂, ◌∙◌, subst, arith, length-append}
use Rattle.std.specs.Option.{option_and_then}
use Rattle.std.specs.Str.{bytes_eq}
use Rattle.std.proofs.lemmas.List.{append-nil, append_assoc, map-append, length-map, length-set, map-set}
use Rattle.std.proofs.lemmas.List.Folds.{list_any-append}
use Rattle.std.proofs.lemmas.Bool.Decides.{nat_tests}
use Rattle.std.proofs.Math.Bool.{or_comm}
use Rattle.dft_base.specs.declared.place.Range.{Range}
use Rattle.dft_base.specs.Lexing.{Text}
use Rattle.dft_base.specs.declared.dir.Dir.{Dir}
use Rattle.dft_base.specs.Ranges.{going_up}
use Rattle.dft_base.proofs.BitLemmas.{or_assoc}
use Rattle.dft_base.proofs.TextLemmas.{same_text}
use Rattle.dft_netlist_text.specs.declared.text.Cause.TheVariants as cause
use Rattle.dft_netlist.specs.declared.error.Counted.TheVariants as counted
use Rattle.dft_netlist_text.specs.declared.text.Fault.{Fault}
use Rattle.dft_netlist_text.specs.declared.text.Meaning.{Meaning}
use Rattle.dft_netlist_text.specs.declared.text.Meaning.TheVariants as meaning
use Rattle.dft_netlist_text.specs.declared.text.Declared.{Declared}
use Rattle.dft_netlist.specs.declared.instance.Instance.{Instance}
use Rattle.dft_netlist.specs.declared.limits.TheConstants.{MAX_PORTS, MAX_NETS, MAX_INSTANCES}
use Rattle.dft_netlist.specs.Names.{bit_names, port_names}
use Rattle.dft_netlist.specs.Building.{own_names}
use Rattle.dft_netlist.proofs.BitLemmas.{up_length}
use Rattle.dft_netlist_text.specs.Steps.{fault}
use Rattle.dft_netlist_text.specs.Modules.{Draft, HeaderPort, TakenName, meaning_of, is_taken, with_name, net_count, names_of_bits, first_taken, free_bits, with_bits, next_shape, with_nets, declare_nets, declared_at, port_place, announce, with_declared, declare_found, declare_port, declare_new_port, same_range, repeat_port, declare_wire_as, declare_wire, room_for_instance, name_instance, with_instance}
use Rattle.dft_netlist_text.specs.NetlistText.{nets_of_port, nets_of_ports, other_nets, names_of_others}
use Rattle.dft_netlist_text.proofs.ParserLemmas.{Gives}
use Rattle.dft_modules.specs.SubInstances.{name_sub}
use Rattle.dft_verilog_draft.specs.Free.{AreApart, taken_bit}
use Rattle.dft_verilog.specs.Buildable.{names_of_port, names_of_header, names_of_instances, printed_names, IsBuildable}
use Rattle.dft_verilog_draft.proofs.ApartLemmas.{bit_names-apart}
use Rattle.dft_verilog_draft.proofs.DeclareLemmas.{length-bit_names}
use Rattle.dft_verilog.proofs.NumberingLemmas.{AreBelow, AreBelow-append, AreBelow-count}
use Rattle.dft_verilog.proofs.CountLemmas.{count, count-append, AreOnce, apart_if_once, names_of, AreFreeIn, first_taken-none, free_once}
use Rattle.dft_verilog.proofs.OtherNetLemmas.{is_among, others_from, others_more, others_kept, name_at, names_kept, names_new}

-- ---- what a draft names

-- the names of a port of the header: its own, and once it is declared those of its bits
abbrev pub said_of_port : Text → Option Declared → List Text
said_of_port word None = word ∷ []
said_of_port word (Some declared) = port_names word declared.shape.range

abbrev pub said_of_header : List HeaderPort → List Text
said_of_header [] = []
said_of_header (port ∷ ports) = said_of_port port.name port.declared ++ said_of_header ports

abbrev pub said : Draft → List Text
said d = said_of_header d.ports ++ (names_of_others d ++ names_of_instances d.instances)

-- the names of the ports
abbrev pub port_list : List HeaderPort → List Text
port_list ports = map (λ (p : HeaderPort). p.name) ports

-- a name that stands for a place of the header is the port's
abbrev pub HasPort : List Text → Text → Meaning → Type 0
HasPort ports word (meaning.Port place) = slice_get ports place ≡ Some word
HasPort ports word (meaning.Nets shape) = Unit {0}
HasPort ports word meaning.Bit = Unit {0}
HasPort ports word meaning.Instance = Unit {0}

abbrev pub ArePlaced : List Text → List TakenName → Type 0
ArePlaced ports [] = Unit {0}
ArePlaced ports (e ∷ es) = HasPort ports e.name e.meaning × ArePlaced ports es

-- What holds of a draft while so many instances are being read and these names are taken for them.
pub record IsSaid (room : ℕ) (more : List Text) (d : Draft) : Type 0 where
  -- a name is taken once
  pub names : AreOnce (names_of d.names)
  -- and what is named is taken
  pub taken : (word : Text) → count word more + count word (said d) ≤ count word (names_of d.names)
  -- a net is one port's bit at most
  pub numbered : length (nets_of_ports d.ports) + length (other_nets d) ≡ length d.nets
  pub below : AreBelow (length d.nets) (nets_of_ports d.ports)
  pub places : ArePlaced (port_list d.ports) d.names
  pub few_ports : length d.ports ≤ MAX_PORTS
  pub few_nets : length d.nets ≤ MAX_NETS
  pub few_instances : length d.instances + room ≤ MAX_INSTANCES

-- ---- drafts that are buildable

printed_few : (ports : List HeaderPort) (word : Text) → count word (names_of_header ports) ≤ count word (said_of_header ports)
printed_few [] word = omega arith
printed_few (port ∷ ports) word =
    omega (arith, count-append word (names_of_port port.name port.declared) (names_of_header ports), count-append word (said_of_port port.name port.declared) (said_of_header ports), one port.name port.declared word, printed_few ports word) where
      one : (name : Text) (declared : Option Declared) (word : Text) → count word (names_of_port name declared) ≤ count word (said_of_port name declared)
      one name None word = omega arith
      one name (Some declared) word = omega arith

pub said_is_buildable : (d : Draft) → IsSaid 0 [] d → IsBuildable d
said_is_buildable d h =
    let rest = names_of_others d ++ names_of_instances d.instances in
    record {
      names = apart_if_once (printed_names d) (λ word. omega (arith, count-append word (names_of_header d.ports) rest, count-append word (said_of_header d.ports) rest, printed_few d.ports word, h.taken word, h.names word));
      ports = h.few_ports;
      nets = omega (arith, length-append (nets_of_ports d.ports) (other_nets d), h.numbered, h.few_nets);
      instances = omega (arith, h.few_instances);
    }

-- ---- names and nets that come more

below_more : (m n : ℕ) (xs : List ℕ) → m ≤ n → AreBelow m xs → AreBelow n xs
below_more m n [] le h = tt
below_more m n (x ∷ xs) le h = (omega (arith, h.0), below_more m n xs le h.1)

-- another draft has taken these names more, for what it names more
pub record Steps (d e : Draft) (words : List Text) : Type 0 where
  pub names : names_of e.names ≡ names_of d.names ++ words
  pub said_more : (word : Text) → count word (said e) ≤ count word (said d) + count word words
  pub numbered : length (nets_of_ports e.ports) + length (other_nets e) ≡ length e.nets
  pub below : AreBelow (length e.nets) (nets_of_ports e.ports)
  pub places : ArePlaced (port_list e.ports) e.names
  pub few_ports : length e.ports ≤ MAX_PORTS
  pub few_nets : length e.nets ≤ MAX_NETS
  pub instances : e.instances ≡ d.instances

stepped : (room : ℕ) (more : List Text) (d e : Draft) (words : List Text) → IsSaid room more d → Steps d e words → ((word : Text) → count word (names_of d.names) + count word words ≤ 1) → IsSaid room more e
stepped room more d e words h s free = record {
  names = λ word. omega (arith, ap (count word) s.names, count-append word (names_of d.names) words, free word);
  taken = λ word. omega (arith, ap (count word) s.names, count-append word (names_of d.names) words, s.said_more word, h.taken word);
  numbered = s.numbered;
  below = s.below;
  places = s.places;
  few_ports = s.few_ports;
  few_nets = s.few_nets;
  few_instances = omega (arith, ap (λ (is : List Instance). length is) s.instances, h.few_instances);
}

-- ports that have these nets and names more
pub record PortGains (old new : List HeaderPort) (nets : List ℕ) (words : List Text) : Type 0 where
  pub any : (net : ℕ) → is_among net (nets_of_ports new) ≡ (is_among net (nets_of_ports old) || is_among net nets)
  pub len : length (nets_of_ports new) ≡ length (nets_of_ports old) + length nets
  pub below : (n : ℕ) → AreBelow n (nets_of_ports old) → AreBelow n nets → AreBelow n (nets_of_ports new)
  pub header : (word : Text) → count word (said_of_header new) ≡ count word (said_of_header old) + count word words

count_said : (word : Text) (d : Draft) → count word (said d) ≡ count word (said_of_header d.ports) + (count word (names_of_others d) + count word (names_of_instances d.instances))
count_said word d = omega (arith, count-append word (said_of_header d.ports) (names_of_others d ++ names_of_instances d.instances), count-append word (names_of_others d) (names_of_instances d.instances))

-- new nets are a port's
port_steps : (room : ℕ) (more : List Text) (d : Draft) (names : List TakenName) (bits words : List Text) (ports : List HeaderPort) → IsSaid room more d → names_of names ≡ names_of d.names ++ words
    → PortGains d.ports ports (going_up (length d.nets) (length bits)) words → ArePlaced (port_list ports) names → length ports ≤ MAX_PORTS → length d.nets + length bits ≤ MAX_NETS
    → Steps d (record d { names = names; ports = ports; nets = d.nets ++ bits }) words
port_steps room more d names bits words ports h named g placed few fits =
    let e : Draft = record d { names = names; ports = ports; nets = d.nets ++ bits } in
    let all : length (d.nets ++ bits) ≡ length d.nets + length bits = length-append d.nets bits in
    let kept : other_nets e ≡ other_nets d = ap (others_from (nets_of_ports ports) 0) all ∙ others_kept (nets_of_ports d.ports) (nets_of_ports ports) (length d.nets) (length bits) g.any in
    let same : names_of_others e ≡ names_of_others d = ap (map (name_at (d.nets ++ bits))) kept ∙ names_kept (nets_of_ports d.ports) d.nets bits in
    record {
      names = named;
      said_more = λ word. omega (arith, count_said word d, count_said word e, ap (count word) same, g.header word);
      numbered = omega (arith, all, g.len, up_length (length d.nets) (length bits), ap (λ (ns : List ℕ). length ns) kept, h.numbered);
      below = subst (λ n. AreBelow n (nets_of_ports ports)) (sym all)
          (g.below (length d.nets + length bits) (below_more (length d.nets) (length d.nets + length bits) (nets_of_ports d.ports) (omega arith) h.below) (AreBelow-count (length d.nets + length bits) (length d.nets) (length bits) (omega arith)));
      places = placed;
      few_ports = few;
      few_nets = omega (arith, all);
      instances = refl;
    }

-- new nets are no port's
wire_steps : (room : ℕ) (more : List Text) (d : Draft) (names : List TakenName) (bits words : List Text) → IsSaid room more d → names_of names ≡ names_of d.names ++ words
    → ((word : Text) → count word bits ≤ count word words) → ArePlaced (port_list d.ports) names → length d.nets + length bits ≤ MAX_NETS → Steps d (record d { names = names; nets = d.nets ++ bits }) words
wire_steps room more d names bits words h named few placed fits =
    let e : Draft = record d { names = names; nets = d.nets ++ bits } in
    let all : length (d.nets ++ bits) ≡ length d.nets + length bits = length-append d.nets bits in
    let new = going_up (length d.nets) (length bits) in
    let grown : other_nets e ≡ other_nets d ++ new = ap (others_from (nets_of_ports d.ports) 0) all ∙ others_more (nets_of_ports d.ports) (length d.nets) (length bits) h.below in
    let named_more : names_of_others e ≡ names_of_others d ++ bits =
    ap (map (name_at (d.nets ++ bits))) grown ∙ map-append (name_at (d.nets ++ bits)) (other_nets d) new ∙ ap₂ (λ xs ys. xs ++ ys) (names_kept (nets_of_ports d.ports) d.nets bits) (names_new d.nets bits) in
    record {
      names = named;
      said_more = λ word. omega (arith, count_said word d, count_said word e, ap (count word) named_more, count-append word (names_of_others d) bits, few word);
      numbered = omega (arith, all, ap (λ (ns : List ℕ). length ns) grown, length-append (other_nets d) new, up_length (length d.nets) (length bits), h.numbered);
      below = subst (λ n. AreBelow n (nets_of_ports d.ports)) (sym all) (below_more (length d.nets) (length d.nets + length bits) (nets_of_ports d.ports) (omega arith) h.below);
      places = placed;
      few_ports = h.few_ports;
      few_nets = omega (arith, all);
      instances = refl;
    }

-- ---- ports that gain nets

among_append : (net : ℕ) (xs ys : List ℕ) → is_among net (xs ++ ys) ≡ (is_among net xs || is_among net ys)
among_append net xs ys = list_any-append _ xs ys

-- a port in front stays
gains_cons : (p : HeaderPort) (old new : List HeaderPort) (nets : List ℕ) (words : List Text) → PortGains old new nets words → PortGains (p ∷ old) (p ∷ new) nets words
gains_cons p old new nets words g =
    let mine = nets_of_port p.declared in
    let own = said_of_port p.name p.declared in
    record {
      any = λ net.
          among_append net mine (nets_of_ports new)
          ∙ ap (λ b. is_among net mine || b) (g.any net)
          ∙ sym (or_assoc (is_among net mine) (is_among net (nets_of_ports old)) (is_among net nets))
          ∙ ap (λ b. b || is_among net nets) (sym (among_append net mine (nets_of_ports old)));
      len = omega (arith, length-append mine (nets_of_ports new), length-append mine (nets_of_ports old), g.len);
      below = λ n was come. let parts = below_parts n mine (nets_of_ports old) was in AreBelow-append n mine (nets_of_ports new) parts.0 (g.below n parts.1 come);
      header = λ word. omega (arith, count-append word own (said_of_header new), count-append word own (said_of_header old), g.header word);
    } where
      below_parts : (n : ℕ) (xs ys : List ℕ) → AreBelow n (xs ++ ys) → AreBelow n xs × AreBelow n ys
      below_parts n [] ys h = (tt, h)
      below_parts n (x ∷ xs) ys h = let r = below_parts n xs ys h.1 in ((h.0, r.0), r.1)

abbrev pub port_named : Text → Option Declared → HeaderPort
port_named word declared = record { name = word; declared = declared }

-- a port at the end
gains_push : (ports : List HeaderPort) (word : Text) (declared : Option Declared) → PortGains ports (ports ++ port_named word declared ∷ []) (nets_of_port declared) (said_of_port word declared)
gains_push [] word declared = record {
  any = λ net. ap (is_among net) (append-nil (nets_of_port declared));
  len = omega (arith, ap (λ (ns : List ℕ). length ns) (append-nil (nets_of_port declared)));
  below = λ n was come. subst (AreBelow n) (sym (append-nil (nets_of_port declared))) come;
  header = λ at. omega (arith, ap (count at) (append-nil (said_of_port word declared)));
}
gains_push (p ∷ ps) word declared = gains_cons p ps (ps ++ port_named word declared ∷ []) (nets_of_port declared) (said_of_port word declared) (gains_push ps word declared)

port_names-is : (word : Text) (range : Option Range) → port_names word range ≡ word ∷ names_of_bits word range
port_names-is word None = refl
port_names-is word (Some r) = refl

-- a port that had no nets has some
gains_here : (p : HeaderPort) (ps : List HeaderPort) (word : Text) (declared : Declared) → p.name ≡ word → p.declared ≡ None
    → PortGains (p ∷ ps) (port_named word (Some declared) ∷ ps) (nets_of_port (Some declared)) (names_of_bits word declared.shape.range)
gains_here p ps word declared named none =
    let mine = nets_of_port (Some declared) in
    let rest = nets_of_ports ps in
    let was : nets_of_port p.declared ++ rest ≡ rest = ap (λ o. nets_of_port o ++ rest) none in
    let own : said_of_port p.name p.declared ≡ word ∷ [] = ap₂ said_of_port named none in
    record {
      any = λ net. among_append net mine rest ∙ or_comm (is_among net mine) (is_among net rest) ∙ ap (λ ns. is_among net ns || is_among net mine) (sym was);
      len = omega (arith, length-append mine rest, ap (λ (ns : List ℕ). length ns) was);
      below = λ n before come. AreBelow-append n mine rest come (subst (AreBelow n) was before);
      header = λ at. omega (
        arith,
        count-append at (said_of_port p.name p.declared) (said_of_header ps),
        ap (count at) own,
        count-append at (port_names word declared.shape.range) (said_of_header ps),
        ap (count at) (port_names-is word declared.shape.range),
      );
    }

gains_set : (ports : List HeaderPort) (place : ℕ) (word : Text) (declared : Declared) → slice_get (port_list ports) place ≡ Some word → option_and_then (λ (p : HeaderPort). p.declared) (slice_get ports place) ≡ None
    → PortGains ports (set ports place (port_named word (Some declared))) (nets_of_port (Some declared)) (names_of_bits word declared.shape.range)
gains_set [] place word declared named none = absurd (cc)
gains_set (p ∷ ps) zero word declared named none = let same : p.name ≡ word = cc in gains_here p ps word declared same none
gains_set (p ∷ ps) (suc place) word declared named none =
    gains_cons p ps (set ps place (port_named word (Some declared))) (nets_of_port (Some declared)) (names_of_bits word declared.shape.range) (gains_set ps place word declared named none)

-- a port that is repeated has its nets and names
repeat_here : (p : HeaderPort) (ps : List HeaderPort) (word : Text) (declared : Declared) (repeated : Bool) → p.name ≡ word → p.declared ≡ Some declared
    → (nets_of_ports (port_named word (Some (record declared { repeated = repeated })) ∷ ps) ≡ nets_of_ports (p ∷ ps)) × (said_of_header (port_named word (Some (record declared { repeated = repeated })) ∷ ps) ≡ said_of_header (p ∷ ps))
repeat_here p ps word declared repeated named was =
    (ap (λ o. nets_of_port o ++ nets_of_ports ps) (sym was), ap₂ (λ w o. said_of_port w o ++ said_of_header ps) (sym named) (sym was))

repeat_set : (ports : List HeaderPort) (place : ℕ) (word : Text) (declared : Declared) (repeated : Bool) → slice_get (port_list ports) place ≡ Some word → option_and_then (λ (p : HeaderPort). p.declared) (slice_get ports place) ≡ Some declared
    → (nets_of_ports (set ports place (port_named word (Some (record declared { repeated = repeated })))) ≡ nets_of_ports ports) × (said_of_header (set ports place (port_named word (Some (record declared { repeated = repeated })))) ≡ said_of_header ports)
repeat_set [] place word declared repeated named was = absurd (cc)
repeat_set (p ∷ ps) zero word declared repeated named was = let same : p.name ≡ word = cc in repeat_here p ps word declared repeated same was
repeat_set (p ∷ ps) (suc place) word declared repeated named was =
    let r = repeat_set ps place word declared repeated named was in
    (ap (λ ns. nets_of_port p.declared ++ ns) r.0, ap (λ ws. said_of_port p.name p.declared ++ ws) r.1)

-- ---- places of ports

set_same : (xs : List Text) (k : ℕ) (x : Text) → slice_get xs k ≡ Some x → set xs k x ≡ xs
set_same [] k x h = absurd (cc)
set_same (y ∷ ys) zero x h = let same : x ≡ y = cc in ap (λ w. w ∷ ys) same
set_same (y ∷ ys) (suc k) x h = ap (λ ws. y ∷ ws) (set_same ys k x h)

-- a port that keeps its name
pub list_set : (ports : List HeaderPort) (place : ℕ) (word : Text) (declared : Option Declared) → slice_get (port_list ports) place ≡ Some word → port_list (set ports place (port_named word declared)) ≡ port_list ports
list_set ports place word declared named = map-set (λ (p : HeaderPort). p.name) ports place (port_named word declared) ∙ set_same (port_list ports) place word named

get_left : (xs ys : List Text) (k : ℕ) (x : Text) → slice_get xs k ≡ Some x → slice_get (xs ++ ys) k ≡ Some x
get_left [] ys k x h = absurd (cc)
get_left (y ∷ xs) ys zero x h = h
get_left (y ∷ xs) ys (suc k) x h = get_left xs ys k x h

pub get_last : (xs : List Text) (x : Text) → slice_get (xs ++ x ∷ []) (length xs) ≡ Some x
get_last [] x = refl
get_last (y ∷ xs) x = get_last xs x

pub placed_left : (ports more : List Text) (entries : List TakenName) → ArePlaced ports entries → ArePlaced (ports ++ more) entries
placed_left ports more [] h = tt
placed_left ports more (e ∷ es) h = (one e.name e.meaning h.0, placed_left ports more es h.1) where
  one : (word : Text) (m : Meaning) → HasPort ports word m → HasPort (ports ++ more) word m
  one word (meaning.Port place) h = get_left ports more place word h
  one word (meaning.Nets shape) h = tt
  one word meaning.Bit h = tt
  one word meaning.Instance h = tt

pub placed_append : (ports : List Text) (xs ys : List TakenName) → ArePlaced ports xs → ArePlaced ports ys → ArePlaced ports (xs ++ ys)
placed_append ports [] ys hx hy = hy
placed_append ports (x ∷ xs) ys hx hy = (hx.0, placed_append ports xs ys hx.1 hy)

pub placed_bits : (ports words : List Text) → ArePlaced ports (map taken_bit words)
placed_bits ports [] = tt
placed_bits ports (word ∷ words) = (tt, placed_bits ports words)

place_by : (b : Bool) (ports : List Text) (e : TakenName) (rest : Option TakenName) (word : Text) (place : ℕ) → (b ≡ true → e.name ≡ word) → HasPort ports e.name e.meaning
    → (option_map (λ (e : TakenName). e.meaning) rest ≡ Some (meaning.Port place) → slice_get ports place ≡ Some word) → option_map (λ (e : TakenName). e.meaning) (cond b (Some e) rest) ≡ Some (meaning.Port place) → slice_get ports place ≡ Some word
place_by false ports e rest word place is here more h = more h
place_by true ports e rest word place is here more h =
    let stands : e.meaning ≡ meaning.Port place = cc in
    subst (λ m. HasPort ports word m) stands (subst (λ w. HasPort ports w e.meaning) (is refl) here)

-- the port that a name stands for has the name
pub place_found : (ports : List Text) (entries : List TakenName) (word : Text) (place : ℕ) → ArePlaced ports entries
    → option_map (λ (e : TakenName). e.meaning) (find (λ (e : TakenName). bytes_eq e.name word) entries) ≡ Some (meaning.Port place) → slice_get ports place ≡ Some word
place_found ports [] word place placed h = absurd (cc)
place_found ports (e ∷ es) word place placed h =
    place_by (bytes_eq e.name word) ports e (find (λ (e : TakenName). bytes_eq e.name word) es) word place (same_text e.name word) placed.0 (place_found ports es word place placed.1) h

-- ---- names of bits

-- an index fits in two bytes
abbrev pub IsShort : Option Range → Type 0
IsShort None = Unit {0}
IsShort (Some r) = (r.left < 2 ^ 16) × (r.right < 2 ^ 16)

bits_apart : (word : Text) (range : Option Range) → IsShort range → AreApart (names_of_bits word range)
bits_apart word None h = tt
bits_apart word (Some r) h = (bit_names-apart word r h.0 h.1).1

word_apart : (word : Text) (range : Option Range) → IsShort range → AreApart (word ∷ names_of_bits word range)
word_apart word None h = (tt, tt)
word_apart word (Some r) h = bit_names-apart word r h.0 h.1

bits_few : (word : Text) (range : Option Range) (at : Text) → count at (bit_names word range) ≤ count at (word ∷ names_of_bits word range)
bits_few word None at = omega arith
bits_few word (Some r) at = omega arith

pub with_bits-is : (words : List Text) (d : Draft) → with_bits words d ≡ record d { names = d.names ++ map taken_bit words }
with_bits-is [] d = ap (λ (names : List TakenName). record d { names = names }) (sym (append-nil d.names))
with_bits-is (word ∷ words) d =
    with_bits-is words (with_name word meaning.Bit d) ∙ ap (λ (names : List TakenName). record d { names = names }) (append_assoc d.names (taken_bit word ∷ []) (map taken_bit words))

names_of_bit_entries : (words : List Text) → names_of (map taken_bit words) ≡ words
names_of_bit_entries [] = refl
names_of_bit_entries (word ∷ words) = ap (λ ws. word ∷ ws) (names_of_bit_entries words)

bits_behind : (entries : List TakenName) (words : List Text) → names_of (entries ++ map taken_bit words) ≡ names_of entries ++ words
bits_behind entries words = map-append (λ (e : TakenName). e.name) entries (map taken_bit words) ∙ ap (λ ws. names_of entries ++ ws) (names_of_bit_entries words)

one_behind : (entries : List TakenName) (e : TakenName) → names_of (entries ++ e ∷ []) ≡ names_of entries ++ e.name ∷ []
one_behind entries e = map-append (λ (e : TakenName). e.name) entries (e ∷ [])

word_behind : (entries : List TakenName) (e : TakenName) (words : List Text) → names_of ((entries ++ e ∷ []) ++ map taken_bit words) ≡ names_of entries ++ (e.name ∷ words)
word_behind entries e words =
    bits_behind (entries ++ e ∷ []) words ∙ ap (λ ws. ws ++ words) (one_behind entries e) ∙ append_assoc (names_of entries) (e.name ∷ []) words

-- ---- declarations

-- what passes its tests
tested : (P : Draft → Type 0) (t u v : Bool) (o : Option Text) (f g i : Fault) (place : ℕ) (new : Draft) → (t ≡ false → o ≡ None → u ≡ false → v ≡ false → P new) → Gives P (cond t (Err f) (free_bits place o (cond u (Err g) (cond v (Err i) (Ok new)))))
tested P true u v o f g i place new k = tt
tested P false u v (Some w) f g i place new k = tt
tested P false true v None f g i place new k = tt
tested P false false true None f g i place new k = tt
tested P false false false None f g i place new k = k refl refl refl refl

room_by : (word : Text) (range : Option Range) (d : Draft) → nat_lt MAX_NETS (length d.nets + net_count range) ≡ false → length d.nets + length (bit_names word range) ≤ MAX_NETS
room_by word range d h = let count = length-bit_names word range in let fits : length d.nets + net_count range ≤ MAX_NETS = below_limit (length d.nets + net_count range) h in omega (arith, count, fits) where
  below_limit : (n : ℕ) → nat_lt MAX_NETS n ≡ false → n ≤ MAX_NETS
  below_limit n h = grind (arith, nat_tests)

abbrev pub entry : Text → Meaning → TakenName
entry word meant = record { name = word; meaning = meant }

pub nets_said : (room : ℕ) (more : List Text) (place : ℕ) (word : Text) (range : Option Range) (d : Draft) → IsSaid room more d → IsShort range → Gives (IsSaid room more) (declare_nets place word range d)
nets_said room more place word range d h short =
    let bits = bit_names word range in
    let ws = names_of_bits word range in
    let own = entry word (meaning.Nets (next_shape d range)) in
    let names = (d.names ++ own ∷ []) ++ map taken_bit ws in
    tested (IsSaid room more) (is_taken d word) false (nat_lt MAX_NETS (length d.nets + net_count range)) (first_taken d ws) (fault (cause.Taken word) place) (fault (cause.Taken word) place) (fault (cause.Full counted.Nets) place) place
    (with_nets word range (with_name word (meaning.Nets (next_shape d range)) d))
    (λ free none yes fits.
    subst (IsSaid room more) (sym (with_bits-is ws (record d { names = d.names ++ own ∷ []; nets = d.nets ++ bits })))
    (stepped room more d (record d { names = names; nets = d.nets ++ bits }) (word ∷ ws) h
    (wire_steps room more d names bits (word ∷ ws) h (word_behind d.names own ws) (bits_few word range)
    (placed_append (port_list d.ports) (d.names ++ own ∷ []) (map taken_bit ws) (placed_append (port_list d.ports) d.names (own ∷ []) h.places (tt, tt)) (placed_bits (port_list d.ports) ws))
    (room_by word range d fits))
    (free_once d (word ∷ ws) h.names (free, first_taken-none d ws none) (word_apart word range short))))

ports_by : (n : ℕ) → nat_le MAX_PORTS n ≡ false → n + 1 ≤ MAX_PORTS
ports_by n h = grind (arith, nat_tests)

-- a new port, declared or not
push_said : (room : ℕ) (more : List Text) (d : Draft) (word : Text) (declared : Option Declared) (bits ws : List Text) → IsSaid room more d → said_of_port word declared ≡ word ∷ ws → nets_of_port declared ≡ going_up (length d.nets) (length bits)
    → nat_le MAX_PORTS (length d.ports) ≡ false → length d.nets + length bits ≤ MAX_NETS → AreFreeIn d (word ∷ ws) → AreApart (word ∷ ws)
    → IsSaid room more (record d { names = (d.names ++ entry word (meaning.Port (length d.ports)) ∷ []) ++ map taken_bit ws; ports = d.ports ++ port_named word declared ∷ []; nets = d.nets ++ bits })
push_said room more d word declared bits ws h own nets few fits free apart =
    let ports = d.ports ++ port_named word declared ∷ [] in
    let mine = entry word (meaning.Port (length d.ports)) in
    let names = (d.names ++ mine ∷ []) ++ map taken_bit ws in
    let listed : port_list ports ≡ port_list d.ports ++ word ∷ [] = map-append (λ (p : HeaderPort). p.name) d.ports (port_named word declared ∷ []) in
    let last : slice_get (port_list d.ports ++ word ∷ []) (length d.ports) ≡ Some word = subst (λ k. slice_get (port_list d.ports ++ word ∷ []) k ≡ Some word) (length-map d.ports (λ (p : HeaderPort). p.name)) (get_last (port_list d.ports) word) in
    let gains : PortGains d.ports ports (going_up (length d.nets) (length bits)) (word ∷ ws) = subst (λ ns. PortGains d.ports ports ns (word ∷ ws)) nets (subst (PortGains d.ports ports (nets_of_port declared)) own (gains_push d.ports word declared)) in
    let placed : ArePlaced (port_list d.ports ++ word ∷ []) names =
    placed_append (port_list d.ports ++ word ∷ []) (d.names ++ mine ∷ []) (map taken_bit ws)
    (placed_append (port_list d.ports ++ word ∷ []) d.names (mine ∷ []) (placed_left (port_list d.ports) (word ∷ []) d.names h.places) (last, tt)) (placed_bits (port_list d.ports ++ word ∷ []) ws) in
    stepped room more d (record d { names = names; ports = ports; nets = d.nets ++ bits }) (word ∷ ws) h
    (port_steps room more d names bits (word ∷ ws) ports h (word_behind d.names mine ws) gains (subst (λ ps. ArePlaced ps names) (sym listed) placed)
    (omega (arith, length-append d.ports (port_named word declared ∷ []), ports_by (length d.ports) few)) fits)
    (free_once d (word ∷ ws) h.names free apart)

pub announce_said : (room : ℕ) (more : List Text) (place : ℕ) (word : Text) (d : Draft) → IsSaid room more d → Gives (IsSaid room more) (announce place word d)
announce_said room more place word d h =
    let mine = entry word (meaning.Port (length d.ports)) in
    let ports = d.ports ++ port_named word None ∷ [] in
    tested (IsSaid room more) (is_taken d word) false (nat_le MAX_PORTS (length d.ports)) None (fault (cause.Taken word) place) (fault (cause.Taken word) place) (fault (cause.Full counted.Ports) place) place
    (with_name word (meaning.Port (length d.ports)) (record d { ports = ports }))
    (λ free none yes few.
    subst (λ (names : List TakenName). IsSaid room more (record d { names = names; ports = ports })) (append-nil (d.names ++ mine ∷ []))
    (subst (λ (nets : List Text). IsSaid room more (record d { names = (d.names ++ mine ∷ []) ++ []; ports = ports; nets = nets })) (append-nil d.nets)
    (push_said room more d word None [] [] h refl refl few (omega (arith, h.few_nets)) (free, tt) (tt, tt))))

shape_nets : (word : Text) (dir : Dir) (range : Option Range) (d : Draft) → nets_of_port (Some (record { dir = dir; shape = next_shape d range; repeated = false })) ≡ going_up (length d.nets) (length (bit_names word range))
shape_nets word dir range d = ap (λ n. going_up (length d.nets) n) (sym (length-bit_names word range))

abbrev facing : Dir → Option Range → Draft → Declared
facing dir range d = record { dir = dir; shape = next_shape d range; repeated = false }

pub new_port_said : (room : ℕ) (more : List Text) (place : ℕ) (word : Text) (dir : Dir) (range : Option Range) (d : Draft) → IsSaid room more d → IsShort range → Gives (IsSaid room more) (declare_new_port place word dir range d)
new_port_said room more place word dir range d h short =
    let bits = bit_names word range in
    let ws = names_of_bits word range in
    let mine = entry word (meaning.Port (length d.ports)) in
    let ports = d.ports ++ port_named word (Some (facing dir range d)) ∷ [] in
    tested (IsSaid room more) (is_taken d word) (nat_le MAX_PORTS (length d.ports)) (nat_lt MAX_NETS (length d.nets + net_count range)) (first_taken d ws) (fault (cause.Taken word) place) (fault (cause.Full counted.Ports) place) (fault (cause.Full counted.Nets) place) place
    (with_nets word range (with_name word (meaning.Port (length d.ports)) (record d { ports = ports })))
    (λ free none few fits.
    subst (IsSaid room more) (sym (with_bits-is ws (record d { names = d.names ++ mine ∷ []; ports = ports; nets = d.nets ++ bits })))
    (push_said room more d word (Some (facing dir range d)) bits ws h (port_names-is word range) (shape_nets word dir range d) few (room_by word range d fits) (free, first_taken-none d ws none) (word_apart word range short)))

none_of : (o : Option Declared) → is_some o ≡ false → o ≡ None
none_of None h = refl
none_of (Some a) h = absurd (cc)

-- a port of the header is declared
at_said : (room : ℕ) (more : List Text) (place : ℕ) (word : Text) (dir : Dir) (range : Option Range) (port : ℕ) (d : Draft) → IsSaid room more d → IsShort range → meaning_of d word ≡ Some (meaning.Port port)
    → Gives (IsSaid room more) (declare_found place word dir range d (Some port))
at_said room more place word dir range port d h short stands =
    let bits = bit_names word range in
    let ws = names_of_bits word range in
    let ports = set d.ports port (port_named word (Some (facing dir range d))) in
    let names = d.names ++ map taken_bit ws in
    let named = place_found (port_list d.ports) d.names word port h.places stands in
    let listed = list_set d.ports port word (Some (facing dir range d)) named in
    tested (IsSaid room more) (is_some (declared_at d port)) false (nat_lt MAX_NETS (length d.nets + net_count range)) (first_taken d ws) (fault (cause.Taken word) place) (fault (cause.Taken word) place) (fault (cause.Full counted.Nets) place) place
    (with_nets word range (with_declared port word (facing dir range d) d))
    (λ unset none yes fits.
    subst (IsSaid room more) (sym (with_bits-is ws (record d { ports = ports; nets = d.nets ++ bits })))
    (stepped room more d (record d { names = names; ports = ports; nets = d.nets ++ bits }) ws h
    (port_steps room more d names bits ws ports h (bits_behind d.names ws)
    (subst (λ ns. PortGains d.ports ports ns ws) (shape_nets word dir range d) (gains_set d.ports port word (facing dir range d) named (none_of (declared_at d port) unset)))
    (subst (λ ps. ArePlaced ps names) (sym listed) (placed_append (port_list d.ports) d.names (map taken_bit ws) h.places (placed_bits (port_list d.ports) ws)))
    (omega (arith, length-set d.ports port (port_named word (Some (facing dir range d))), h.few_ports)) (room_by word range d fits))
    (free_once d ws h.names (first_taken-none d ws none) (bits_apart word range short))))

-- by what a name stands for
port_by : (room : ℕ) (more : List Text) (place : ℕ) (word : Text) (dir : Dir) (range : Option Range) (d : Draft) (m : Option Meaning) → IsSaid room more d → IsShort range → meaning_of d word ≡ m → Gives (IsSaid room more) (declare_found place word dir range d (port_place m))
port_by room more place word dir range d None h short e = tt
port_by room more place word dir range d (Some (meaning.Port port)) h short e = at_said room more place word dir range port d h short e
port_by room more place word dir range d (Some (meaning.Nets shape)) h short e = tt
port_by room more place word dir range d (Some meaning.Bit) h short e = tt
port_by room more place word dir range d (Some meaning.Instance) h short e = tt

pub port_said : (room : ℕ) (more : List Text) (place : ℕ) (word : Text) (dir : Dir) (range : Option Range) (d : Draft) → IsSaid room more d → IsShort range → Gives (IsSaid room more) (declare_port place word dir range d)
port_said room more place word dir range d h short = port_by room more place word dir range d (meaning_of d word) h short refl

-- a `wire` that repeats a port adds nothing
repeated_said : (room : ℕ) (more : List Text) (word : Text) (port : ℕ) (declared : Declared) (d : Draft) → IsSaid room more d → slice_get (port_list d.ports) port ≡ Some word → declared_at d port ≡ Some declared
    → IsSaid room more (with_declared port word (record declared { repeated = true }) d)
repeated_said room more word port declared d h named was =
    let ports = set d.ports port (port_named word (Some (record declared { repeated = true }))) in
    let e : Draft = record d { ports = ports } in
    let same = repeat_set d.ports port word declared true named was in
    let others : other_nets e ≡ other_nets d = ap (λ ns. others_from ns 0 (length d.nets)) same.0 in
    let listed = list_set d.ports port word (Some (record declared { repeated = true })) named in
    record {
      names = h.names;
      taken = λ at. omega (arith, count_said at d, count_said at e, ap (count at) same.1, ap (λ ns. count at (map (name_at d.nets) ns)) others, h.taken at);
      numbered = omega (arith, ap (λ (ns : List ℕ). length ns) same.0, ap (λ (ns : List ℕ). length ns) others, h.numbered);
      below = subst (AreBelow (length d.nets)) (sym same.0) h.below;
      places = subst (λ ps. ArePlaced ps d.names) (sym listed) h.places;
      few_ports = omega (arith, length-set d.ports port (port_named word (Some (record declared { repeated = true }))), h.few_ports);
      few_nets = h.few_nets;
      few_instances = h.few_instances;
    }

repeat_by : (room : ℕ) (more : List Text) (b : Bool) (f : Fault) (new : Draft) → IsSaid room more new → Gives (IsSaid room more) (cond b (Ok new) (Err f))
repeat_by room more true f new h = h
repeat_by room more false f new h = tt

repeat_said : (room : ℕ) (more : List Text) (place : ℕ) (word : Text) (range : Option Range) (d : Draft) (port : ℕ) (declared : Option Declared) → IsSaid room more d → slice_get (port_list d.ports) port ≡ Some word → declared_at d port ≡ declared
    → Gives (IsSaid room more) (repeat_port place word range d port declared)
repeat_said room more place word range d port None h named was = tt
repeat_said room more place word range d port (Some declared) h named was =
    repeat_by room more (same_range declared.shape.range range && not declared.repeated) (fault (cause.Taken word) place) (with_declared port word (record declared { repeated = true }) d) (repeated_said room more word port declared d h named was)

wire_by : (room : ℕ) (more : List Text) (place : ℕ) (word : Text) (range : Option Range) (d : Draft) (m : Option Meaning) → IsSaid room more d → IsShort range → meaning_of d word ≡ m → Gives (IsSaid room more) (declare_wire_as place word range d (port_place m))
wire_by room more place word range d None h short e = nets_said room more place word range d h short
wire_by room more place word range d (Some (meaning.Port port)) h short e = repeat_said room more place word range d port (declared_at d port) h (place_found (port_list d.ports) d.names word port h.places e) refl
wire_by room more place word range d (Some (meaning.Nets shape)) h short e = nets_said room more place word range d h short
wire_by room more place word range d (Some meaning.Bit) h short e = nets_said room more place word range d h short
wire_by room more place word range d (Some meaning.Instance) h short e = nets_said room more place word range d h short

pub wire_said : (room : ℕ) (more : List Text) (place : ℕ) (word : Text) (range : Option Range) (d : Draft) → IsSaid room more d → IsShort range → Gives (IsSaid room more) (declare_wire place word range d)
wire_said room more place word range d h short = wire_by room more place word range d (meaning_of d word) h short refl

-- ---- instances

instances_by : (n : ℕ) → nat_le MAX_INSTANCES n ≡ false → n + 1 ≤ MAX_INSTANCES
instances_by n h = grind (arith, nat_tests)

-- an instance's name is taken before the instance is there
pub name_said : (place : ℕ) (word : Text) (d : Draft) → IsSaid 0 [] d → Gives (IsSaid 1 (word ∷ [])) (name_instance place word d)
name_said place word d h =
    let mine = entry word meaning.Instance in
    tested (IsSaid 1 (word ∷ [])) (is_taken d word) false (nat_le MAX_INSTANCES (length d.instances)) None (fault (cause.Taken word) place) (fault (cause.Taken word) place) (fault (cause.Full counted.Instances) place) place (with_name word meaning.Instance d)
    (λ free none yes few.
    record {
      names = λ at. omega (arith, ap (count at) (one_behind d.names mine), count-append at (names_of d.names) (word ∷ []), free_once d (word ∷ []) h.names (free, tt) (tt, tt) at);
      taken = λ at. omega (arith, ap (count at) (one_behind d.names mine), count-append at (names_of d.names) (word ∷ []), h.taken at);
      numbered = h.numbered;
      below = h.below;
      places = placed_append (port_list d.ports) d.names (mine ∷ []) h.places (tt, tt);
      few_ports = h.few_ports;
      few_nets = h.few_nets;
      few_instances = instances_by (length d.instances) few;
    })

-- the name of a module instance is taken, and no instance is read
pub sub_said : (place : ℕ) (word : Text) (d : Draft) → IsSaid 0 [] d → Gives (IsSaid 0 []) (name_sub place word d)
sub_said place word d h =
    let mine = entry word meaning.Instance in
    tested (IsSaid 0 []) (is_taken d word) false false None (fault (cause.Taken word) place) (fault (cause.Taken word) place) (fault (cause.Taken word) place) place (with_name word meaning.Instance d)
    (λ free none yes no.
    record {
      names = λ at. omega (arith, ap (count at) (one_behind d.names mine), count-append at (names_of d.names) (word ∷ []), free_once d (word ∷ []) h.names (free, tt) (tt, tt) at);
      taken = λ at. omega (arith, ap (count at) (one_behind d.names mine), count-append at (names_of d.names) (word ∷ []), h.taken at);
      numbered = h.numbered;
      below = h.below;
      places = placed_append (port_list d.ports) d.names (mine ∷ []) h.places (tt, tt);
      few_ports = h.few_ports;
      few_nets = h.few_nets;
      few_instances = h.few_instances;
    })

pub room_said : (place : ℕ) (d : Draft) → IsSaid 0 [] d → Gives (IsSaid 1 []) (room_for_instance place d)
room_said place d h =
    tested (IsSaid 1 []) (nat_le MAX_INSTANCES (length d.instances)) false false None (fault (cause.Full counted.Instances) place) (fault (cause.Full counted.Instances) place) (fault (cause.Full counted.Instances) place) place d
    (λ few none yes no. record {
      names = h.names;
      taken = h.taken;
      numbered = h.numbered;
      below = h.below;
      places = h.places;
      few_ports = h.few_ports;
      few_nets = h.few_nets;
      few_instances = instances_by (length d.instances) few;
    })

instances_push : (is : List Instance) (i : Instance) (word : Text) → count word (names_of_instances (is ++ i ∷ [])) ≡ count word (names_of_instances is) + count word (own_names i.name)
instances_push [] i word = omega (arith, ap (count word) (append-nil (own_names i.name)))
instances_push (first ∷ is) i word = omega (arith, count-append word (own_names first.name) (names_of_instances (is ++ i ∷ [])), count-append word (own_names first.name) (names_of_instances is), instances_push is i word)

-- and then it is
pub instance_said : (i : Instance) (d : Draft) → IsSaid 1 (own_names i.name) d → IsSaid 0 [] (with_instance i d)
instance_said i d h = record {
  names = h.names;
  taken = λ at. omega (arith, count_said at d, count_said at (with_instance i d), instances_push d.instances i at, h.taken at);
  numbered = h.numbered;
  below = h.below;
  places = h.places;
  few_ports = h.few_ports;
  few_nets = h.few_nets;
  few_instances = omega (arith, length-append d.instances (i ∷ []), h.few_instances);
}
