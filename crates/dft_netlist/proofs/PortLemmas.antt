-- A netlist with one port more stays sound.
use Rattle.std.proofs.Common.{◌≡◌, ℕ, zero, suc, ◌+◌, ◌<◌, ◌≤◌, List, [], ◌∷◌, ◌++◌, length, Option, None, Some, refl, sym, ◌∙◌, ap, subst, arith, ◌⊎◌, inl, inr, append_assoc, append-nil, length-append}
use Rattle.dft_netlist.specs.declared.ids.NetId.{NetId}
use Rattle.dft_netlist.specs.declared.named.Named.{Named}
use Rattle.dft_netlist.specs.declared.named.Named.TheVariants.{Net as ANet, Vector, Instance as AnInstance}
use Rattle.dft_netlist.specs.declared.port.Port.{Port}
use Rattle.dft_netlist.specs.declared.limits.TheConstants.{MAX_PORTS, MAX_NETS}
use Rattle.dft_netlist.specs.Netlist.{Netlist}
use Rattle.dft_base.specs.Name.{IsName}
use Rattle.dft_netlist.specs.Names.{HasNames, IsShortRange, Names, vector_name, bit_names}
use Rattle.dft_netlist.specs.NameTables.{Entry, Knows, own_entries, net_entries, AreNew, IsFree}
use Rattle.dft_netlist.specs.NetNumbers.{nets_from}
use Rattle.dft_netlist.specs.Sound.{IsNetlist, HasOnlyPorts, Begins, bits_of, bit_names_of}
use Rattle.dft_base.specs.Lexing.{Text}
use Rattle.dft_netlist.proofs.BitLemmas.{bits_are_names}
use Rattle.dft_netlist.proofs.Places.{each_both, push_cases, shown_left, shown_push, shown_cases}
use Rattle.dft_netlist.proofs.NamesLemmas.{Adds, SameNames, knows_more, knows_same, differ_of}
use Rattle.dft_netlist.proofs.NewNames.{first_new, others_new}
use Rattle.dft_netlist.proofs.SoundLemmas.{with_net, net_number, net_knows, instance_more, join_more}
use Rattle.dft_netlist.proofs.LiveLemmas.{AreWide}

-- ---- the port's own name

abbrev pub with_port : Netlist → Port → Netlist
with_port n port = record n { ports = n.ports ++ port ∷ [] }

abbrev pub vector_number : ℕ → Named
vector_number k = Vector (record { 0 = k })

port_kept : (n : Netlist) (port : Port) (q : Text) (a : Named) → Names n q a → Names (with_port n port) q a
port_kept n port q (ANet net) h = h
port_kept n port q (Vector other) h = shown_left vector_name n.ports (port ∷ []) other.0 q h
port_kept n port q (AnInstance id) h = h

vector_adds : (n : Netlist) (port : Port) (name : Text) → vector_name port ≡ Some name → Adds n (with_port n port) name (vector_number (length n.ports))
vector_adds n port name is = record { kept = port_kept n port; only = only; here = shown_push vector_name n.ports port ∙ is }
  where
    only : (q : Text) (a : Named) → Names (with_port n port) q a → Names n q a ⊎ ((q ≡ name) × (vector_number (length n.ports) ≡ a))
    only q (ANet net) h = inl h
    only q (AnInstance id) h = inl h
    only q (Vector other) h = elim (shown_cases vector_name n.ports port other.0 q h) [
      | inl was ↦ inl was
      | inr new ↦ (let e : Some name ≡ Some q = sym is ∙ new.1 in inr (cc, ap vector_number (sym new.0)))
    ]

scalar_names : (n : Netlist) (port : Port) → vector_name port ≡ None → SameNames n (with_port n port)
scalar_names n port is = record { kept = port_kept n port; only = only }
  where
    only : (q : Text) (a : Named) → Names (with_port n port) q a → Names n q a
    only q (ANet net) h = h
    only q (AnInstance id) h = h
    only q (Vector other) h = elim (shown_cases vector_name n.ports port other.0 q h) [
      | inl was ↦ was
      | inr new ↦ (let e : Some q ≡ None = sym new.1 ∙ is in absurd (let f : ⊥ = cc in f))
    ]

pub port_knows : (es : List Entry) (n : Netlist) (port : Port) (name : Option Text) → vector_name port ≡ name → Knows es n → IsFree es name → Knows (es ++ own_entries name (vector_number (length n.ports))) (with_port n port)
port_knows es n port None is k free = rw (append-nil es) (knows_same es n (with_port n port) k (scalar_names n port is))
port_knows es n port (Some q) is k free = knows_more es n (with_port n port) q (vector_number (length n.ports)) k free (vector_adds n port q is)

-- ---- the nets of its bits

abbrev pub with_nets : Netlist → List Text → Netlist
with_nets n names = record n { nets = n.nets ++ names }

pub nets_know : (es : List Entry) (n : Netlist) (from : ℕ) (names : List Text) → length n.nets ≡ from → Knows es n → AreNew es names → Knows (es ++ net_entries from names) (with_nets n names)
nets_know es n from [] is k new = rw (append-nil es, append-nil n.nets) k
nets_know es n from (q ∷ qs) is k new =
    let known = rw is at (net_knows es n q k (first_new es q qs new)) in
    let more = nets_know (es ++ (q, net_number from) ∷ []) (with_net n q) (suc from) qs (omega (arith, length-append n.nets (q ∷ []))) known (others_new es q qs (net_number from) new) in
    rw (append_assoc es ((q, net_number from) ∷ []) (net_entries (suc from) qs), append_assoc n.nets (q ∷ []) qs) at more

-- ---- the numbers of its bits

pub bits_of-push : (ports : List Port) (port : Port) → bits_of (ports ++ port ∷ []) ≡ bits_of ports ++ port.bits
bits_of-push [] port = append-nil port.bits
bits_of-push (p ∷ ports) port = rw (bits_of-push ports port) (sym (append_assoc p.bits (bits_of ports) port.bits))

pub bit_names_of-push : (ports : List Port) (port : Port) → bit_names_of (ports ++ port ∷ []) ≡ bit_names_of ports ++ bit_names port.name port.range
bit_names_of-push [] port = append-nil (bit_names port.name port.range)
bit_names_of-push (p ∷ ports) port = rw (bit_names_of-push ports port) (sym (append_assoc (bit_names p.name p.range) (bit_names_of ports) (bit_names port.name port.range)))

pub nets_from-length : (from count : ℕ) → length (nets_from from count) ≡ count
nets_from-length from zero = refl
nets_from-length from (suc count) = ap suc (nets_from-length (suc from) count)

nets_from-append : (from a b whole next : ℕ) → whole ≡ a + b → next ≡ from + a → nets_from from whole ≡ nets_from from a ++ nets_from next b
nets_from-append from zero b whole next sum at = let e : whole ≡ b = omega arith in let f : next ≡ from = omega arith in rw (e, f) refl
nets_from-append from (suc a) b zero next sum at = absurd (omega arith)
nets_from-append from (suc a) b (suc whole) next sum at = ap (λ xs. record { 0 = from } ∷ xs) (nets_from-append (suc from) a b whole next (omega arith) (omega arith))

numbers_more : (bits more : List NetId) (from count : ℕ) → bits ≡ nets_from 0 (length bits) → from ≡ length bits → more ≡ nets_from from count → bits ++ more ≡ nets_from 0 (length (bits ++ more))
numbers_more bits more from count is at new =
    let wide : length more ≡ count = ap (λ (xs : List NetId). length xs) new ∙ nets_from-length from count in
    let whole : nets_from 0 (length (bits ++ more)) ≡ nets_from 0 (length bits) ++ nets_from from count = nets_from-append 0 (length bits) count _ from (omega (arith, length-append bits more)) (omega arith) in
    sym (whole ∙ ap (λ xs. xs ++ nets_from from count) (sym is) ∙ ap (λ xs. bits ++ xs) (sym new))

-- ---- all nets are bits

all_wide : (ports : List Port) → AreWide ports → length (bits_of ports) ≡ length (bit_names_of ports)
all_wide [] wide = refl
all_wide (p ∷ ports) wide =
    let here = wide 0 p refl in
    let rest = all_wide ports (λ k q at. wide (suc k) q at) in
    let bits = length-append p.bits (bits_of ports) in
    let names = length-append (bit_names p.name p.range) (bit_names_of ports) in
    omega arith

nothing_left : (xs : List Text) → length xs ≡ 0 → xs ≡ []
nothing_left [] none = refl
nothing_left (x ∷ xs) none = absurd (omega arith)

whole_front : (front whole : List Text) → Begins front whole → length whole ≡ length front → whole ≡ front
whole_front front whole begins same =
    let all = ap (λ (xs : List Text). length xs) begins.same in
    let parts = length-append front begins.rest in
    let none = nothing_left begins.rest (omega arith) in
    begins.same ∙ ap (λ xs. front ++ xs) none ∙ append-nil front

-- ---- one port more

abbrev pub with_bits : Netlist → Port → Netlist
with_bits n port = record n { ports = n.ports ++ port ∷ []; nets = n.nets ++ bit_names port.name port.range }

port_named : (n : Netlist) (port : Port) → HasNames n → IsName port.name → IsShortRange port.range → HasNames (with_bits n port)
port_named n port h is short = record {
  own = h.own;
  ports = λ i p at. elim (push_cases n.ports port i p at) [ inl was ↦ h.ports i p was | inr new ↦ subst (λ (x : Port). IsName x.name × IsShortRange x.range) new.1 (is, short) ];
  nets = each_both IsName n.nets (bit_names port.name port.range) h.nets (bits_are_names port.name port.range is short);
  instances = h.instances;
}

pub port_sound : (es : List Entry) (n : Netlist) (port : Port) → IsNetlist n → IsName port.name → IsShortRange port.range → HasOnlyPorts n → Knows es (with_bits n port) → length n.ports < MAX_PORTS → length n.nets + length (bit_names port.name port.range) ≤ MAX_NETS → port.bits ≡ nets_from (length n.nets) (length (bit_names port.name port.range)) → IsNetlist (with_bits n port)
port_sound es n port s is short only k few room numbers =
    let names = bit_names port.name port.range in
    let more : length n.nets ≤ length (n.nets ++ names) = omega (arith, length-append n.nets names) in
    let bits = whole_front (bit_names_of n.ports) n.nets s.bits (only ∙ all_wide n.ports s.widths) in
    record {
      few_ports = omega (arith, length-append n.ports (port ∷ []));
      few_nets = omega (arith, length-append n.nets names);
      few_instances = s.few_instances;
      names = differ_of es (with_bits n port) k;
      named = port_named n port s.named is short;
      widths = λ i p at. elim (push_cases n.ports port i p at) [
        | inl was ↦ s.widths i p was
        | inr new ↦ subst (λ (x : Port). length x.bits ≡ length (bit_names x.name x.range)) new.1 (ap (λ (xs : List NetId). length xs) numbers ∙ nets_from-length (length n.nets) (length names))
      ];
      numbered = rw (bits_of-push n.ports port) (numbers_more (bits_of n.ports) port.bits (length n.nets) (length names) s.numbered only numbers);
      bits = record { rest = []; same = ap (λ xs. xs ++ names) bits ∙ sym (bit_names_of-push n.ports port) ∙ sym (append-nil (bit_names_of (n.ports ++ port ∷ []))) };
      instances = λ i x at. instance_more n.library (length n.nets) _ more x.name x.cell x.pins (s.instances i x at);
      joins = λ j x at. join_more (length n.nets) _ more x.target x.source (s.joins j x at);
    }

pub bits_behind : (ports : List Port) (port : Port) → length (bits_of (ports ++ port ∷ [])) ≡ length (bits_of ports) + length port.bits
bits_behind [] port = omega (arith, length-append port.bits [])
bits_behind (p ∷ ports) port = omega (arith, length-append p.bits (bits_of (ports ++ port ∷ [])), length-append p.bits (bits_of ports), bits_behind ports port)
