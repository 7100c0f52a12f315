-- What comes next in a whole netlist can be added to a front of it.
use Rattle.std.proofs.Common.{ℕ, suc, ◌+◌, ◌≡◌, ◌≤◌, false, List, ◌∷◌, ◌++◌, length, Option, None, Some, slice_get, refl, sym, subst, ap, arith, ◌∙◌, append_assoc, append-nil, length-append, []}
use Rattle.std.specs.List.{filter_map, cons_option}
use Rattle.std.specs.Prelude.{if◌then◌else◌}
use Rattle.std.proofs.lemmas.Bool.{le-leb}
use Rattle.dft_base.specs.Lexing.{Text}
use Rattle.dft_base.specs.declared.place.Range.{Range}
use Rattle.dft_netlist.specs.declared.port.Port.{Port}
use Rattle.dft_netlist.specs.declared.instance.Instance.{Instance}
use Rattle.dft_netlist.specs.declared.instance.Join.{Join}
use Rattle.dft_netlist.specs.declared.limits.TheConstants.{MAX_PORTS, MAX_NETS, MAX_INSTANCES}
use Rattle.dft_netlist.specs.Netlist.{Netlist}
use Rattle.dft_netlist.specs.Names.{names_taken, is_taken, first_taken, bit_names, port_names, vector_name, vector_name_in, instance_name}
use Rattle.dft_netlist.specs.NetNumbers.{nets_from}
use Rattle.dft_netlist.specs.Building.{port_of, port_limit, room_limit, taken_or, own_names}
use Rattle.dft_netlist.specs.Sound.{bit_names_of, HasOnlyPorts, IsInstance, IsAJoin}
use Rattle.dft_netlist.proofs.RefusalLemmas.{net_open, instance_open}
use Rattle.dft_netlist.proofs.PortLemmas.{nets_from-length, bits_behind}
use Rattle.dft_scan_frame.specs.Growing.{APort, ANet, AnInstance, AJoin, with_thing, with_things, AllFit, port_things, net_things, instance_things, join_things}
use Rattle.dft_scan_frame.proofs.NamesOnce.{times_named, named-append, never_has, named_here, taken_times, shown_append}

-- each name stands there once at most, and the limits are kept
pub record IsWhole (w : Netlist) : Type 0 where
  pub once : (q : Text) → times_named q (names_taken w) ≤ 1
  pub few_ports : length w.ports ≤ MAX_PORTS
  pub few_nets : length w.nets ≤ MAX_NETS
  pub few_instances : length w.instances ≤ MAX_INSTANCES

-- with these it is the whole
pub record IsFront (w n : Netlist) (ports : List Port) (nets : List Text) (instances : List Instance) : Type 0 where
  pub its_ports : w.ports ≡ n.ports ++ ports
  pub its_nets : w.nets ≡ n.nets ++ nets
  pub its_instances : w.instances ≡ n.instances ++ instances

whole_times : (q : Text) (w n : Netlist) (ports : List Port) (nets : List Text) (instances : List Instance) → IsFront w n ports nets instances →
    times_named q (names_taken w) ≡ times_named q (names_taken n) + (times_named q nets + (times_named q (filter_map vector_name ports) + times_named q (filter_map instance_name instances)))
whole_times q w n ports nets instances front = omega (
  arith,
  taken_times q w,
  taken_times q n,
  ap (times_named q) front.its_nets ∙ named-append q n.nets nets,
  ap (λ (ps : List Port). times_named q (filter_map vector_name ps)) front.its_ports ∙ shown_append vector_name q n.ports ports,
  ap (λ (xs : List Instance). times_named q (filter_map instance_name xs)) front.its_instances ∙ shown_append instance_name q n.instances instances,
)

-- a name that comes later is not taken
later_free : (q : Text) (w n : Netlist) (ports : List Port) (nets : List Text) (instances : List Instance) → IsWhole w → IsFront w n ports nets instances →
    1 ≤ times_named q nets + (times_named q (filter_map vector_name ports) + times_named q (filter_map instance_name instances)) → is_taken n q ≡ false
later_free q w n ports nets instances whole front some = never_has q (names_taken n) (omega (arith, whole.once q, whole_times q w n ports nets instances front, some))

-- ---- nets

pub nets_fit : (w n : Netlist) (names rest : List Text) (ports : List Port) (instances : List Instance) → IsWhole w → IsFront w n ports (names ++ rest) instances → AllFit n (net_things names)
nets_fit w n [] rest ports instances whole front = tt
nets_fit w n (name ∷ names) rest ports instances whole front = (
  net_open n name
      (later_free name w n ports (name ∷ (names ++ rest)) instances whole front (omega (arith, named_here name (names ++ rest))))
      (omega (arith, ap length front.its_nets, length-append n.nets (name ∷ (names ++ rest)), whole.few_nets)),
  nets_fit w (with_thing n (ANet name)) names rest ports instances whole (record { its_ports = front.its_ports; its_nets = front.its_nets ∙ sym (append_assoc n.nets (name ∷ []) (names ++ rest)); its_instances = front.its_instances }),
)

-- ---- instances

named_or_none : (n : Netlist) (name : Option Text) → ((q : Text) → name ≡ Some q → is_taken n q ≡ false) → first_taken n (own_names name) ≡ None
named_or_none n None free = refl
named_or_none n (Some q) free = ap (λ b. if b then Some q else None) (free q refl)

shown_here : (q : Text) (o : Option Text) (names : List Text) → o ≡ Some q → 1 ≤ times_named q (cons_option o names)
shown_here q None names e = absurd cc
shown_here q (Some x) names e = subst (λ y. 1 ≤ times_named q (y ∷ names)) (let s : q ≡ x = cc in s) (omega (arith, named_here q names))

pub instances_fit : (w n : Netlist) (xs rest : List Instance) (ports : List Port) (nets : List Text) → IsWhole w → IsFront w n ports nets (xs ++ rest) →
    ((k : ℕ) (x : Instance) → slice_get xs k ≡ Some x → IsInstance n.library (length n.nets) x.name x.cell x.pins) → AllFit n (instance_things xs)
instances_fit w n [] rest ports nets whole front sound = tt
instances_fit w n (x ∷ xs) rest ports nets whole front sound = (
  record {
    sound = sound 0 x refl;
    passes = instance_open n x.name
        (named_or_none n x.name (λ q is. later_free q w n ports nets (x ∷ (xs ++ rest)) whole front (omega (arith, shown_here q x.name (filter_map instance_name (xs ++ rest)) is))))
        (omega (arith, ap length front.its_instances, length-append n.instances (x ∷ (xs ++ rest)), whole.few_instances));
  },
  instances_fit w (with_thing n (AnInstance x)) xs rest ports nets whole (record { its_ports = front.its_ports; its_nets = front.its_nets; its_instances = front.its_instances ∙ sym (append_assoc n.instances (x ∷ []) (xs ++ rest)) })
      (λ k y at. sound (suc k) y at),
)

-- ---- joins

pub joins_fit : (n : Netlist) (joins : List Join) → ((k : ℕ) (join : Join) → slice_get joins k ≡ Some join → IsAJoin (length n.nets) join.target join.source) → AllFit n (join_things joins)
joins_fit n [] sound = tt
joins_fit n (join ∷ joins) sound = (sound 0 join refl, joins_fit (with_thing n (AJoin join)) joins (λ k j at. sound (suc k) j at))

-- ---- ports

-- the bits of ports are numbered from a number on
abbrev pub AreNumbered : (from : ℕ) → List Port → Type 0
AreNumbered from [] = Unit {0}
AreNumbered from (port ∷ ports) = (port.bits ≡ nets_from from (length (bit_names port.name port.range))) × AreNumbered (from + length (bit_names port.name port.range)) ports

first_by : (n : Netlist) (q : Text) (names : List Text) → is_taken n q ≡ false → first_taken n names ≡ None → (if is_taken n q then Some q else first_taken n names) ≡ None
first_by n q names free more = ap (λ b. if b then Some q else first_taken n names) free ∙ more

none_taken : (n : Netlist) (names : List Text) → ((q : Text) → 1 ≤ times_named q names → is_taken n q ≡ false) → first_taken n names ≡ None
none_taken n [] free = refl
none_taken n (x ∷ names) free = first_by n x names (free x (omega (arith, named_here x names))) (none_taken n names (λ q some. free q (omega (arith, some))))

own_and_bits : (q : Text) (port : Port) (range : Option Range) (rest : List Text) → port.range ≡ range → times_named q (port_names port.name range) ≤ times_named q (bit_names port.name range) + times_named q (cons_option (vector_name port) rest)
own_and_bits q port None rest is = omega arith
own_and_bits q port (Some range) rest is = subst (λ (o : Option Text). times_named q (port_names port.name (Some range)) ≤ times_named q (bit_names port.name (Some range)) + times_named q (cons_option o rest))
    (ap (vector_name_in port.name) (sym is)) (omega arith)

room : (n : Netlist) (width : ℕ) → length n.ports + 1 ≤ MAX_PORTS → length n.nets + width ≤ MAX_NETS → room_limit n width ≡ None
room n width ports nets = rw (le-leb (length n.ports + 1) MAX_PORTS ports, le-leb (length n.nets + width) MAX_NETS nets) refl

pub ports_fit : (w n : Netlist) (ports more : List Port) (rest : List Text) (instances : List Instance) → IsWhole w → IsFront w n (ports ++ more) (bit_names_of ports ++ rest) instances → HasOnlyPorts n → AreNumbered (length n.nets) ports → AllFit n (port_things ports)
ports_fit w n [] more rest instances whole front only numbers = tt
ports_fit w n (port ∷ ports) more rest instances whole front only numbers =
    let names : List Text = bit_names port.name port.range in
    let later : List Text = bit_names_of ports ++ rest in
    let nets : List Text = names ++ later in
    let here : IsFront w n (port ∷ (ports ++ more)) nets instances =
    record { its_ports = front.its_ports; its_nets = front.its_nets ∙ ap (λ xs. n.nets ++ xs) (append_assoc names (bit_names_of ports) rest); its_instances = front.its_instances } in
    let wide : length port.bits ≡ length names = ap length numbers.0 ∙ nets_from-length (length n.nets) (length names) in (
      record {
        only = only;
        next = ap (port_of port.name port.dir port.range) numbers.0;
        passes = ap (λ o. taken_or o (port_limit n port.name port.range))
            (none_taken n (port_names port.name port.range) (λ q some. later_free q w n (port ∷ (ports ++ more)) nets instances whole here
            (omega (arith, some, own_and_bits q port port.range (filter_map vector_name (ports ++ more)) refl, named-append q names later))))
            ∙ room n (length names)
            (omega (arith, ap length front.its_ports, length-append n.ports (port ∷ (ports ++ more)), whole.few_ports))
            (omega (arith, ap length here.its_nets, length-append n.nets nets, length-append names later, whole.few_nets));
      },
      ports_fit w (with_thing n (APort port)) ports more rest instances whole
          (record { its_ports = front.its_ports ∙ sym (append_assoc n.ports (port ∷ []) (ports ++ more)); its_nets = here.its_nets ∙ sym (append_assoc n.nets names later); its_instances = front.its_instances })
          (omega (arith, only, length-append n.nets names, bits_behind n.ports port, wide))
          (subst (λ k. AreNumbered k ports) (sym (length-append n.nets names)) numbers.1),
    )

-- ---- what is there when they are added

pub with_all_nets : (n : Netlist) (names : List Text) → with_things n (net_things names) ≡ record n { nets = n.nets ++ names }
with_all_nets n [] = ap (λ xs. record n { nets = xs }) (sym (append-nil n.nets))
with_all_nets n (name ∷ names) = with_all_nets (with_thing n (ANet name)) names ∙ ap (λ xs. record n { nets = xs }) (append_assoc n.nets (name ∷ []) names)

pub with_all_instances : (n : Netlist) (xs : List Instance) → with_things n (instance_things xs) ≡ record n { instances = n.instances ++ xs }
with_all_instances n [] = ap (λ (ys : List Instance). record n { instances = ys }) (sym (append-nil n.instances))
with_all_instances n (x ∷ xs) = with_all_instances (with_thing n (AnInstance x)) xs ∙ ap (λ (ys : List Instance). record n { instances = ys }) (append_assoc n.instances (x ∷ []) xs)

pub with_all_joins : (n : Netlist) (joins : List Join) → with_things n (join_things joins) ≡ record n { joins = n.joins ++ joins }
with_all_joins n [] = ap (λ (ys : List Join). record n { joins = ys }) (sym (append-nil n.joins))
with_all_joins n (join ∷ joins) = with_all_joins (with_thing n (AJoin join)) joins ∙ ap (λ (ys : List Join). record n { joins = ys }) (append_assoc n.joins (join ∷ []) joins)

pub with_all_ports : (n : Netlist) (ports : List Port) → with_things n (port_things ports) ≡ record n { ports = n.ports ++ ports; nets = n.nets ++ bit_names_of ports }
with_all_ports n [] =
    ap (λ (ps : List Port). record n { ports = ps }) (sym (append-nil n.ports)) ∙ ap (λ xs. record n { ports = n.ports ++ []; nets = xs }) (sym (append-nil n.nets))
with_all_ports n (port ∷ ports) =
    with_all_ports (with_thing n (APort port)) ports
    ∙ ap (λ (ps : List Port). record n { ports = ps; nets = (n.nets ++ bit_names port.name port.range) ++ bit_names_of ports }) (append_assoc n.ports (port ∷ []) ports)
    ∙ ap (λ xs. record n { ports = n.ports ++ port ∷ ports; nets = xs }) (append_assoc n.nets (bit_names port.name port.range) (bit_names_of ports))
