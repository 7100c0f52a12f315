-- The draft of a written text is built to the netlist.
use Rattle.std.proofs.Common.{◌≡◌, ℕ, zero, suc, ◌+◌, ◌-◌, ◌<◌, ◌≤◌, pos, Bool, true, false, not, cond, eqb, leb, List, [], ◌∷◌, ◌++◌, length, map, filter, get_or, position, unwrap_or, Option, Some, None, option_map, Ok, refl, sym, ap, ◌∙◌, subst, arith, append_assoc, append-nil, length-append, slice_get}
use Rattle.std.specs.Prelude.{slice_index_or, ◌||◌}
use Rattle.std.specs.List.{filter_map, cons_option, list_any}
use Rattle.std.specs.Str.{bytes_eq}
use Rattle.std.proofs.lemmas.Bool.Decides.{nat_tests}
use Rattle.std.proofs.lemmas.List.Elements.{filter_map-append, filter-append}
use Rattle.dft_base.specs.declared.place.Range.{Range}
use Rattle.dft_base.specs.Lexing.{Text}
use Rattle.dft_base.specs.Ranges.{going_up}
use Rattle.dft_base.proofs.ListLemmas.{going_up-append}
use Rattle.dft_netlist.specs.declared.ids.NetId.{NetId}
use Rattle.dft_netlist.specs.declared.port.Port.{Port}
use Rattle.dft_netlist.specs.declared.instance.Signal.{Signal}
use Rattle.dft_netlist.specs.declared.instance.Signal.TheVariants as signal
use Rattle.dft_netlist.specs.declared.instance.Instance.{Instance}
use Rattle.dft_netlist.specs.declared.instance.Join.{Join}
use Rattle.dft_netlist.specs.declared.error.Counted.TheVariants as counted
use Rattle.dft_netlist.specs.declared.error.NetlistError.TheVariants as error
use Rattle.dft_netlist.specs.declared.limits.TheConstants.{MAX_PORTS, MAX_NETS, MAX_INSTANCES}
use Rattle.dft_netlist.specs.Netlist.{Netlist}
use Rattle.dft_netlist.specs.Names.{bit_names, port_names, names_taken, is_taken, first_taken, vector_name, vector_name_in, instance_name}
use Rattle.dft_netlist.specs.NetNumbers.{nets_from}
use Rattle.dft_netlist.specs.Sound.{IsLive, AreLive, bits_of, bit_names_of, IsAJoin, IsNetlist}
use Rattle.dft_netlist.specs.Building.{empty_netlist, port_of, taken_or, port_limit, own_names, port_refusal, instance_refusal}
use Rattle.dft_netlist.proofs.RefusalLemmas.{room_by, limit_by}
use Rattle.dft_netlist_text.specs.Modules.{TakenName, Draft}
use Rattle.dft_netlist_text.specs.NetlistText.{nets_of_ports, other_nets, net_order, final_net, final_signal, Grown, unless_refused, and_grown, add_port, add_ports, add_net, add_nets, add_instance, add_instances, final_join, add_joins, names_of_others, built}
use Rattle.dft_verilog_out.proofs.CountLemmas.{Once, times, times-append, times-head, one_if, has_name-none}
use Rattle.dft_verilog_out.proofs.FindLemmas.{position-cons}
use Rattle.dft_verilog_out.proofs.PhaseLemmas.{stage, declared_ports, net_count-is}

-- ---- numbers

ports_count : (first : ℕ) (ps : List Port) → nets_of_ports (declared_ports first ps) ≡ going_up first (length (bit_names_of ps))
ports_count first [] = refl
ports_count first (p ∷ ps) =
    let size : length (bit_names_of (p ∷ ps)) ≡ length (bit_names p.name p.range) + length (bit_names_of ps) = length-append (bit_names p.name p.range) (bit_names_of ps) in
    ap (λ k. going_up first k ++ nets_of_ports (declared_ports (first + length (bit_names p.name p.range)) ps)) (net_count-is p.name p.range)
    ∙ ap (λ ks. going_up first (length (bit_names p.name p.range)) ++ ks) (ports_count (first + length (bit_names p.name p.range)) ps)
    ∙ sym (ap (going_up first) size ∙ going_up-append first (length (bit_names p.name p.range)) (length (bit_names_of ps)))

any_in : (k from n : ℕ) → from ≤ k → k < from + n → list_any (λ bit. eqb bit k) (going_up from n) ≡ true
any_in k from zero low high = absurd (omega arith)
any_in k from (suc n) low high = by (eqb from k) refl (any_in k (suc from) n)
  where
    by : (t : Bool) → eqb from k ≡ t → (suc from ≤ k → k < suc from + n → list_any (λ bit. eqb bit k) (going_up (suc from) n) ≡ true) → (t || list_any (λ bit. eqb bit k) (going_up (suc from) n)) ≡ true
    by true is ih = refl
    by false is ih = let other : suc from ≤ k = grind (arith, nat_tests) in ih other (omega arith)

any_out : (k from n : ℕ) → from + n ≤ k → list_any (λ bit. eqb bit k) (going_up from n) ≡ false
any_out k from zero past = refl
any_out k from (suc n) past = let e : eqb from k ≡ false = grind (arith, nat_tests) in rw (e, any_out k (suc from) n (omega arith)) refl

abbrev is_other : (bits : ℕ) → ℕ → Bool
is_other bits net = not (list_any (λ bit. eqb bit net) (going_up 0 bits))

filter_bits : (bits from n : ℕ) → from + n ≤ bits → filter (is_other bits) (going_up from n) ≡ []
filter_bits bits from zero le = refl
filter_bits bits from (suc n) le = let e : list_any (λ bit. eqb bit from) (going_up 0 bits) ≡ true = any_in from 0 bits (omega arith) (omega arith) in rw e (filter_bits bits (suc from) n (omega arith))

filter_others : (bits from n : ℕ) → bits ≤ from → filter (is_other bits) (going_up from n) ≡ going_up from n
filter_others bits from zero le = refl
filter_others bits from (suc n) le = let e : list_any (λ bit. eqb bit from) (going_up 0 bits) ≡ false = any_out from 0 bits (omega arith) in rw (e, filter_others bits (suc from) n (omega arith)) refl

-- the nets of a draft whose ports have the first numbers are in their order
module _ (d : Draft) (ps : List Port) (ws : List Text) (ports : d.ports ≡ declared_ports 0 ps) (nets : d.nets ≡ bit_names_of ps ++ ws) where
  bits_first : nets_of_ports d.ports ≡ going_up 0 (length (bit_names_of ps))
  bits_first = ap nets_of_ports ports ∙ ports_count 0 ps

  pub others_count : other_nets d ≡ going_up (length (bit_names_of ps)) (length ws)
  others_count =
      let bits : ℕ = length (bit_names_of ps) in
      let size : length d.nets ≡ bits + length ws = ap length nets ∙ length-append (bit_names_of ps) ws in
      let zeroth : 0 + bits ≡ bits = omega arith in
      ap (λ (ks : List ℕ). filter (λ net. not (list_any (λ bit. eqb bit net) ks)) (going_up 0 (length d.nets))) bits_first
      ∙ ap (filter (is_other bits)) (ap (going_up 0) size ∙ going_up-append 0 bits (length ws) ∙ ap (λ k. going_up 0 bits ++ going_up k (length ws)) zeroth)
      ∙ filter-append (is_other bits) (going_up 0 bits) (going_up bits (length ws))
      ∙ ap (λ ks. ks ++ filter (is_other bits) (going_up bits (length ws))) (filter_bits bits 0 bits (omega arith)) ∙ filter_others bits bits (length ws) (omega arith)

  pub order_count : net_order d ≡ going_up 0 (length d.nets)
  order_count =
      let bits : ℕ = length (bit_names_of ps) in
      let size : length d.nets ≡ bits + length ws = ap length nets ∙ length-append (bit_names_of ps) ws in
      let zeroth : 0 + bits ≡ bits = omega arith in
      ap (λ ks. ks ++ other_nets d) bits_first ∙ ap (λ ks. going_up 0 bits ++ ks) others_count
      ∙ sym (ap (going_up 0) size ∙ going_up-append 0 bits (length ws) ∙ ap (λ k. going_up 0 bits ++ going_up k (length ws)) zeroth)

  others_named : names_of_others d ≡ ws
  others_named =
      ap (map (λ net. slice_index_or d.nets net [])) others_count ∙ ap (λ (xs : List Text). map (λ net. slice_index_or xs net []) (going_up (length (bit_names_of ps)) (length ws))) nets ∙ named_from (bit_names_of ps) ws
    where
      here : (front : List Text) (w : Text) (rest : List Text) → get_or (front ++ w ∷ rest) (length front) [] ≡ w
      here [] w rest = refl
      here (x ∷ front) w rest = here front w rest

      named_from : (front rest : List Text) → map (λ net. slice_index_or (front ++ rest) net []) (going_up (length front) (length rest)) ≡ rest
      named_from front [] = refl
      named_from front (w ∷ rest) =
          let next : length (front ++ w ∷ []) ≡ suc (length front) = omega (arith, length-append front (w ∷ [])) in
          ap (λ x. x ∷ map (λ net. slice_index_or (front ++ w ∷ rest) net []) (going_up (suc (length front)) (length rest))) (here front w rest)
          ∙ ap (λ xs. w ∷ xs) (ap (λ (xs : List Text). map (λ net. slice_index_or xs net []) (going_up (suc (length front)) (length rest))) (sym (append_assoc front (w ∷ []) rest))
          ∙ ap (λ k. map (λ net. slice_index_or ((front ++ w ∷ []) ++ rest) net []) (going_up k (length rest))) (sym next) ∙ named_from (front ++ w ∷ []) rest)

-- ---- final numbers

place_of : (from n k : ℕ) → k < n → position (λ other. eqb other (from + k)) (going_up from n) ≡ Some k
place_of from zero k lt = absurd (omega arith)
place_of from (suc n) zero lt =
    let e : eqb from (from + 0) ≡ true = grind (arith, nat_tests) in
    position-cons (λ other. eqb other (from + 0)) from (going_up (suc from) n) ∙ rw e refl
place_of from (suc n) (suc k) lt =
    let e : eqb from (from + suc k) ≡ false = grind (arith, nat_tests) in
    let next : from + suc k ≡ suc from + k = omega arith in
    position-cons (λ other. eqb other (from + suc k)) from (going_up (suc from) n)
    ∙ rw e (ap (λ m. option_map suc (position (λ other. eqb other m) (going_up (suc from) n))) next ∙ ap (option_map suc) (place_of (suc from) n k (omega arith)))

pub final_same : (count : ℕ) (net : NetId) → net.0 < count → final_net (going_up 0 count) net ≡ net
final_same count net lt =
    let zeroth : 0 + net.0 ≡ net.0 = omega arith in
    ap (λ (o : Option ℕ). record { 0 = unwrap_or o 0 }) (ap (λ m. position (λ other. eqb other m) (going_up 0 count)) (sym zeroth) ∙ place_of 0 count net.0 lt)

signal_same : (count : ℕ) (s : Signal) → IsLive count s → final_signal (going_up 0 count) s ≡ s
signal_same count (signal.Net net) live = ap signal.Net (final_same count net live)
signal_same count (signal.Constant bit) live = refl
signal_same count signal.Unconnected live = refl

pub pins_same : (count : ℕ) (pins : List Signal) → AreLive count pins → map (final_signal (going_up 0 count)) pins ≡ pins
pins_same count [] live = refl
pins_same count (s ∷ pins) live =
    ap (λ x. x ∷ map (final_signal (going_up 0 count)) pins) (signal_same count s (live 0 s refl)) ∙ ap (λ xs. s ∷ xs) (pins_same count pins (λ place t at. live (suc place) t at))

joins_same : (count : ℕ) (joins : List Join) → ((place : ℕ) (j : Join) → slice_get joins place ≡ Some j → IsAJoin count j.target j.source) → map (final_join (going_up 0 count)) joins ≡ joins
joins_same count [] stands = refl
joins_same count (j ∷ joins) stands =
    let here = stands 0 j refl in
    let one : final_join (going_up 0 count) j ≡ j =
    ap (λ (t : NetId). record { target = t; source = final_signal (going_up 0 count) j.source }) (final_same count j.target here.target_live) ∙ ap (λ (s : Signal). record { target = j.target; source = s }) (signal_same count j.source here.source_live) in
    ap (λ (x : Join). x ∷ map (final_join (going_up 0 count)) joins) one ∙ ap (λ (xs : List Join). j ∷ xs) (joins_same count joins (λ place k at. stands (suc place) k at))

-- ---- parts that are not refused

-- there is room for these names besides those that are taken
abbrev Room : Netlist → List Text → Type 0
Room m xs = (word : Text) → times word (names_taken m) + times word xs ≤ 1

free_by : (m : Netlist) (word : Text) → times word (names_taken m) ≡ 0 → is_taken m word ≡ false
free_by m word none = has_name-none (names_taken m) word none

later_some : (b : Bool) (n : ℕ) → 1 ≤ n → 1 ≤ one_if b + n
later_some true n h = omega arith
later_some false n h = omega arith

none_taken : (m : Netlist) (xs : List Text) → ((word : Text) → 1 ≤ times word xs → times word (names_taken m) ≡ 0) → first_taken m xs ≡ None
none_taken m [] h = refl
none_taken m (x ∷ xs) h = rw (free_by m x (h x (omega (arith, times-head x xs)))) (none_taken m xs (λ word some. h word (later_some (bytes_eq x word) (times word xs) some)))

room_none : (m : Netlist) (xs rest : List Text) → Room m (xs ++ rest) → first_taken m xs ≡ None
room_none m xs rest room = none_taken m xs (λ word some. let r = room word in omega (arith, times-append word xs rest))

port_taken : (m : Netlist) (word : Text) (range : Option Range) (rest : List Text) → Room m (port_names word range ++ rest) → length m.ports + 1 ≤ MAX_PORTS → length m.nets + length (bit_names word range) ≤ MAX_NETS → port_refusal m word range ≡ None
port_taken m word range rest room ports nets =
    let a : leb (length m.ports + 1) MAX_PORTS ≡ true = grind (arith, nat_tests) in
    let b : leb (length m.nets + length (bit_names word range)) MAX_NETS ≡ true = grind (arith, nat_tests) in
    ap (λ o. taken_or o (port_limit m word range)) (room_none m (port_names word range) rest room)
    ∙ limit_by (leb (length m.ports + 1) MAX_PORTS) (leb (length m.nets + length (bit_names word range)) MAX_NETS) (error.TooMany counted.Nets (pos MAX_NETS)) (error.TooMany counted.Ports (pos MAX_PORTS)) a b

-- ---- ports

-- the names that ports take
abbrev pub all_port_names : List Port → List Text
all_port_names [] = []
all_port_names (p ∷ ps) = port_names p.name p.range ++ all_port_names ps

-- numbers in two parts
numbers_split : (xs ys : List NetId) (from n : ℕ) → xs ++ ys ≡ nets_from from n → (xs ≡ nets_from from (length xs)) × (ys ≡ nets_from (from + length xs) (n - length xs))
numbers_split [] ys from n e = (refl, e ∙ (let f : from ≡ from + 0 = omega arith in ap (λ k. nets_from k n) f) ∙ (let m : n ≡ n - 0 = omega arith in ap (nets_from (from + 0)) m))
numbers_split (x ∷ xs) ys from zero e = absurd (cc)
numbers_split (x ∷ xs) ys from (suc n) e =
    let tail : xs ++ ys ≡ nets_from (suc from) n = cc in
    let head : x ≡ record { 0 = from } = cc in
    let r = numbers_split xs ys (suc from) n tail in
    let a : suc from + length xs ≡ from + suc (length xs) = omega arith in
    let b : n - length xs ≡ suc n - suc (length xs) = omega arith in
    (ap (λ (k : NetId). k ∷ xs) head ∙ ap (λ (ks : List NetId). record { 0 = from } ∷ ks) r.0, r.1 ∙ ap (λ k. nets_from k (n - length xs)) a ∙ ap (nets_from (from + suc (length xs))) b)

abbrev with_parts : Netlist → List Port → List Text → Netlist
with_parts m ports nets = record m { ports = ports; nets = nets }

-- these ports have numbers from this one on, one for each name
abbrev AreNumbered : (first : ℕ) → List Port → Type 0
AreNumbered first [] = Unit {0}
AreNumbered first (p ∷ ps) = (p.bits ≡ nets_from first (length (bit_names p.name p.range))) × AreNumbered (first + length (bit_names p.name p.range)) ps

numbered_from : (first n : ℕ) (ps : List Port) → ((place : ℕ) (p : Port) → slice_get ps place ≡ Some p → length p.bits ≡ length (bit_names p.name p.range)) → bits_of ps ≡ nets_from first n → AreNumbered first ps
numbered_from first n [] widths e = tt
numbered_from first n (p ∷ ps) widths e =
    let r = numbers_split p.bits (bits_of ps) first n e in
    let w = widths 0 p refl in
    (r.0 ∙ ap (nets_from first) w, numbered_from (first + length (bit_names p.name p.range)) (n - length p.bits) ps (λ place q at. widths (suc place) q at) (r.1 ∙ ap (λ k. nets_from (first + k) (n - length p.bits)) w))

cons_taken : (word name : Text) (range : Option Range) → times word (cons_option (vector_name_in name range) []) + times word (bit_names name range) ≡ times word (port_names name range)
cons_taken word name None = omega arith
cons_taken word name (Some r) = omega arith

port_room : (m : Netlist) (p : Port) (bits : List NetId) (rest : List Text) → Room m (port_names p.name p.range ++ rest)
    → Room (with_parts m (m.ports ++ port_of p.name p.dir p.range bits ∷ []) (m.nets ++ bit_names p.name p.range)) rest
port_room m p bits rest room word =
    let r = room word in
    let vs : List Text = filter_map vector_name m.ports in
    let os : List Text = filter_map instance_name m.instances in
    let here : List Text = cons_option (vector_name_in p.name p.range) [] in
    omega (
      arith,
      times-append word (port_names p.name p.range) rest,
      cons_taken word p.name p.range,
      times-append word m.nets (vs ++ os),
      times-append word vs os,
      ap (times word) (filter_map-append vector_name m.ports (port_of p.name p.dir p.range bits ∷ [])),
      times-append word vs here,
      times-append word (m.nets ++ bit_names p.name p.range) (filter_map vector_name (m.ports ++ port_of p.name p.dir p.range bits ∷ []) ++ os),
      times-append word m.nets (bit_names p.name p.range),
      times-append word (filter_map vector_name (m.ports ++ port_of p.name p.dir p.range bits ∷ [])) os,
    )

add_port-is : (m : Netlist) (p : Port) (rest : List Text) → Room m (port_names p.name p.range ++ rest) → length m.ports + 1 ≤ MAX_PORTS → length m.nets + length (bit_names p.name p.range) ≤ MAX_NETS
    → p.bits ≡ nets_from (length m.nets) (length (bit_names p.name p.range)) → add_port m p.name p.dir p.range ≡ Ok (with_parts m (m.ports ++ p ∷ []) (m.nets ++ bit_names p.name p.range))
add_port-is m p rest room ports nets bits =
    let made : port_of p.name p.dir p.range (nets_from (length m.nets) (length (bit_names p.name p.range))) ≡ p = ap (λ (bs : List NetId). port_of p.name p.dir p.range bs) (sym bits) in
    ap (λ o. unless_refused o (with_parts m (m.ports ++ port_of p.name p.dir p.range (nets_from (length m.nets) (length (bit_names p.name p.range))) ∷ []) (m.nets ++ bit_names p.name p.range))) (port_taken m p.name p.range rest room ports nets)
    ∙ ap (λ (q : Port). Ok (with_parts m (m.ports ++ q ∷ []) (m.nets ++ bit_names p.name p.range))) made

-- a netlist with these parts, and room for these names
record Added (outcome : Grown) (new : Netlist) (rest : List Text) : Type 0 where
  is : outcome ≡ Ok new
  room : Room new rest

ports_added : (todo : List Port) (m : Netlist) (rest : List Text) → Room m (all_port_names todo ++ rest) → AreNumbered (length m.nets) todo → length m.ports + length todo ≤ MAX_PORTS → length m.nets + length (bit_names_of todo) ≤ MAX_NETS
    → Added (add_ports (declared_ports (length m.nets) todo) m) (with_parts m (m.ports ++ todo) (m.nets ++ bit_names_of todo)) rest
ports_added [] m rest room numbered ports nets =
    let same : with_parts m (m.ports ++ []) (m.nets ++ []) ≡ m = rw (append-nil m.ports, append-nil m.nets) refl in
    record { is = ap (λ (x : Netlist). Ok x) (sym same); room = subst (λ (x : Netlist). Room x rest) (sym same) room }
ports_added (p ∷ todo) m rest room numbered ports nets =
    let bits : List Text = bit_names p.name p.range in
    let next = with_parts m (m.ports ++ p ∷ []) (m.nets ++ bits) in
    let size : length (m.nets ++ bits) ≡ length m.nets + length bits = length-append m.nets bits in
    let more = length-append bits (bit_names_of todo) in
    let room_here : Room m (port_names p.name p.range ++ (all_port_names todo ++ rest)) = subst (λ (xs : List Text). Room m xs) (append_assoc (port_names p.name p.range) (all_port_names todo) rest) room in
    let here = add_port-is m p (all_port_names todo ++ rest) room_here (omega arith) (omega arith) numbered.0 in
    let later = ports_added todo next rest (port_room m p p.bits (all_port_names todo ++ rest) room_here) (subst (λ k. AreNumbered k todo) (sym size) numbered.1) (omega (arith, length-append m.ports (p ∷ []))) (omega arith) in
    let ends : with_parts next (next.ports ++ todo) (next.nets ++ bit_names_of todo) ≡ with_parts m (m.ports ++ p ∷ todo) (m.nets ++ bit_names_of (p ∷ todo)) =
    rw (append_assoc m.ports (p ∷ []) todo, append_assoc m.nets bits (bit_names_of todo)) refl in
    record {
      is = ap (λ g. and_grown g (add_ports (declared_ports (length m.nets + length bits) todo))) here ∙ ap (λ k. add_ports (declared_ports k todo) next) (sym size) ∙ later.is ∙ ap (λ (x : Netlist). Ok x) ends;
      room = subst (λ (x : Netlist). Room x rest) ends later.room;
    }

-- ---- other nets

abbrev with_more_nets : Netlist → List Text → Netlist
with_more_nets m nets = record m { nets = nets }

net_room : (m : Netlist) (w : Text) (rest : List Text) → Room m (w ∷ rest) → Room (with_more_nets m (m.nets ++ w ∷ [])) rest
net_room m w rest room word =
    let r = room word in
    let others : List Text = filter_map vector_name m.ports ++ filter_map instance_name m.instances in
    omega (arith, times-append word m.nets others, times-append word (m.nets ++ w ∷ []) others, times-append word m.nets (w ∷ []))

nets_added : (ws : List Text) (m : Netlist) (rest : List Text) → Room m (ws ++ rest) → length m.nets + length ws ≤ MAX_NETS → Added (add_nets ws m) (with_more_nets m (m.nets ++ ws)) rest
nets_added [] m rest room nets =
    let same : with_more_nets m (m.nets ++ []) ≡ m = rw (append-nil m.nets) refl in
    record { is = ap (λ (x : Netlist). Ok x) (sym same); room = subst (λ (x : Netlist). Room x rest) (sym same) room }
nets_added (w ∷ ws) m rest room nets =
    let next = with_more_nets m (m.nets ++ w ∷ []) in
    let free : is_taken m w ≡ false = free_by m w (let r = room w in omega (arith, times-head w (ws ++ rest))) in
    let fits : leb (length m.nets + 1) MAX_NETS ≡ true = grind (arith, nat_tests) in
    let here : add_net m w ≡ Ok next = ap (λ o. unless_refused o next) (room_by (is_taken m w) (leb (length m.nets + 1) MAX_NETS) (error.DuplicateName w) (error.TooMany counted.Nets (pos MAX_NETS)) free fits) in
    let later = nets_added ws next rest (net_room m w (ws ++ rest) room) (omega (arith, length-append m.nets (w ∷ []))) in
    let ends : with_more_nets next (next.nets ++ ws) ≡ with_more_nets m (m.nets ++ w ∷ ws) = rw (append_assoc m.nets (w ∷ []) ws) refl in
    record { is = ap (λ g. and_grown g (add_nets ws)) here ∙ later.is ∙ ap (λ (x : Netlist). Ok x) ends; room = subst (λ (x : Netlist). Room x rest) ends later.room }

-- ---- instances

abbrev with_more_instances : Netlist → List Instance → Netlist
with_more_instances m instances = record m { instances = instances }

own_times : (word : Text) (name : Option Text) (rest : List Text) → times word (cons_option name rest) ≡ times word (own_names name) + times word rest
own_times word None rest = omega arith
own_times word (Some w) rest = omega arith

instance_room : (m : Netlist) (i : Instance) (rest : List Text) → Room m (cons_option i.name rest) → Room (with_more_instances m (m.instances ++ i ∷ [])) rest
instance_room m i rest room word =
    let r = room word in
    let vs : List Text = filter_map vector_name m.ports in
    let os : List Text = filter_map instance_name m.instances in
    let here : List Text = cons_option i.name [] in
    omega (
      arith,
      own_times word i.name rest,
      own_times word i.name [],
      times-append word m.nets (vs ++ os),
      times-append word vs os,
      ap (times word) (filter_map-append instance_name m.instances (i ∷ [])),
      times-append word os here,
      times-append word m.nets (vs ++ filter_map instance_name (m.instances ++ i ∷ [])),
      times-append word vs (filter_map instance_name (m.instances ++ i ∷ [])),
    )

own_free : (m : Netlist) (name : Option Text) (rest : List Text) → Room m (cons_option name rest) → first_taken m (own_names name) ≡ None
own_free m None rest room = refl
own_free m (Some w) rest room = none_taken m (w ∷ []) (λ word some. let r = room word in omega arith)

instances_added : (order : List ℕ) (count : ℕ) (todo : List Instance) (m : Netlist) → order ≡ going_up 0 count → ((place : ℕ) (i : Instance) → slice_get todo place ≡ Some i → AreLive count i.pins)
    → Room m (filter_map instance_name todo) → length m.instances + length todo ≤ MAX_INSTANCES → add_instances order todo m ≡ Ok (with_more_instances m (m.instances ++ todo))
instances_added order count [] m ordered live room few = ap (λ (is : List Instance). Ok (with_more_instances m is)) (sym (append-nil m.instances))
instances_added order count (i ∷ todo) m ordered live room few =
    let next = with_more_instances m (m.instances ++ i ∷ []) in
    let same : map (final_signal order) i.pins ≡ i.pins = ap (λ (ks : List ℕ). map (final_signal ks) i.pins) ordered ∙ pins_same count i.pins (live 0 i refl) in
    let fits : leb (length m.instances + 1) MAX_INSTANCES ≡ true = grind (arith, nat_tests) in
    let rest : List Text = filter_map instance_name todo in
    let allowed : instance_refusal m i.name ≡ None =
    ap (λ o. taken_or o (cond (leb (length m.instances + 1) MAX_INSTANCES) None (Some (error.TooMany counted.Instances (pos MAX_INSTANCES))))) (own_free m i.name rest room) ∙ ap (λ t. cond t None (Some (error.TooMany counted.Instances (pos MAX_INSTANCES)))) fits in
    let here : add_instance order m i ≡ Ok next =
    ap (λ o. unless_refused o (with_more_instances m (m.instances ++ record { name = i.name; cell = i.cell; pins = map (final_signal order) i.pins } ∷ []))) allowed
    ∙ ap (λ (ss : List Signal). Ok (with_more_instances m (m.instances ++ record { name = i.name; cell = i.cell; pins = ss } ∷ []))) same in
    ap (λ g. and_grown g (add_instances order todo)) here
    ∙ instances_added order count todo next ordered (λ place j at. live (suc place) j at) (instance_room m i rest room) (omega (arith, length-append m.instances (i ∷ [])))
    ∙ ap (λ (is : List Instance). Ok (with_more_instances m is)) (append_assoc m.instances (i ∷ []) todo)

-- ---- the whole

names_of_all : (n : Netlist) (ws : List Text) → n.nets ≡ bit_names_of n.ports ++ ws → Once (names_taken n) → Room (empty_netlist n.name n.library) (all_port_names n.ports ++ (ws ++ filter_map instance_name n.instances))
names_of_all n ws nets once word =
    let o = once word in
    let owns : List Text = filter_map instance_name n.instances in
    omega (
      arith,
      times_all word n.ports,
      ap (times word) nets,
      times-append word (bit_names_of n.ports) ws,
      times-append word n.nets (filter_map vector_name n.ports ++ owns),
      times-append word (filter_map vector_name n.ports) owns,
      times-append word (all_port_names n.ports) (ws ++ owns),
      times-append word ws owns,
    )
  where
    one_by : (name : Text) (range : Option Range) (bs vs : List Text) → times word (port_names name range) + (times word bs + times word vs) ≡ times word (bit_names name range ++ bs) + times word (cons_option (vector_name_in name range) vs)
    one_by name None bs vs = omega arith
    one_by name (Some r) bs vs = omega (arith, times-append word (bit_names name (Some r)) bs)

    times_all : (word' : Text) (ps : List Port) → times word (all_port_names ps) ≡ times word (bit_names_of ps) + times word (filter_map vector_name ps)
    times_all word' [] = refl
    times_all word' (p ∷ ps) = omega (arith, times-append word (port_names p.name p.range) (all_port_names ps), times_all word' ps, one_by p.name p.range (bit_names_of ps) (filter_map vector_name ps))

-- the draft of a text that was written is built to the netlist
pub draft_built : (n : Netlist) (names : List TakenName) (ws : List Text) → IsNetlist n → n.nets ≡ bit_names_of n.ports ++ ws → Once (names_taken n) → built (stage n names (declared_ports 0 n.ports) (bit_names_of n.ports ++ ws) n.instances n.joins) ≡ Ok n
unfolding built
draft_built n names ws sound nets once =
    let d = stage n names (declared_ports 0 n.ports) (bit_names_of n.ports ++ ws) n.instances n.joins in
    let owns : List Text = filter_map instance_name n.instances in
    let start = empty_netlist n.name n.library in
    let size : length n.nets ≡ length (bit_names_of n.ports) + length ws = ap length nets ∙ length-append (bit_names_of n.ports) ws in
    let few = sound.few_nets in
    let count : ℕ = length d.nets in
    let count_is : count ≡ length n.nets = ap length (sym nets) in
    let ports = ports_added n.ports start (ws ++ owns) (names_of_all n ws nets once) (numbered_from 0 (length (bits_of n.ports)) n.ports sound.widths sound.numbered) (let p = sound.few_ports in omega arith) (omega arith) in
    let with_ports = with_parts start n.ports (bit_names_of n.ports) in
    let others = nets_added ws with_ports owns ports.room (omega arith) in
    let with_nets = with_more_nets with_ports (bit_names_of n.ports ++ ws) in
    let ordered = order_count d n.ports ws refl refl in
    let joins : map (final_join (net_order d)) n.joins ≡ n.joins =
    ap (λ (ks : List ℕ). map (final_join ks) n.joins) ordered ∙ joins_same count n.joins (λ place j at. subst (λ k. IsAJoin k j.target j.source) (sym count_is) (sound.joins place j at)) in
    let with_joins : Netlist = record with_nets { joins = n.joins } in
    let joined : add_joins (net_order d) n.joins with_nets ≡ with_joins = ap (λ (js : List Join). record with_nets { joins = js }) joins in
    let all = instances_added (net_order d) count n.instances with_joins ordered (λ place i at. subst (λ k. AreLive k i.pins) (sym count_is) (sound.instances place i at).live) others.room (let i = sound.few_instances in omega arith) in
    ap (λ g. and_grown g (λ m. and_grown (add_nets (names_of_others d) m) (λ k. add_instances (net_order d) n.instances (add_joins (net_order d) n.joins k)))) ports.is
    ∙ ap (λ (xs : List Text). and_grown (add_nets xs with_ports) (λ k. add_instances (net_order d) n.instances (add_joins (net_order d) n.joins k))) (others_named d n.ports ws refl refl)
    ∙ ap (λ g. and_grown g (λ k. add_instances (net_order d) n.instances (add_joins (net_order d) n.joins k))) others.is
    ∙ ap (add_instances (net_order d) n.instances) joined ∙ all
    ∙ ap (λ (xs : List Text). Ok (record n { nets = xs })) (sym nets)
