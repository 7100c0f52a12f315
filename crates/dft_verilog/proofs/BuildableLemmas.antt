-- A draft whose printed names differ and that keeps the limits is built.
use Rattle.std.proofs.Common.{◌≡◌, ℕ, ◌+◌, ◌≤◌, pos, map, get_or, Bool, true, false, cond, leb, List, [], ◌∷◌, ◌++◌, length, Option, Some, None, Ok, refl, sym, ap, ◌∙◌, subst, arith, length-append}
use Rattle.std.specs.List.{cons_option, filter_map}
use Rattle.std.proofs.lemmas.Bool.{le-leb, or_parts, or_from}
use Rattle.std.proofs.lemmas.List.{append_assoc, append-nil, length_push, length-map}
use Rattle.std.proofs.lemmas.List.Elements.{filter_map-append}
use Rattle.std.specs.Str.{bytes_eq}
use Rattle.dft_base.specs.declared.place.Range.{Range}
use Rattle.dft_base.specs.Lexing.{Text}
use Rattle.dft_cells.specs.WellFormed.{has_name}
use Rattle.dft_netlist.specs.declared.limits.TheConstants.{MAX_PORTS, MAX_NETS, MAX_INSTANCES}
use Rattle.dft_netlist.specs.declared.error.Counted.TheVariants as counted
use Rattle.dft_netlist.specs.declared.error.NetlistError.{NetlistError}
use Rattle.dft_netlist.specs.declared.error.NetlistError.TheVariants as error
use Rattle.dft_netlist.specs.declared.ids.NetId.{NetId}
use Rattle.dft_netlist_text.specs.declared.text.Declared.{Declared}
use Rattle.dft_base.specs.declared.dir.Dir.{Dir}
use Rattle.dft_netlist.specs.declared.instance.Instance.{Instance}
use Rattle.dft_netlist.specs.Netlist.{Netlist}
use Rattle.dft_netlist.specs.Names.{bit_names, port_names, is_taken, first_taken, vector_name, instance_name}
use Rattle.dft_netlist.specs.NetNumbers.{nets_from}
use Rattle.dft_netlist.specs.Building.{taken_or, port_limit, port_of, own_names, empty_netlist, port_refusal, net_refusal, instance_refusal}
use Rattle.dft_netlist.proofs.SoundLemmas.{with_net}
use Rattle.dft_netlist.proofs.BitLemmas.{up_length}
use Rattle.dft_netlist.proofs.NamesLemmas.{has-append, none_append}
use Rattle.dft_netlist.proofs.RefusalLemmas.{room_by, limit_by}
use Rattle.dft_netlist_text.specs.Modules.{HeaderPort, net_count}
use Rattle.dft_netlist_text.specs.NetlistText.{Grown, final_signal, unless_refused, and_grown, add_declared, add_ports, add_net, add_nets, add_instance, add_instances, add_joins, built, nets_of_port, nets_of_ports, net_order, other_nets, names_of_others}
use Rattle.dft_verilog_draft.specs.Free.{IsApart, AreApart}
use Rattle.dft_verilog.specs.Buildable.{names_of_port, names_of_header, names_of_instances, printed_names, BuildableAreBuilt}
use Rattle.dft_verilog_draft.proofs.DeclareLemmas.{length-bit_names}
use Rattle.dft_verilog.proofs.GrowLemmas.{add_port-Ok, add_ports-Ok, add_declared-Ok}

-- ---- names that are new

apart_parts : (xs ys : List Text) (word : Text) → has_name (xs ++ ys) word ≡ false → (has_name xs word ≡ false) × (has_name ys word ≡ false)
apart_parts xs ys word h = or_parts (has_name xs word) (has_name ys word) (sym (has-append xs ys word) ∙ h)

-- each of these is none of those before it
abbrev AreNew : (before words : List Text) → Type 0
AreNew before [] = Unit {0}
AreNew before (word ∷ words) = (has_name before word ≡ false) × AreNew (before ++ word ∷ []) words

apart_at : (first : Text) (words : List Text) (word : Text) (more : List Text) → IsApart first (words ++ word ∷ more) → bytes_eq first word ≡ false
apart_at first [] word more h = h.0
apart_at first (x ∷ xs) word more h = apart_at first xs word more h.1

new_here : (before : List Text) (word : Text) (words : List Text) → AreApart (before ++ word ∷ words) → has_name before word ≡ false
new_here [] word words h = refl
new_here (b ∷ bs) word words h = or_from (bytes_eq b word) (has_name bs word) (apart_at b bs word words h.0) (new_here bs word words h.1)

AreNew-apart : (before words : List Text) → AreApart (before ++ words) → AreNew before words
AreNew-apart before [] h = tt
AreNew-apart before (word ∷ words) h =
    (new_here before word words h, AreNew-apart (before ++ word ∷ []) words (subst AreApart (sym (append_assoc before (word ∷ []) words)) h))

AreNew-parts : (before xs ys : List Text) → AreNew before (xs ++ ys) → AreNew before xs × AreNew (before ++ xs) ys
AreNew-parts before [] ys h = (tt, subst (λ b. AreNew b ys) (sym (append-nil before)) h)
AreNew-parts before (x ∷ xs) ys h =
    let r = AreNew-parts (before ++ x ∷ []) xs ys h.1 in
    ((h.0, r.0), subst (λ b. AreNew b ys) (append_assoc before (x ∷ []) xs) r.1)

-- none of these is one of those before
abbrev AreNone : (before words : List Text) → Type 0
AreNone before [] = Unit {0}
AreNone before (word ∷ words) = (has_name before word ≡ false) × AreNone before words

AreNone-new : (before more words : List Text) → AreNew (before ++ more) words → AreNone before words
AreNone-new before more [] h = tt
AreNone-new before more (word ∷ words) h =
    ((apart_parts before more word h.0).0, AreNone-new before (more ++ word ∷ []) words (subst (λ b. AreNew b words) (append_assoc before more (word ∷ [])) h.1))

none_before : (before words : List Text) → AreNew before words → AreNone before words
none_before before words h = AreNone-new before [] words (subst (λ b. AreNew b words) (sym (append-nil before)) h)

-- ---- names that are taken

-- a name that is none of these is free
abbrev Frees : Netlist → (before : List Text) → Type 0
Frees n before = (word : Text) → has_name before word ≡ false → is_taken n word ≡ false

abbrev vectors : Netlist → List Text
vectors n = filter_map vector_name n.ports

abbrev owns : Netlist → List Text
owns n = filter_map instance_name n.instances

-- what a netlist takes more is among these
pub record TakesMore (old new : Netlist) (words : List Text) : Type 0 where
  pub nets : List Text
  pub vector : List Text
  pub own : List Text
  pub more_nets : new.nets ≡ old.nets ++ nets
  pub more_vectors : vectors new ≡ vectors old ++ vector
  pub more_owns : owns new ≡ owns old ++ own
  pub among : (word : Text) → has_name words word ≡ false → (has_name nets word ≡ false) × (has_name vector word ≡ false) × (has_name own word ≡ false)

Frees-more : (old new : Netlist) (before words : List Text) → TakesMore old new words → Frees old before → Frees new (before ++ words)
Frees-more old new before words t free word h =
    let parts = apart_parts before words word h in
    let others = t.among word parts.1 in
    let was = free word parts.0 in
    let nets = apart_parts old.nets (vectors old ++ owns old) word was in
    let rest = apart_parts (vectors old) (owns old) word nets.1 in
    none_append new.nets (vectors new ++ owns new) word
    (ap (λ xs. has_name xs word) t.more_nets ∙ none_append old.nets t.nets word nets.0 others.0)
    (none_append (vectors new) (owns new) word
    (ap (λ xs. has_name xs word) t.more_vectors ∙ none_append (vectors old) t.vector word rest.0 others.1)
    (ap (λ xs. has_name xs word) t.more_owns ∙ none_append (owns old) t.own word rest.1 others.2))

first_free : (n : Netlist) (before words : List Text) → Frees n before → AreNone before words → first_taken n words ≡ None
first_free n before [] free none = refl
first_free n before (word ∷ words) free none = ap (λ b. cond b (Some word) (first_taken n words)) (free word none.0) ∙ first_free n before words free none.1

-- ---- nets

net_free : (n : Netlist) (word : Text) → is_taken n word ≡ false → length n.nets + 1 ≤ MAX_NETS → net_refusal n word ≡ None
net_free n word free room = room_by (is_taken n word) (leb (length n.nets + 1) MAX_NETS) (error.DuplicateName word) (error.TooMany counted.Nets (pos MAX_NETS)) free (le-leb (length n.nets + 1) MAX_NETS room)

net_more : (n : Netlist) (word : Text) → TakesMore n (with_net n word) (word ∷ [])
net_more n word = record {
  nets = word ∷ [];
  vector = [];
  own = [];
  more_nets = refl;
  more_vectors = sym (append-nil (vectors n));
  more_owns = sym (append-nil (owns n));
  among = λ other h. (h, refl, refl);
}

-- a netlist that is there, in which these names alone are taken
pub record Builds (outcome : Grown) (old : Netlist) (words : List Text) : Type 0 where
  pub new : Netlist
  pub built : outcome ≡ Ok new
  pub frees : Frees new words
  pub instances : new.instances ≡ old.instances

nets-built : (words : List Text) (n : Netlist) (before : List Text) → Frees n before → AreNew before words → length n.nets + length words ≤ MAX_NETS → Builds (add_nets words n) n (before ++ words)
nets-built [] n before free new room = record { new = n; built = refl; frees = subst (Frees n) (sym (append-nil before)) free; instances = refl }
nets-built (word ∷ words) n before free new room =
    let m = with_net n word in
    let here : add_net n word ≡ Ok m = ap (λ r. unless_refused r m) (net_free n word (free word new.0) (omega arith)) in
    let one : length m.nets ≡ length n.nets + 1 = length_push n.nets word in
    let rest = nets-built words m (before ++ word ∷ []) (Frees-more n m before (word ∷ []) (net_more n word) free) new.1 (omega arith) in
    record {
      new = rest.new;
      built = ap (λ g. and_grown g (add_nets words)) here ∙ rest.built;
      frees = subst (Frees rest.new) (append_assoc before (word ∷ []) words) rest.frees;
      instances = rest.instances;
    }

-- ---- ports

port_free : (n : Netlist) (before : List Text) (word : Text) (range : Option Range) → Frees n before → AreNone before (port_names word range) → length n.ports + 1 ≤ MAX_PORTS → length n.nets + length (bit_names word range) ≤ MAX_NETS
    → port_refusal n word range ≡ None
port_free n before word range free none ports nets =
    ap (λ o. taken_or o (port_limit n word range)) (first_free n before (port_names word range) free none)
    ∙ limit_by (leb (length n.ports + 1) MAX_PORTS) (leb (length n.nets + length (bit_names word range)) MAX_NETS) (error.TooMany counted.Nets (pos MAX_NETS)) (error.TooMany counted.Ports (pos MAX_PORTS))
    (le-leb (length n.ports + 1) MAX_PORTS ports) (le-leb (length n.nets + length (bit_names word range)) MAX_NETS nets)

port_more : (n m : Netlist) (word : Text) (dir : Dir) (range : Option Range) (bits : List NetId) → m ≡ record n { ports = n.ports ++ port_of word dir range bits ∷ []; nets = n.nets ++ bit_names word range } → TakesMore n m (port_names word range)
port_more n m word dir None bits e = record {
  nets = word ∷ [];
  vector = [];
  own = [];
  more_nets = ap (λ (x : Netlist). x.nets) e;
  more_vectors = ap vectors e ∙ filter_map-append vector_name n.ports (port_of word dir None bits ∷ []);
  more_owns = ap owns e ∙ sym (append-nil (owns n));
  among = λ other h. (h, refl, refl);
}
port_more n m word dir (Some range) bits e = record {
  nets = bit_names word (Some range);
  vector = word ∷ [];
  own = [];
  more_nets = ap (λ (x : Netlist). x.nets) e;
  more_vectors = ap vectors e ∙ filter_map-append vector_name n.ports (port_of word dir (Some range) bits ∷ []);
  more_owns = ap owns e ∙ sym (append-nil (owns n));
  among = λ other h. let p = or_parts (bytes_eq word other) (has_name (bit_names word (Some range)) other) h in (p.1, or_from (bytes_eq word other) false p.0 refl, refl);
}

declared-built : (n : Netlist) (before : List Text) (word : Text) (declared : Option Declared) → Frees n before → AreNew before (names_of_port word declared) → length n.ports + 1 ≤ MAX_PORTS
    → length n.nets + length (nets_of_port declared) ≤ MAX_NETS → Builds (add_declared n word declared) n (before ++ names_of_port word declared)
declared-built n before word None free new ports nets = record { new = n; built = refl; frees = subst (Frees n) (sym (append-nil before)) free; instances = refl }
declared-built n before word (Some d) free new ports nets =
    let range = d.shape.range in
    let count : length (bit_names word range) ≡ length (nets_of_port (Some d)) = length-bit_names word range ∙ sym (up_length d.shape.first.0 (net_count range)) in
    let bits = nets_from (length n.nets) (length (bit_names word range)) in
    let m : Netlist = record n { ports = n.ports ++ port_of word d.dir range bits ∷ []; nets = n.nets ++ bit_names word range } in
    record {
      new = m;
      built = ap (λ r. unless_refused r m) (port_free n before word range free (none_before before (port_names word range) new) ports (omega arith));
      frees = Frees-more n m before (port_names word range) (port_more n m word d.dir range bits refl) free;
      instances = refl;
    }

ports_kept : (n m : Netlist) (word : Text) (declared : Option Declared) → add_declared n word declared ≡ Ok m → length m.ports ≤ length n.ports + 1
ports_kept n m word None e = let same : m ≡ n = cc in omega (arith, ap (λ (x : Netlist). length x.ports) same)
ports_kept n m word (Some d) e = omega (arith, ap (λ (x : Netlist). length x.ports) (add_port-Ok n m word d.dir d.shape.range e), length_push n.ports (port_of word d.dir d.shape.range (nets_from (length n.nets) (length (bit_names word d.shape.range)))))

ports-built : (ports : List HeaderPort) (n : Netlist) (before : List Text) → Frees n before → AreNew before (names_of_header ports) → length n.ports + length ports ≤ MAX_PORTS → length n.nets + length (nets_of_ports ports) ≤ MAX_NETS
    → Builds (add_ports ports n) n (before ++ names_of_header ports)
ports-built [] n before free new few room = record { new = n; built = refl; frees = subst (Frees n) (sym (append-nil before)) free; instances = refl }
ports-built (port ∷ ports) n before free new few room =
    let mine = names_of_port port.name port.declared in
    let parts = AreNew-parts before mine (names_of_header ports) new in
    let counted = length-append (nets_of_port port.declared) (nets_of_ports ports) in
    let here = declared-built n before port.name port.declared free parts.0 (omega arith) (omega arith) in
    let kept = add_declared-Ok n here.new port.name port.declared here.built in
    let more : length here.new.ports ≤ length n.ports + 1 = ports_kept n here.new port.name port.declared here.built in
    let rest = ports-built ports here.new (before ++ mine) here.frees parts.1 (omega arith) (omega (arith, kept.nets)) in
    record {
      new = rest.new;
      built = ap (λ g. and_grown g (add_ports ports)) here.built ∙ rest.built;
      frees = subst (Frees rest.new) (append_assoc before mine (names_of_header ports)) rest.frees;
      instances = rest.instances ∙ here.instances;
    }

-- ---- instances

none_by : (room : Bool) (x : NetlistError) → room ≡ true → cond room None (Some x) ≡ None
none_by true x h = refl
none_by false x h = absurd (cc)

own_by : (name : Option Text) (other : Text) → has_name (own_names name) other ≡ false → has_name (cons_option name []) other ≡ false
own_by None other h = refl
own_by (Some name) other h = h

instances-built : (order : List ℕ) (is : List Instance) (n : Netlist) (before : List Text) → Frees n before → AreNew before (names_of_instances is) → length n.instances + length is ≤ MAX_INSTANCES
    → (m : Netlist) × (add_instances order is n ≡ Ok m)
instances-built order [] n before free new room = (n, refl)
instances-built order (i ∷ is) n before free new room =
    let joined : Instance = record i { pins = map (final_signal order) i.pins } in
    let m : Netlist = record n { instances = n.instances ++ joined ∷ [] } in
    let parts = AreNew-parts before (own_names i.name) (names_of_instances is) new in
    let unrefused : instance_refusal n i.name ≡ None =
    ap (λ o. taken_or o (cond (leb (length n.instances + 1) MAX_INSTANCES) None (Some (error.TooMany counted.Instances (pos MAX_INSTANCES))))) (first_free n before (own_names i.name) free (none_before before (own_names i.name) parts.0))
    ∙ none_by (leb (length n.instances + 1) MAX_INSTANCES) (error.TooMany counted.Instances (pos MAX_INSTANCES)) (le-leb (length n.instances + 1) MAX_INSTANCES (omega arith)) in
    let here : add_instance order n i ≡ Ok m = ap (λ r. unless_refused r m) unrefused in
    let one : length m.instances ≡ length n.instances + 1 = length_push n.instances joined in
    let more : TakesMore n m (own_names i.name) = record {
      nets = [];
      vector = [];
      own = filter_map instance_name (joined ∷ []);
      more_nets = sym (append-nil n.nets);
      more_vectors = sym (append-nil (vectors n));
      more_owns = filter_map-append instance_name n.instances (joined ∷ []);
      among = λ other h. (refl, refl, own_by i.name other h);
    } in
    let rest = instances-built order is m (before ++ own_names i.name) (Frees-more n m before (own_names i.name) more free) parts.1 (omega arith) in
    (rest.0, ap (λ g. and_grown g (add_instances order is)) here ∙ rest.1)

-- ---- the whole

pub buildable_are_built : BuildableAreBuilt
unfolding built
buildable_are_built d h =
    let others = names_of_others d in
    let own = names_of_instances d.instances in
    let empty = empty_netlist d.name d.library in
    let new : AreNew [] (names_of_header d.ports ++ (others ++ own)) = AreNew-apart [] (printed_names d) h.names in
    let first = AreNew-parts [] (names_of_header d.ports) (others ++ own) new in
    let second = AreNew-parts (names_of_header d.ports) others own first.1 in
    let counted = length-append (nets_of_ports d.ports) (other_nets d) in
    let named = length-map (other_nets d) (λ net. get_or d.nets net []) in
    let ports = ports-built d.ports empty [] (λ word none. refl) first.0 (omega (arith, h.ports)) (omega (arith, h.nets)) in
    let kept = add_ports-Ok d.ports empty ports.new ports.built in
    let nets = nets-built others ports.new (names_of_header d.ports) ports.frees second.0 (omega (arith, h.nets, kept.nets)) in
    let joined = add_joins (net_order d) d.joins nets.new in
    let none : length joined.instances ≡ 0 = ap (λ (is : List Instance). length is) (nets.instances ∙ ports.instances) in
    let whole = instances-built (net_order d) d.instances joined (names_of_header d.ports ++ others) nets.frees second.1 (omega (arith, h.instances)) in (
      whole.0,
      ap (λ g. and_grown g (λ n. and_grown (add_nets others n) (λ m. add_instances (net_order d) d.instances (add_joins (net_order d) d.joins m)))) ports.built
          ∙ ap (λ g. and_grown g (λ m. add_instances (net_order d) d.instances (add_joins (net_order d) d.joins m))) nets.built
          ∙ whole.1,
    )
