-- A netlist that grows stays sound.
use Rattle.std.proofs.Common.{◌≡◌, ℕ, ◌<◌, ◌≤◌, List, [], ◌∷◌, ◌++◌, length, Option, None, Some, refl, sym, ◌∙◌, ap, subst, arith, ◌⊎◌, inl, inr, slice_get, slice_set, append_assoc, length-append, length-set, zero, suc}
use Rattle.std.specs.Option.{option_and_then}
use Rattle.std.proofs.lemmas.Option.{same_Some}
use Rattle.dft_cells.specs.declared.cell.Cell.{Cell}
use Rattle.dft_netlist.specs.declared.ids.NetId.{NetId}
use Rattle.dft_netlist.specs.declared.named.Named.{Named}
use Rattle.dft_netlist.specs.declared.named.Named.TheVariants.{Net as ANet, Vector, Instance as AnInstance}
use Rattle.dft_netlist.specs.declared.instance.Signal.{Signal}
use Rattle.dft_netlist.specs.declared.instance.Signal.TheVariants.{Net, Constant, Unconnected}
use Rattle.dft_netlist.specs.declared.instance.CellRef.{CellRef}
use Rattle.dft_netlist.specs.declared.instance.Instance.{Instance}
use Rattle.dft_netlist.specs.declared.instance.Join.{Join}
use Rattle.dft_netlist.specs.declared.limits.TheConstants.{MAX_NETS, MAX_INSTANCES}
use Rattle.dft_netlist.specs.Netlist.{Netlist}
use Rattle.dft_netlist.specs.Building.{empty_netlist, with_pin}
use Rattle.dft_base.specs.Name.{IsName}
use Rattle.dft_netlist.specs.Names.{HasNames, IsNameIfAny, Names, instance_name}
use Rattle.dft_netlist.specs.NameTables.{Entry, look_up, Knows, own_entries, IsFree}
use Rattle.dft_netlist.specs.Sound.{IsLive, IsInstance, IsInstanceOf, IsAJoin, IsJoinOf, IsNetlist, Begins, AreLive}
use Rattle.dft_base.specs.Lexing.{Text}
use Rattle.dft_base.proofs.ListLemmas.{get_left}
use Rattle.dft_netlist.proofs.Places.{get_push, push_cases, shown_left, shown_push, shown_cases, set_cases, shown_set}
use Rattle.dft_netlist.proofs.NamesLemmas.{Adds, SameNames, knows_more, knows_same, differ_of}

-- ---- more nets

pub live_more : (a b : ℕ) → a ≤ b → (s : Signal) → IsLive a s → IsLive b s
live_more a b le (Net net) h = omega arith
live_more a b le (Constant bit) h = tt
live_more a b le Unconnected h = tt

pub instance_more : (library : List Cell) (a b : ℕ) → a ≤ b → (name : Option Text) (cell : CellRef) (pins : List Signal) → IsInstance library a name cell pins → IsInstance library b name cell pins
instance_more library a b le name cell pins h = record { fits = h.fits; width = h.width; live = λ k s at. live_more a b le s (h.live k s at); outputs = h.outputs }

pub join_more : (a b : ℕ) → a ≤ b → (target : NetId) (source : Signal) → IsAJoin a target source → IsAJoin b target source
join_more a b le target source h = record { target_live = let t = h.target_live in omega arith; source_live = live_more a b le source h.source_live; connected = h.connected }

begins_more : (front whole more : List Text) → Begins front whole → Begins front (whole ++ more)
begins_more front whole more b = record { rest = b.rest ++ more; same = rw b.same (append_assoc front b.rest more) }

longer : (xs ys : List Text) → length xs ≤ length (xs ++ ys)
longer xs ys = omega (arith, length-append xs ys)

-- ---- nothing yet

pub empty_knows : (name : Text) (library : List Cell) → Knows [] (empty_netlist name library)
empty_knows name library = record { says = λ q a h. absurd (let f : ⊥ = cc in f); knows = nothing }
  where
    nothing : (q : Text) (a : Named) → Names (empty_netlist name library) q a → look_up [] q ≡ Some a
    nothing q (ANet net) h = absurd (let f : ⊥ = cc in f)
    nothing q (Vector port) h = absurd (let f : ⊥ = cc in f)
    nothing q (AnInstance id) h = absurd (let f : ⊥ = cc in f)

pub empty_sound : (name : Text) (library : List Cell) → IsName name → IsNetlist (empty_netlist name library)
empty_sound name library is = record {
  few_ports = omega arith;
  few_nets = omega arith;
  few_instances = omega arith;
  names = differ_of [] (empty_netlist name library) (empty_knows name library);
  named = record { own = is; ports = λ k p at. absurd (let f : ⊥ = cc in f); nets = λ k q at. absurd (let f : ⊥ = cc in f); instances = λ k i at. absurd (let f : ⊥ = cc in f) };
  widths = λ k p at. absurd (let f : ⊥ = cc in f);
  numbered = refl;
  bits = record { rest = []; same = refl };
  instances = λ k i at. absurd (let f : ⊥ = cc in f);
  joins = λ k j at. absurd (let f : ⊥ = cc in f);
}

-- ---- one net more

abbrev pub with_net : Netlist → Text → Netlist
with_net n name = record n { nets = n.nets ++ name ∷ [] }

abbrev pub net_number : ℕ → Named
net_number k = ANet (record { 0 = k })

net_adds : (n : Netlist) (name : Text) → Adds n (with_net n name) name (net_number (length n.nets))
net_adds n name = record { kept = kept; only = only; here = get_push n.nets name }
  where
    kept : (q : Text) (a : Named) → Names n q a → Names (with_net n name) q a
    kept q (ANet net) h = get_left n.nets (name ∷ []) net.0 q h
    kept q (Vector port) h = h
    kept q (AnInstance id) h = h

    only : (q : Text) (a : Named) → Names (with_net n name) q a → Names n q a ⊎ ((q ≡ name) × (net_number (length n.nets) ≡ a))
    only q (ANet net) h = elim (push_cases n.nets name net.0 q h) [ inl was ↦ inl was | inr new ↦ inr (sym new.1, ap net_number (sym new.0)) ]
    only q (Vector port) h = inl h
    only q (AnInstance id) h = inl h

pub net_knows : (es : List Entry) (n : Netlist) (name : Text) → Knows es n → look_up es name ≡ None → Knows (es ++ (name, net_number (length n.nets)) ∷ []) (with_net n name)
net_knows es n name k none = knows_more es n (with_net n name) name (net_number (length n.nets)) k none (net_adds n name)

net_named : (n : Netlist) (name : Text) → HasNames n → IsName name → HasNames (with_net n name)
net_named n name h is = record {
  own = h.own;
  ports = h.ports;
  nets = λ i q at. elim (push_cases n.nets name i q at) [ inl was ↦ h.nets i q was | inr new ↦ subst IsName new.1 is ];
  instances = h.instances;
}

pub net_sound : (es : List Entry) (n : Netlist) (name : Text) → IsNetlist n → IsName name → Knows es (with_net n name) → length n.nets < MAX_NETS → IsNetlist (with_net n name)
net_sound es n name s is k few =
    let more = longer n.nets (name ∷ []) in
    record {
      few_ports = s.few_ports;
      few_nets = omega (arith, length-append n.nets (name ∷ []));
      few_instances = s.few_instances;
      names = differ_of es (with_net n name) k;
      named = net_named n name s.named is;
      widths = s.widths;
      numbered = s.numbered;
      bits = begins_more _ n.nets (name ∷ []) s.bits;
      instances = λ i x at. instance_more n.library (length n.nets) _ more x.name x.cell x.pins (s.instances i x at);
      joins = λ j x at. join_more (length n.nets) _ more x.target x.source (s.joins j x at);
    }

-- ---- one join more

abbrev pub with_join : Netlist → Join → Netlist
with_join n join = record n { joins = n.joins ++ join ∷ [] }

join_names : (n : Netlist) (join : Join) → SameNames n (with_join n join)
join_names n join = record { kept = kept; only = only }
  where
    kept : (q : Text) (a : Named) → Names n q a → Names (with_join n join) q a
    kept q (ANet net) h = h
    kept q (Vector port) h = h
    kept q (AnInstance id) h = h

    only : (q : Text) (a : Named) → Names (with_join n join) q a → Names n q a
    only q (ANet net) h = h
    only q (Vector port) h = h
    only q (AnInstance id) h = h

pub join_knows : (es : List Entry) (n : Netlist) (join : Join) → Knows es n → Knows es (with_join n join)
join_knows es n join k = knows_same es n (with_join n join) k (join_names n join)

pub join_sound : (es : List Entry) (n : Netlist) (join : Join) → IsNetlist n → Knows es n → IsJoinOf n join.target join.source → IsNetlist (with_join n join)
join_sound es n join s k is = record {
  few_ports = s.few_ports;
  few_nets = s.few_nets;
  few_instances = s.few_instances;
  names = differ_of es (with_join n join) (join_knows es n join k);
  named = record { own = s.named.own; ports = s.named.ports; nets = s.named.nets; instances = s.named.instances };
  widths = s.widths;
  numbered = s.numbered;
  bits = s.bits;
  instances = s.instances;
  joins = λ j x at. elim (push_cases n.joins join j x at) [
    | inl was ↦ s.joins j x was
    | inr new ↦ subst (λ y. IsJoinOf n y.target y.source) new.1 is
  ];
}

-- ---- one instance more

abbrev pub with_instance : Netlist → Instance → Netlist
with_instance n instance = record n { instances = n.instances ++ instance ∷ [] }

abbrev pub instance_number : ℕ → Named
instance_number k = AnInstance (record { 0 = k })

instance_named : (n : Netlist) (instance : Instance) → HasNames n → IsNameIfAny instance.name → HasNames (with_instance n instance)
instance_named n instance h is = record {
  own = h.own;
  ports = h.ports;
  nets = h.nets;
  instances = λ i x at. elim (push_cases n.instances instance i x at) [ inl was ↦ h.instances i x was | inr new ↦ subst (λ y. IsNameIfAny y.name) new.1 is ];
}

pub instance_sound : (es : List Entry) (n : Netlist) (instance : Instance) → IsNetlist n → IsNameIfAny instance.name → Knows es (with_instance n instance) → length n.instances < MAX_INSTANCES → IsInstanceOf n instance.name instance.cell instance.pins → IsNetlist (with_instance n instance)
instance_sound es n instance s named k few is = record {
  few_ports = s.few_ports;
  few_nets = s.few_nets;
  few_instances = omega (arith, length-append n.instances (instance ∷ []));
  names = differ_of es (with_instance n instance) k;
  named = instance_named n instance s.named named;
  widths = s.widths;
  numbered = s.numbered;
  bits = s.bits;
  instances = λ i x at. elim (push_cases n.instances instance i x at) [
    | inl was ↦ s.instances i x was
    | inr new ↦ subst (λ y. IsInstanceOf n y.name y.cell y.pins) new.1 is
  ];
  joins = s.joins;
}

instance_kept : (n : Netlist) (instance : Instance) (q : Text) (a : Named) → Names n q a → Names (with_instance n instance) q a
instance_kept n instance q (ANet net) h = h
instance_kept n instance q (Vector port) h = h
instance_kept n instance q (AnInstance id) h = shown_left instance_name n.instances (instance ∷ []) id.0 q h

-- a named instance
instance_adds : (n : Netlist) (instance : Instance) (name : Text) → instance.name ≡ Some name → Adds n (with_instance n instance) name (instance_number (length n.instances))
instance_adds n instance name is = record { kept = instance_kept n instance; only = only; here = shown_push instance_name n.instances instance ∙ is }
  where
    only : (q : Text) (a : Named) → Names (with_instance n instance) q a → Names n q a ⊎ ((q ≡ name) × (instance_number (length n.instances) ≡ a))
    only q (ANet net) h = inl h
    only q (Vector port) h = inl h
    only q (AnInstance id) h = elim (shown_cases instance_name n.instances instance id.0 q h) [
      | inl was ↦ inl was
      | inr new ↦ (let e : Some name ≡ Some q = sym is ∙ new.1 in inr (cc, ap instance_number (sym new.0)))
    ]

pub instance_knows : (es : List Entry) (n : Netlist) (instance : Instance) (name : Text) → instance.name ≡ Some name → Knows es n → look_up es name ≡ None → Knows (es ++ (name, instance_number (length n.instances)) ∷ []) (with_instance n instance)
instance_knows es n instance name is k none = knows_more es n (with_instance n instance) name (instance_number (length n.instances)) k none (instance_adds n instance name is)

-- a gate without a name
unnamed_names : (n : Netlist) (instance : Instance) → instance.name ≡ None → SameNames n (with_instance n instance)
unnamed_names n instance is = record { kept = instance_kept n instance; only = only }
  where
    only : (q : Text) (a : Named) → Names (with_instance n instance) q a → Names n q a
    only q (ANet net) h = h
    only q (Vector port) h = h
    only q (AnInstance id) h = elim (shown_cases instance_name n.instances instance id.0 q h) [
      | inl was ↦ was
      | inr new ↦ (let e : Some q ≡ None = sym new.1 ∙ is in absurd (let f : ⊥ = cc in f))
    ]

pub unnamed_knows : (es : List Entry) (n : Netlist) (instance : Instance) → instance.name ≡ None → Knows es n → Knows es (with_instance n instance)
unnamed_knows es n instance is k = knows_same es n (with_instance n instance) k (unnamed_names n instance is)

append_none : {X : Type 0} (xs : List X) → xs ++ [] ≡ xs
append_none [] = refl
append_none (x ∷ xs) = ap (λ ys. x ∷ ys) (append_none xs)

-- an instance with a name or without
pub own_knows : (es : List Entry) (n : Netlist) (instance : Instance) (name : Option Text) → instance.name ≡ name → Knows es n → IsFree es name → Knows (es ++ own_entries name (instance_number (length n.instances))) (with_instance n instance)
own_knows es n instance None is k free = rw (append_none es) (unnamed_knows es n instance is k)
own_knows es n instance (Some q) is k free = instance_knows es n instance q is k free

-- ---- one pin joined

abbrev pub with_pin_of : Netlist → (id pin : ℕ) → Instance → NetId → Netlist
with_pin_of n id pin instance net = record n { instances = slice_set n.instances id (with_pin instance pin net) }

pin_names : (n : Netlist) (id pin : ℕ) (instance : Instance) (net : NetId) → slice_get n.instances id ≡ Some instance → SameNames n (with_pin_of n id pin instance net)
pin_names n id pin instance net at = record { kept = kept; only = only }
  where
    same : (k : ℕ) → option_and_then instance_name (slice_get (slice_set n.instances id (with_pin instance pin net)) k) ≡ option_and_then instance_name (slice_get n.instances k)
    same k = shown_set instance_name n.instances id instance (with_pin instance pin net) k at refl

    kept : (q : Text) (a : Named) → Names n q a → Names (with_pin_of n id pin instance net) q a
    kept q (ANet other) h = h
    kept q (Vector port) h = h
    kept q (AnInstance other) h = same other.0 ∙ h

    only : (q : Text) (a : Named) → Names (with_pin_of n id pin instance net) q a → Names n q a
    only q (ANet other) h = h
    only q (Vector port) h = h
    only q (AnInstance other) h = sym (same other.0) ∙ h

pub pin_knows : (es : List Entry) (n : Netlist) (id pin : ℕ) (instance : Instance) (net : NetId) → slice_get n.instances id ≡ Some instance → Knows es n → Knows es (with_pin_of n id pin instance net)
pin_knows es n id pin instance net at k = knows_same es n (with_pin_of n id pin instance net) k (pin_names n id pin instance net at)

pin_instance : (library : List Cell) (nets : ℕ) (x : Instance) (pin : ℕ) (net : NetId) → net.0 < nets → IsInstance library nets x.name x.cell x.pins → IsInstance library nets x.name x.cell (slice_set x.pins pin (Net net))
pin_instance library nets x pin net live h = record {
  fits = h.fits;
  width = length-set x.pins pin (Net net) ∙ h.width;
  live = λ k s at. elim (set_cases x.pins pin (Net net) k s at) [ inl was ↦ h.live k s was | inr is ↦ subst (IsLive nets) is live ];
  outputs = λ k role bit r out at. elim (set_cases x.pins pin (Net net) k (Constant bit) at) [
    | inl was ↦ h.outputs k role bit r out was
    | inr is ↦ (let f : ⊥ = cc in f)
  ];
}

pin_named : (n : Netlist) (id pin : ℕ) (instance : Instance) (net : NetId) → slice_get n.instances id ≡ Some instance → HasNames n → HasNames (with_pin_of n id pin instance net)
pin_named n id pin instance net at h = record {
  own = h.own;
  ports = h.ports;
  nets = h.nets;
  instances = λ j x there. elim (set_cases n.instances id (with_pin instance pin net) j x there) [ inl was ↦ h.instances j x was | inr is ↦ subst (λ y. IsNameIfAny y.name) is (h.instances id instance at) ];
}

pub pin_sound : (es : List Entry) (n : Netlist) (id pin : ℕ) (instance : Instance) (net : NetId) → slice_get n.instances id ≡ Some instance → net.0 < length n.nets → IsNetlist n → Knows es n → IsNetlist (with_pin_of n id pin instance net)
pin_sound es n id pin instance net at live s k = record {
  few_ports = s.few_ports;
  few_nets = s.few_nets;
  few_instances = rw (length-set n.instances id (with_pin instance pin net)) s.few_instances;
  names = differ_of es (with_pin_of n id pin instance net) (pin_knows es n id pin instance net at k);
  named = pin_named n id pin instance net at s.named;
  widths = s.widths;
  numbered = s.numbered;
  bits = s.bits;
  instances = λ j x h. elim (set_cases n.instances id (with_pin instance pin net) j x h) [
    | inl was ↦ s.instances j x was
    | inr is ↦ subst (λ y. IsInstanceOf n y.name y.cell y.pins) is (pin_instance n.library (length n.nets) instance pin net live (s.instances id instance at))
  ];
  joins = s.joins;
}

pub live_none : (count : ℕ) → AreLive count []
live_none count place s at = absurd (cc)

pub live_cons : (all : ℕ) (x : Signal) (xs : List Signal) → IsLive all x → AreLive all xs → AreLive all (x ∷ xs)
live_cons all x xs here more zero s at = subst (IsLive all) (same_Some x s at) here
live_cons all x xs here more (suc place) s at = more place s at
