-- Joins that are added one list after another.
use Rattle.std.proofs.Common.{ℕ, zero, suc, ◌+◌, ◌<◌, ◌≤◌, ◌≡◌, ◌⊎◌, inl, inr, List, [], ◌∷◌, ◌++◌, length, drop, get_or, map, None, Some, option_and_then, slice_get, OnOk, Result, Ok, Err, refl, sym, ap, subst, arith, ◌∙◌, append_assoc, append-nil}
use Rattle.std.specs.List.{All, AllByRecursion}
use Rattle.std.proofs.lemmas.Option.{slice_get-get_or, slice_get_within, get_or_from_slice_get}
use Rattle.std.proofs.lemmas.List.Elements.{All-get_or}
use Rattle.dft_base.specs.Lexing.{Text}
use Rattle.dft_base.specs.declared.dir.Dir.{Dir}
use Rattle.dft_base.proofs.ListLemmas.{drop_at, drop_over}
use Rattle.dft_netlist.specs.declared.ids.NetId.{NetId}
use Rattle.dft_netlist.specs.declared.instance.Signal.{Signal}
use Rattle.dft_netlist.specs.declared.instance.Join.{Join}
use Rattle.dft_netlist.specs.declared.port.Port.{Port}
use Rattle.dft_netlist.specs.Netlist.{Netlist}
use Rattle.dft_netlist.specs.Sound.{IsJoinOf}
use Rattle.dft_modules.specs.declared.connections.Connection.{Connection}
use Rattle.dft_hier.specs.Flat.{bit_joins, connection_joins, joined_to, signals_of, port_joins, moved, moved_net}
use Rattle.dft_hier.specs.Moving.{AreJoinsOf, with_joins, connection_names}
use Rattle.dft_numbered.proofs.NamedLemmas.{named_at, named_within}
use Rattle.dft_numbered.specs.Numbers.{Entry, Finds, look_up}
use Rattle.dft_hier.proofs.NumberLemmas.{drop_next}

-- joins that are left, which with those so far give the whole
pub record JoinsLeft (now : Netlist) (rest : List Join) (whole : Netlist) : Type 0 where
  pub same : with_joins now rest ≡ whole
  pub fits : AreJoinsOf now rest

parts : (P : Join → Type 0) (xs ys : List Join) → AllByRecursion P (xs ++ ys) → AllByRecursion P xs × AllByRecursion P ys
parts P [] ys h = (tt, h)
parts P (x ∷ xs) ys h = let r = parts P xs ys h.1 in ((h.0, r.0), r.1)

pub joins_begin : (n : Netlist) (joins : List Join) → AreJoinsOf n joins → JoinsLeft n joins (with_joins n joins)
joins_begin n joins fits = record { same = refl; fits = fits }

pub joins_here : (now whole : Netlist) (here rest : List Join) → JoinsLeft now (here ++ rest) whole → AreJoinsOf now here
joins_here now whole here rest h = (parts (λ (j : Join). IsJoinOf now j.target j.source) here rest h.fits).0

pub joins_more : (now new whole : Netlist) (here rest : List Join) → new ≡ with_joins now here → JoinsLeft now (here ++ rest) whole → JoinsLeft new rest whole
joins_more now new whole here rest is h = record {
  same = ap (λ (n : Netlist). with_joins n rest) is ∙ ap (λ (js : List Join). record now { joins = js }) (append_assoc now.joins here rest) ∙ h.same;
  fits = subst (λ (n : Netlist). AreJoinsOf n rest) (sym is) (parts (λ (j : Join). IsJoinOf now j.target j.source) here rest h.fits).1;
}

pub joins_done : (now whole : Netlist) → JoinsLeft now [] whole → now ≡ whole
joins_done now whole h = sym (ap (λ (js : List Join). record now { joins = js }) (append-nil now.joins)) ∙ h.same

-- ---- the connection of a port

pub connection_live : (entries : List Entry) (connections : List Connection) (name : Text) (k : ℕ) → Finds entries (connection_names connections) → look_up entries name ≡ Some k → k < length connections
connection_live entries connections name k finds is = named_within (λ (c : Connection). c.port) connections name k (sym (finds name) ∙ is)

pub joined_some : (entries : List Entry) (connections : List Connection) (name : Text) (k : ℕ) (c : Connection) → Finds entries (connection_names connections) → look_up entries name ≡ Some k → c ≡ get_or connections k c → joined_to connections name ≡ c.signals
joined_some entries connections name k c finds is at =
    let live = connection_live entries connections name k finds is in
    let there : slice_get connections k ≡ Some c = slice_get-get_or connections k c live ∙ ap (λ (x : Connection). Some x) (sym at) in
    ap signals_of (sym (named_at (λ (c : Connection). c.port) connections name) ∙ ap (option_and_then (slice_get connections)) (sym (finds name) ∙ is) ∙ there)

pub joined_none : (entries : List Entry) (connections : List Connection) (name : Text) → Finds entries (connection_names connections) → look_up entries name ≡ None → joined_to connections name ≡ []
joined_none entries connections name finds is = ap signals_of (sym (named_at (λ (c : Connection). c.port) connections name) ∙ ap (option_and_then (slice_get connections)) (sym (finds name) ∙ is))

-- ---- the joins of a port's bits

-- the joins of the bits from one on
abbrev pub BitsLeft : (now : Netlist) (whole : Netlist) (d : Dir) (within outside : ℕ) (bits : List NetId) (signals : List Signal) (k : ℕ) → Type 0
BitsLeft now whole d within outside bits signals k = JoinsLeft now (port_joins d (map (moved_net within) (drop k bits)) (map (moved outside) (drop k signals))) whole

bits_cut : (d : Dir) (within outside : ℕ) (bits : List NetId) (signals : List Signal) (k : ℕ) (bit : NetId) (s : Signal) → slice_get bits k ≡ Some bit → slice_get signals k ≡ Some s →
    port_joins d (map (moved_net within) (drop k bits)) (map (moved outside) (drop k signals)) ≡ bit_joins d (moved_net within bit) (moved outside s) ++ port_joins d (map (moved_net within) (drop (k + 1) bits)) (map (moved outside) (drop (k + 1) signals))
bits_cut d within outside bits signals k bit s is at =
    ap (λ (bs : List NetId). port_joins d (map (moved_net within) bs) (map (moved outside) (drop k signals))) (drop_at bits k bit is)
    ∙ ap (λ (ss : List Signal). port_joins d (moved_net within bit ∷ map (moved_net within) (drop (k + 1) bits)) (map (moved outside) ss)) (drop_at signals k s at)

pub bit_here : (now whole : Netlist) (d : Dir) (within outside : ℕ) (bits : List NetId) (signals : List Signal) (k : ℕ) (bit : NetId) (s : Signal) → slice_get bits k ≡ Some bit → slice_get signals k ≡ Some s →
    BitsLeft now whole d within outside bits signals k → AreJoinsOf now (bit_joins d (moved_net within bit) (moved outside s))
bit_here now whole d within outside bits signals k bit s is at h =
    joins_here now whole (bit_joins d (moved_net within bit) (moved outside s)) (port_joins d (map (moved_net within) (drop (k + 1) bits)) (map (moved outside) (drop (k + 1) signals)))
    (subst (λ (js : List Join). JoinsLeft now js whole) (bits_cut d within outside bits signals k bit s is at) h)

pub bit_more : (now new whole : Netlist) (d : Dir) (within outside : ℕ) (bits : List NetId) (signals : List Signal) (k : ℕ) (bit : NetId) (s : Signal) → slice_get bits k ≡ Some bit → slice_get signals k ≡ Some s →
    new ≡ with_joins now (bit_joins d (moved_net within bit) (moved outside s)) → BitsLeft now whole d within outside bits signals k → BitsLeft new whole d within outside bits signals (k + 1)
bit_more now new whole d within outside bits signals k bit s is at more h =
    joins_more now new whole (bit_joins d (moved_net within bit) (moved outside s)) (port_joins d (map (moved_net within) (drop (k + 1) bits)) (map (moved outside) (drop (k + 1) signals))) more
    (subst (λ (js : List Join). JoinsLeft now js whole) (bits_cut d within outside bits signals k bit s is at) h)

no_bits : (d : Dir) (bits : List NetId) → port_joins d bits [] ≡ []
no_bits d [] = refl
no_bits d (b ∷ bits) = refl

past_none : (signals : List Signal) (k : ℕ) → slice_get signals k ≡ None → length signals ≤ k
past_none [] k e = omega arith
past_none (s ∷ signals) zero e = absurd (let f : ⊥ = cc in f)
past_none (s ∷ signals) (suc k) e = let r = past_none signals k e in omega arith

no_signals : (bits : List NetId) (k : ℕ) → slice_get bits k ≡ None → length bits ≤ k
no_signals [] k e = omega arith
no_signals (b ∷ bits) zero e = absurd (let f : ⊥ = cc in f)
no_signals (b ∷ bits) (suc k) e = let r = no_signals bits k e in omega arith

pub bits_end : (now whole : Netlist) (d : Dir) (within outside : ℕ) (bits : List NetId) (signals : List Signal) (k : ℕ) → (slice_get bits k ≡ None) ⊎ (slice_get signals k ≡ None) → BitsLeft now whole d within outside bits signals k → now ≡ whole
bits_end now whole d within outside bits signals k none h = elim none [
  | inl bit ↦ joins_done now whole (subst (λ (js : List Join). JoinsLeft now js whole) (ap (λ (bs : List NetId). port_joins d (map (moved_net within) bs) (map (moved outside) (drop k signals))) (drop_over bits k (no_signals bits k bit))) h)
  | inr signal ↦ joins_done now whole (subst (λ (js : List Join). JoinsLeft now js whole) (ap (λ (ss : List Signal). port_joins d (map (moved_net within) (drop k bits)) (map (moved outside) ss)) (drop_over signals k (past_none signals k signal)) ∙ no_bits d (map (moved_net within) (drop k bits))) h)
]

pub bits_over : (now whole : Netlist) (d : Dir) (within outside : ℕ) (bits : List NetId) (signals : List Signal) (k : ℕ) → length signals ≤ k → BitsLeft now whole d within outside bits signals k → now ≡ whole
bits_over now whole d within outside bits signals k past h =
    joins_done now whole (subst (λ (js : List Join). JoinsLeft now js whole) (ap (λ (ss : List Signal). port_joins d (map (moved_net within) (drop k bits)) (map (moved outside) ss)) (drop_over signals k past) ∙ no_bits d (map (moved_net within) (drop k bits))) h)

-- what holds of all holds of the one at a place
pub all_at : {X : Type 0} (P : X → Type 0) (xs : List X) (k : ℕ) (x : X) → All P xs → slice_get xs k ≡ Some x → P x
all_at P xs k x all at = subst P (get_or_from_slice_get xs k x x at) (All-get_or P xs k x (slice_get_within xs k x at) all)

-- ---- the joins of one port after another

abbrev pub PortsJoined : (now whole : Netlist) (outside within : ℕ) (connections : List Connection) (ports : List Port) (k : ℕ) → Type 0
PortsJoined now whole outside within connections ports k = JoinsLeft now (connection_joins outside within connections (drop k ports)) whole

port_cut : (outside within : ℕ) (connections : List Connection) (ports : List Port) (k : ℕ) (p : Port) → k < length ports → p ≡ get_or ports k p → connection_joins outside within connections (drop k ports) ≡ connection_joins outside within connections (p ∷ []) ++ connection_joins outside within connections (drop (k + 1) ports)
port_cut outside within connections ports k p less is =
    let here : List Join = port_joins p.dir (map (moved_net within) p.bits) (map (moved outside) (joined_to connections p.name)) in
    ap (connection_joins outside within connections) (drop_next ports k p less is) ∙ ap (λ (js : List Join). js ++ connection_joins outside within connections (drop (k + 1) ports)) (sym (append-nil here))

pub port_here : (now whole : Netlist) (outside within : ℕ) (connections : List Connection) (ports : List Port) (k : ℕ) (p : Port) → k < length ports → p ≡ get_or ports k p → PortsJoined now whole outside within connections ports k → AreJoinsOf now (connection_joins outside within connections (p ∷ []))
port_here now whole outside within connections ports k p less is h = joins_here now whole (connection_joins outside within connections (p ∷ [])) (connection_joins outside within connections (drop (k + 1) ports)) (subst (λ (js : List Join). JoinsLeft now js whole) (port_cut outside within connections ports k p less is) h)

pub port_more : (now new whole : Netlist) (outside within : ℕ) (connections : List Connection) (ports : List Port) (k : ℕ) (p : Port) → k < length ports → p ≡ get_or ports k p → new ≡ with_joins now (connection_joins outside within connections (p ∷ [])) → PortsJoined now whole outside within connections ports k → PortsJoined new whole outside within connections ports (k + 1)
port_more now new whole outside within connections ports k p less is more h = joins_more now new whole (connection_joins outside within connections (p ∷ [])) (connection_joins outside within connections (drop (k + 1) ports)) more (subst (λ (js : List Join). JoinsLeft now js whole) (port_cut outside within connections ports k p less is) h)

pub ports_over : (now whole : Netlist) (outside within : ℕ) (connections : List Connection) (ports : List Port) (k : ℕ) → length ports ≤ k → PortsJoined now whole outside within connections ports k → now ≡ whole
ports_over now whole outside within connections ports k past h = joins_done now whole (subst (λ (js : List Join). JoinsLeft now js whole) (ap (connection_joins outside within connections) (drop_over ports k past)) h)

-- ---- the joins of a port that is connected, and of one that is not

pub connected : {X E : Type 0} (old new : Netlist) (d : Dir) (bits : List NetId) (outside : ℕ) (signals joined : List Signal) (r : Result X E) → joined ≡ signals → OnOk r (new ≡ with_joins old (port_joins d bits (map (moved outside) signals))) → OnOk r (new ≡ with_joins old (port_joins d bits (map (moved outside) joined) ++ []))
connected old new d bits outside signals joined (Ok x) same is = is ∙ ap (λ (ss : List Signal). with_joins old (port_joins d bits (map (moved outside) ss))) (sym same) ∙ ap (with_joins old) (sym (append-nil (port_joins d bits (map (moved outside) joined))))
connected old new d bits outside signals joined (Err e) same is = is

pub unconnected : (old : Netlist) (d : Dir) (bits : List NetId) (outside : ℕ) (joined : List Signal) → joined ≡ [] → old ≡ with_joins old (port_joins d bits (map (moved outside) joined) ++ [])
unconnected old d bits outside joined none =
    sym (ap (λ (ss : List Signal). with_joins old (port_joins d bits (map (moved outside) ss) ++ [])) none ∙ ap (λ (js : List Join). with_joins old (js ++ [])) (no_bits d bits) ∙ ap (λ (js : List Join). record old { joins = js }) (append-nil old.joins))
