-- What belongs to a domain is written by its lists, and from one domain's view to another's only leaves of the two differ.
use Rattle.std.proofs.Common.{ℕ, Bool, false, List, ◌∷◌, ◌≡◌, ◌<◌, ◌≤◌, ◌+◌, ◌==◌, ◌⊎◌, inl, inr, Option, None, Some, length, map, drop, refl, sym, ap, ◌∙◌, subst, get_or, slice_set, get_or-set_same, get_or-set_other, arith, []}
use Rattle.std.specs.Prelude.{not, if◌then◌else◌}
use Rattle.std.proofs.lemmas.Bool.Decides.{eqb_tells, leb_tells}
use Rattle.std.proofs.lemmas.List.{get_or_past, drop_all}
use Rattle.dft_base.specs.declared.tri.Tri.{Tri}
use Rattle.dft_base.specs.declared.tri.Tri.TheVariants.{Zero, Unknown}
use Rattle.dft_netlist.specs.Drivers.{Source}
use Rattle.dft_base.specs.Tri.{known}
use Rattle.dft_cells.specs.FlipFlops.{Forces, IsForceOf, tri_forced_by}
use Rattle.dft_behavior.specs.Logic.{Cell, Meaning, Input, Clock, Gate, Joined, Flop, Lockup, Free}
use Rattle.dft_behavior.specs.Settled.{value_from, value_given, inverse}
use Rattle.dft_netlist.specs.Orders.{Has}
use Rattle.dft_netlist.proofs.ListingLemmas.{has_front}
use Rattle.dft_logic.specs.declared.circuit.Op.{Op}
use Rattle.dft_logic.specs.declared.circuit.Op.TheVariants as op
use Rattle.dft_takings.specs.declared.settling.View.{View}
use Rattle.dft_abstract.specs.Cycle.{Pulse, lockup_shown}
use Rattle.dft_cycle.specs.Machine.{value_at, only_at, acted}
use Rattle.dft_logic.specs.Circuit.{Circuit, Supply, source_places, flag_at, meaning, op_at, cell_of, cell_at, latch_at, latch_domains, force_nets, leaf_domains, leaves_from, IsCircuit}
use Rattle.dft_takings.specs.Views.{base_of, view_base, changed, IsGivenIn, GivenIn, IsReady}
use Rattle.dft_logic.specs.Tables.{list_at}
use Rattle.dft_cycle.specs.Views.{next_at, next_by, held_by}
use Rattle.dft_cells.proofs.TakesLemmas.{left_twice}
use Rattle.dft_logic.proofs.Writings.{force_listed}
use Rattle.dft_cycle.proofs.NextLemmas.{by_hit, by_miss}
use Rattle.dft_cycle.proofs.RoundLemmas.{latch_hits, latch_misses}
use Rattle.dft_logic.proofs.Compiled.{latch_live}
use Rattle.dft_logic.proofs.Settlings.{IsGiven}

-- ---- writing by a list

-- those of the list that are left have their old values, all others their new ones
abbrev pub Listed : (count : ℕ) → (start now : List Tri) → (new : ℕ → Tri → Tri) → (rest : List ℕ) → Type 0
Listed count start now new rest = (k : ℕ) → k < count → (value_at now k ≡ new k (value_at start k)) ⊎ (Has rest k × (value_at now k ≡ value_at start k))

pub listed_more : (count : ℕ) (start now : List Tri) (new : ℕ → Tri → Tri) (xs : List ℕ) (j c d : ℕ) (t : Tri) → c ≡ get_or xs j d → j < length xs → c < length now → Listed count start now new (drop j xs) → t ≡ new c (value_at start c) →
    Listed count start (slice_set now c t) new (drop (j + 1) xs)
listed_more count start now new xs j c d t is less live before given k within = elim (eqb_tells k c) [
  | inl q ↦ (let F : ℕ → Tri = value_at (slice_set now c t) in let G : ℕ → Tri = λ n. new n (value_at start n) in inl (ap F q.1 ∙ get_or-set_same now c t Unknown live ∙ given ∙ sym (ap G q.1)))
  | inr q ↦ (let other : value_at (slice_set now c t) k ≡ value_at now k = get_or-set_other now c k t Unknown q.1 in
      elim (before k within) [
        | inl done ↦ inl (other ∙ done)
        | inr left ↦ elim (has_front xs j d k less left.0) [ inl e ↦ absurd (q.1 (e ∙ sym is)) | inr rest ↦ inr (rest, other ∙ left.1) ]
      ])
]

pub listed_all : (count : ℕ) (start now : List Tri) (new : ℕ → Tri → Tri) (xs : List ℕ) (j : ℕ) → length xs ≤ j → Listed count start now new (drop j xs) → (k : ℕ) → k < count → value_at now k ≡ new k (value_at start k)
listed_all count start now new xs j past before k within = elim (before k within) [
  | inl done ↦ done
  | inr left ↦ (let P : List ℕ → Type 0 = λ l. Has l k in absurd (subst P (drop_all j xs past) left.0))
]

-- ---- the flip-flops of a domain

pub cells_start : (x : Circuit) (d : ℕ) (ports values : ℕ → Tri) (next : List Tri) (xs : List ℕ) → IsCircuit x → d < length x.ops → xs ≡ list_at x.cells d →
    Listed (length x.flops) next next (λ k old. next_by (cell_at (map cell_of x.flops) k) d ports values old) xs
cells_start x d ports values next xs is live e k less =
    let cell : Cell = cell_at (map cell_of x.flops) k in
    elim (eqb_tells cell.domain d) [
      | inl q ↦ (let P : List ℕ → Type 0 = λ l. Has l k in inr (subst P (sym e) (is.tables.cells.each d k less live (inl (sym q.1))), refl))
      | inr q ↦ inl (sym (by_miss cell d ports values (value_at next k) q.0))
    ]

pub cell_listed : (x : Circuit) (d c : ℕ) (xs : List ℕ) → IsCircuit x → xs ≡ list_at x.cells d → Has xs c → (c < length x.flops) × ((cell_at (map cell_of x.flops) c).domain ≡ d)
cell_listed x d c xs is e h =
    let P : List ℕ → Type 0 = λ l. Has l c in
    let found = is.tables.cells.only d c (subst P e h) in
    (found.0, elim found.1 [ inl q ↦ sym q | inr none ↦ absurd none ])

pub next_listed : (cell : Cell) (d : ℕ) (ports values : ℕ → Tri) (t old : Tri) → cell.domain ≡ d → t ≡ next_at cell ports values → t ≡ next_by cell d ports values old
next_listed cell d ports values t old own is = elim (eqb_tells cell.domain d) [
  | inl q ↦ is ∙ sym (by_hit cell d ports values old q.0)
  | inr q ↦ absurd (q.1 own)
]

-- ---- the flip-flops of a reset or set

only_misses : (net : ℕ) (pin : Option ℕ) → ((port : ℕ) → pin ≡ Some port → port ≡ net → ⊥) → only_at net pin ≡ None
only_misses net None none = refl
only_misses net (Some port) none = elim (eqb_tells port net) [
  | inl q ↦ absurd (none port refl q.1)
  | inr q ↦ ap (λ (b : Bool). if b then Some port else None) q.0
]

acted_misses : (forces : Forces ℕ) (net : ℕ) (value bit : Tri) → (Has (force_nets forces) net → ⊥) → acted forces net value bit ≡ bit
acted_misses forces net value bit none =
    let listed : (port : ℕ) → IsForceOf forces port → port ≡ net → ⊥ = λ port is here. none (subst (Has (force_nets forces)) here (force_listed forces port is)) in
    λ t. tri_forced_by (record { clear = only_misses net forces.clear (λ port is. listed port (inl is)) t; preset = only_misses net forces.preset (λ port is. listed port (inr is)) t }) (λ port. value) bit

listed_either : (nets : List ℕ) (net : ℕ) → Has nets net ⊎ (Has nets net → ⊥)
listed_either [] net = inr (λ h. h)
listed_either (first ∷ nets) net = elim (eqb_tells net first) [
  | inl q ↦ inl (inl q.1)
  | inr q ↦ elim (listed_either nets net) [
    | inl here ↦ inl (inr here)
    | inr none ↦ inr (λ h. elim h [ inl e ↦ q.1 e | inr more ↦ none more ])
  ]
]

-- acting twice is acting once
acted_twice : (forces : Forces ℕ) (net : ℕ) (value bit : Tri) → acted forces net value (acted forces net value bit) ≡ acted forces net value bit
acted_twice forces net value bit = left_twice (record { clear = only_at net forces.clear; preset = only_at net forces.preset }) (λ port. value) bit

pub followers_start : (x : Circuit) (net : ℕ) (value : Tri) (cells : List Tri) (xs : List ℕ) → IsCircuit x → net < length x.ops → xs ≡ list_at x.followers net →
    Listed (length x.flops) cells cells (λ k old. acted (cell_at (map cell_of x.flops) k).forces net value old) xs
followers_start x net value cells xs is live e k less = elim (listed_either (force_nets (cell_at (map cell_of x.flops) k).forces) net) [
  | inl own ↦ (let P : List ℕ → Type 0 = λ l. Has l k in inr (subst P (sym e) (is.tables.followers.each net k less live own), refl))
  | inr other ↦ inl (sym (acted_misses (cell_at (map cell_of x.flops) k).forces net value (value_at cells k) other))
]

pub follower_listed : (x : Circuit) (net c : ℕ) (xs : List ℕ) → IsCircuit x → xs ≡ list_at x.followers net → Has xs c → c < length x.flops
follower_listed x net c xs is e h = (let P : List ℕ → Type 0 = λ l. Has l c in (is.tables.followers.only net c (subst P e h)).0)

pub acted_once : (count : ℕ) (start now : List Tri) (force : ℕ → Forces ℕ) (net c : ℕ) (value : Tri) (rest : List ℕ) → c < count → Listed count start now (λ k old. acted (force k) net value old) rest →
    acted (force c) net value (value_at now c) ≡ acted (force c) net value (value_at start c)
acted_once count start now force net c value rest less before = elim (before c less) [
  | inl done ↦ ap (λ (t : Tri). acted (force c) net value t) done ∙ acted_twice (force c) net value (value_at start c)
  | inr left ↦ ap (λ (t : Tri). acted (force c) net value t) left.1
]

-- ---- the lock-ups of a domain

hold_misses : (latch : Option (ℕ × Source)) (d : ℕ) (values : ℕ → Tri) (old : Tri) → (Has (latch_domains latch) d → ⊥) → held_by latch d values old ≡ old
hold_misses None d values old none = refl
hold_misses (Some latch) d values old none = elim (eqb_tells latch.0 d) [
  | inl q ↦ absurd (none (inl (sym q.1)))
  | inr q ↦ latch_misses (Some latch) d latch.0 latch.1 values old refl q.0
]

hold_either : (latch : Option (ℕ × Source)) (d : ℕ) → Has (latch_domains latch) d ⊎ (Has (latch_domains latch) d → ⊥)
hold_either None d = inr (λ h. h)
hold_either (Some latch) d = elim (eqb_tells latch.0 d) [
  | inl q ↦ inl (inl (sym q.1))
  | inr q ↦ inr (λ h. elim h [ inl e ↦ q.1 (sym e) | inr none ↦ none ])
]

pub holders_start : (x : Circuit) (d : ℕ) (values : ℕ → Tri) (held : List Tri) (xs : List ℕ) → IsCircuit x → d < length x.ops → xs ≡ list_at x.holders d →
    Listed (length x.latches) held held (λ k old. held_by (latch_at x.latches k) d values old) xs
holders_start x d values held xs is live e k less = elim (hold_either (latch_at x.latches k) d) [
  | inl own ↦ (let P : List ℕ → Type 0 = λ l. Has l k in inr (subst P (sym e) (is.tables.holders.each d k less live own), refl))
  | inr other ↦ inl (sym (hold_misses (latch_at x.latches k) d values (value_at held k) other))
]

pub holder_listed : (x : Circuit) (d c : ℕ) (xs : List ℕ) → IsCircuit x → xs ≡ list_at x.holders d → Has xs c → (c < length x.latches) × Has (latch_domains (latch_at x.latches c)) d
holder_listed x d c xs is e h = (let P : List ℕ → Type 0 = λ l. Has l c in is.tables.holders.only d c (subst P e h))

-- what it is held at does not depend on what it was held at
pub held_once : (latch : Option (ℕ × Source)) (d : ℕ) (values : ℕ → Tri) (one other : Tri) → Has (latch_domains latch) d → held_by latch d values one ≡ held_by latch d values other
held_once None d values one other h = absurd h
held_once (Some latch) d values one other h = elim (eqb_tells latch.0 d) [
  | inl q ↦ latch_hits (Some latch) d latch.0 latch.1 values one refl q.0 ∙ sym (latch_hits (Some latch) d latch.0 latch.1 values other refl q.0)
  | inr q ↦ elim h [ inl e ↦ absurd (q.1 (sym e)) | inr none ↦ absurd none ]
]

-- ---- from view to view

-- a net that shows a domain is one of its leaves
leaf : (x : Circuit) (d k : ℕ) → IsCircuit x → d < length x.ops → Has (leaf_domains (map cell_of x.flops) k (meaning (op_at x.ops k))) d → Has (list_at x.leaves d) k
leaf x d k is live h = elim (leb_tells (length x.ops) k) [
  | inl out ↦ (let P : Op → Type 0 = λ o. Has (leaf_domains (map cell_of x.flops) k (meaning o)) d in absurd (subst P (get_or_past x.ops k op.Free out.1) h))
  | inr less ↦ is.tables.leaves.each d k less.1 live h
]

-- two domains' tests that fail alike
sources_same : (f : Bool → Tri) (a d e : ℕ) → (a ≡ d → ⊥) → (a ≡ e → ⊥) → f (a == d) ≡ f (a == e)
sources_same f a d e one two = elim (eqb_tells a d) [
  | inl q ↦ absurd (one q.1)
  | inr q ↦ elim (eqb_tells a e) [ inl r ↦ absurd (two r.1) | inr r ↦ ap f (q.0 ∙ sym r.0) ]
]

shown_same : (cells : List Cell) (p : Pulse) (poss held : List Tri) (d e k : ℕ) (values : ℕ → Tri) (m : Meaning) →
    Has (leaf_domains cells k m) d ⊎ (Has (leaf_domains cells k m) e ⊎ (value_given (leaves_from (base_of cells p poss held d) values) values k m ≡ value_given (leaves_from (base_of cells p poss held e) values) values k m))
shown_same cells p poss held d e k values Input = inr (inr refl)
shown_same cells p poss held d e k values Clock = elim (eqb_tells k d) [
  | inl q ↦ inl (inl (sym q.1))
  | inr q ↦ elim (eqb_tells k e) [
    | inl r ↦ inr (inl (inl (sym r.1)))
    | inr r ↦ inr (inr (sources_same (λ b. if p.pulsed k then (if b then known (not p.rising) else Unknown) else Zero) k d e q.1 r.1))
  ]
]
shown_same cells p poss held d e k values (Gate kind inputs) = inr (inr refl)
shown_same cells p poss held d e k values (Joined source) = inr (inr refl)
shown_same cells p poss held d e k values (Flop c inverted) =
    let a : ℕ = (cell_at cells c).domain in
    elim (eqb_tells a d) [
      | inl q ↦ inl (inl (sym q.1))
      | inr q ↦ elim (eqb_tells a e) [
        | inl r ↦ inr (inl (inl (sym r.1)))
        | inr r ↦ inr (inr (sources_same (λ b. let bit = (if changed (cell_at cells c) p then (if b then p.old c else value_at poss c) else p.old c) in if inverted then inverse bit else bit) a d e q.1 r.1))
      ]
    ]
shown_same cells p poss held d e k values (Lockup c f high source) = elim (eqb_tells f d) [
  | inl q ↦ inl (inl (sym q.1))
  | inr q ↦ elim (eqb_tells f e) [
    | inl r ↦ inr (inl (inl (sym r.1)))
    | inr r ↦ inr (inr (sources_same (λ b. lockup_shown p.rising (p.pulsed f) b high (p.old c) (value_from values source) (value_at held c)) f d e q.1 r.1))
  ]
]
shown_same cells p poss held d e k values Free = inr (inr refl)

pub moved : (x : Circuit) (p : Pulse) (poss held values : List Tri) (d e k : ℕ) → IsCircuit x → d < length x.ops → e < length x.ops → Has (list_at x.leaves d) k ⊎ GivenIn x p poss held d values k →
    Has (list_at x.leaves d) k ⊎ (Has (list_at x.leaves e) k ⊎ GivenIn x p poss held e values k)
moved x p poss held values d e k is here there before = elim before [
  | inl left ↦ inl left
  | inr given ↦ elim (shown_same (map cell_of x.flops) p poss held d e k (value_at values) (meaning (op_at x.ops k))) [
    | inl own ↦ inl (leaf x d k is here own)
    | inr rest ↦ elim rest [ inl new ↦ inr (inl (leaf x e k is there new)) | inr same ↦ inr (inr (given ∙ same)) ]
  ]
]

held_same : (cells : List Cell) (p : Pulse) (poss held new : List Tri) (d k : ℕ) (values : ℕ → Tri) (m : Meaning) → ((c e : ℕ) (high : Bool) (source : Source) → m ≡ Lockup c e high source → (e ≡ d → ⊥) → value_at held c ≡ value_at new c) →
    Has (leaf_domains cells k m) d ⊎ (value_given (leaves_from (base_of cells p poss held d) values) values k m ≡ value_given (leaves_from (base_of cells p poss new d) values) values k m)
held_same cells p poss held new d k values Input same = inr refl
held_same cells p poss held new d k values Clock same = inr refl
held_same cells p poss held new d k values (Gate kind inputs) same = inr refl
held_same cells p poss held new d k values (Joined source) same = inr refl
held_same cells p poss held new d k values (Flop c inverted) same = inr refl
held_same cells p poss held new d k values (Lockup c e high source) same = elim (eqb_tells e d) [
  | inl q ↦ inl (inl (sym q.1))
  | inr q ↦ inr (ap (lockup_shown p.rising (p.pulsed e) (e == d) high (p.old c) (value_from values source)) (same c e high source refl q.1))
]
held_same cells p poss held new d k values Free same = inr refl

-- after the lock-ups of a domain are held anew, its leaves alone may differ
pub held_near : (x : Circuit) (p : Pulse) (poss held new values : List Tri) (d k : ℕ) → IsCircuit x → d < length x.ops →
    ((c : ℕ) → c < length x.latches → value_at new c ≡ held_by (latch_at x.latches c) d (value_at values) (value_at held c)) → GivenIn x p poss held d values k →
    Has (list_at x.leaves d) k ⊎ GivenIn x p poss new d values k
held_near x p poss held new values d k is live each given =
    let other : (c e : ℕ) (high : Bool) (source : Source) → meaning (op_at x.ops k) ≡ Lockup c e high source → (e ≡ d → ⊥) → value_at held c ≡ value_at new c = λ c e high source h ne.
    (let latch = is.latched k c e high source h in
    elim (eqb_tells e d) [
      | inl q ↦ absurd (ne q.1)
      | inr q ↦ sym (each c (latch_live x.latches c (e, source) latch) ∙ latch_misses (latch_at x.latches c) d e source (value_at values) (value_at held c) latch q.0)
    ]) in
    elim (held_same (map cell_of x.flops) p poss held new d k (value_at values) (meaning (op_at x.ops k)) other) [
      | inl own ↦ inl (leaf x d k is live own)
      | inr same ↦ inr (given ∙ same)
    ]

-- ---- from any sources to any view

given_any : (base other : Supply) (k : ℕ) (values : ℕ → Tri) (m : Meaning) → Has (source_places m) 0 ⊎ (value_given (leaves_from base values) values k m ≡ value_given (leaves_from other values) values k m)
given_any base other k values Input = inl (inl refl)
given_any base other k values Clock = inl (inl refl)
given_any base other k values (Gate kind inputs) = inr refl
given_any base other k values (Joined source) = inr refl
given_any base other k values (Flop c inverted) = inl (inl refl)
given_any base other k values (Lockup c e high source) = inl (inl refl)
given_any base other k values Free = inr refl

source : (x : Circuit) (k : ℕ) → IsCircuit x → Has (source_places (meaning (op_at x.ops k))) 0 → Has (list_at x.sources 0) k
source x k is h = elim (leb_tells (length x.ops) k) [
  | inl out ↦ (let P : Op → Type 0 = λ o. Has (source_places (meaning o)) 0 in absurd (subst P (get_or_past x.ops k op.Free out.1) h))
  | inr less ↦ is.tables.sources.each 0 k less.1 (omega arith) h
]

-- once the sources have their values, each net that is not marked has its driver's
pub ready_refreshed : (x : Circuit) (base : Supply) (values new : List Tri) (first marked : List Bool) (xs : List ℕ) → IsCircuit x → xs ≡ list_at x.sources 0 → IsReady x values →
    ((others : List ℕ) → ((k : ℕ) → flag_at first k ≡ false → Has xs k ⊎ (Has others k ⊎ IsGiven x.ops base values k)) → (k : ℕ) → flag_at marked k ≡ false → Has others k ⊎ IsGiven x.ops base new k) →
    (k : ℕ) → flag_at marked k ≡ false → IsGiven x.ops base new k
ready_refreshed x base values new first marked xs is e ready done k down =
    let near : (m : ℕ) → flag_at first m ≡ false → Has xs m ⊎ (Has [] m ⊎ IsGiven x.ops base values m) = λ m up.
    (let P : List ℕ → Type 0 = λ l. Has l m in
    elim (given_any ready.base base m (value_at values) (meaning (op_at x.ops m))) [
      | inl own ↦ inl (subst P (sym e) (source x m is own))
      | inr same ↦ inr (inr (ready.given m ∙ same))
    ]) in
    elim (done [] near k down) [ inl none ↦ absurd none | inr given ↦ given ]

pub ready_in : (x : Circuit) (p : Pulse) (poss held values : List Tri) (d : ℕ) → ((k : ℕ) → GivenIn x p poss held d values k) → IsReady x values
ready_in x p poss held values d given = record { base = base_of (map cell_of x.flops) p poss held d; given = given }

pub ready_view : (x : Circuit) (v : View) (values : List Tri) → ((k : ℕ) → IsGivenIn x v v.domain.0 values k) → IsReady x values
ready_view x v values given = record { base = view_base (map cell_of x.flops) v; given = given }
