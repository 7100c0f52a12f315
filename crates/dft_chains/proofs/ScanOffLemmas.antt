-- With scan off the nets of the original have the same bits.
use Rattle.std.proofs.Common.{ℕ, zero, suc, Bool, true, false, List, [], ◌∷◌, ◌≡◌, ◌<◌, refl, sym, ap, subst, arith, map, ◌∙◌, Option, None, Some, ◌&&◌}
use Rattle.std.specs.Prelude.{if◌then◌else◌, not}
use Rattle.std.proofs.lemmas.Bool.{and_left}
use Rattle.dft_base.specs.declared.tri.Tri.TheVariants.{Zero}
use Rattle.dft_base.specs.declared.tri.Tri.{Tri}
use Rattle.dft_base.specs.Tri.{completed, AboveTri}
use Rattle.dft_cells.specs.Gates.{bit_of}
use Rattle.dft_cells.specs.FlipFlops.{chosen, tri_chosen, Scan, Forces, moved_forces, scan_sources, taken_from, scanned, taken_by, forced_by, tri_scanned, tri_taken_by}
use Rattle.dft_cells.proofs.TriLemmas.{chosen_zero}
use Rattle.dft_cells.proofs.TakesLemmas.{bits_moved}
use Rattle.dft_netlist.specs.Drivers.{Source, Net, Tied, Loose, nets_of, AreBelow}
use Rattle.dft_behavior.specs.Logic.{Logic, Meaning, Input, Clock, Gate, Joined, Flop, Lockup, Free, Cell, reads, IsRanked}
use Rattle.dft_behavior.specs.Settled.{Sources, bit_from, bit_given}
use Rattle.dft_behavior.specs.Runs.{State, Moment, Now, port_bits, sources_of, IsNow, next_bit, Event, Set, after_event, at_moment, Step, next_now, AreSteps, takes, edge}
use Rattle.dft_chains.specs.ScanOff.{moved_source, moved_meaning, Places, IsWithin, AreForcesWithin, AllOf, IsEnabledBy, KeepsFlop, PinsKeep, Contains, AreSameDomains, AreAdded, IsSameEvent, SameSet, SameRise, SameFall, AddedRise, AddedFall, AreFreeAlike, AreSameSteps, AllAgree, set_to, ScanOff}

-- what both have in common at a moment, but for free bits
record AreAlike (p : Places) (s its : State) : Type 0 where
  pub ports : (net : ℕ) → net < p.size → s.ports (p.moved net) ≡ its.ports net
  pub off : s.ports p.enable ≡ Zero
  pub flops : (cell : ℕ) → p.is_flop cell ≡ true → s.flops cell ≡ its.flops cell
  pub high : (domain : ℕ) → s.high (p.moved domain) ≡ its.high domain

-- ---- settled bits

inputs_same : (rank : ℕ → ℕ) (r : ℕ) (p : Places) (s t : Sources) (a b : ℕ → Bool) → ((i pin : ℕ) → s.loose i pin ≡ t.loose i pin) → ((net : ℕ) → net < p.size → rank net < r → a (p.moved net) ≡ b net) →
    (inputs : List Source) → AreBelow (λ k. k) p.size (nets_of inputs) → AreBelow rank r (nets_of inputs) → map (bit_from s a) (map (moved_source p.moved) inputs) ≡ map (bit_from t b) inputs
inputs_same rank r p s t a b pins ih [] inside below = refl
inputs_same rank r p s t a b pins ih (Net net ∷ inputs) inside below = λ i. ih net inside.0 below.0 i ∷ inputs_same rank r p s t a b pins ih inputs inside.1 below.1 i
inputs_same rank r p s t a b pins ih (Tied bit ∷ inputs) inside below = λ i. bit ∷ inputs_same rank r p s t a b pins ih inputs inside below i
inputs_same rank r p s t a b pins ih (Loose c pin ∷ inputs) inside below = λ i. pins c pin i ∷ inputs_same rank r p s t a b pins ih inputs inside below i

joined_same : (rank : ℕ → ℕ) (r : ℕ) (p : Places) (s t : Sources) (a b : ℕ → Bool) → ((i pin : ℕ) → s.loose i pin ≡ t.loose i pin) → ((net : ℕ) → net < p.size → rank net < r → a (p.moved net) ≡ b net) →
    (source : Source) → AreBelow (λ k. k) p.size (nets_of (source ∷ [])) → AreBelow rank r (nets_of (source ∷ [])) → bit_from s a (moved_source p.moved source) ≡ bit_from t b source
joined_same rank r p s t a b pins ih (Net net) inside below = ih net inside.0 below.0
joined_same rank r p s t a b pins ih (Tied bit) inside below = refl
joined_same rank r p s t a b pins ih (Loose c pin) inside below = pins c pin

-- a net of the design has the bit of its place in the other one, where what gives it and what it reads are the same
given_same : (rank : ℕ → ℕ) (p : Places) (s t : Sources) (a b : ℕ → Bool) (net : ℕ) →
    (ports : s.ports (p.moved net) ≡ t.ports net) → (high : ((domain : ℕ) → s.high (p.moved domain) ≡ t.high domain)) → (flops : ((cell : ℕ) → p.is_flop cell ≡ true → s.flops cell ≡ t.flops cell)) →
    (free : s.free (p.moved net) ≡ t.free net) → (pins : ((i pin : ℕ) → s.loose i pin ≡ t.loose i pin)) → (ih : ((k : ℕ) → k < p.size → rank k < rank net → a (p.moved k) ≡ b k)) →
    (m : Meaning) → (inside : AreBelow (λ k. k) p.size (reads m)) → (below : AreBelow rank (rank net) (reads m)) → (shown : ((cell : ℕ) (inverted : Bool) → m ≡ Flop cell inverted → p.is_flop cell ≡ true)) →
    (no_lockup : ((cell domain : ℕ) (high : Bool) (source : Source) → m ≡ Lockup cell domain high source → ⊥)) → bit_given s a (p.moved net) (moved_meaning p.moved m) ≡ bit_given t b net m
given_same rank p s t a b net ports high flops free pins ih Input inside below shown no_lockup = ports
given_same rank p s t a b net ports high flops free pins ih Clock inside below shown no_lockup = high net
given_same rank p s t a b net ports high flops free pins ih (Gate kind inputs) inside below shown no_lockup = ap (bit_of kind) (inputs_same rank (rank net) p s t a b pins ih inputs inside below)
given_same rank p s t a b net ports high flops free pins ih (Joined source) inside below shown no_lockup = joined_same rank (rank net) p s t a b pins ih source inside below
given_same rank p s t a b net ports high flops free pins ih (Flop cell inverted) inside below shown no_lockup = ap (λ (bit : Bool). if inverted then not bit else bit) (flops cell (shown cell inverted refl))
given_same rank p s t a b net ports high flops free pins ih (Lockup cell domain up source) inside below shown no_lockup = absurd (no_lockup cell domain up source refl)
given_same rank p s t a b net ports high flops free pins ih Free inside below shown no_lockup = free

port_same : (p : Places) (now its : Now) → AreAlike p now.state its.state → AreFreeAlike p now.moment its.moment → (net : ℕ) → net < p.size → port_bits now.state now.moment (p.moved net) ≡ port_bits its.state its.moment net
port_same p now its alike free net inside = ap (λ t. completed t (now.moment.free (p.moved net))) (alike.ports net inside) ∙ ap (completed (its.state.ports net)) (free.nets net inside)

seen_by : (original written : Logic) (rank : ℕ → ℕ) (p : Places) (now its : Now) → (ranked : IsRanked original rank) → (has : Contains original written p) → (alike : AreAlike p now.state its.state) → (free : AreFreeAlike p now.moment its.moment) →
    (settled : IsNow written now) → (its_settled : IsNow original its) → (fuel net : ℕ) → (less : rank net < fuel) → (inside : net < p.size) → now.moment.seen (p.moved net) ≡ its.moment.seen net
seen_by original written rank p now its ranked has alike free settled its_settled zero net less inside = absurd (omega (arith, less))
seen_by original written rank p now its ranked has alike free settled its_settled (suc fuel) net less inside =
    settled (p.moved net) ∙ ap (bit_given (sources_of now) now.moment.seen (p.moved net)) (has.nets net inside)
    ∙ given_same rank p (sources_of now) (sources_of its) now.moment.seen its.moment.seen net (port_same p now its alike free net inside) alike.high alike.flops (free.nets net inside) free.pins
    (λ k k_inside below. seen_by original written rank p now its ranked has alike free settled its_settled fuel k (omega (arith, less, below)) k_inside)
    (original.net net) (has.closed net inside) (ranked.order net) (λ cell inverted is. has.shown net cell inverted inside is) (λ cell domain high source is. has.no_lockup net cell domain high source inside is)
    ∙ sym (its_settled net)

seen_same : (original written : Logic) (rank : ℕ → ℕ) (p : Places) (now its : Now) → IsRanked original rank → Contains original written p → AreAlike p now.state its.state → AreFreeAlike p now.moment its.moment →
    IsNow written now → IsNow original its → (net : ℕ) → net < p.size → now.moment.seen (p.moved net) ≡ its.moment.seen net
seen_same original written rank p now its ranked has alike free settled its_settled net inside = seen_by original written rank p now its ranked has alike free settled its_settled (suc (rank net)) net (omega arith) inside

-- ---- flip-flops

forced_same : (p : Places) (forces : Forces ℕ) (a b : ℕ → Bool) (x y : Bool) → AreForcesWithin p.size forces → ((net : ℕ) → net < p.size → a (p.moved net) ≡ b net) → x ≡ y → forced_by (moved_forces p.moved forces) a x ≡ forced_by forces b y
forced_same p forces a b x y inside same is = bits_moved p.moved forces a b x (λ port has. same port (inside port has)) ∙ ap (forced_by forces b) is

input_same : (p : Places) (now its : Now) → ((i pin : ℕ) → now.moment.loose i pin ≡ its.moment.loose i pin) → ((net : ℕ) → net < p.size → now.moment.seen (p.moved net) ≡ its.moment.seen net) → (source : Source) → IsWithin p.size source →
    bit_from (sources_of now) now.moment.seen (moved_source p.moved source) ≡ bit_from (sources_of its) its.moment.seen source
input_same p now its pins same (Net net) inside = same net inside
input_same p now its pins same (Tied bit) inside = refl
input_same p now its pins same (Loose i pin) inside = pins i pin

all_of : (P Q : Source → Type 0) → ((source : Source) → P source → Q source) → (sources : List Source) → AllOf P sources → AllOf Q sources
all_of P Q each [] all = tt
all_of P Q each (source ∷ sources) all = (each source all.0, all_of P Q each sources all.1)

-- a scan enable that is 0 leaves the data input
scan_off_bit : (port : ℕ) (scan : Option (Scan Source)) (at : Source → Bool) (bit : Bool) → IsEnabledBy port scan → at (Net port) ≡ false → scanned scan at bit ≡ bit
scan_off_bit port None at bit enabled off = refl
scan_off_bit port (Some scan) at bit enabled off = ap (λ e. chosen (at e) (at scan.input) bit) enabled ∙ ap (λ e. chosen e (at scan.input) bit) off

scan_off_value : (port : ℕ) (scan : Option (Scan Source)) (at : Source → Tri) (t : Tri) → IsEnabledBy port scan → at (Net port) ≡ Zero → tri_scanned scan at t ≡ t
scan_off_value port None at t enabled off = refl
scan_off_value port (Some scan) at t enabled off = ap (λ e. tri_chosen (at e) (at scan.input) t) enabled ∙ ap (λ e. tri_chosen e (at scan.input) t) off ∙ chosen_zero (at scan.input) t

over_equal : (t u v w : Tri) → t ≡ u → v ≡ w → AboveTri u w → AboveTri t v
over_equal t u v w e f over = rw (e, f) over

pub pins_keep : PinsKeep
pins_keep p old new kept = record {
  domain = kept.domain;
  falling = kept.falling;
  forces = kept.forces;
  forces_within = kept.forces_within;
  within = (kept.input_within, subst (λ (s : Option (Scan Source)). AllOf (IsWithin p.size) (scan_sources s)) (sym kept.plain) tt);
  same = λ own at there off agree. scan_off_bit p.enable new.takes.scan at (at new.takes.input) kept.scan off ∙ ap at kept.input ∙ agree.0
      ∙ sym (ap (λ (s : Option (Scan Source)). scanned s there (there old.takes.input)) kept.plain);
  below = λ own its at there above off over. over_equal (tri_taken_by old.takes its there) (there old.takes.input) (tri_taken_by new.takes own at) (at (moved_source p.moved old.takes.input))
      (ap (λ (s : Option (Scan Source)). tri_scanned s there (there old.takes.input)) kept.plain) (scan_off_value p.enable new.takes.scan at (at new.takes.input) kept.scan off ∙ ap at kept.input) over.0;
}

enable_low : (original written : Logic) (p : Places) (now : Now) → Contains original written p → now.state.ports p.enable ≡ Zero → IsNow written now → now.moment.seen p.enable ≡ false
enable_low original written p now has off settled =
    settled p.enable ∙ ap (bit_given (sources_of now) now.moment.seen p.enable) has.enable ∙ ap (λ t. completed t (now.moment.free p.enable)) off

next_same : (original written : Logic) (p : Places) (now its : Now) (c : ℕ) → Contains original written p → AreAlike p now.state its.state → AreFreeAlike p now.moment its.moment → now.moment.seen p.enable ≡ false →
    ((net : ℕ) → net < p.size → now.moment.seen (p.moved net) ≡ its.moment.seen net) → p.is_flop c ≡ true → next_bit (written.cell c) (now.state.flops c) now ≡ next_bit (original.cell c) (its.state.flops c) its
next_same original written p now its c has alike free low same is =
    let at : Source → Bool = bit_from (sources_of now) now.moment.seen in
    let there : Source → Bool = bit_from (sources_of its) its.moment.seen in
    let old : Cell = original.cell c in
    let new : Cell = written.cell c in
    let kept : KeepsFlop p old new = has.flops c is in
    let agree : AllOf (λ source. at (moved_source p.moved source) ≡ there source) (taken_from old.takes) =
    all_of (IsWithin p.size) (λ source. at (moved_source p.moved source) ≡ there source) (input_same p now its free.pins same) (taken_from old.takes) kept.within in
    ap (λ (f : Forces ℕ). forced_by f (port_bits now.state now.moment) (taken_by new.takes (now.state.flops c) at)) kept.forces
    ∙ forced_same p old.forces (port_bits now.state now.moment) (port_bits its.state its.moment) (taken_by new.takes (now.state.flops c) at) (taken_by old.takes (its.state.flops c) there) kept.forces_within
    (λ net inside. port_same p now its alike free net inside)
    (kept.same (now.state.flops c) at there low agree ∙ ap (λ (own : Bool). taken_by old.takes own there) (alike.flops c is))

pick : (a b : Bool) (x y z t : Bool) → a ≡ b → x ≡ z → y ≡ t → (if a then x else y) ≡ (if b then z else t)
pick a b x y z t e f g = rw (e, f, g) refl

not_picked : (a : Bool) (x y z : Bool) → a ≡ false → y ≡ z → (if a then x else y) ≡ z
not_picked a x y z e f = rw e f

-- ---- events

edge_alike : (original written : Logic) (p : Places) (now its : Now) (domains those : ℕ → Bool) (rising : Bool) → AreSameDomains p domains those → Contains original written p → AreAlike p now.state its.state → AreFreeAlike p now.moment its.moment → now.moment.seen p.enable ≡ false →
    ((net : ℕ) → net < p.size → now.moment.seen (p.moved net) ≡ its.moment.seen net) → AreAlike p (edge written now domains rising) (edge original its those rising)
edge_alike original written p now its domains those rising are has alike free low same = record {
  ports = alike.ports;
  off = alike.off;
  flops = λ c is. pick (domains (written.cell c).domain && takes rising (written.cell c).falling) (those (original.cell c).domain && takes rising (original.cell c).falling)
      (next_bit (written.cell c) (now.state.flops c) now) (now.state.flops c) (next_bit (original.cell c) (its.state.flops c) its) (its.state.flops c)
      (λ t. (ap domains (has.flops c is).domain ∙ are (original.cell c).domain) t && takes rising ((has.flops c is).falling t))
      (next_same original written p now its c has alike free low same is) (alike.flops c is);
  high = λ e. pick (domains (p.moved e)) (those e) rising (now.state.high (p.moved e)) rising (its.state.high e) (are e) refl (alike.high e);
}

added_alike : (original written : Logic) (p : Places) (now its : Now) (domains : ℕ → Bool) (rising : Bool) → Contains original written p → AreAlike p now.state its.state → AreAdded p domains →
    AreAlike p (edge written now domains rising) (after_event original its (Set its.state.ports))
added_alike original written p now its domains rising has alike added = record {
  ports = alike.ports;
  off = alike.off;
  flops = λ c is. not_picked (domains (written.cell c).domain && takes rising (written.cell c).falling) (next_bit (written.cell c) (now.state.flops c) now) (now.state.flops c) (its.state.flops c)
      (and_left (domains (written.cell c).domain) (takes rising (written.cell c).falling) (ap domains (has.flops c is).domain ∙ added (original.cell c).domain)) (alike.flops c is);
  high = λ e. not_picked (domains (p.moved e)) rising (now.state.high (p.moved e)) (its.state.high e) (added e) (alike.high e);
}

after_alike : (original written : Logic) (p : Places) (now its : Now) (event other : Event) → Contains original written p → AreAlike p now.state its.state → AreFreeAlike p now.moment its.moment → now.moment.seen p.enable ≡ false →
    ((net : ℕ) → net < p.size → now.moment.seen (p.moved net) ≡ its.moment.seen net) → IsSameEvent p its.state.ports event other → AreAlike p (after_event written now event) (after_event original its other)
after_alike original written p now its _ _ has alike free low same (SameSet {given = given} {its = ports} off are) = record { ports = are; off = off; flops = alike.flops; high = alike.high }
after_alike original written p now its _ _ has alike free low same (SameRise {domains = domains} {its = those} are) = edge_alike original written p now its domains those true are has alike free low same
after_alike original written p now its _ _ has alike free low same (SameFall {domains = domains} {its = those} are) = edge_alike original written p now its domains those false are has alike free low same
after_alike original written p now its _ _ has alike free low same (AddedRise {domains = domains} added) = added_alike original written p now its domains true has alike added
after_alike original written p now its _ _ has alike free low same (AddedFall {domains = domains} added) = added_alike original written p now its domains false has alike added

-- resets and sets act alike
moment_alike : (original written : Logic) (p : Places) (s its : State) (m o : Moment) → Contains original written p → AreAlike p s its → AreFreeAlike p m o → AreAlike p (at_moment written m s) (at_moment original o its)
moment_alike original written p s its m o has alike free = record {
  ports = alike.ports;
  off = alike.off;
  flops = λ c is. ap (λ (f : Forces ℕ). forced_by f (port_bits s m) (s.flops c)) (has.flops c is).forces
      ∙ forced_same p (original.cell c).forces (port_bits s m) (port_bits its o) (s.flops c) (its.flops c) (has.flops c is).forces_within
      (λ net inside. port_same p (record { state = s; moment = m }) (record { state = its; moment = o }) alike free net inside) (alike.flops c is);
  high = alike.high;
}

-- ---- lists of events

agree : (original written : Logic) (rank : ℕ → ℕ) (p : Places) (now its : Now) (steps others : List Step) → IsRanked original rank → Contains original written p → AreAlike p now.state its.state → AreFreeAlike p now.moment its.moment →
    IsNow written now → IsNow original its → AreSameSteps original p its steps others → AreSteps written now steps → AreSteps original its others → AllAgree p steps others
agree original written rank p now its [] others ranked has alike free settled its_settled same are its_are = tt
agree original written rank p now its (step ∷ steps) [] ranked has alike free settled its_settled same are its_are = absurd same
agree original written rank p now its (step ∷ steps) (other ∷ others) ranked has alike free settled its_settled same are its_are =
    let next : Now = next_now written now step in
    let there : Now = next_now original its other in
    let on : AreAlike p next.state there.state = moment_alike original written p (after_event written now step.event) (after_event original its other.event) step.moment other.moment has
    (after_alike original written p now its step.event other.event has alike free (enable_low original written p now has alike.off settled)
    (seen_same original written rank p now its ranked has alike free settled its_settled) same.0) same.1 in
    (seen_same original written rank p next there ranked has on same.1 are.0 its_are.0, agree original written rank p next there steps others ranked has on same.1 are.0 its_are.0 same.2 are.1 its_are.1)

pub scan_off : ScanOff
scan_off original written rank p now its given ports m o steps others ranked has low its_low flops off set free same are its_are =
    let next : Now = next_now written now (set_to given m) in
    let there : Now = next_now original its (set_to ports o) in
    let on : AreAlike p next.state there.state = moment_alike original written p (after_event written now (Set given)) (after_event original its (Set ports)) m o has
    (record { ports = set; off = off; flops = flops; high = λ domain. low (p.moved domain) ∙ sym (its_low domain) }) free in
    (seen_same original written rank p next there ranked has on free are.0 its_are.0, agree original written rank p next there steps others ranked has on free are.0 its_are.0 same are.1 its_are.1)
