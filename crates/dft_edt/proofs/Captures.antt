-- The capture, by rank of the original's nets, in the rises and then in the falls.
use Rattle.std.proofs.Common.{ℕ, zero, suc, Bool, true, false, ◌&&◌, List, [], ◌∷◌, ◌≡◌, ◌==◌, ◌<◌, inl, inr, option_map, refl, sym, subst, ap, arith, map, ◌∙◌, Option, None, Some}
use Rattle.std.specs.Prelude.{if◌then◌else◌}
use Rattle.std.proofs.lemmas.Bool.{eq-eqb, eqb-true, and_parts}
use Rattle.dft_base.specs.declared.tri.Tri.{Tri}
use Rattle.dft_base.specs.declared.tri.Tri.TheVariants.{Zero, Unknown}
use Rattle.dft_base.specs.Tri.{known, AboveTri}
use Rattle.dft_cells.specs.Gates.{bit_of}
use Rattle.dft_cells.specs.FlipFlops.{Forces, moved_forces, taken_from, tri_taken_by, tri_forced_where, tri_forced_by}
use Rattle.dft_cells.proofs.Completions.{above_self, trans, AllOver, shared_monotone, forced_monotone}
use Rattle.dft_cells.proofs.TakesLemmas.{left_twice, left_monotone}
use Rattle.dft_netlist.specs.Drivers.{Source, Net, Tied, Loose, nets_of, AreBelow}
use Rattle.dft_behavior.specs.Logic.{Logic, Meaning, Input, Clock, Gate, Joined, Flop, Lockup, Free, reads, IsRanked}
use Rattle.dft_behavior.specs.Settled.{TriSources, value_from, value_given, IsTriSettled}
use Rattle.dft_behavior.specs.Runs.{Vector, takes}
use Rattle.dft_behavior.proofs.SettledLemmas.{value_at}
use Rattle.dft_behavior.proofs.Meanings.{pin_monotone}
use Rattle.dft_abstract.specs.Cycle.{Pulse, changes, clock_value, view_sources, AreViews, next_value, after_pulse, rise_of, fall_of, strobe_sources}
use Rattle.dft_abstract.specs.Laws.{next_from}
use Rattle.dft_abstract.proofs.OneDomain.{flop_old}
use Rattle.dft_chains.specs.ScanOff.{moved_source, moved_meaning, Places, IsWithin, AreForcesWithin, AllOf, KeepsFlop}
use Rattle.dft_edt.specs.Captures.{Covers, ContainingCovers, WideningCovers, StandsOver, StrobeLaw, AllIn, IsClockFree, IsCapture, after_edge, CaptureLaw}
use Rattle.dft_chains.proofs.Staying.{net_stays}

-- ---- settled values of nets that are closed under what they read

source_over : (rank : ℕ → ℕ) (r : ℕ) (p : Places) (free : ℕ → Bool) (a b : ℕ → Tri) → ((net : ℕ) → net < p.size → free net ≡ true → rank net < r → AboveTri (a net) (b (p.moved net))) →
    (source : Source) → AreBelow (λ k. k) p.size (nets_of (source ∷ [])) → AllIn free (nets_of (source ∷ [])) → AreBelow rank r (nets_of (source ∷ [])) → AboveTri (value_from a source) (value_from b (moved_source p.moved source))
source_over rank r p free a b ih (Net net) inside among below = ih net inside.0 among.0 below.0
source_over rank r p free a b ih (Tied bit) inside among below = above_self (known bit)
source_over rank r p free a b ih (Loose i pin) inside among below = tt

inputs_over : (rank : ℕ → ℕ) (r : ℕ) (p : Places) (free : ℕ → Bool) (a b : ℕ → Tri) → ((net : ℕ) → net < p.size → free net ≡ true → rank net < r → AboveTri (a net) (b (p.moved net))) →
    (inputs : List Source) → AreBelow (λ k. k) p.size (nets_of inputs) → AllIn free (nets_of inputs) → AreBelow rank r (nets_of inputs) → AllOver (map (value_from a) inputs) (map (value_from b) (map (moved_source p.moved) inputs))
inputs_over rank r p free a b ih [] inside among below = tt
inputs_over rank r p free a b ih (Net net ∷ inputs) inside among below = (ih net inside.0 among.0 below.0, inputs_over rank r p free a b ih inputs inside.1 among.1 below.1)
inputs_over rank r p free a b ih (Tied bit ∷ inputs) inside among below = (above_self (known bit), inputs_over rank r p free a b ih inputs inside among below)
inputs_over rank r p free a b ih (Loose i pin ∷ inputs) inside among below = (tt, inputs_over rank r p free a b ih inputs inside among below)

-- what gates and joins read is among them
abbrev OpenIn : (free : ℕ → Bool) → Meaning → Type 0
OpenIn free (Gate kind inputs) = AllIn free (nets_of inputs)
OpenIn free (Joined source) = AllIn free (nets_of (source ∷ []))
OpenIn free Input = Unit {0}
OpenIn free Clock = Unit {0}
OpenIn free (Flop cell inverted) = Unit {0}
OpenIn free (Lockup cell domain high source) = Unit {0}
OpenIn free Free = Unit {0}

-- what the values of these nets come from stands above
record SourcesOver (original : Logic) (p : Places) (free : ℕ → Bool) (s t : TriSources) : Type 0 where
  ports : (net : ℕ) → net < p.size → AboveTri (s.ports net) (t.ports (p.moved net))
  clocks : (net : ℕ) → free net ≡ true → original.net net ≡ Clock → AboveTri (s.clocks net) (t.clocks (p.moved net))
  flops : (cell : ℕ) → p.is_flop cell ≡ true → AboveTri (s.flops cell) (t.flops cell)

given_over : (original : Logic) (rank : ℕ → ℕ) (p : Places) (free : ℕ → Bool) (s t : TriSources) (a b : ℕ → Tri) (net : ℕ) → net < p.size → SourcesOver original p free s t → ((k : ℕ) → k < p.size → free k ≡ true → rank k < rank net → AboveTri (a k) (b (p.moved k))) →
    (m : Meaning) → AreBelow (λ k. k) p.size (reads m) → OpenIn free m → AreBelow rank (rank net) (reads m) → (m ≡ Clock → AboveTri (s.clocks net) (t.clocks (p.moved net))) → ((cell : ℕ) (inverted : Bool) → m ≡ Flop cell inverted → p.is_flop cell ≡ true) →
    ((cell domain : ℕ) (high : Bool) (source : Source) → m ≡ Lockup cell domain high source → ⊥) → AboveTri (value_given s a net m) (value_given t b (p.moved net) (moved_meaning p.moved m))
given_over original rank p free s t a b net here over ih Input inside among below clock shown no_lockup = over.ports net here
given_over original rank p free s t a b net here over ih Clock inside among below clock shown no_lockup = clock refl
given_over original rank p free s t a b net here over ih (Gate kind inputs) inside among below clock shown no_lockup =
    shared_monotone (bit_of kind) (map (value_from a) inputs) (map (value_from b) (map (moved_source p.moved) inputs)) (inputs_over rank (rank net) p free a b ih inputs inside among below)
given_over original rank p free s t a b net here over ih (Joined source) inside among below clock shown no_lockup = source_over rank (rank net) p free a b ih source inside among below
given_over original rank p free s t a b net here over ih (Flop cell inverted) inside among below clock shown no_lockup = pin_monotone inverted (s.flops cell) (t.flops cell) (over.flops cell (shown cell inverted refl))
given_over original rank p free s t a b net here over ih (Lockup cell domain high source) inside among below clock shown no_lockup = absurd (no_lockup cell domain high source refl)
given_over original rank p free s t a b net here over ih Free inside among below clock shown no_lockup = tt

same_over : (t u v w : Tri) → t ≡ u → v ≡ w → AboveTri u w → AboveTri t v
same_over t u v w e f h = rw (e, f) h

abbrev ClosedIn : Logic → (free : ℕ → Bool) → Type 0
ClosedIn l free = (net : ℕ) → free net ≡ true → OpenIn free (l.net net)

values_by : (original written : Logic) (rank : ℕ → ℕ) (p : Places) (free : ℕ → Bool) (s t : TriSources) (a b : ℕ → Tri) → (ranked : IsRanked original rank) → (has : Covers original written p) → (closed : ClosedIn original free) → (over : SourcesOver original p free s t) → (settled : IsTriSettled original s a) → (its_settled : IsTriSettled written t b) →
    (fuel net : ℕ) → (less : rank net < fuel) → (inside : net < p.size) → (among : free net ≡ true) → AboveTri (a net) (b (p.moved net))
values_by original written rank p free s t a b ranked has closed over settled its_settled zero net less inside among = absurd (omega arith)
values_by original written rank p free s t a b ranked has closed over settled its_settled (suc fuel) net less inside among =
    elim (has.nets net inside) [
      | inl is_free ↦ subst (λ t. AboveTri t (b (p.moved net))) (sym (value_at original s a net Free settled is_free)) tt
      | inr same ↦ same_over (a net) (value_given s a net (original.net net)) (b (p.moved net)) (value_given t b (p.moved net) (moved_meaning p.moved (original.net net))) (settled net)
          (value_at written t b (p.moved net) (moved_meaning p.moved (original.net net)) its_settled same)
          (given_over original rank p free s t a b net inside over (λ k k_inside k_among below. values_by original written rank p free s t a b ranked has closed over settled its_settled fuel k (omega (arith, less, below)) k_inside k_among)
          (original.net net) (has.closed net inside) (closed net among) (ranked.order net) (over.clocks net among) (λ cell inverted is. has.shown net cell inverted inside is) (λ cell domain high source is. has.no_lockup net cell domain high source inside is))
    ]

values_over : (original written : Logic) (rank : ℕ → ℕ) (p : Places) (free : ℕ → Bool) (s t : TriSources) (a b : ℕ → Tri) → IsRanked original rank → Covers original written p → ClosedIn original free → SourcesOver original p free s t → IsTriSettled original s a → IsTriSettled written t b →
    (net : ℕ) → net < p.size → free net ≡ true → AboveTri (a net) (b (p.moved net))
values_over original written rank p free s t a b ranked has closed over settled its_settled net inside among = values_by original written rank p free s t a b ranked has closed over settled its_settled (suc (rank net)) net (omega arith) inside among

-- all nets are
abbrev all : ℕ → Bool
all net = true

all_in : (nets : List ℕ) → AllIn all nets
all_in [] = tt
all_in (net ∷ nets) = (refl, all_in nets)

all_open : (m : Meaning) → OpenIn all m
all_open Input = tt
all_open Clock = tt
all_open (Gate kind inputs) = all_in (nets_of inputs)
all_open (Joined source) = all_in (nets_of (source ∷ []))
all_open (Flop cell inverted) = tt
all_open (Lockup cell domain high source) = tt
all_open Free = tt

-- so are those that no clock reaches
clear_open : (l : Logic) (free : ℕ → Bool) (net : ℕ) (m : Meaning) → IsClockFree l free → free net ≡ true → l.net net ≡ m → OpenIn free m
clear_open l free net Input clear among is = tt
clear_open l free net Clock clear among is = tt
clear_open l free net (Gate kind inputs) clear among is = clear.gates net kind inputs among is
clear_open l free net (Joined source) clear among is = clear.joins net source among is
clear_open l free net (Flop cell inverted) clear among is = tt
clear_open l free net (Lockup cell domain high source) clear among is = tt
clear_open l free net Free clear among is = tt

-- ---- flip-flops

forced_where_over : (p : Places) (value : Bool) (pin : Option ℕ) (a b : ℕ → Tri) (t u : Tri) → ((port : ℕ) → pin ≡ Some port → AboveTri (a port) (b (p.moved port))) → AboveTri t u →
    AboveTri (tri_forced_where value pin a t) (tri_forced_where value (option_map p.moved pin) b u)
forced_where_over p value None a b t u over h = h
forced_where_over p value (Some port) a b t u over h = forced_monotone value (a port) (b (p.moved port)) t u (over port refl) h

forced_over : (p : Places) (forces : Forces ℕ) (a b : ℕ → Tri) (t u : Tri) → AreForcesWithin p.size forces → ((net : ℕ) → net < p.size → AboveTri (a net) (b (p.moved net))) → AboveTri t u → AboveTri (tri_forced_by forces a t) (tri_forced_by (moved_forces p.moved forces) b u)
forced_over p forces a b t u inside over h =
    forced_where_over p false forces.clear a b _ _ (λ port is. over port (inside port (inl is))) (forced_where_over p true forces.preset a b t u (λ port is. over port (inside port (inr is))) h)

-- what stands before a pulse
old_over : (original written : Logic) (p : Places) (y x : Vector) (its old : ℕ → Tri) → Covers original written p → StandsOver p y x its old → (cell : ℕ) → p.is_flop cell ≡ true →
    AboveTri ((rise_of original y its).old cell) ((rise_of written x old).old cell)
old_over original written p y x its old has over cell is =
    let kept : KeepsFlop p (original.cell cell) (written.cell cell) = has.flops cell is in
    subst (λ t. AboveTri ((rise_of original y its).old cell) t) (sym (ap (λ (f : Forces ℕ). tri_forced_by f x.ports (old cell)) kept.forces))
    (forced_over p (original.cell cell).forces y.ports x.ports (its cell) (old cell) kept.forces_within over.ports (over.flops cell is))

pub strobe_law : StrobeLaw
strobe_law original written rank p y x its old values shows ranked has over settled its_settled net inside =
    let sources : SourcesOver original p all (strobe_sources original y its values) (strobe_sources written x old shows) = record {
      ports = over.ports;
      clocks = λ e among is. tt;
      flops = old_over original written p y x its old has over;
    } in
    values_over original written rank p all (strobe_sources original y its values) (strobe_sources written x old shows) values shows ranked has (λ k among. all_open (original.net k)) sources settled its_settled net inside refl

-- ---- the view of the capture domain in a phase

view_clock : (pulsed is : Bool) → (pulsed ≡ true → is ≡ true) → AboveTri Zero (if pulsed then (if is then Zero else Unknown) else Zero)
view_clock true true h = tt
view_clock true false h = absurd (let q : false ≡ true = h refl in cc)
view_clock false is h = tt

-- a flip-flop that takes its bit in a phase of its domain
cell_after : (l : Logic) (q : Pulse) (view : ℕ → ℕ → Tri) (c d : ℕ) → (l.cell c).domain ≡ d → changes l q c ≡ true →
    after_pulse l q view c ≡ tri_forced_by (l.cell c).forces q.ports (tri_taken_by (l.cell c).takes (q.old c) (value_from (view d)))
cell_after l q view c d here turn =
    ap (λ (b : Bool). if b then next_value l q view c else q.old c) turn
    ∙ ap (λ (e : ℕ). tri_forced_by (l.cell c).forces q.ports (tri_taken_by (l.cell c).takes (q.old c) (value_from (view e)))) here

within_source : (p : Places) (free : ℕ → Bool) (a b : ℕ → Tri) → ((net : ℕ) → net < p.size → free net ≡ true → AboveTri (a net) (b (p.moved net))) → (source : Source) (rest : List Source) → IsWithin p.size source → AllIn free (nets_of (source ∷ rest)) →
    AboveTri (value_from a source) (value_from b (moved_source p.moved source)) × AllIn free (nets_of rest)
within_source p free a b over (Net net) rest inside among = (over net inside among.0, among.1)
within_source p free a b over (Tied bit) rest inside among = (above_self (known bit), among)
within_source p free a b over (Loose i pin) rest inside among = (tt, among)

within_sources : (p : Places) (free : ℕ → Bool) (a b : ℕ → Tri) → ((net : ℕ) → net < p.size → free net ≡ true → AboveTri (a net) (b (p.moved net))) → (sources : List Source) → AllOf (IsWithin p.size) sources → AllIn free (nets_of sources) →
    AllOf (λ source. AboveTri (value_from a source) (value_from b (moved_source p.moved source))) sources
within_sources p free a b over [] inside among = tt
within_sources p free a b over (source ∷ sources) inside among =
    let first = within_source p free a b over source sources inside.0 among in
    (first.0, within_sources p free a b over sources inside.1 first.1)

-- a phase of a vector
abbrev phase : Vector → (rising : Bool) → (before : ℕ → Tri) → Pulse
phase x rising before = record { rising = rising; ports = x.ports; pulsed = x.pulsed; old = before }

pick_false : (b : Bool) (x y : Tri) → (b ≡ true → ⊥) → (if b then x else y) ≡ y
pick_false true x y h = absurd (h refl)
pick_false false x y h = refl

module _ (original written : Logic) (rank : ℕ → ℕ) (p : Places) (d : ℕ) (y x : Vector) (ranked : IsRanked original rank) (has : Covers original written p) (capture : IsCapture p d x)
    (ports : (net : ℕ) → net < p.size → AboveTri (y.ports net) (x.ports (p.moved net)))
    -- the phase: what stands before it, and the values that are settled from a state of the original which is above that
    (rising : Bool) (before poss : ℕ → Tri) (view : ℕ → ℕ → Tri) (views : AreViews written (phase x rising before) poss view)
    (state values : ℕ → Tri) (settled : IsTriSettled original (strobe_sources original y state values) values) (over : (cell : ℕ) → p.is_flop cell ≡ true → AboveTri ((rise_of original y state).old cell) (before cell))
    (free : ℕ → Bool) (closed : ClosedIn original free) (clocks : (net : ℕ) → free net ≡ true → original.net net ≡ Clock → AboveTri Zero (clock_value (phase x rising before) (p.moved d) (p.moved net))) where
  abbrev q : Pulse
  q = phase x rising before

  abbrev e : ℕ
  e = p.moved d

  abbrev at : Source → Tri
  at = value_from (view e)

  -- what pulses has the capture's domain
  alone : (cell : ℕ) → p.is_flop cell ≡ true → x.pulsed (written.cell cell).domain ≡ true → (original.cell cell).domain ≡ d
  alone cell is up = capture.alone (original.cell cell).domain (sym (ap x.pulsed (has.flops cell is).domain) ∙ up)

  sources : SourcesOver original p free (strobe_sources original y state values) (view_sources written q poss view e)
  sources = record {
    ports = ports;
    clocks = clocks;
    flops = λ c flop. subst (λ t. AboveTri ((rise_of original y state).old c) t)
        (sym (flop_old (changes written q c) ((written.cell c).domain == e) (before c) (poss c)
        (λ ch. eq-eqb (written.cell c).domain e ((has.flops c flop).domain ∙ ap p.moved (alone c flop (and_parts (x.pulsed (written.cell c).domain) (takes rising (written.cell c).falling) ch).0)))))
        (over c flop);
  }

  seen : (net : ℕ) → net < p.size → free net ≡ true → AboveTri (values net) (view e (p.moved net))
  seen = values_over original written rank p free (strobe_sources original y state values) (view_sources written q poss view e) values (view e) ranked has closed sources settled (views e)

  low : view e p.enable ≡ Zero
  low = value_at written (view_sources written q poss view e) (view e) p.enable Input (views e) has.enable ∙ capture.off

  -- a flip-flop that takes its bit
  taken : (cell : ℕ) (had : Tri) → p.is_flop cell ≡ true → AboveTri had (before cell) → (original.cell cell).domain ≡ d → takes rising (original.cell cell).falling ≡ true → AllIn free (nets_of (taken_from (original.cell cell).takes)) →
      AboveTri (next_from original y values had cell) (after_pulse written q view cell)
  taken cell had is above own edge among =
      let kept : KeepsFlop p (original.cell cell) (written.cell cell) = has.flops cell is in
      let domain : (written.cell cell).domain ≡ e = kept.domain ∙ ap p.moved own in
      let turn : changes written q cell ≡ true = (λ i. x.pulsed (domain i) && takes rising (kept.falling i)) ∙ (λ i. capture.pulsed i && edge i) in
      let next : Tri = tri_taken_by (written.cell cell).takes (before cell) at in
      let new : after_pulse written q view cell ≡ tri_forced_by (moved_forces p.moved (original.cell cell).forces) x.ports next =
      cell_after written q view cell e domain turn ∙ ap (λ (f : Forces ℕ). tri_forced_by f x.ports next) kept.forces in
      subst (AboveTri (next_from original y values had cell)) (sym new)
      (forced_over p (original.cell cell).forces y.ports x.ports (tri_taken_by (original.cell cell).takes had (value_from values)) next kept.forces_within ports
      (kept.below (before cell) had at (value_from values) above low (within_sources p free values (view e) seen (taken_from (original.cell cell).takes) kept.within among)))

  -- each flip-flop after the phase, from what it had before
  edge_by : (cell : ℕ) (b : Bool) (had : Tri) → p.is_flop cell ≡ true → (((original.cell cell).domain == d) && takes rising (original.cell cell).falling) ≡ b → AboveTri had (before cell)
      → (takes rising (original.cell cell).falling ≡ true → AllIn free (nets_of (taken_from (original.cell cell).takes))) → AboveTri (if b then next_from original y values had cell else had) (after_pulse written q view cell)
  edge_by cell true had is test above among =
      let both = and_parts ((original.cell cell).domain == d) (takes rising (original.cell cell).falling) test in
      taken cell had is above (eqb-true (original.cell cell).domain d both.0) both.1 (among both.1)
  edge_by cell false had is test above among =
      subst (λ t. AboveTri had t) (sym (pick_false (changes written q cell) (next_value written q view cell) (before cell) (λ ch. (
      let both = and_parts (x.pulsed (written.cell cell).domain) (takes rising (written.cell cell).falling) ch in
      let own : ((original.cell cell).domain == d) ≡ true = eq-eqb (original.cell cell).domain d (alone cell is both.0) in
      let edge : takes rising (original.cell cell).falling ≡ true = ap (takes rising) (sym (has.flops cell is).falling) ∙ both.1 in
      let never : true ≡ false = sym (λ i. own i && edge i) ∙ test in
      cc)))) above

  edge_over : (cell : ℕ) (had : ℕ → Tri) → p.is_flop cell ≡ true → AboveTri (had cell) (before cell) → (takes rising (original.cell cell).falling ≡ true → AllIn free (nets_of (taken_from (original.cell cell).takes))) → AboveTri (after_edge original y d rising values had cell) (after_pulse written q view cell)
  edge_over cell had is above among = edge_by cell (((original.cell cell).domain == d) && takes rising (original.cell cell).falling) (had cell) is refl above among

-- ---- the rise and the fall

forced_edge : (b : Bool) (f : Forces ℕ) (ports : ℕ → Tri) (t old : Tri) → tri_forced_by f ports (if b then tri_forced_by f ports t else old) ≡ (if b then tri_forced_by f ports t else tri_forced_by f ports old)
forced_edge true f ports t old = left_twice f ports t
forced_edge false f ports t old = refl

pub capture_law : CaptureLaw
capture_law original written rank p d y x its risen old h values later free ranked has clear capture over caught halves cell is among =
    let before : ℕ → Tri = (rise_of written x old).old in
    let between : ℕ → Tri = (fall_of written x old h.rise.view).old in
    let own : (c : ℕ) → p.is_flop c ≡ true → AboveTri ((rise_of original y its).old c) (before c) = old_over original written p y x its old has over in
    let up : (c : ℕ) → p.is_flop c ≡ true → AboveTri (after_edge original y d true values (rise_of original y its).old c) (between c) = λ c flop.
    edge_over original written rank p d y x ranked has capture over.ports true before h.rise.poss h.rise.view halves.rise its values caught.first own all (λ k o. all_open (original.net k))
    (λ k o is_clock. view_clock (x.pulsed (p.moved k)) (p.moved k == p.moved d) (λ on. eq-eqb (p.moved k) (p.moved d) (ap p.moved (capture.alone k on)))) c (rise_of original y its).old flop (own c flop) (λ t. all_in (nets_of (taken_from (original.cell c).takes))) in
    let moved : (c : ℕ) → p.is_flop c ≡ true → AboveTri ((rise_of original y risen).old c) (between c) = λ c flop. (
    let f : Forces ℕ = (original.cell c).forces in
    let next : Tri = tri_taken_by (original.cell c).takes (its c) (value_from values) in
    let same : tri_forced_by f y.ports (after_edge original y d true values its c) ≡ after_edge original y d true values (rise_of original y its).old c =
    forced_edge (((original.cell c).domain == d) && takes true (original.cell c).falling) f y.ports next (its c) in
    trans (tri_forced_by f y.ports (risen c)) (after_edge original y d true values (rise_of original y its).old c) (between c)
    (subst (λ t. AboveTri (tri_forced_by f y.ports (risen c)) t) same (left_monotone f y.ports y.ports (risen c) (after_edge original y d true values its c) (λ k. above_self (y.ports k)) (caught.above c))) (up c flop)) in
    edge_over original written rank p d y x ranked has capture over.ports false between h.fall.poss h.fall.view halves.fall risen later caught.second moved free (λ k o. clear_open original free k (original.net k) clear o refl)
    (λ k o is_clock. absurd (clear.clocks k o is_clock)) cell (after_edge original y d true values (rise_of original y its).old) is (up cell is) among

pub containing_covers : ContainingCovers
containing_covers original written p has = record {
  enable = has.enable;
  nets = λ net inside. inr (has.nets net inside);
  closed = has.closed;
  shown = has.shown;
  flops = has.flops;
  no_lockup = has.no_lockup;
}

free_before : (moved : ℕ → ℕ) (is : Meaning) → moved_meaning moved is ≡ Free → is ≡ Free
free_before moved Input h = absurd cc
free_before moved Clock h = absurd cc
free_before moved (Gate kind inputs) h = absurd cc
free_before moved (Joined source) h = absurd cc
free_before moved (Flop cell inverted) h = absurd cc
free_before moved (Lockup cell domain high source) h = absurd cc
free_before moved Free h = refl

pub widening_covers : WideningCovers
widening_covers original written wide p contains more same = record {
  enable = net_stays written wide p.enable Input more contains.enable (λ free. free);
  nets = λ net less. elim (more.nets (p.moved net)) [
    | inl free ↦ inl (free_before p.moved (original.net net) (sym (contains.nets net less) ∙ free))
    | inr still ↦ inr (still ∙ contains.nets net less)
  ];
  closed = contains.closed;
  shown = contains.shown;
  flops = λ cell is. subst (KeepsFlop p (original.cell cell)) (sym (same cell is)) (contains.flops cell is);
  no_lockup = contains.no_lockup;
}
