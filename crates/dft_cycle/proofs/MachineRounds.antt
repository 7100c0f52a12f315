-- The calls of the machine for a vector come to its round.
use Rattle.std.proofs.Common.{ℕ, Bool, true, false, List, ◌≡◌, ◌⊎◌, inl, inr, Option, None, Some, refl, sym, ap, ◌∙◌, subst}
use Rattle.std.specs.Prelude.{if◌then◌else◌}
use Rattle.std.proofs.lemmas.Bool.Decides.{eqb_tells}
use Rattle.dft_base.specs.declared.tri.Tri.{Tri}
use Rattle.dft_base.specs.declared.tri.Tri.TheVariants.{Zero, Unknown}
use Rattle.dft_cells.specs.FlipFlops.{tri_forced, Forces, tri_taken_by, tri_forced_by, tri_forced_where}
use Rattle.dft_behavior.specs.Logic.{Logic}
use Rattle.dft_behavior.specs.Settled.{TriSources, value_from, IsTriSettled}
use Rattle.dft_behavior.specs.Runs.{Vector}
use Rattle.dft_abstract.specs.Cycle.{Pulse, changes, next_value, IsLeast, after_pulse, rise_of, falls_after, fall_of, strobe_sources, Halves, after_halves, Round}
use Rattle.dft_cells.proofs.TakesLemmas.{left_twice}
use Rattle.dft_logic.specs.Circuit.{IsOneForce}
use Rattle.dft_cycle.specs.Machine.{Machine, value_at, logic, only_at, acted, at_strobe, pulses, pulse_from}
use Rattle.dft_cycle.specs.MachineLaws.{IsForced, StartIsForced, SetStands, CallsAreRound}

-- the same design has the same logic
pub same_logic : (m n : Machine) → n.netlist ≡ m.netlist → n.clocks ≡ m.clocks → logic n ≡ logic m
unfolding logic
same_logic m n e f = λ i. logic (record { netlist = e i; clocks = f i; inputs = m.inputs; cells = m.cells; shown = m.shown })

unknown_stays : (value : Bool) → tri_forced value Unknown Unknown ≡ Unknown
unknown_stays true = refl
unknown_stays false = refl

unknown_where : (value : Bool) (pin : Option ℕ) (ports : ℕ → Tri) → ((k : ℕ) → ports k ≡ Unknown) → Unknown ≡ tri_forced_where value pin ports Unknown
unknown_where value None ports all = refl
unknown_where value (Some port) ports all = sym (unknown_stays value) ∙ sym (ap (λ (t : Tri). tri_forced value t Unknown) (all port))

unknown_by : (f : Forces ℕ) (ports : ℕ → Tri) → ((k : ℕ) → ports k ≡ Unknown) → Unknown ≡ tri_forced_by f ports Unknown
unknown_by f ports all = unknown_where false f.clear ports all ∙ ap (λ (t : Tri). tri_forced_where false f.clear ports t) (unknown_where true f.preset ports all)

pub start_forced : StartIsForced
start_forced n clocks m is =
    let forced : IsForced m = λ c.
    (let f = ((logic m).cell c).forces in
    let P : Tri → Type 0 = λ t. t ≡ tri_forced_by f (value_at m.inputs) t in
    subst P (sym (is.cells c)) (unknown_by f (value_at m.inputs) is.inputs)) in
    (forced, record { netlist = refl; clocks = refl; cells = forced })

-- ---- an input is set

-- where it acts alone
set_where : (forced : Bool) (pin : Option ℕ) (net : ℕ) (value t : Tri) (new old before : ℕ → Tri) → ((k : ℕ) → (k ≡ net → ⊥) → new k ≡ old k) → new net ≡ value → old net ≡ before net → (was : Tri) →
    was ≡ tri_forced_where forced pin before was → t ≡ tri_forced_where forced pin old was → tri_forced_where forced (only_at net pin) (λ port. value) t ≡ tri_forced_where forced pin new was
set_where forced None net value t new old before others input unset was stood is = is
set_where forced (Some port) net value t new old before others input unset was stood is = elim (eqb_tells port net) [
  | inl q ↦ (let kept : t ≡ was = is ∙ ap (λ (u : Tri). tri_forced forced u was) (ap old q.1 ∙ unset ∙ sym (ap before q.1)) ∙ sym stood in
      ap (λ (b : Bool). tri_forced_where forced (if b then Some port else None) (λ k. value) t) q.0 ∙ ap (λ (u : Tri). tri_forced forced value u) kept
      ∙ ap (λ (u : Tri). tri_forced forced u was) (sym input ∙ sym (ap new q.1)))
  | inr q ↦ ap (λ (b : Bool). tri_forced_where forced (if b then Some port else None) (λ k. value) t) q.0 ∙ is ∙ ap (λ (u : Tri). tri_forced forced u was) (sym (others port q.1))
]

set_cell : (f : Forces ℕ) (net : ℕ) (value t : Tri) (new old before : ℕ → Tri) → IsOneForce f → ((k : ℕ) → (k ≡ net → ⊥) → new k ≡ old k) → new net ≡ value → old net ≡ before net → (was : Tri) →
    was ≡ tri_forced_by f before was → t ≡ tri_forced_by f old was → acted f net value t ≡ tri_forced_by f new was
set_cell f net value t new old before one others input unset was forced is = go f.clear f.preset one forced is where
  go : (clear preset : Option ℕ) → (clear ≡ None) ⊎ (preset ≡ None) → was ≡ tri_forced_where false clear before (tri_forced_where true preset before was) → t ≡ tri_forced_where false clear old (tri_forced_where true preset old was) →
      acted (record { clear = clear; preset = preset }) net value t ≡ tri_forced_where false clear new (tri_forced_where true preset new was)
  go None preset one forced is = set_where true preset net value t new old before others input unset was forced is
  go (Some port) None one forced is = set_where false (Some port) net value t new old before others input unset was forced is
  go (Some port) (Some pin) one forced is = elim one [ inl none ↦ absurd cc | inr none ↦ absurd cc ]

pub set_stands : SetStands
set_stands start m after net value forced stands unset is =
    let same = same_logic start m stands.netlist stands.clocks in
    let P : Logic → Type 0 = λ l. (c : ℕ) → value_at after.cells c ≡ acted (l.cell c).forces net value (value_at m.cells c) in
    let each = subst P same is.cells in
    let one = subst (λ (l : Logic). (c : ℕ) → IsOneForce (l.cell c).forces) same is.one in
    record {
      netlist = is.netlist ∙ stands.netlist;
      clocks = is.clocks ∙ stands.clocks;
      cells = λ c. each c ∙ set_cell ((logic start).cell c).forces net value (value_at m.cells c) (value_at after.inputs) (value_at m.inputs) (value_at start.inputs) (one c) is.others is.input unset
          (value_at start.cells c) (forced c) (stands.cells c);
    }

-- ---- a vector

after_forced : (l : Logic) (p : Pulse) (view : ℕ → ℕ → Tri) (c : ℕ) (up : Bool) → p.old c ≡ tri_forced_by (l.cell c).forces p.ports (p.old c) →
    (if up then next_value l p view c else p.old c) ≡ tri_forced_by (l.cell c).forces p.ports (if up then next_value l p view c else p.old c)
after_forced l p view c true old = sym (left_twice (l.cell c).forces p.ports (tri_taken_by (l.cell c).takes (p.old c) (value_from (view (l.cell c).domain))))
after_forced l p view c false old = old

-- the halves of a vector leave what resets and sets leave
pub halves_forced : (l : Logic) (x : Vector) (old : ℕ → Tri) (h : Halves) (c : ℕ) → after_halves l x old h c ≡ tri_forced_by (l.cell c).forces x.ports (after_halves l x old h c)
halves_forced l x old h c =
    after_forced l (fall_of l x old h.rise.view) h.fall.view c (changes l (fall_of l x old h.rise.view) c)
    (after_forced l (rise_of l x old) h.rise.view c (changes l (rise_of l x old) c) (sym (left_twice (l.cell c).forces x.ports (old c))))

pub calls_round : CallsAreRound
calls_round start set strobed after x pulsed stands ports ups strobe pulse =
    let l : Logic = logic start in
    let one = same_logic start set stands.netlist stands.clocks in
    let two = same_logic start strobed (strobe.netlist ∙ stands.netlist) (strobe.clocks ∙ stands.clocks) in
    let three = same_logic start after (pulse.netlist ∙ strobe.netlist ∙ stands.netlist) (pulse.clocks ∙ strobe.clocks ∙ stands.clocks) in
    let old : ℕ → Tri = value_at start.cells in
    let p : Pulse = rise_of l x old in
    let inputs : value_at set.inputs ≡ x.ports = λ i k. ports k i in
    let cell : (c : ℕ) → value_at set.cells c ≡ p.old c = λ c. stands.cells c ∙ ap (λ (f : ℕ → Tri). tri_forced_by (l.cell c).forces f (old c)) inputs in
    let shown : ℕ → Tri = value_at strobed.shown in
    let from : at_strobe set shown ≡ strobe_sources l x old shown = λ i. record { ports = inputs i; clocks = λ e. Zero; flops = λ c. cell c i; lockups = λ c e high source. if high then cell c i else value_from shown source } in
    let S : TriSources → Type 0 = λ t. IsTriSettled l t shown in
    let T : Logic → Type 0 = λ k. IsTriSettled k (at_strobe set shown) shown in
    let q : Pulse = pulse_from strobed pulsed in
    let qp : q ≡ p = λ i. record {
      rising = true;
      ports = (ap value_at strobe.inputs ∙ inputs) i;
      pulsed = λ e. (ap (λ (cs : _). pulses cs pulsed e) strobe.clocks ∙ ups e) i;
      old = λ c. (ap (λ (cs : List Tri). value_at cs c) strobe.cells ∙ cell c) i;
    } in
    let P : Logic → Pulse → Type 0 = λ k u. IsLeast k u pulse.halves.rise.poss pulse.halves.rise.view × (IsLeast k (falls_after k u pulse.halves.rise.view) pulse.halves.fall.poss pulse.halves.fall.view
    × ((c : ℕ) → value_at after.cells c ≡ after_pulse k (falls_after k u pulse.halves.rise.view) pulse.halves.fall.view c)) in
    let r : Round = record { strobe = shown; halves = pulse.halves } in
    let all : P l p = subst (P l) qp (subst (λ (k : Logic). P k q) two (pulse.rise, (pulse.fall, pulse.cells))) in
    let cells : (c : ℕ) → value_at after.cells c ≡ after_halves l x old pulse.halves c = all.1.1 in
    let kept : value_at after.inputs ≡ x.ports = ap value_at (pulse.inputs ∙ strobe.inputs) ∙ inputs in (
      r,
      (
        record { strobe = subst S from (subst T one strobe.settled); least = record { rise = all.0; fall = all.1.0 } },
        refl,
        cells,
        (λ c.
            (let K : Logic → Type 0 = λ k. value_at after.cells c ≡ tri_forced_by (k.cell c).forces (value_at after.inputs) (value_at after.cells c) in
            let N : (ℕ → Tri) → Type 0 = λ f. value_at after.cells c ≡ tri_forced_by (l.cell c).forces f (value_at after.cells c) in
            let C : Tri → Type 0 = λ t. t ≡ tri_forced_by (l.cell c).forces x.ports t in
            subst K (sym three) (subst N (sym kept) (subst C (sym (cells c)) (halves_forced l x old pulse.halves c))))),
      ),
    )
