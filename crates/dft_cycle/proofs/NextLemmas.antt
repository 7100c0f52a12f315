-- Where lock-ups are held right, a domain's settled values are its view, and its flip-flops take their next values from them.
use Rattle.std.proofs.Common.{ℕ, suc, Bool, true, false, List, ◌≡◌, ◌<◌, ◌≤◌, ◌+◌, ◌==◌, inl, inr, length, sym, ap, ◌∙◌, get_or, arith}
use Rattle.std.specs.Prelude.{if◌then◌else◌}
use Rattle.std.proofs.lemmas.Bool.Decides.{eqb_tells, leb_tells}
use Rattle.std.proofs.lemmas.List.{get_or_past}
use Rattle.dft_base.specs.declared.tri.Tri.{Tri}
use Rattle.dft_netlist.specs.declared.ids.NetId.{NetId}
use Rattle.dft_behavior.specs.Logic.{Cell}
use Rattle.dft_behavior.specs.Settled.{TriSources, value_given, IsTriSettled}
use Rattle.dft_logic.specs.declared.circuit.Op.{Op}
use Rattle.dft_logic.specs.declared.circuit.Op.TheVariants.{Free}
use Rattle.dft_abstract.specs.Cycle.{Pulse, view_sources, AreViews}
use Rattle.dft_cycle.specs.Machine.{value_at}
use Rattle.dft_logic.specs.Circuit.{Circuit, logic_at, meaning, IsCircuit}
use Rattle.dft_cycle.specs.Views.{next_at, next_by, rank_of, IsHeld, HasNext}
use Rattle.dft_takings.proofs.CircuitRanks.{rank_lower}
use Rattle.dft_cycle.proofs.RoundLemmas.{IsHeldView, agree, among_before}

-- the settled values are the view
pub agree_all : (x : Circuit) (p : Pulse) (poss : ℕ → Tri) (view : ℕ → ℕ → Tri) (d : ℕ) (held : List Tri) (t : TriSources) (values : ℕ → Tri) → IsCircuit x → AreViews (logic_at x) p poss view →
    IsHeldView x p poss view d held t values → IsTriSettled (logic_at x) t values → IsHeld x view held (length x.ops) → (k : ℕ) → values k ≡ view d k
unfolding logic_at
agree_all x p poss view d held t values is views same settled right k = elim (leb_tells (length x.ops) k) [
  | inl out ↦ (let free = get_or_past x.ops k Free out.1 in
      settled k ∙ ap (λ (o : Op). value_given t values k (meaning o)) free
      ∙ sym (ap (λ (o : Op). value_given (view_sources (logic_at x) p poss view d) (view d) k (meaning o)) free) ∙ sym (views d k))
  | inr live ↦ agree x p poss view d held t values (length x.ops) is views same settled right (suc (rank_of x k)) k (omega arith) (rank_lower x is k live.1)
]

pub by_hit : (cell : Cell) (d : ℕ) (ports values : ℕ → Tri) (old : Tri) → (cell.domain == d) ≡ true → next_by cell d ports values old ≡ next_at cell ports values
by_hit cell d ports values old hit = ap (λ (b : Bool). if b then next_at cell ports values else old) hit

pub by_miss : (cell : Cell) (d : ℕ) (ports values : ℕ → Tri) (old : Tri) → (cell.domain == d) ≡ false → next_by cell d ports values old ≡ old
by_miss cell d ports values old miss = ap (λ (b : Bool). if b then next_at cell ports values else old) miss

pub next_start : (x : Circuit) (p : Pulse) (view : ℕ → ℕ → Tri) (clocks : List NetId) (next : List Tri) → HasNext x p view clocks 0 next
next_start x p view clocks next c live up among = (let less = among.before in absurd (omega arith))

-- one pulsed domain more
pub next_more : (x : Circuit) (p : Pulse) (poss : ℕ → Tri) (view : ℕ → ℕ → Tri) (clocks : List NetId) (held next new values : List Tri) (j d : ℕ) (t : TriSources) → (is : IsCircuit x) → (views : AreViews (logic_at x) p poss view) →
    (same : IsHeldView x p poss view d held t (value_at values)) → (settled : IsTriSettled (logic_at x) t (value_at values)) → (right : IsHeld x view held (length x.ops)) →
    (each : ((c : ℕ) → c < length x.flops → value_at new c ≡ next_by ((logic_at x).cell c) d p.ports (value_at values) (value_at next c))) →
    (here : (get_or clocks j (record { 0 = 0 })).0 ≡ d) → (before : HasNext x p view clocks j next) → HasNext x p view clocks (j + 1) new
next_more x p poss view clocks held next new values j d t is views same settled right each here before c live up among =
    let cell : Cell = (logic_at x).cell c in
    elim (eqb_tells cell.domain d) [
      | inl q ↦ (let all : value_at values ≡ view d = λ i k. agree_all x p poss view d held t (value_at values) is views same settled right k i in
          let f : (ℕ → Tri) → Tri = next_at cell p.ports in
          each c live ∙ by_hit cell d p.ports (value_at values) (value_at next c) q.0 ∙ ap f all ∙ ap (λ (n : ℕ). next_at cell p.ports (view n)) (sym q.1))
      | inr q ↦ each c live ∙ by_miss cell d p.ports (value_at values) (value_at next c) q.0 ∙ before c live up (among_before clocks j d cell.domain here q.1 among)
    ]

-- one domain that does not pulse
pub next_kept : (x : Circuit) (p : Pulse) (view : ℕ → ℕ → Tri) (clocks : List NetId) (next : List Tri) (j d : ℕ) → (get_or clocks j (record { 0 = 0 })).0 ≡ d → p.pulsed d ≡ false →
    HasNext x p view clocks j next → HasNext x p view clocks (j + 1) next
next_kept x p view clocks next j d here quiet before c live up among =
    let cell : Cell = (logic_at x).cell c in
    elim (eqb_tells cell.domain d) [
      | inl q ↦ (let e = ap p.pulsed q.1 in absurd (cc))
      | inr q ↦ before c live up (among_before clocks j d cell.domain here q.1 among)
    ]

pub next_all : (x : Circuit) (p : Pulse) (view : ℕ → ℕ → Tri) (clocks : List NetId) (next : List Tri) (j : ℕ) → length clocks ≤ j → HasNext x p view clocks j next → HasNext x p view clocks (length clocks) next
next_all x p view clocks next j past before c live up among = before c live up (record { place = among.place; before = (let less = among.before in omega arith); here = among.here })
