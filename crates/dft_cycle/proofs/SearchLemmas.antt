-- A turn of the search for the least map, over the lists that its steps are lent.
use Rattle.std.proofs.Common.{ℕ, List, ◌≡◌, ◌<◌, ◌&&◌, length, map, sym, subst}
use Rattle.dft_base.specs.declared.tri.Tri.{Tri}
use Rattle.dft_netlist.specs.declared.ids.NetId.{NetId}
use Rattle.dft_behavior.specs.Runs.{takes}
use Rattle.dft_abstract.specs.Cycle.{Pulse, AreViews}
use Rattle.dft_logic.specs.declared.circuit.FlipFlop.{FlipFlop}
use Rattle.dft_logic.specs.Circuit.{Circuit, logic_at, cell_of, cell_at}
use Rattle.dft_cycle.specs.Machine.{value_at}
use Rattle.dft_cycle.specs.Views.{IsHeld, HasNext, raised_by}
use Rattle.dft_cycle.proofs.Risings.{IsRaised}

-- the next values at a map are there, where lock-ups are held by that map's views
pub next_at : (x : Circuit) (p : Pulse) (clocks : List NetId) (poss held next lent again shown : List Tri) → lent ≡ poss → again ≡ poss → shown ≡ held →
    ((view : ℕ → ℕ → Tri) → AreViews (logic_at x) p (value_at lent) view → IsHeld x view held (length x.ops)) →
    ((view : ℕ → ℕ → Tri) → AreViews (logic_at x) p (value_at again) view → IsHeld x view shown (length x.ops) → HasNext x p view clocks (length clocks) next) →
    (view : ℕ → ℕ → Tri) → AreViews (logic_at x) p (value_at poss) view → HasNext x p view clocks (length clocks) next
next_at x p clocks poss held next lent again shown a b e holds has view views =
    let V : List Tri → Type 0 = λ l. AreViews (logic_at x) p (value_at l) view in
    has view (subst V (sym b) views) (subst (λ (l : List Tri). IsHeld x view l (length x.ops)) (sym e) (holds view (subst V (sym a) views)))

-- the map is raised by the next values
pub raised_from : (x : Circuit) (p : Pulse) (flops : List FlipFlop) (lent next read old new : List Tri) → flops ≡ x.flops → lent ≡ next → read ≡ old →
    ((c : ℕ) → c < length flops → value_at new c ≡ raised_by (p.pulsed (cell_at (map cell_of flops) c).domain && takes p.rising (cell_at (map cell_of flops) c).falling) (value_at lent c) (value_at read c)) → IsRaised x p next old new
unfolding logic_at
raised_from x p flops lent next read old new a b e each =
    subst (λ (l : List Tri). IsRaised x p next l new) e
    (subst (λ (l : List Tri). IsRaised x p l read new) b
    (subst (λ (l : List FlipFlop). (c : ℕ) → c < length l → value_at new c ≡ raised_by (p.pulsed (cell_at (map cell_of l) c).domain && takes p.rising (cell_at (map cell_of l) c).falling) (value_at lent c) (value_at read c)) a each))
