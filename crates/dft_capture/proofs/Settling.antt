-- Settled values in a capture: there are some, they are one, and they stand above those from below.
use Rattle.std.proofs.Common.{ℕ, zero, suc, Bool, true, false, List, ◌≡◌, ◌<◌, refl, sym, subst, arith}
use Rattle.std.specs.Prelude.{if◌then◌else◌}
use Rattle.dft_base.specs.declared.tri.Tri.{Tri}
use Rattle.dft_base.specs.declared.tri.Tri.TheVariants.{Unknown}
use Rattle.dft_base.specs.Tri.{AboveTri}
use Rattle.dft_cells.proofs.TakesLemmas.{taken_monotone, left_monotone}
use Rattle.dft_netlist.specs.Netlist.{Netlist}
use Rattle.dft_netlist.specs.Drivers.{Source, Driver, Connection, pins_of, driver, nets_of, nets_read, AreBelow, IsOrdered}
use Rattle.dft_netlist.specs.Drivers as drivers
use Rattle.dft_behavior.specs.Logic.{Logic, Input, Clock, Flop, Lockup, Free, takes_of, forces_of, reads}
use Rattle.dft_behavior.specs.Settled.{value_from, value_given}
use Rattle.dft_behavior.proofs.Meanings.{meaning_monotone, at_nets, source_over}
use Rattle.dft_abstract.proofs.Views.{family, settled_same}
use Rattle.dft_capture.specs.Captures.{Moving, IsSettledFrom, after_moves, capture_logic, meaning_in, next_at, next_by_pins, sources_at}
use Rattle.dft_capture.specs.Laws.{OrderIsRank, CaptureExists, CaptureIsOne, CaptureIsAbove}

-- ---- an order

-- no net means a lock-up
pub no_lockup : (m : Moving) (net : ℕ) (d : Driver) (c e : ℕ) (high : Bool) (source : Source) → meaning_in m net d ≡ Lockup c e high source → ⊥
no_lockup m net drivers.Input c e high source is = by_clock (m.is_clock net) is
  where
    by_clock : (b : Bool) → (if b then Clock else Input) ≡ Lockup c e high source → ⊥
    by_clock true h = absurd cc
    by_clock false h = absurd cc
no_lockup m net (drivers.Gate kind inputs) c e high source is = absurd cc
no_lockup m net (drivers.Joined from) c e high source is = absurd cc
no_lockup m net (drivers.Flop i inverted) c e high source is = by_held (m.holds i) is
  where
    by_held : (b : Bool) → (if b then Flop i inverted else Free) ≡ Lockup c e high source → ⊥
    by_held true h = absurd cc
    by_held false h = absurd cc
no_lockup m net (drivers.Lockup i) c e high source is = absurd cc
no_lockup m net drivers.Free c e high source is = absurd cc

input_below : (rank : ℕ → ℕ) (r : ℕ) (is_clock : Bool) → AreBelow rank r (reads (if is_clock then Clock else Input))
input_below rank r true = tt
input_below rank r false = tt

flop_below : (rank : ℕ → ℕ) (r i : ℕ) (inverted held : Bool) → AreBelow rank r (reads (if held then Flop i inverted else Free))
flop_below rank r i inverted true = tt
flop_below rank r i inverted false = tt

meaning_below : (n : Netlist) (m : Moving) (rank : ℕ → ℕ) (net : ℕ) (d : Driver) → AreBelow rank (rank net) (nets_read n d) → AreBelow rank (rank net) (reads (meaning_in m net d))
meaning_below n m rank net drivers.Input below = input_below rank (rank net) (m.is_clock net)
meaning_below n m rank net (drivers.Gate kind inputs) below = below
meaning_below n m rank net (drivers.Joined source) below = below
meaning_below n m rank net (drivers.Flop i inverted) below = flop_below rank (rank net) i inverted (m.holds i)
meaning_below n m rank net (drivers.Lockup i) below = tt
meaning_below n m rank net drivers.Free below = tt

pub order_is_rank : OrderIsRank
order_is_rank n m rank order = record {
  order = λ net. meaning_below n m rank net (driver n net) (order.after net);
  lockups = λ net c e high source is. absurd (no_lockup m net (driver n net) c e high source is);
}

-- ---- one assignment

pub settled_there : (n : Netlist) (m : Moving) (rank : ℕ → ℕ) (ports state : ℕ → Tri) → IsOrdered n rank → (values : ℕ → Tri) × IsSettledFrom n m ports state values
settled_there n m rank ports state order =
    let found = family (capture_logic n m) rank (λ d. sources_at ports state) (λ w d c e high source. Unknown) (order_is_rank n m rank order) (λ r a b same d c e high source below. refl) in
    (found.0 0, found.1 0)

pub settled_one : (n : Netlist) (m : Moving) (rank : ℕ → ℕ) (ports state a b : ℕ → Tri) → IsOrdered n rank → IsSettledFrom n m ports state a → IsSettledFrom n m ports state b → (net : ℕ) → a net ≡ b net
settled_one n m rank ports state a b order sa sb =
    settled_same (capture_logic n m) rank (sources_at ports state) (sources_at ports state) a b (order_is_rank n m rank order) sa sb (λ k. refl) (λ e. refl) (λ c. refl)
    (λ net c e high source is same below. refl)

-- ---- values that grow

over_within : (n : Netlist) (m : Moving) (rank : ℕ → ℕ) (ports state given held values shows : ℕ → Tri) → IsOrdered n rank →
    ((net : ℕ) → AboveTri (ports net) (given net)) → ((cell : ℕ) → AboveTri (state cell) (held cell)) → IsSettledFrom n m ports state values → IsSettledFrom n m given held shows →
    (fuel net : ℕ) → rank net < fuel → AboveTri (values net) (shows net)
over_within n m rank ports state given held values shows order over_ports over_state settled its zero net less = absurd (omega arith)
over_within n m rank ports state given held values shows order over_ports over_state settled its (suc fuel) net less =
    let ih : (k : ℕ) → rank k < rank net → AboveTri (values k) (shows k) = λ k below. over_within n m rank ports state given held values shows order over_ports over_state settled its fuel k (omega arith) in
    let l : Logic = capture_logic n m in
    at_nets (values net) (shows net) (value_given (sources_at ports state) values net (l.net net)) (value_given (sources_at given held) shows net (l.net net)) (settled net) (its net)
    (meaning_monotone rank (sources_at ports state) (sources_at given held) values shows net over_ports (λ e. tt) over_state (l.net net) ((order_is_rank n m rank order).order net) ih (λ c e high source below. tt))

pub settled_over : (n : Netlist) (m : Moving) (rank : ℕ → ℕ) (ports state given held values shows : ℕ → Tri) → IsOrdered n rank →
    ((net : ℕ) → AboveTri (ports net) (given net)) → ((cell : ℕ) → AboveTri (state cell) (held cell)) → IsSettledFrom n m ports state values → IsSettledFrom n m given held shows →
    (net : ℕ) → AboveTri (values net) (shows net)
settled_over n m rank ports state given held values shows order over_ports over_state settled its net =
    over_within n m rank ports state given held values shows order over_ports over_state settled its (suc (rank net)) net (omega arith)

-- ---- next values

pub next_over : (i : ℕ) (pins : List Connection) (v w : ℕ → Tri) → ((net : ℕ) → AboveTri (v net) (w net)) → AboveTri (next_at i pins v) (next_at i pins w)
next_over i pins v w all =
    let at : (source : Source) → AboveTri (value_from v source) (value_from w source) = λ source. source_over v w source all in
    left_monotone (forces_of i pins) (value_from v) (value_from w) _ _ at (taken_monotone (takes_of i pins) Unknown Unknown (value_from v) (value_from w) tt at)

moved_over : (moves : Bool) (t u x y : Tri) → AboveTri t u → AboveTri x y → AboveTri (if moves then t else x) (if moves then u else y)
moved_over true t u x y next stays = next
moved_over false t u x y next stays = stays

pub after_over : (n : Netlist) (moves : ℕ → Bool) (v w state held : ℕ → Tri) → ((net : ℕ) → AboveTri (v net) (w net)) → ((cell : ℕ) → AboveTri (state cell) (held cell)) →
    (cell : ℕ) → AboveTri (after_moves n moves v state cell) (after_moves n moves w held cell)
after_over n moves v w state held all over cell = moved_over (moves cell) (next_by_pins n v cell) (next_by_pins n w cell) (state cell) (held cell) (next_over cell (pins_of n cell) v w all) (over cell)

-- ---- captures

pub capture_there : CaptureExists
capture_there n m rank ports state order =
    let one = settled_there n m rank ports state order in
    let two = settled_there n m rank ports (after_moves n m.rises one.0 state) order in
    (record { first = one.0; second = two.0 }, record { first = one.1; second = two.1 })

pub capture_one : CaptureIsOne
capture_one n m rank ports state s q order are also =
    let first : s.first ≡ q.first = λ i net. settled_one n m rank ports state s.first q.first order are.first also.first net i in
    let again : IsSettledFrom n m ports (after_moves n m.rises s.first state) q.second = subst (λ (v : ℕ → Tri). IsSettledFrom n m ports (after_moves n m.rises v state) q.second) (sym first) also.second in
    let second : s.second ≡ q.second = λ i net. settled_one n m rank ports (after_moves n m.rises s.first state) s.second q.second order are.second again net i in
    λ i. record { first = first i; second = second i }

pub capture_over : CaptureIsAbove
capture_over n m rank ports state given held s q order over_ports over_state are also =
    let first : (net : ℕ) → AboveTri (s.first net) (q.first net) = settled_over n m rank ports state given held s.first q.first order over_ports over_state are.first also.first in
    let risen : (cell : ℕ) → AboveTri (after_moves n m.rises s.first state cell) (after_moves n m.rises q.first held cell) = after_over n m.rises s.first q.first state held first over_state in
    let second : (net : ℕ) → AboveTri (s.second net) (q.second net) =
    settled_over n m rank ports (after_moves n m.rises s.first state) given (after_moves n m.rises q.first held) s.second q.second order over_ports risen are.second also.second in
    (record { first = first; second = second }, after_over n m.falls s.second q.second (after_moves n m.rises s.first state) (after_moves n m.rises q.first held) second risen)
