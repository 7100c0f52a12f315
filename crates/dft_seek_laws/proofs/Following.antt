-- A turn in which one clock pulses, below a capture: at the strobe, behind the rise and behind the fall.
use Rattle.std.proofs.Common.{ℕ, ◌≡◌, ◌==◌, ◌&&◌, ◌∙◌, Bool, true, false, List, [], ◌∷◌, Option, None, Some, is_some, refl, sym, subst, ap}
use Rattle.std.specs.Prelude.{if◌then◌else◌}
use Rattle.std.proofs.lemmas.Option.{none-some, same_Some}
use Rattle.dft_base.specs.declared.tri.Tri.{Tri}
use Rattle.dft_base.specs.declared.tri.Tri.TheVariants.{One, Unknown}
use Rattle.dft_base.specs.Tri.{Above, AboveTri, completed}
use Rattle.dft_base.proofs.OptionLemmas.{some_of}
use Rattle.dft_cells.specs.FlipFlops.{Forces, IsForceOf, Takes, forced_by, is_flip_flop, taken_by, taken_from, tri_taken_by}
use Rattle.dft_cells.proofs.Completions.{above_trans}
use Rattle.dft_cells.proofs.TakesLemmas.{bits_rest}
use Rattle.dft_netlist.specs.Netlist.{Netlist}
use Rattle.dft_netlist.specs.Drivers.{IsOrdered, Source, kind_at, nets_of, pins_of}
use Rattle.dft_behavior.specs.ClockRoots.{ClockRoot}
use Rattle.dft_behavior.specs.Logic.{Cell, Clock, IsRanked, Logic, Ports, domain_at, flip_flop, forces_of, forcing, logic_of, modelled, takes_of}
use Rattle.dft_behavior.specs.Runs.{AreLow, Edge, IsNow, IsTurn, Moment, Now, State, Turn, Vector, after_event, after_turn, at_moment, edge, edge_step, event_of, next_bit, next_now, port_bits, set_step, sources_of, takes}
use Rattle.dft_behavior.specs.Settled.{bit_from, value_from}
use Rattle.dft_behavior.proofs.Meanings.{completed_above}
use Rattle.dft_behavior.proofs.StoredLemmas.{flop_cell, stored_force}
use Rattle.dft_capture.specs.Captures.{AreSettled, IsSettledFrom, Moving, Settled, after_moves, capture_logic, captured, next_by_pins}
use Rattle.dft_capture.proofs.Settling.{order_is_rank}
use Rattle.dft_runs.specs.WiderPorts.{Suits}
use Rattle.dft_runs.proofs.WiderPortsLemmas.{ports_widen}
use Rattle.dft_edt.specs.Captures.{AllIn, IsClockFree}
use Rattle.dft_expect.proofs.GivenLemmas.{flop_by}
use Rattle.dft_seeking.proofs.PinsHigh.{pins_high}
use Rattle.dft_seek_laws.proofs.Pulses.{IsOneEdge, one_edge}
use Rattle.dft_seek_laws.proofs.Settling.{IsOpen, Keeps, all, all_in, all_open, clear_clock, clear_open, keeps, known, known_taken}

-- ---- flip-flops that hold values are modelled

-- The flip-flops that hold values are modelled under these ports, and those that move do so at an edge of this clock. What takes a value at its fall
-- takes it from nets that no clock reaches.
pub record Fits (n : Netlist) (own : Ports) (m : Moving) (d : ℕ) (free : ℕ → Bool) : Type 0 where
  pub clocks : (net : ℕ) → m.is_clock net ≡ own.is_clock net
  pub apart : (net : ℕ) → own.is_clock net ≡ true → own.is_reset net ≡ true → ⊥
  pub flops : (i : ℕ) → m.holds i ≡ true → is_some (flip_flop n own i) ≡ true
  pub rises : (i : ℕ) → m.holds i ≡ true → ((d == ((logic_of n own).cell i).domain) && takes true ((logic_of n own).cell i).falling) ≡ m.rises i
  pub falls : (i : ℕ) → m.holds i ≡ true → ((d == ((logic_of n own).cell i).domain) && takes false ((logic_of n own).cell i).falling) ≡ m.falls i
  pub clear : IsClockFree (logic_of n own) free
  pub inputs : (i : ℕ) → m.holds i ≡ true → AllIn free (nets_of (taken_from ((logic_of n own).cell i).takes))

record ByPins (cell : Cell) (forces : Option (Forces ℕ)) (takes : Takes Source) : Type 0 where
  forced : forces ≡ Some cell.forces
  taken : cell.takes ≡ takes

by_pins : (b : Bool) (domain : Option ClockRoot) (forces : Option (Forces ℕ)) (takes : Takes Source) (cell : Cell) → (if b then modelled domain forces takes else None) ≡ Some cell → ByPins cell forces takes
by_pins false domain forces takes cell is = absurd (none-some cell is)
by_pins true None forces takes cell is = absurd (none-some cell is)
by_pins true (Some clock) None takes cell is = absurd (none-some cell is)
by_pins true (Some clock) (Some f) takes cell is =
    let same : record { domain = clock.port; falling = clock.inverted; takes = takes; forces = f } ≡ cell = same_Some _ cell is in
    record { forced = ap (λ (c : Cell). Some c.forces) same; taken = ap (λ (c : Cell). c.takes) (sym same) }

-- ---- edges

-- the values of the flip-flops that hold one stand above their bits
abbrev CellsAbove : Moving → (st : ℕ → Tri) → Now → Type 0
CellsAbove m st p = (i : ℕ) → m.holds i ≡ true → Above (st i) (p.state.flops i)

-- what a capture settles and leaves stands above what a turn shows and leaves
pub record IsFollowed (n : Netlist) (m : Moving) (l : Logic) (x : Vector) (state : ℕ → Tri) (q : Settled) (now : Now) (t : Turn) : Type 0 where
  pub strobe : (net : ℕ) → Above (q.first net) (t.strobe.seen net)
  pub cells : CellsAbove m (captured n m state q) (after_turn l x now t)

after_edge : (l : Logic) (p : Now) (e : Edge) (rising : Bool) → (next_now l p (edge_step rising e)).state ≡ at_moment l e.moment (edge l p e.domains rising)
after_edge l p e true = refl
after_edge l p e false = refl

module _ (n : Netlist) (own ports : Ports) (m : Moving) (d : ℕ) (free : ℕ → Bool) (rank : ℕ → ℕ) (order : IsOrdered n rank) (suits : Suits own ports) (fits : Fits n own m d free)
    (x : Vector) (given : ℕ → Tri) (pulses : (k : ℕ) → x.pulsed k ≡ (d == k)) (rests : (net : ℕ) → own.is_reset net ≡ true → x.ports net ≡ One)
    (high : (net : ℕ) → own.is_reset net ≡ true → given net ≡ One) (over_ports : (net : ℕ) → AboveTri (given net) (x.ports net)) where
  abbrev l : Logic
  l = logic_of n ports

  abbrev own_l : Logic
  own_l = logic_of n own

  -- ---- cells

  own_flop : (i : ℕ) → m.holds i ≡ true → (cell : Cell) × (flip_flop n own i ≡ Some cell)
  own_flop i holds = some_of (flip_flop n own i) (fits.flops i holds)

  wide_flop : (i : ℕ) (holds : m.holds i ≡ true) → flip_flop n ports i ≡ Some (own_flop i holds).0
  wide_flop i holds = (ports_widen n own ports suits).flops i (own_flop i holds).0 (own_flop i holds).1

  wide_there : (i : ℕ) → m.holds i ≡ true → is_some (flip_flop n ports i) ≡ true
  wide_there i holds = ap is_some (wide_flop i holds)

  cell_is : (i : ℕ) → m.holds i ≡ true → l.cell i ≡ own_l.cell i
  cell_is i holds = flop_cell n ports i (own_flop i holds).0 (wide_flop i holds) ∙ sym (flop_cell n own i (own_flop i holds).0 (own_flop i holds).1)

  pins_are : (i : ℕ) (holds : m.holds i ≡ true) → ByPins (own_flop i holds).0 (forcing n own (forces_of i (pins_of n i))) (takes_of i (pins_of n i))
  pins_are i holds = by_pins (is_flip_flop (kind_at n i)) _ (forcing n own (forces_of i (pins_of n i))) (takes_of i (pins_of n i)) (own_flop i holds).0 (own_flop i holds).1

  takes_are : (i : ℕ) → m.holds i ≡ true → (own_l.cell i).takes ≡ takes_of i (pins_of n i)
  takes_are i holds = ap (λ (c : Cell). c.takes) (flop_cell n own i (own_flop i holds).0 (own_flop i holds).1) ∙ (pins_are i holds).taken

  -- resets and sets rest
  rest_at : (i port : ℕ) → IsForceOf (own_l.cell i).forces port → own.is_reset port ≡ true
  rest_at i port has = flop_by n own i (is_flip_flop (kind_at n i)) port (subst (λ (f : Forces ℕ). IsForceOf f port) (stored_force n own i) has)

  abbrev SetBy : Now → Type 0
  SetBy p = (k : ℕ) → p.state.ports k ≡ x.ports k

  idle : (i : ℕ) (holds : m.holds i ≡ true) (s : State) (mo : Moment) (b : Bool) → ((k : ℕ) → s.ports k ≡ x.ports k) → forced_by (l.cell i).forces (port_bits s mo) b ≡ b
  idle i holds s mo b set =
      ap (λ (c : Cell). forced_by c.forces (port_bits s mo) b) (cell_is i holds)
      ∙ bits_rest (own_l.cell i).forces (port_bits s mo) b (λ port has. ap (λ (t : Tri). completed t (mo.free port)) (set port ∙ rests port (rest_at i port has)))

  -- ---- nets

  ranked : IsRanked (capture_logic n m) rank
  ranked = order_is_rank n m rank order

  keeps_own : Keeps n m own_l
  keeps_own = keeps n m own fits.clocks fits.flops

  keeps_wide : Keeps n m l
  keeps_wide = keeps n m ports (λ net. fits.clocks net ∙ sym (suits.clocks net)) wide_there

  ports_above : (p : Now) → SetBy p → (k : ℕ) → Above (given k) (port_bits p.state p.moment k)
  ports_above p set k = above_trans (given k) (x.ports k) (port_bits p.state p.moment k) (over_ports k) (subst (λ (t : Tri). Above (x.ports k) (completed t (p.moment.free k))) (sym (set k)) (completed_above (x.ports k) (p.moment.free k)))

  -- at a moment, for nets among which clocks are low
  module _ (p : Now) (set : SetBy p) (is_now : IsNow l p) (st values : ℕ → Tri) (settled : IsSettledFrom n m given st values) (above : CellsAbove m st p) (among : ℕ → Bool) (is_open : IsOpen (capture_logic n m) among)
      (low : (net : ℕ) → among net ≡ true → (capture_logic n m).net net ≡ Clock → p.state.high net ≡ false) where
    nets_above : (net : ℕ) → among net ≡ true → Above (values net) (p.moment.seen net)
    nets_above net is = known n m l keeps_wide rank ranked among is_open given st values (sources_of p) p.moment.seen settled is_now (ports_above p set) above low net is

    next_above : (i : ℕ) → m.holds i ≡ true → AllIn among (nets_of (taken_from (own_l.cell i).takes)) → (bit : Bool) → Above (next_by_pins n values i) (next_bit (l.cell i) bit p)
    next_above i holds inside bit =
        let pins : Takes Source = takes_of i (pins_of n i) in
        let pin_same : tri_taken_by (own_l.cell i).takes Unknown (value_from values) ≡ next_by_pins n values i =
        ap (λ (t : Takes Source). tri_taken_by t Unknown (value_from values)) (takes_are i holds)
        ∙ sym (pins_high n own m fits.clocks fits.apart given st values high settled (forces_of i (pins_of n i)) (own_flop i holds).0.forces (tri_taken_by pins Unknown (value_from values)) (pins_are i holds).forced) in
        let bit_same : taken_by (own_l.cell i).takes bit (bit_from (sources_of p) p.moment.seen) ≡ next_bit (l.cell i) bit p =
        ap (λ (c : Cell). taken_by c.takes bit (bit_from (sources_of p) p.moment.seen)) (sym (cell_is i holds)) ∙ sym (idle i holds p.state p.moment _ set) in
        subst (λ (t : Tri). Above t (next_bit (l.cell i) bit p)) pin_same
        (subst (λ (b : Bool). Above (tri_taken_by (own_l.cell i).takes Unknown (value_from values)) b) bit_same (known_taken among (sources_of p) p.moment.seen values (own_l.cell i).takes bit nets_above inside))

    moved_above : (i : ℕ) (moves b : Bool) → m.holds i ≡ true → moves ≡ b → (moves ≡ true → AllIn among (nets_of (taken_from (own_l.cell i).takes))) →
        Above (if b then next_by_pins n values i else st i) (if b then next_bit (l.cell i) (p.state.flops i) p else p.state.flops i)
    moved_above i moves true holds is inside = next_above i holds (inside is) (p.state.flops i)
    moved_above i moves false holds is inside = above i holds

    -- behind an edge of the clock
    edge_above : (e : Edge) (rising : Bool) (moves : ℕ → Bool) → ((k : ℕ) → e.domains k ≡ x.pulsed k) →
        ((i : ℕ) → m.holds i ≡ true → ((d == (own_l.cell i).domain) && takes rising (own_l.cell i).falling) ≡ moves i) →
        ((i : ℕ) → m.holds i ≡ true → moves i ≡ true → AllIn among (nets_of (taken_from (own_l.cell i).takes))) →
        CellsAbove m (after_moves n moves values st) (next_now l p (edge_step rising e))
    edge_above e rising moves domains test inside i holds =
        let bit : Bool = p.state.flops i in
        let turns : (e.domains (l.cell i).domain && takes rising (l.cell i).falling) ≡ moves i =
        ap (λ (c : Cell). e.domains c.domain && takes rising c.falling) (cell_is i holds)
        ∙ ap (λ (b : Bool). b && takes rising (own_l.cell i).falling) (domains (own_l.cell i).domain ∙ pulses (own_l.cell i).domain) ∙ test i holds in
        let now_is : (if moves i then next_bit (l.cell i) bit p else bit) ≡ (next_now l p (edge_step rising e)).state.flops i =
        ap (λ (b : Bool). if b then next_bit (l.cell i) bit p else bit) (sym turns)
        ∙ sym (idle i holds (edge l p e.domains rising) e.moment (if e.domains (l.cell i).domain && takes rising (l.cell i).falling then next_bit (l.cell i) bit p else bit) set)
        ∙ ap (λ (s : State). s.flops i) (sym (after_edge l p e rising)) in
        subst (λ (b : Bool). Above (after_moves n moves values st i) b) now_is (moved_above i (moves i) (moves i) holds refl (inside i holds))

  -- ---- the turn

  module _ (state : ℕ → Tri) (q : Settled) (now : Now) (low : AreLow now.state) (are : AreSettled n m given state q) (over : CellsAbove m state now) where
    one_pulse : (strobe : Moment) (e f : Edge) → ((k : ℕ) → e.domains k ≡ x.pulsed k) → ((k : ℕ) → f.domains k ≡ x.pulsed k) → IsTurn l x now (record { strobe = strobe; rises = e ∷ []; falls = f ∷ [] }) →
        IsFollowed n m l x state q now (record { strobe = strobe; rises = e ∷ []; falls = f ∷ [] })
    one_pulse strobe e f up down turn =
        let t : Turn = record { strobe = strobe; rises = e ∷ []; falls = f ∷ [] } in
        let one : Now = next_now l now (set_step x t) in
        let two : Now = next_now l one (edge_step true e) in
        let first : CellsAbove m state one = λ i holds. subst (λ (b : Bool). Above (state i) b) (sym (idle i holds one.state strobe (now.state.flops i) (λ k. refl))) (over i holds) in
        let lows : (net : ℕ) → all net ≡ true → (capture_logic n m).net net ≡ Clock → one.state.high net ≡ false = λ net is clock. low net in
        let risen : CellsAbove m (after_moves n m.rises q.first state) two =
        edge_above one (λ k. refl) turn.steps.0 state q.first are.first first all (all_open (capture_logic n m)) lows e true m.rises up fits.rises (λ i holds is. all_in (nets_of (taken_from (own_l.cell i).takes))) in
        let clear : IsOpen (capture_logic n m) free = clear_open n m own_l free keeps_own fits.clear in
        let never : (net : ℕ) → free net ≡ true → (capture_logic n m).net net ≡ Clock → two.state.high net ≡ false = λ net is clock. absurd (no_clock net is clock) in
        record {
          strobe = λ net. nets_above one (λ k. refl) turn.steps.0 state q.first are.first first all (all_open (capture_logic n m)) lows net refl;
          cells = edge_above two (λ k. refl) turn.steps.1.0 (after_moves n m.rises q.first state) q.second are.second risen free clear never f false m.falls down fits.falls (λ i holds is. fits.inputs i holds);
        }
      where
        no_clock : (net : ℕ) → free net ≡ true → (capture_logic n m).net net ≡ Clock → ⊥
        no_clock net is clock = clear_clock n m own_l free keeps_own fits.clear net is clock

    pub followed : (t : Turn) → IsTurn l x now t → IsFollowed n m l x state q now t
    followed t turn =
        let up : IsOneEdge x.pulsed t.rises = one_edge x.pulsed d t.rises pulses turn.rises in
        let down : IsOneEdge x.pulsed t.falls = one_edge x.pulsed d t.falls pulses turn.falls in
        let same : t ≡ record { strobe = t.strobe; rises = up.edge ∷ []; falls = down.edge ∷ [] } = λ i. record { strobe = t.strobe; rises = up.alone i; falls = down.alone i } in
        subst (IsFollowed n m l x state q now) (sym same) (one_pulse t.strobe up.edge down.edge up.own down.own (subst (IsTurn l x now) same turn))
