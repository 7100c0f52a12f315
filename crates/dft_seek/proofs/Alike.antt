-- Two captures agree on a set of nets that is closed under reading, where what the set is settled from agrees.
use Rattle.std.proofs.Common.{ℕ, zero, suc, ◌≡◌, ◌<◌, ◌==◌, Bool, true, false, ◌||◌, List, [], ◌∷◌, inl, inr, refl, sym, subst, ap, arith, ◌∙◌}
use Rattle.std.specs.Prelude.{if◌then◌else◌}
use Rattle.std.specs.List.{list_any}
use Rattle.std.proofs.lemmas.Bool.Decides.{eqb_tells}
use Rattle.std.proofs.lemmas.Bool.{and_from, or_right, or_left}
use Rattle.dft_base.specs.declared.tri.Tri.{Tri}
use Rattle.dft_base.proofs.BitLemmas.{and_first}
use Rattle.dft_cells.specs.Gates.{tri_of}
use Rattle.dft_netlist.specs.declared.ids.InstanceId.{InstanceId}
use Rattle.dft_netlist.specs.Netlist.{Netlist}
use Rattle.dft_netlist.specs.Drivers.{Source, Driver, Gate, Joined, Flop, Free, driver, nets_of, nets_read, AreBelow, IsOrdered}
use Rattle.dft_netlist.specs.Drivers as drivers
use Rattle.dft_behavior.specs.Logic as meanings
use Rattle.dft_behavior.specs.Settled.{value_given}
use Rattle.dft_rules.specs.Rules.{judgements}
use Rattle.dft_stitch.specs.Chains.{clock_of}
use Rattle.dft_capture.specs.Captures.{Moving, Settled, AreSettled, after_moves, captured, meaning_in, next_by_pins, sources_at}
use Rattle.dft_seek.specs.Searches.{Given, Search, cells_in, has_cell, has_falling, is_of, moving_of, port_values, takes_at}
use Rattle.dft_seek.specs.Walks.{is_among, is_passed, taken_nets}
use Rattle.dft_seek.proofs.NoScan.{HasNoScanPins}
use Rattle.dft_seek.proofs.PinLemmas.{AgreeAt, all_sources, next_same, one_source}

-- what a gate or a join reads
abbrev pub gate_reads : Driver → List ℕ
gate_reads drivers.Input = []
gate_reads (Gate kind inputs) = nets_of inputs
gate_reads (Joined source) = nets_of (source ∷ [])
gate_reads (Flop i inverted) = []
gate_reads (drivers.Lockup i) = []
gate_reads Free = []

-- a meaning's value hangs on what it reads, and on a port or a flip-flop
value_same : (m : Moving) (ports state given held a b : ℕ → Tri) (net : ℕ) (d : Driver) → AgreeAt (gate_reads d) a b →
    (d ≡ drivers.Input → m.is_clock net ≡ false → ports net ≡ given net) → ((i : ℕ) (inverted : Bool) → d ≡ Flop i inverted → m.holds i ≡ true → state i ≡ held i) →
    value_given (sources_at ports state) a net (meaning_in m net d) ≡ value_given (sources_at given held) b net (meaning_in m net d)
value_same m ports state given held a b net drivers.Input reads of_port of_cell = by_clock (m.is_clock net) (of_port refl)
  where
    by_clock : (c : Bool) → (c ≡ false → ports net ≡ given net) →
        value_given (sources_at ports state) a net (if c then meanings.Clock else meanings.Input)
        ≡ value_given (sources_at given held) b net (if c then meanings.Clock else meanings.Input)
    by_clock true of = refl
    by_clock false of = of refl
value_same m ports state given held a b net (Gate kind inputs) reads of_port of_cell = ap (tri_of kind) (all_sources inputs a b reads)
value_same m ports state given held a b net (Joined source) reads of_port of_cell = one_source source a b reads
value_same m ports state given held a b net (Flop i inverted) reads of_port of_cell = by_held (m.holds i) (of_cell i inverted refl)
  where
    by_held : (c : Bool) → (c ≡ true → state i ≡ held i) →
        value_given (sources_at ports state) a net (if c then meanings.Flop i inverted else meanings.Free)
        ≡ value_given (sources_at given held) b net (if c then meanings.Flop i inverted else meanings.Free)
    by_held true of = ap (λ (t : Tri). value_given (sources_at ports (λ c. t)) a net (meanings.Flop i inverted)) (of refl)
    by_held false of = refl
value_same m ports state given held a b net (drivers.Lockup i) reads of_port of_cell = refl
value_same m ports state given held a b net Free reads of_port of_cell = refl

-- ---- one settling

-- the nets that a gate or a join reads stand below it
among_below : (rank : ℕ → ℕ) (r : ℕ) (nets : List ℕ) (from : ℕ) → AreBelow rank r nets → is_among from nets ≡ true → rank from < r
among_below rank r [] from below is = absurd cc
among_below rank r (net ∷ nets) from below is = elim (eqb_tells net from) [
  | inl same ↦ subst (λ (k : ℕ). rank k < r) same.1 below.0
  | inr other ↦ among_below rank r nets from below.1 (sym (ap (λ (x : Bool). x || is_among from nets) other.0) ∙ is)
]

reads_below : (n : Netlist) (rank : ℕ → ℕ) (net : ℕ) (d : Driver) (from : ℕ) → AreBelow rank (rank net) (nets_read n d) → is_among from (gate_reads d) ≡ true → rank from < rank net
reads_below n rank net drivers.Input from below is = absurd cc
reads_below n rank net (Gate kind inputs) from below is = among_below rank (rank net) (nets_of inputs) from below is
reads_below n rank net (Joined source) from below is = among_below rank (rank net) (nets_of (source ∷ [])) from below is
reads_below n rank net (Flop i inverted) from below is = absurd cc
reads_below n rank net (drivers.Lockup i) from below is = absurd cc
reads_below n rank net Free from below is = absurd cc

-- the set's nets have the same drivers in both designs, and what they are settled from is the same
pub record AreSame (n k : Netlist) (m : Moving) (ports state given held : ℕ → Tri) (Set : ℕ → Type 0) : Type 0 where
  pub driven : (net : ℕ) → Set net → driver n net ≡ driver k net
  pub reads : (net from : ℕ) → Set net → is_among from (gate_reads (driver n net)) ≡ true → Set from
  pub of_ports : (net : ℕ) → Set net → driver n net ≡ drivers.Input → m.is_clock net ≡ false → ports net ≡ given net
  pub of_cells : (net i : ℕ) (inverted : Bool) → Set net → driver n net ≡ Flop i inverted → m.holds i ≡ true → state i ≡ held i

-- the set's nets have their settled values
abbrev pub IsSettledOn : Netlist → Moving → (ports state values : ℕ → Tri) → (Set : ℕ → Type 0) → Type 0
IsSettledOn n m ports state values Set = (net : ℕ) → Set net → values net ≡ value_given (sources_at ports state) values net (meaning_in m net (driver n net))

agree_within : (n k : Netlist) (m : Moving) (rank : ℕ → ℕ) (ports state given held a b : ℕ → Tri) (Set : ℕ → Type 0) → IsOrdered n rank → AreSame n k m ports state given held Set →
    IsSettledOn n m ports state a Set → IsSettledOn k m given held b Set → (fuel net : ℕ) → rank net < fuel → Set net → a net ≡ b net
agree_within n k m rank ports state given held a b Set order same settled its zero net less in_set = absurd (omega arith)
agree_within n k m rank ports state given held a b Set order same settled its (suc fuel) net less in_set =
    let reads : AgreeAt (gate_reads (driver n net)) a b = λ from is.
    agree_within n k m rank ports state given held a b Set order same settled its fuel from (omega (arith, reads_below n rank net (driver n net) from (order.after net) is)) (same.reads net from in_set is) in
    settled net in_set
    ∙ value_same m ports state given held a b net (driver n net) reads (same.of_ports net in_set) (λ i inverted. same.of_cells net i inverted in_set)
    ∙ ap (λ (d : Driver). value_given (sources_at given held) b net (meaning_in m net d)) (same.driven net in_set) ∙ sym (its net in_set)

pub agree_on : (n k : Netlist) (m : Moving) (rank : ℕ → ℕ) (ports state given held a b : ℕ → Tri) (Set : ℕ → Type 0) → IsOrdered n rank → AreSame n k m ports state given held Set →
    IsSettledOn n m ports state a Set → IsSettledOn k m given held b Set → (net : ℕ) → Set net → a net ≡ b net
agree_on n k m rank ports state given held a b Set order same settled its net in_set = agree_within n k m rank ports state given held a b Set order same settled its (suc (rank net)) net (omega arith) in_set

-- ---- a whole capture

-- Besides, next values are those of the search's design, and where the domain has a falling cell, the pins of each rising one that the set shows
-- are in the set.
pub record AreAlike (s : Search) (n k : Netlist) (g h : Given) (Set : ℕ → Type 0) : Type 0 where
  pub same : AreSame n k (moving_of s) (port_values s g) g.cells (port_values s h) h.cells Set
  pub passes : (net i : ℕ) (inverted : Bool) (from : ℕ) → Set net → driver n net ≡ Flop i inverted → is_passed s i ≡ true → is_among from (taken_nets s.design i) ≡ true → Set from
  pub next : (values : ℕ → Tri) (c : ℕ) → next_by_pins n values c ≡ next_by_pins s.design values c
  pub its_next : (values : ℕ → Tri) (c : ℕ) → next_by_pins k values c ≡ next_by_pins s.design values c

-- a flip-flop whose pins are in the set has the same next value
next_alike : (s : Search) (n k : Netlist) (g h : Given) (a b : ℕ → Tri) (Set : ℕ → Type 0) (c : ℕ) (falling : Bool) → HasNoScanPins s → takes_at s falling c ≡ true → AreAlike s n k g h Set → ((net : ℕ) → Set net → a net ≡ b net) →
    ((from : ℕ) → is_among from (taken_nets s.design c) ≡ true → Set from) → next_by_pins n a c ≡ next_by_pins k b c
next_alike s n k g h a b Set c falling none takes alike agree pins = alike.next a c ∙ next_same s.design a b c (none c falling takes) (λ from is. agree from (pins from is)) ∙ sym (alike.its_next b c)

-- what moves or stays
pub moved_same : (moves : Bool) (t u x y : Tri) → (moves ≡ true → t ≡ u) → (moves ≡ false → x ≡ y) → (if moves then t else x) ≡ (if moves then u else y)
moved_same true t u x y next stays = next refl
moved_same false t u x y next stays = stays refl

pub record AgreeTwice (s : Search) (a b : Settled) (Set : ℕ → Type 0) : Type 0 where
  pub first : (net : ℕ) → Set net → a.first net ≡ b.first net
  pub second : has_falling s ≡ true → (net : ℕ) → Set net → a.second net ≡ b.second net

-- before the clock rises, and where the domain has a falling cell before it falls, the set's nets have their settled values
pub record AreSettledOn (s : Search) (n : Netlist) (g : Given) (a : Settled) (Set : ℕ → Type 0) : Type 0 where
  pub first : IsSettledOn n (moving_of s) (port_values s g) g.cells a.first Set
  pub second : has_falling s ≡ true → IsSettledOn n (moving_of s) (port_values s g) (after_moves n (moving_of s).rises a.first g.cells) a.second Set

pub settled_on : (s : Search) (n : Netlist) (g : Given) (a : Settled) (Set : ℕ → Type 0) → AreSettled n (moving_of s) (port_values s g) g.cells a → AreSettledOn s n g a Set
settled_on s n g a Set are = record { first = λ net in_set. are.first net; second = λ falls net in_set. are.second net }

pub agree_parts : (s : Search) (n k : Netlist) (rank : ℕ → ℕ) (g h : Given) (a b : Settled) (Set : ℕ → Type 0) → IsOrdered n rank → HasNoScanPins s → AreAlike s n k g h Set →
    AreSettledOn s n g a Set → AreSettledOn s k h b Set → AgreeTwice s a b Set
agree_parts s n k rank g h a b Set order none alike are also =
    let m : Moving = moving_of s in
    let first : (net : ℕ) → Set net → a.first net ≡ b.first net = agree_on n k m rank (port_values s g) g.cells (port_values s h) h.cells a.first b.first Set order alike.same are.first also.first in
    let risen : has_falling s ≡ true → AreSame n k m (port_values s g) (after_moves n m.rises a.first g.cells) (port_values s h) (after_moves k m.rises b.first h.cells) Set = λ falls. record {
      driven = alike.same.driven;
      reads = alike.same.reads;
      of_ports = alike.same.of_ports;
      of_cells = λ net i inverted in_set is held.
          moved_same (m.rises i) (next_by_pins n a.first i) (next_by_pins k b.first i) (g.cells i) (h.cells i)
          (λ rises. next_alike s n k g h a.first b.first Set i false none rises alike first (λ from among. alike.passes net i inverted from in_set is (and_from (has_falling s) (takes_at s false i) falls rises) among))
          (λ stays. alike.same.of_cells net i inverted in_set is held);
    } in
    record {
      first = first;
      second = λ falls. agree_on n k m rank (port_values s g) (after_moves n m.rises a.first g.cells) (port_values s h) (after_moves k m.rises b.first h.cells) a.second b.second Set order (risen falls) (are.second falls) (also.second falls);
    }

pub agree_twice : (s : Search) (n k : Netlist) (rank : ℕ → ℕ) (g h : Given) (a b : Settled) (Set : ℕ → Type 0) → IsOrdered n rank → HasNoScanPins s → AreAlike s n k g h Set →
    AreSettled n (moving_of s) (port_values s g) g.cells a → AreSettled k (moving_of s) (port_values s h) h.cells b → AgreeTwice s a b Set
agree_twice s n k rank g h a b Set order none alike are also = agree_parts s n k rank g h a b Set order none alike (settled_on s n g a Set are) (settled_on s k h b Set also)

-- ---- what is captured

-- a cell that falls makes the domain have one
falls_here : (cells : List InstanceId) (f : ℕ → Bool) (c : ℕ) → list_any (λ cell. cell.0 == c) cells ≡ true → f c ≡ true → list_any (λ cell. f cell.0) cells ≡ true
falls_here [] f c has is = absurd cc
falls_here (x ∷ cells) f c has is = elim (eqb_tells x.0 c) [
  | inl same ↦ or_left (f x.0) (list_any (λ cell. f cell.0) cells) (ap f same.1 ∙ is)
  | inr other ↦ or_right (f x.0) (list_any (λ cell. f cell.0) cells) (falls_here cells f c (sym (ap (λ (b : Bool). b || list_any (λ cell. cell.0 == c) cells) other.0) ∙ has) is)
]

pub has_some : (s : Search) (c : ℕ) → takes_at s true c ≡ true → has_falling s ≡ true
has_some s c is = falls_here (cells_in s) (takes_at s true) c (and_first (has_cell (cells_in s) c) (is_of s.domain true (clock_of (judgements s.design s.config) (record { 0 = c }))) is) is

-- a cell whose pins are in the set captures the same, if it moves or has the same value
pub response_same : (s : Search) (n k : Netlist) (g h : Given) (a b : Settled) (Set : ℕ → Type 0) (c : ℕ) → HasNoScanPins s → AreAlike s n k g h Set → AgreeTwice s a b Set →
    ((from : ℕ) → is_among from (taken_nets s.design c) ≡ true → Set from) → (takes_at s true c ≡ false → takes_at s false c ≡ false → g.cells c ≡ h.cells c) →
    captured n (moving_of s) g.cells a c ≡ captured k (moving_of s) h.cells b c
response_same s n k g h a b Set c none alike agree pins stays =
    moved_same (takes_at s true c) (next_by_pins n a.second c) (next_by_pins k b.second c) _ _
    (λ falls. next_alike s n k g h a.second b.second Set c true none falls alike (agree.second (has_some s c falls)) pins)
    (λ no_fall. moved_same (takes_at s false c) (next_by_pins n a.first c) (next_by_pins k b.first c) (g.cells c) (h.cells c)
    (λ rises. next_alike s n k g h a.first b.first Set c false none rises alike agree.first pins) (stays no_fall))
