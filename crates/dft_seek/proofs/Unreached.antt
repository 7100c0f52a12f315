-- A point that no walk reaches shows the same with the fault and without it; and so do all points where the stuck net has the fault's value by itself.
use Rattle.std.proofs.Common.{ℕ, ◌≡◌, ◌==◌, Bool, true, false, ◌||◌, not, [], inl, inr, refl, sym, subst, ap, ◌∙◌}
use Rattle.std.specs.Prelude.{if◌then◌else◌}
use Rattle.std.proofs.lemmas.Bool.Decides.{eqb_tells}
use Rattle.dft_base.specs.declared.tri.Tri.{Tri}
use Rattle.dft_base.specs.declared.tri.Tri.TheVariants.{Zero, One, Unknown}
use Rattle.dft_base.specs.Tri.{known}
use Rattle.dft_base.proofs.BitLemmas.{and_first, and_second}
use Rattle.dft_netlist.specs.Netlist.{Netlist}
use Rattle.dft_netlist.specs.Drivers.{Driver, Gate, Joined, Flop, Free, Tied, driver, IsOrdered}
use Rattle.dft_netlist.specs.Drivers as drivers
use Rattle.dft_behavior.specs.Settled.{value_given}
use Rattle.dft_faults.specs.Faulty.{faulty, IsFault}
use Rattle.dft_faults.proofs.Finished.{drivers_stay, order_stays}
use Rattle.dft_capture.specs.Captures.{Moving, IsSettledFrom, after_moves, meaning_in, next_by_pins, sources_at}
use Rattle.dft_capture.proofs.Settling.{settled_one}
use Rattle.dft_seek.specs.Searches.{AreBoth, Both, Given, Point, Output, Response, Search, faulty_at, good_at, has_falling, moving_of, port_values, takes_at}
use Rattle.dft_seek.specs.Walks.{IsReached, Walks, Here, Onward, is_among, is_passed, taken_nets, walked_from}
use Rattle.dft_seek.specs.Trees.{is_bit, site_stays}
use Rattle.dft_seek.specs.Laws.{CanSeek}
use Rattle.dft_seek.proofs.NoScan.{HasNoScanPins}
use Rattle.dft_seek.proofs.PinLemmas.{among_here, next_stays}
use Rattle.dft_seek.proofs.Alike.{AgreeTwice, AreAlike, agree_twice, gate_reads, has_some, moved_same, response_same}

-- ---- walks

-- a walk goes on along gates and joins,
pub along_gate : (s : Search) (from : ℕ) (d : Driver) → is_among from (gate_reads d) ≡ true → is_among from (walked_from s d) ≡ true
along_gate s from drivers.Input is = absurd cc
along_gate s from (Gate kind inputs) is = is
along_gate s from (Joined source) is = is
along_gate s from (Flop i inverted) is = absurd cc
along_gate s from (drivers.Lockup i) is = absurd cc
along_gate s from Free is = absurd cc

-- and through cells that it passes
pub through_cell : (s : Search) (from i : ℕ) (inverted : Bool) (d : Driver) → d ≡ Flop i inverted → is_passed s i ≡ true → is_among from (taken_nets s.design i) ≡ true → is_among from (walked_from s d) ≡ true
through_cell s from i inverted d is passed among =
    ap (λ (x : Driver). is_among from (walked_from s x)) is ∙ ap (λ (b : Bool). is_among from (if b then taken_nets s.design i else [])) passed ∙ among

-- ---- drivers of the design with the fault

pub other_driver : (s : Search) (net : ℕ) → IsFault s.design s.fault → (net == s.fault.net.0) ≡ false → driver (faulty s.design s.fault) net ≡ driver s.design net
other_driver s net fault other = drivers_stay s.design s.fault net fault ∙ ap (λ (b : Bool). if b then Joined (Tied s.fault.value) else driver s.design net) other

pub stuck_driver : (s : Search) (net : ℕ) → IsFault s.design s.fault → (net == s.fault.net.0) ≡ true → driver (faulty s.design s.fault) net ≡ Joined (Tied s.fault.value)
stuck_driver s net fault same = drivers_stay s.design s.fault net fault ∙ ap (λ (b : Bool). if b then Joined (Tied s.fault.value) else driver s.design net) same

-- ---- what is not reached

-- no walk leads from the stuck net to a net
abbrev pub IsApart : Search → (net : ℕ) → Type 0
IsApart s net = Walks s s.fault.net.0 net → ⊥

apart_alike : (s : Search) (rank : ℕ → ℕ) (g : Given) → CanSeek s rank → AreAlike s s.design (faulty s.design s.fault) g g (IsApart s)
apart_alike s rank g can = record {
  same = record {
    driven = λ net apart. elim (eqb_tells net s.fault.net.0) [
      | inl same ↦ absurd (apart (subst (λ (k : ℕ). Walks s k net) same.1 Here))
      | inr other ↦ sym (other_driver s net can.is other.0)
    ];
    reads = λ net from apart is walk. apart (Onward walk (along_gate s from (driver s.design net) is));
    of_ports = λ net apart is clock. refl;
    of_cells = λ net i inverted apart is held. refl;
  };
  passes = λ net i inverted from apart is passed among walk. apart (Onward walk (through_cell s from i inverted (driver s.design net) is passed among));
  next = λ values c. refl;
  its_next = λ values c. next_stays s.design s.fault values c;
}

apart_agree : (s : Search) (rank : ℕ → ℕ) (g : Given) (b : Both) → CanSeek s rank → HasNoScanPins s → AreBoth s g b → AgreeTwice s b.good b.faulty (IsApart s)
apart_agree s rank g b can none are =
    agree_twice s s.design (faulty s.design s.fault) rank g g b.good b.faulty (IsApart s) can.ordered none (apart_alike s rank g can) are.good are.faulty

pub unreached_same : (s : Search) (rank : ℕ → ℕ) (g : Given) (b : Both) → CanSeek s rank → HasNoScanPins s → AreBoth s g b → (point : Point) → (IsReached s point → ⊥) → good_at s g b point ≡ faulty_at s g b point
unreached_same s rank g b can none are (Output net) apart = (apart_agree s rank g b can none are).first net (λ walk. apart (record { to = net; ends = among_here net []; walk = walk }))
unreached_same s rank g b can none are (Response cell) apart =
    response_same s s.design (faulty s.design s.fault) g g b.good b.faulty (IsApart s) cell none (apart_alike s rank g can) (apart_agree s rank g b can none are)
    (λ from among walk. apart (record { to = from; ends = among; walk = walk })) (λ no_fall no_rise. refl)

-- ---- where the stuck net has the fault's value

bit_is : (bit : Bool) (t : Tri) → is_bit bit t ≡ true → t ≡ known bit
bit_is false Zero is = refl
bit_is false One is = absurd cc
bit_is false Unknown is = absurd cc
bit_is true One is = refl
bit_is true Zero is = absurd cc
bit_is true Unknown is = absurd cc

-- then the design's settled values are those of the design with the fault
settled_with_fault : (s : Search) (ports state values : ℕ → Tri) → IsFault s.design s.fault → values s.fault.net.0 ≡ known s.fault.value →
    IsSettledFrom s.design (moving_of s) ports state values → IsSettledFrom (faulty s.design s.fault) (moving_of s) ports state values
settled_with_fault s ports state values fault stays settled net = elim (eqb_tells net s.fault.net.0) [
  | inl same ↦ ap values same.1 ∙ stays ∙ sym (ap (λ (d : Driver). value_given (sources_at ports state) values net (meaning_in (moving_of s) net d)) (stuck_driver s net fault same.0))
  | inr other ↦ settled net ∙ sym (ap (λ (d : Driver). value_given (sources_at ports state) values net (meaning_in (moving_of s) net d)) (other_driver s net fault other.0))
]

or_not : (a b : Bool) → a ≡ true → (not a || b) ≡ true → b ≡ true
or_not true b is h = h
or_not false b is h = absurd cc

stays_first : (s : Search) (rank : ℕ → ℕ) (g : Given) (b : Both) → CanSeek s rank → AreBoth s g b → site_stays s b ≡ true → b.good.first ≡ b.faulty.first
stays_first s rank g b can are stays =
    let value : b.good.first s.fault.net.0 ≡ known s.fault.value =
    bit_is s.fault.value (b.good.first s.fault.net.0) (and_first (is_bit s.fault.value (b.good.first s.fault.net.0)) (not (has_falling s) || is_bit s.fault.value (b.good.second s.fault.net.0)) stays) in
    λ i net. settled_one (faulty s.design s.fault) (moving_of s) rank (port_values s g) g.cells b.good.first b.faulty.first (order_stays s.design s.fault rank can.is can.ordered)
    (settled_with_fault s (port_values s g) g.cells b.good.first can.is value are.good.first) are.faulty.first net i

stays_risen : (s : Search) (rank : ℕ → ℕ) (g : Given) (b : Both) → CanSeek s rank → AreBoth s g b → site_stays s b ≡ true →
    after_moves s.design (takes_at s false) b.good.first g.cells ≡ after_moves (faulty s.design s.fault) (takes_at s false) b.faulty.first g.cells
stays_risen s rank g b can are stays =
    let first : b.good.first ≡ b.faulty.first = stays_first s rank g b can are stays in
    λ i c. (ap (λ (t : Tri). if takes_at s false c then t else g.cells c) (ap (λ (values : ℕ → Tri). next_by_pins s.design values c) first ∙ sym (next_stays s.design s.fault b.faulty.first c))) i

stays_second : (s : Search) (rank : ℕ → ℕ) (g : Given) (b : Both) → CanSeek s rank → AreBoth s g b → site_stays s b ≡ true → has_falling s ≡ true → b.good.second ≡ b.faulty.second
stays_second s rank g b can are stays falls =
    let m : Moving = moving_of s in
    let bad : Netlist = faulty s.design s.fault in
    let ports : ℕ → Tri = port_values s g in
    let value : b.good.second s.fault.net.0 ≡ known s.fault.value =
    bit_is s.fault.value (b.good.second s.fault.net.0)
    (or_not (has_falling s) (is_bit s.fault.value (b.good.second s.fault.net.0)) falls (and_second (is_bit s.fault.value (b.good.first s.fault.net.0)) (not (has_falling s) || is_bit s.fault.value (b.good.second s.fault.net.0)) stays)) in
    let settled : IsSettledFrom bad m ports (after_moves s.design m.rises b.good.first g.cells) b.good.second =
    settled_with_fault s ports (after_moves s.design m.rises b.good.first g.cells) b.good.second can.is value are.good.second in
    let moved : IsSettledFrom bad m ports (after_moves bad m.rises b.faulty.first g.cells) b.good.second =
    subst (λ (state : ℕ → Tri). IsSettledFrom bad m ports state b.good.second) (stays_risen s rank g b can are stays) settled in
    λ i net. settled_one bad m rank ports (after_moves bad m.rises b.faulty.first g.cells) b.good.second b.faulty.second (order_stays s.design s.fault rank can.is can.ordered) moved are.faulty.second net i

pub stays_same : (s : Search) (rank : ℕ → ℕ) (g : Given) (b : Both) → CanSeek s rank → AreBoth s g b → site_stays s b ≡ true → (point : Point) → good_at s g b point ≡ faulty_at s g b point
stays_same s rank g b can are stays (Output net) = ap (λ (values : ℕ → Tri). values net) (stays_first s rank g b can are stays)
stays_same s rank g b can are stays (Response c) =
    moved_same (takes_at s true c) (next_by_pins s.design b.good.second c) (next_by_pins (faulty s.design s.fault) b.faulty.second c) _ _
    (λ falls. ap (λ (values : ℕ → Tri). next_by_pins s.design values c) (stays_second s rank g b can are stays (has_some s c falls)) ∙ sym (next_stays s.design s.fault b.faulty.second c))
    (λ no_fall. ap (λ (state : ℕ → Tri). state c) (stays_risen s rank g b can are stays))
