-- Captures stand above turns, so a cube that is told detects in runs.
use Rattle.std.proofs.Common.{ℕ, ◌≡◌, ◌∙◌, ◌⊎◌, inl, inr, ◌||◌, Bool, true, false, not, List, [], map, filter, Some, refl, sym, subst, ap}
use Rattle.std.specs.Prelude.{if◌then◌else◌}
use Rattle.std.specs.List.{list_any}
use Rattle.dft_base.specs.declared.tri.Tri.{Tri}
use Rattle.dft_base.specs.declared.tri.Tri.TheVariants.{Zero, One, Unknown}
use Rattle.dft_base.specs.Tri.{known, Above, AboveTri}
use Rattle.dft_cells.proofs.Completions.{above_known, above_self, above_trans}
use Rattle.dft_netlist.specs.declared.ids.NetId.{NetId}
use Rattle.dft_netlist.specs.declared.ids.InstanceId.{InstanceId}
use Rattle.dft_netlist.specs.Netlist.{Netlist}
use Rattle.dft_netlist.specs.Drivers.{IsOrdered}
use Rattle.dft_behavior.specs.Logic.{Logic, Ports, logic_of}
use Rattle.dft_behavior.specs.Runs.{IsTurn, Now, Turn, Vector, after_turn}
use Rattle.dft_runs.specs.WiderPorts.{Suits}
use Rattle.dft_capture.specs.Captures.{AreSettled, Settled, captured}
use Rattle.dft_rules.specs.ConfigPorts.{config_ports}
use Rattle.dft_expect.specs.Captures.{capture_clock, output_bits}
use Rattle.dft_expect.specs.Capturing.{CanCapture}
use Rattle.dft_expect.proofs.VectorLemmas.{chained}
use Rattle.dft_faults.specs.Faulty.{faulty}
use Rattle.dft_faults.proofs.Finished.{order_stays}
use Rattle.dft_scan_behavior.proofs.ClockFree.{is_clear}
use Rattle.dft_seek.specs.Searches.{Both, Completes, Detects, Given, Output, Point, Response, Search, cells_in, detects_at, differ, faulty_at, good_at, has_cell, moving_of, points_of, port_values, takes_at, value_at}
use Rattle.dft_seek.specs.Trees.{node_at}
use Rattle.dft_seek.proofs.Rising.{cubes_detect}
use Rattle.dft_seek.proofs.Telling.{cube_node}
use Rattle.dft_seeking.proofs.ApartLemmas.{StandsIn, any_stands, made_of, one_of, passes}
use Rattle.dft_seek_laws.specs.Applied.{AlwaysShows, IsApplied, IsCapture, IsPoint, given_in, shown_at}
use Rattle.dft_seek_laws.specs.Laws.{CubesDetect, FaultyStandsAbove, GoodStandsAbove, StandsAbove}
use Rattle.dft_seek_laws.proofs.Following.{Fits, IsFollowed, followed}
use Rattle.dft_seek_laws.proofs.Fitting.{bad_fits, good_fits}

-- ---- points

-- a response is that of a scanned cell
response_holds : (s : Search) (cell : ℕ) → IsPoint s (Response cell) → has_cell (cells_in s) cell ≡ true
response_holds s cell looked = elim (one_of (map output_of (output_bits s.design.ports)) (map response_of (filter takes (cells_in s))) (Response cell) looked) [
  | inl stands ↦ absurd (let m = made_of output_of (output_bits s.design.ports) (Response cell) stands in no_output m.from.0 m.is)
  | inr stands ↦ (let m = made_of response_of (filter takes (cells_in s)) (Response cell) stands in
      let among : StandsIn (cells_in s) m.from = (passes takes (cells_in s) m.from m.stands).0 in
      ap (has_cell (cells_in s)) (sym (ap (cell_or cell) m.is)) ∙ chained (cells_in s) among.0 m.from.0 among.1)
]
  where
    output_of : NetId → Point
    output_of net = Output net.0

    response_of : InstanceId → Point
    response_of c = Response c.0

    takes : InstanceId → Bool
    takes c = takes_at s false c.0 || takes_at s true c.0

    cell_or : ℕ → Point → ℕ
    cell_or other (Output net) = other
    cell_or other (Response c) = c

    no_output : (net : ℕ) → Output net ≡ Response cell → ⊥
    no_output net is = cc

-- ---- what a capture knows

module _ (s : Search) (n : Netlist) (rank : ℕ → ℕ) (ports : Ports) (order : IsOrdered n rank) (suits : Suits (config_ports s.design s.config) ports)
    (fits : (clock : NetId) → capture_clock s.design s.config s.domain ≡ Some clock → Fits n (config_ports s.design s.config) (moving_of s) clock.0 (is_clear s.design s.config)) where
  abbrev own : Ports
  own = config_ports s.design s.config

  set_over : (b : Bool) (g x : Tri) → (b ≡ true → x ≡ One) → AboveTri g x → AboveTri (if b then One else g) x
  set_over true g x one over = subst (λ (t : Tri). AboveTri One t) (sym (one refl)) (above_self One)
  set_over false g x one over = over

  follows : (g : Given) (settled : Settled) (now : Now) (x : Vector) (t : Turn) → AreSettled n (moving_of s) (port_values s g) g.cells settled → IsCapture s now x → Completes g (given_in now x) → IsTurn (logic_of n ports) x now t →
      IsFollowed n (moving_of s) (logic_of n ports) x g.cells settled now t
  follows g settled now x t are capture completes turn =
      followed n own ports (moving_of s) capture.clock.0 (is_clear s.design s.config) rank order suits (fits capture.clock capture.is) x (port_values s g) capture.pulses capture.resets
      (λ net is. ap (λ (b : Bool). if b then One else g.ports net) is) (λ net. set_over (own.is_reset net) (g.ports net) (x.ports net) (capture.resets net) (completes.ports net)) g.cells settled now capture.low are
      (λ i holds. above_trans (g.cells i) (known (now.state.flops i)) (now.state.flops i) (completes.cells i) (above_known (now.state.flops i))) t turn

  point_above : (g : Given) (settled : Settled) (now : Now) (x : Vector) (t : Turn) (point : Point) → IsFollowed n (moving_of s) (logic_of n ports) x g.cells settled now t → IsPoint s point →
      Above (value_at s n g settled point) (shown_at (logic_of n ports) now x t point)
  point_above g settled now x t (Output net) is looked = is.strobe net
  point_above g settled now x t (Response cell) is looked = is.cells cell (response_holds s cell looked)

  pub stands_above : StandsAbove s n ports
  stands_above g settled now x t point are capture completes turn looked = point_above g settled now x t point (follows g settled now x t are capture completes turn) looked

pub good_stands : GoodStandsAbove
good_stands s rank ports can_seek can suits = stands_above s s.design rank ports can_seek.ordered suits (λ clock is. good_fits s rank can_seek.ordered can clock is)

pub bad_stands : FaultyStandsAbove
bad_stands s rank ports can_seek can suits apart =
    stands_above s (faulty s.design s.fault) rank ports (order_stays s.design s.fault rank can_seek.is can_seek.ordered) suits (λ clock is. bad_fits s rank can_seek.ordered can clock is can_seek.is apart)

-- ---- cubes

-- values that differ are two bits
differ_bits : (t u : Tri) → differ t u ≡ true → (b : Bool) × ((t ≡ known b) × (u ≡ known (not b)))
differ_bits Zero One is = (false, (refl, refl))
differ_bits One Zero is = (true, (refl, refl))
differ_bits Zero Zero is = absurd (let f : ⊥ = cc in f)
differ_bits One One is = absurd (let f : ⊥ = cc in f)
differ_bits Zero Unknown is = absurd (let f : ⊥ = cc in f)
differ_bits One Unknown is = absurd (let f : ⊥ = cc in f)
differ_bits Unknown u is = absurd (let f : ⊥ = cc in f)

below_known : (b c : Bool) → Above (known b) c → c ≡ b
below_known true true above = refl
below_known false false above = refl
below_known true false above = absurd above
below_known false true above = absurd above

shows_known : (t : Tri) (b c : Bool) → t ≡ known b → Above t c → c ≡ b
shows_known t b c is above = below_known b c (subst (λ (u : Tri). Above u c) is above)

pub detected : CubesDetect
detected s rank ports limit name cube can_seek can suits apart sought =
    let node = cube_node s limit name cube sought in
    let g : Given = node_at sought.cone.variables node.bits in
    let detects : Detects s g = cubes_detect s rank sought.cone [] node.bits sought.dead g can_seek sought.is_cone node.tree (record { cells = λ c. above_self (g.cells c); ports = λ net. above_self (g.ports net) }) in
    let both : Both = detects.0 in
    let found = any_stands (detects_at s g both) (points_of s) detects.1.1 in
    let point : Point = found.0 in
    let two = differ_bits (good_at s g both point) (faulty_at s g both point) found.1.1 in
    record {
      point = point;
      looked = found.1.0;
      bit = two.0;
      good = λ now x t applied turn. shows_known (good_at s g both point) two.0 _ two.1.0
          (good_stands s rank ports can_seek can suits g both.good now x t point detects.1.0.good applied.capture (node.completes (given_in now x) applied.given) turn found.1.0);
      bad = λ now x t applied turn. shows_known (faulty_at s g both point) (not two.0) _ two.1.1
          (bad_stands s rank ports can_seek can suits apart g both.faulty now x t point detects.1.0.faulty applied.capture (node.completes (given_in now x) applied.given) turn found.1.0);
    }
