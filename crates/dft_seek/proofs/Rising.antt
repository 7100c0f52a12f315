-- What both captures know of an assignment they know of each one that completes it.
use Rattle.std.proofs.Common.{ℕ, ◌≡◌, Bool, true, false, ◌||◌, List, [], ◌∷◌, ◌++◌, filter, refl, sym, ap, ◌∙◌}
use Rattle.std.specs.Prelude.{if◌then◌else◌}
use Rattle.std.specs.List.{list_any}
use Rattle.std.proofs.lemmas.Bool.{or_right}
use Rattle.dft_base.specs.declared.tri.Tri.{Tri}
use Rattle.dft_base.specs.declared.tri.Tri.TheVariants.{Zero, One, Unknown}
use Rattle.dft_base.specs.Tri.{AboveTri, is_known}
use Rattle.dft_netlist.specs.Netlist.{Netlist}
use Rattle.dft_netlist.specs.Drivers.{IsOrdered}
use Rattle.dft_rules.specs.ConfigPorts.{config_ports}
use Rattle.dft_faults.specs.Faulty.{faulty}
use Rattle.dft_faults.proofs.Finished.{order_stays}
use Rattle.dft_capture.specs.Captures.{Settled, AreSettled}
use Rattle.dft_capture.proofs.Settling.{capture_over}
use Rattle.dft_seek.specs.Searches.{AreBoth, Both, Completes, Detects, Given, Point, Output, Response, Search, agree, detects_at, differ, faulty_at, good_at, moving_of, points_of, port_values, value_at}
use Rattle.dft_seek.specs.Walks.{Cone, IsCone}
use Rattle.dft_seek.specs.Trees.{Found, Looks, Hit, Left, Right, is_bit, is_dead, is_found, node_at, verdict_of}
use Rattle.dft_seek.specs.Laws.{CanSeek, CubesDetect}
use Rattle.dft_seek.proofs.TreeLemmas.{both_there}

-- ---- values

-- what is known stays
pub known_stays : (t u : Tri) → AboveTri t u → is_known t ≡ true → t ≡ u
known_stays Unknown u over known = absurd cc
known_stays Zero Zero over known = refl
known_stays Zero One over known = absurd over
known_stays Zero Unknown over known = absurd over
known_stays One One over known = refl
known_stays One Zero over known = absurd over
known_stays One Unknown over known = absurd over

differ_known : (t u : Tri) → differ t u ≡ true → (is_known t ≡ true) × (is_known u ≡ true)
differ_known Zero One is = (refl, refl)
differ_known One Zero is = (refl, refl)
differ_known Zero Zero is = absurd cc
differ_known Zero Unknown is = absurd cc
differ_known One One is = absurd cc
differ_known One Unknown is = absurd cc
differ_known Unknown u is = absurd cc

agree_known : (t u : Tri) → agree t u ≡ true → (is_known t ≡ true) × (is_known u ≡ true)
agree_known Zero Zero is = (refl, refl)
agree_known One One is = (refl, refl)
agree_known Zero One is = absurd cc
agree_known One Zero is = absurd cc
agree_known Zero Unknown is = absurd cc
agree_known One Unknown is = absurd cc
agree_known Unknown u is = absurd cc

differ_stays : (t u x y : Tri) → AboveTri t x → AboveTri u y → differ t u ≡ true → differ x y ≡ true
differ_stays t u x y first second is =
    let known = differ_known t u is in
    ap (λ (v : Tri). differ v y) (sym (known_stays t x first known.0)) ∙ ap (differ t) (sym (known_stays u y second known.1)) ∙ is

pub agree_stays : (t u x y : Tri) → AboveTri t x → AboveTri u y → agree t u ≡ true → agree x y ≡ true
agree_stays t u x y first second is =
    let known = agree_known t u is in
    ap (λ (v : Tri). agree v y) (sym (known_stays t x first known.0)) ∙ ap (agree t) (sym (known_stays u y second known.1)) ∙ is

pub bit_stays : (bit : Bool) (t u : Tri) → AboveTri t u → is_bit bit t ≡ true → is_bit bit u ≡ true
bit_stays false Zero Zero over is = refl
bit_stays false Zero One over is = absurd over
bit_stays false Zero Unknown over is = absurd over
bit_stays false One u over is = absurd cc
bit_stays false Unknown u over is = absurd cc
bit_stays true One One over is = refl
bit_stays true One Zero over is = absurd over
bit_stays true One Unknown over is = absurd over
bit_stays true Zero u over is = absurd cc
bit_stays true Unknown u over is = absurd cc

-- ---- assignments

port_over : (reset : Bool) (t u : Tri) → AboveTri t u → AboveTri (if reset then One else t) (if reset then One else u)
port_over true t u over = tt
port_over false t u over = over

pub ports_over : (s : Search) (g h : Given) → Completes g h → (net : ℕ) → AboveTri (port_values s g net) (port_values s h net)
ports_over s g h more net = port_over ((config_ports s.design s.config).is_reset net) (g.ports net) (h.ports net) (more.ports net)

-- at each point, in a design whose nets have an order
pub point_over : (s : Search) (n : Netlist) (rank : ℕ → ℕ) (g h : Given) (a b : Settled) → IsOrdered n rank → Completes g h →
    AreSettled n (moving_of s) (port_values s g) g.cells a → AreSettled n (moving_of s) (port_values s h) h.cells b → (point : Point) → AboveTri (value_at s n g a point) (value_at s n h b point)
point_over s n rank g h a b order more are also (Output net) =
    (capture_over n (moving_of s) rank (port_values s g) g.cells (port_values s h) h.cells a b order (ports_over s g h more) more.cells are also).0.first net
point_over s n rank g h a b order more are also (Response cell) =
    (capture_over n (moving_of s) rank (port_values s g) g.cells (port_values s h) h.cells a b order (ports_over s g h more) more.cells are also).1 cell

pub good_over : (s : Search) (rank : ℕ → ℕ) (g h : Given) (a b : Both) → CanSeek s rank → Completes g h → AreBoth s g a → AreBoth s h b → (point : Point) → AboveTri (good_at s g a point) (good_at s h b point)
good_over s rank g h a b can more are also point = point_over s s.design rank g h a.good b.good can.ordered more are.good also.good point

pub faulty_over : (s : Search) (rank : ℕ → ℕ) (g h : Given) (a b : Both) → CanSeek s rank → Completes g h → AreBoth s g a → AreBoth s h b → (point : Point) → AboveTri (faulty_at s g a point) (faulty_at s h b point)
faulty_over s rank g h a b can more are also point =
    point_over s (faulty s.design s.fault) rank g h a.faulty b.faulty (order_stays s.design s.fault rank can.is can.ordered) more are.faulty also.faulty point

-- ---- lists of points

-- what some chosen point passes, some point passes
any_chosen : (chosen f h : Point → Bool) → ((point : Point) → f point ≡ true → h point ≡ true) → (points : List Point) → list_any f (filter chosen points) ≡ true → list_any h points ≡ true
any_chosen chosen f h more [] is = is
any_chosen chosen f h more (point ∷ points) is = by_choice (any_chosen chosen f h more points) (chosen point) is
  where
    either : (x y rest : Bool) → (x ≡ true → y ≡ true) → (x || rest) ≡ true → (rest ≡ true → list_any h points ≡ true) → (y || list_any h points) ≡ true
    either true y rest here is below = ap (λ b. b || list_any h points) (here refl)
    either false true rest here is below = refl
    either false false rest here is below = below is

    by_choice : (list_any f (filter chosen points) ≡ true → list_any h points ≡ true) → (c : Bool) → list_any f (if c then point ∷ filter chosen points else filter chosen points) ≡ true → (h point || list_any h points) ≡ true
    by_choice below true is = either (f point) (h point) (list_any f (filter chosen points)) (more point) is below
    by_choice below false is = or_right (h point) (list_any h points) (below is)

-- ---- found nodes

pub found_of : (f d : Bool) → verdict_of f d ≡ Found → f ≡ true
found_of true d is = refl
found_of false true is = absurd cc
found_of false false is = absurd cc

found_detects : (s : Search) (rank : ℕ → ℕ) (cone : Cone) (bits : List Bool) (g : Given) → CanSeek s rank → IsCone s cone → Looks s cone bits Found → Completes (node_at cone.variables bits) g → Detects s g
found_detects s rank cone bits g can is_cone looks more =
    let node : Given = node_at cone.variables bits in
    let there = both_there s rank g can in
    let each : (point : Point) → detects_at s node looks.both point ≡ true → detects_at s g there.0 point ≡ true = λ point is.
    differ_stays (good_at s node looks.both point) (faulty_at s node looks.both point) (good_at s g there.0 point) (faulty_at s g there.0 point)
    (good_over s rank node g looks.both there.0 can more looks.are there.1 point) (faulty_over s rank node g looks.both there.0 can more looks.are there.1 point) is in
    let some : list_any (detects_at s node looks.both) cone.points ≡ true = found_of (is_found s cone bits looks.both) (is_dead s cone bits looks.both) looks.is in (
      there.0,
      (
        there.1,
        any_chosen is_cone.points.chosen (detects_at s node looks.both) (detects_at s g there.0) each (points_of s)
            (ap (list_any (detects_at s node looks.both)) (sym is_cone.points.are) ∙ some),
      ),
    )

pub cubes_detect : CubesDetect
cubes_detect s rank cone bits found dead g can is_cone (Hit looks) more = found_detects s rank cone bits g can is_cone looks more
cubes_detect s rank cone bits found dead g can is_cone (Left looks left) more = cubes_detect s rank cone (bits ++ false ∷ []) found dead g can is_cone left more
cubes_detect s rank cone bits found dead g can is_cone (Right {more = later} looks left right) more = cubes_detect s rank cone (bits ++ true ∷ []) found later g can is_cone right more
