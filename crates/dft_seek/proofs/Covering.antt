-- A tree without a found node covers every assignment, and no leaf of it lets one detect the fault.
use Rattle.std.proofs.Common.{ℕ, zero, suc, ◌≡◌, ◌==◌, Bool, true, false, ◌&&◌, ◌||◌, not, List, [], ◌∷◌, ◌++◌, length, map, filter, slice_get, Option, None, Some, refl, sym, subst, ap, ◌∙◌}
use Rattle.std.specs.Prelude.{if◌then◌else◌}
use Rattle.std.specs.List.{list_all, list_any}
use Rattle.std.proofs.lemmas.Bool.{eq-eqb, or_parts, or_right}
use Rattle.std.proofs.lemmas.Option.{none-some, same_Some}
use Rattle.dft_base.specs.declared.tri.Tri.{Tri}
use Rattle.dft_base.specs.declared.tri.Tri.TheVariants.{Zero, One, Unknown}
use Rattle.dft_base.specs.Tri.{known, AboveTri, is_known}
use Rattle.dft_base.proofs.BitLemmas.{true_false, and_second, and_first, or_more}
use Rattle.dft_cells.proofs.Completions.{above_self}
use Rattle.dft_netlist.specs.declared.ids.NetId.{NetId}
use Rattle.dft_netlist.specs.declared.ids.InstanceId.{InstanceId}
use Rattle.dft_expect.specs.Captures.{output_bits}
use Rattle.dft_expect.specs.Loaded.{or_unknown}
use Rattle.dft_capture.proofs.Settling.{capture_over}
use Rattle.dft_seek.specs.Searches.{AreBoth, Both, Completes, Given, IsFull, Point, Output, Response, Search, agree, cells_in, detects_at, differ, drivable_ports, faulty_at, good_at, has_cell, has_falling, input_bits, is_drivable, moving_of, points_of, port_values, takes_at}
use Rattle.dft_seek.specs.Walks.{Cell, Cone, IsCone, Port, Variable, candidates}
use Rattle.dft_seek.specs.Trees.{Dead, Open, Looks, Tree, Miss, Right, agrees_at, bit_for, is_bit, is_found, is_whole, node_at, same_variable, site_stays, verdict_of}
use Rattle.dft_seek.specs.Laws.{CanSeek, NoneDetects}
use Rattle.dft_seek.proofs.NoScan.{HasNoScanPins, no_scan_pins}
use Rattle.dft_seek.proofs.Rising.{agree_stays, bit_stays, faulty_over, good_over, ports_over}
use Rattle.dft_seek.proofs.Unreached.{stays_same, unreached_same}
use Rattle.dft_seek.proofs.Hanging.{faulty_alike, good_alike, same_is}

-- ---- the bits of a full assignment

-- what an assignment gives a variable
abbrev pub held : Given → Variable → Tri
held g (Cell c) = g.cells c
held g (Port net) = g.ports net

-- each of these has a bit
abbrev pub AllHeld : Given → List Variable → Type 0
AllHeld g [] = Unit {0}
AllHeld g (v ∷ vs) = (is_known (held g v) ≡ true) × AllHeld g vs

held-append : (g : Given) (xs ys : List Variable) → AllHeld g xs → AllHeld g ys → AllHeld g (xs ++ ys)
held-append g [] ys h k = k
held-append g (x ∷ xs) ys h k = (h.0, held-append g xs ys h.1 k)

held_filter : (g : Given) (chosen : Variable → Bool) (vs : List Variable) → AllHeld g vs → AllHeld g (filter chosen vs)
held_filter g chosen [] h = tt
held_filter g chosen (v ∷ vs) h = by (chosen v) (held_filter g chosen vs h.1)
  where
    by : (c : Bool) → AllHeld g (filter chosen vs) → AllHeld g (if c then v ∷ filter chosen vs else filter chosen vs)
    by true rest = (h.0, rest)
    by false rest = rest

held_cells : (g : Given) (cells : List InstanceId) → ((c : ℕ) → has_cell cells c ≡ true → is_known (g.cells c) ≡ true) → AllHeld g (map (λ cell. Cell cell.0) cells)
held_cells g [] each = tt
held_cells g (x ∷ cells) each = (
  each x.0 (ap (λ (b : Bool). b || has_cell cells x.0) (eq-eqb x.0 x.0 refl)),
  held_cells g cells (λ c has. each c (or_right (x.0 == c) (has_cell cells c) has)),
)

held_ports : (g : Given) (f : ℕ → Bool) (bits : List NetId) → ((net : ℕ) → f net ≡ true → is_known (g.ports net) ≡ true) → AllHeld g (map (λ net. Port net.0) (filter (λ net. f net.0) bits))
held_ports g f [] each = tt
held_ports g f (x ∷ bits) each = by (f x.0) refl (held_ports g f bits each)
  where
    by : (c : Bool) → f x.0 ≡ c → AllHeld g (map (λ net. Port net.0) (filter (λ net. f net.0) bits)) → AllHeld g (map (λ net. Port net.0) (if c then x ∷ filter (λ net. f net.0) bits else filter (λ net. f net.0) bits))
    by true is rest = (each x.0 is, rest)
    by false is rest = rest

all_held : (s : Search) (cone : Cone) (g : Given) → IsCone s cone → IsFull s g → AllHeld g cone.variables
all_held s cone g is_cone full =
    subst (AllHeld g) (sym is_cone.variables.are)
    (held_filter g is_cone.variables.chosen (candidates s)
    (held-append g (map (λ cell. Cell cell.0) (cells_in s)) (map (λ net. Port net.0) (drivable_ports s)) (held_cells g (cells_in s) full.cells) (held_ports g (is_drivable s) (input_bits s.design.ports) full.ports)))

held_at : (g : Given) (vs : List Variable) (place : ℕ) (v : Variable) → AllHeld g vs → slice_get vs place ≡ Some v → is_known (held g v) ≡ true
held_at g [] place v all at = absurd (none-some v at)
held_at g (w ∷ vs) zero v all at = ap (λ (x : Variable). is_known (held g x)) (sym (same_Some w v at)) ∙ all.0
held_at g (w ∷ vs) (suc place) v all at = held_at g vs place v all.1 at

-- ---- one variable more

next_variable : (vs : List Variable) (bits : List Bool) → is_whole vs bits ≡ false → (v : Variable) × (slice_get vs (length bits) ≡ Some v)
next_variable [] bits whole = absurd cc
next_variable (v ∷ vs) [] whole = (v, refl)
next_variable (v ∷ vs) (bit ∷ bits) whole = next_variable vs bits whole

no_bit : (vs : List Variable) (w : Variable) → bit_for vs [] w ≡ None
no_bit [] w = refl
no_bit (v ∷ vs) w = refl

one_more : (vs : List Variable) (bits : List Bool) (v : Variable) (bit : Bool) (w : Variable) (t : Tri) → slice_get vs (length bits) ≡ Some v → (v ≡ w → t ≡ known bit) →
    AboveTri (or_unknown (bit_for vs bits w)) t → AboveTri (or_unknown (bit_for vs (bits ++ bit ∷ []) w)) t
one_more [] bits v bit w t at is over = absurd (none-some v at)
one_more (x ∷ vs) [] v bit w t at is over = by (same_variable x w) refl
  where
    by : (b : Bool) → same_variable x w ≡ b → AboveTri (or_unknown (if b then Some bit else bit_for vs [] w)) t
    by true same = subst (AboveTri (known bit)) (sym (is (sym (same_Some x v at) ∙ same_is x w same))) (above_self (known bit))
    by false same = subst (λ (o : Option Bool). AboveTri (or_unknown o) t) (sym (no_bit vs w)) tt
one_more (x ∷ vs) (b ∷ bits) v bit w t at is over = by (same_variable x w) over (one_more vs bits v bit w t at is)
  where
    by : (c : Bool) → AboveTri (or_unknown (if c then Some b else bit_for vs bits w)) t → (AboveTri (or_unknown (bit_for vs bits w)) t → AboveTri (or_unknown (bit_for vs (bits ++ bit ∷ []) w)) t) →
        AboveTri (or_unknown (if c then Some b else bit_for vs (bits ++ bit ∷ []) w)) t
    by true here below = here
    by false here below = below here

completes_more : (vs : List Variable) (bits : List Bool) (v : Variable) (bit : Bool) (g : Given) → slice_get vs (length bits) ≡ Some v → held g v ≡ known bit → Completes (node_at vs bits) g → Completes (node_at vs (bits ++ bit ∷ [])) g
completes_more vs bits v bit g at is more = record {
  cells = λ c. one_more vs bits v bit (Cell c) (g.cells c) at (λ same. ap (held g) (sym same) ∙ is) (more.cells c);
  ports = λ net. one_more vs bits v bit (Port net) (g.ports net) at (λ same. ap (held g) (sym same) ∙ is) (more.ports net);
}

-- ---- a leaf for each assignment

open_not_whole : (f x y z : Bool) → verdict_of f (x || (y || z)) ≡ Open → z ≡ false
open_not_whole true x y z is = absurd cc
open_not_whole false true y z is = absurd cc
open_not_whole false false true z is = absurd cc
open_not_whole false false false true is = absurd cc
open_not_whole false false false false is = refl

-- a dead node whose bits the assignment has
pub record Leaf (s : Search) (cone : Cone) (g : Given) : Type 0 where
  pub bits : List Bool
  pub looks : Looks s cone bits Dead
  pub completes : Completes (node_at cone.variables bits) g

by_bit : (s : Search) (cone : Cone) (g : Given) (bits : List Bool) (v : Variable) → slice_get cone.variables (length bits) ≡ Some v → is_known (held g v) ≡ true → Completes (node_at cone.variables bits) g →
    (Completes (node_at cone.variables (bits ++ false ∷ [])) g → Leaf s cone g) → (Completes (node_at cone.variables (bits ++ true ∷ [])) g → Leaf s cone g) → Leaf s cone g
by_bit s cone g bits v at has more left right = by (held g v) refl has
  where
    by : (t : Tri) → held g v ≡ t → is_known t ≡ true → Leaf s cone g
    by Zero is has = left (completes_more cone.variables bits v false g at is more)
    by One is has = right (completes_more cone.variables bits v true g at is more)
    by Unknown is has = absurd cc

covers : (s : Search) (cone : Cone) (g : Given) (bits : List Bool) (dead : ℕ) → AllHeld g cone.variables → Tree s cone bits dead None → Completes (node_at cone.variables bits) g → Leaf s cone g
covers s cone g bits dead all (Miss looks) more = record { bits = bits; looks = looks; completes = more }
covers s cone g bits dead all (Right {dead = d} {more = e} looks left right) more =
    let next = next_variable cone.variables bits (open_not_whole (is_found s cone bits looks.both) _ _ (is_whole cone.variables bits) looks.is) in
    by_bit s cone g bits next.0 next.1 (held_at g cone.variables (length bits) next.0 all next.1) more (covers s cone g (bits ++ false ∷ []) d all left) (covers s cone g (bits ++ true ∷ []) e all right)

-- the first node has no bits
root_completes : (vs : List Variable) (g : Given) → Completes (node_at vs []) g
root_completes vs g = record {
  cells = λ c. subst (λ (o : Option Bool). AboveTri (or_unknown o) (g.cells c)) (sym (no_bit vs (Cell c))) tt;
  ports = λ net. subst (λ (o : Option Bool). AboveTri (or_unknown o) (g.ports net)) (sym (no_bit vs (Port net))) tt;
}

-- ---- points that detect

differ_apart : (t u : Tri) → t ≡ u → differ t u ≡ false
differ_apart Zero u same = ap (differ Zero) (sym same)
differ_apart One u same = ap (differ One) (sym same)
differ_apart Unknown u same = refl

agree_not : (t u : Tri) → agree t u ≡ true → differ t u ≡ false
agree_not Zero Zero is = refl
agree_not One One is = refl
agree_not Zero One is = absurd cc
agree_not One Zero is = absurd cc
agree_not Zero Unknown is = absurd cc
agree_not One Unknown is = absurd cc
agree_not Unknown u is = absurd cc

-- where all points that are not chosen fail, one that passes is chosen
any_kept : (f chosen : Point → Bool) → ((point : Point) → chosen point ≡ false → f point ≡ false) → (points : List Point) → list_any f points ≡ true → list_any f (filter chosen points) ≡ true
any_kept f chosen fails [] is = is
any_kept f chosen fails (point ∷ points) is = by (chosen point) refl (any_kept f chosen fails points)
  where
    by : (c : Bool) → chosen point ≡ c → (list_any f points ≡ true → list_any f (filter chosen points) ≡ true) → list_any f (if c then point ∷ filter chosen points else filter chosen points) ≡ true
    by true it below = or_more (f point) (list_any f points) (list_any f (filter chosen points)) below is
    by false it below = below (sym (ap (λ (b : Bool). b || list_any f points) (fails point it)) ∙ is)

-- a point that passes, by its place
pub record Passing (f : Point → Bool) (points : List Point) : Type 0 where
  pub place : ℕ
  pub point : Point
  pub at : slice_get points place ≡ Some point
  pub passes : f point ≡ true

some_passes : (f : Point → Bool) (points : List Point) → list_any f points ≡ true → Passing f points
some_passes f [] is = absurd cc
some_passes f (point ∷ points) is = by (f point) refl is (some_passes f points)
  where
    by : (c : Bool) → f point ≡ c → (c || list_any f points) ≡ true → (list_any f points ≡ true → Passing f points) → Passing f (point ∷ points)
    by true it h below = record { place = 0; point = point; at = refl; passes = it }
    by false it h below = let rest = below h in record { place = suc rest.place; point = rest.point; at = rest.at; passes = rest.passes }

none_passes : (f : Point → Bool) (points : List Point) (place : ℕ) (point : Point) → list_any f points ≡ false → slice_get points place ≡ Some point → f point ≡ false
none_passes f [] place point none at = absurd (none-some point at)
none_passes f (x ∷ points) zero point none at = ap f (sym (same_Some x point at)) ∙ (or_parts (f x) (list_any f points) none).0
none_passes f (x ∷ points) (suc place) point none at = none_passes f points place point (or_parts (f x) (list_any f points) none).1 at

all_pass : (f : Point → Bool) (points : List Point) (place : ℕ) (point : Point) → list_all f points ≡ true → slice_get points place ≡ Some point → f point ≡ true
all_pass f [] place point all at = absurd (none-some point at)
all_pass f (x ∷ points) zero point all at = ap f (sym (same_Some x point at)) ∙ and_first (f x) (list_all f points) all
all_pass f (x ∷ points) (suc place) point all at = all_pass f points place point (and_second (f x) (list_all f points) all) at

-- ---- the points of a search are outputs and cells that move

abbrev pub can_move : Search → Point → Bool
can_move s (Output net) = true
can_move s (Response cell) = takes_at s false cell || takes_at s true cell

outputs_move : (s : Search) (nets : List NetId) (rest : List Point) → list_all (can_move s) rest ≡ true → list_all (can_move s) (map (λ net. Output net.0) nets ++ rest) ≡ true
outputs_move s [] rest all = all
outputs_move s (net ∷ nets) rest all = outputs_move s nets rest all

cells_move : (s : Search) (cells : List InstanceId) → list_all (can_move s) (map (λ cell. Response cell.0) (filter (λ cell. takes_at s false cell.0 || takes_at s true cell.0) cells)) ≡ true
cells_move s [] = refl
cells_move s (x ∷ cells) = by (takes_at s false x.0 || takes_at s true x.0) refl (cells_move s cells)
  where
    by : (c : Bool) → (takes_at s false x.0 || takes_at s true x.0) ≡ c → list_all (can_move s) (map (λ cell. Response cell.0) (filter (λ cell. takes_at s false cell.0 || takes_at s true cell.0) cells)) ≡ true →
        list_all (can_move s) (map (λ cell. Response cell.0) (if c then x ∷ filter (λ cell. takes_at s false cell.0 || takes_at s true cell.0) cells else filter (λ cell. takes_at s false cell.0 || takes_at s true cell.0) cells)) ≡ true
    by true it rest = ap (λ (b : Bool). b && list_all (can_move s) (map (λ cell. Response cell.0) (filter (λ cell. takes_at s false cell.0 || takes_at s true cell.0) cells))) it ∙ rest
    by false it rest = rest

chosen_move : (s : Search) (chosen : Point → Bool) (points : List Point) → list_all (can_move s) points ≡ true → list_all (can_move s) (filter chosen points) ≡ true
chosen_move s chosen [] all = refl
chosen_move s chosen (x ∷ points) all = by (chosen x) (chosen_move s chosen points (and_second (can_move s x) (list_all (can_move s) points) all))
  where
    both : (a b c : Bool) → (a && b) ≡ true → c ≡ true → (a && c) ≡ true
    both true b c h k = k
    both false b c h k = absurd cc

    by : (c : Bool) → list_all (can_move s) (filter chosen points) ≡ true → list_all (can_move s) (if c then x ∷ filter chosen points else filter chosen points) ≡ true
    by true rest = both (can_move s x) (list_all (can_move s) points) (list_all (can_move s) (filter chosen points)) all rest
    by false rest = rest

points_move : (s : Search) (cone : Cone) → IsCone s cone → list_all (can_move s) cone.points ≡ true
points_move s cone is_cone =
    subst (λ (points : List Point). list_all (can_move s) points ≡ true) (sym is_cone.points.are)
    (chosen_move s is_cone.points.chosen (points_of s) (outputs_move s (output_bits s.design.ports) _ (cells_move s (cells_in s))))

moves_not : (s : Search) (point : Point) → can_move s point ≡ true → (cell : ℕ) → point ≡ Response cell → takes_at s true cell ≡ false → takes_at s false cell ≡ false → ⊥
moves_not s point can cell is no_fall no_rise =
    let e : false ≡ true = sym (ap (λ (b : Bool). b || takes_at s true cell) no_rise ∙ no_fall) ∙ sym (ap (can_move s) is) ∙ can in let f : ⊥ = cc in f

-- ---- no leaf lets an assignment detect

dead_of : (f x y z : Bool) → verdict_of f (x || (y || z)) ≡ Dead → (f ≡ false) × ((x || (y || z)) ≡ true)
dead_of true x y z is = absurd cc
dead_of false true y z is = (refl, refl)
dead_of false false true z is = (refl, refl)
dead_of false false false true is = (refl, refl)
dead_of false false false false is = absurd cc

-- a point that is reached and detects
reached_point : (s : Search) (rank : ℕ → ℕ) (cone : Cone) (g : Given) (b : Both) → CanSeek s rank → HasNoScanPins s → IsCone s cone → AreBoth s g b → list_any (detects_at s g b) (points_of s) ≡ true → Passing (detects_at s g b) cone.points
reached_point s rank cone g b can none is_cone are some =
    some_passes (detects_at s g b) cone.points
    (subst (λ (points : List Point). list_any (detects_at s g b) points ≡ true) (sym is_cone.points.are)
    (any_kept (detects_at s g b) is_cone.points.chosen
    (λ point not_chosen. differ_apart (good_at s g b point) (faulty_at s g b point)
    (unreached_same s rank g b can none are point (λ reached. let e : false ≡ true = sym not_chosen ∙ is_cone.points.whole point reached in let f : ⊥ = cc in f)))
    (points_of s) some))

-- the stuck net keeps the fault's value where more is known
stays_more : (s : Search) (rank : ℕ → ℕ) (g h : Given) (a b : Both) → CanSeek s rank → Completes g h → AreBoth s g a → AreBoth s h b → site_stays s a ≡ true → site_stays s b ≡ true
stays_more s rank g h a b can more are also stays =
    let over = (capture_over s.design (moving_of s) rank (port_values s g) g.cells (port_values s h) h.cells a.good b.good can.ordered (ports_over s g h more) more.cells are.good also.good).0 in
    both (has_falling s) (is_bit s.fault.value (a.good.first s.fault.net.0)) (is_bit s.fault.value (a.good.second s.fault.net.0)) (is_bit s.fault.value (b.good.first s.fault.net.0)) (is_bit s.fault.value (b.good.second s.fault.net.0))
    (bit_stays s.fault.value (a.good.first s.fault.net.0) (b.good.first s.fault.net.0) (over.first s.fault.net.0)) (bit_stays s.fault.value (a.good.second s.fault.net.0) (b.good.second s.fault.net.0) (over.second s.fault.net.0)) stays
  where
    both : (f p q x y : Bool) → (p ≡ true → x ≡ true) → (q ≡ true → y ≡ true) → (p && (not f || q)) ≡ true → (x && (not f || y)) ≡ true
    both f false q x y first second h = absurd cc
    both false true q x y first second h = ap (λ (b : Bool). b && true) (first refl)
    both true true false x y first second h = absurd cc
    both true true true x y first second h = λ i. first refl i && second refl i

-- no point tells the fault below a node at which the search ends: its site stays at the stuck value, all points agree, or all variables are given and none is found
leaf_fails : (s : Search) (rank : ℕ → ℕ) (cone : Cone) (bits : List Bool) (g : Given) (a b : Both) → CanSeek s rank → HasNoScanPins s → IsCone s cone → Completes (node_at cone.variables bits) g → AreBoth s (node_at cone.variables bits) a → AreBoth s g b →
    (x y z : Bool) → site_stays s a ≡ x → list_all (agrees_at s (node_at cone.variables bits) a) cone.points ≡ y → is_whole cone.variables bits ≡ z → is_found s cone bits a ≡ false → (x || (y || z)) ≡ true → Passing (detects_at s g b) cone.points → ⊥
leaf_fails s rank cone bits g a b can none is_cone more are also true y z stays agrees whole not_found is p =
    true_false (detects_at s g b p.point) p.passes (differ_apart (good_at s g b p.point) (faulty_at s g b p.point) (stays_same s rank g b can also (stays_more s rank (node_at cone.variables bits) g a b can more are also stays) p.point))
leaf_fails s rank cone bits g a b can none is_cone more are also false true z stays agrees whole not_found is p =
    let node : Given = node_at cone.variables bits in
    true_false (detects_at s g b p.point) p.passes
    (agree_not (good_at s g b p.point) (faulty_at s g b p.point)
    (agree_stays (good_at s node a p.point) (faulty_at s node a p.point) (good_at s g b p.point) (faulty_at s g b p.point)
    (good_over s rank node g a b can more are also p.point) (faulty_over s rank node g a b can more are also p.point) (all_pass (agrees_at s node a) cone.points p.place p.point agrees p.at)))
leaf_fails s rank cone bits g a b can none is_cone more are also false false true stays agrees whole not_found is p =
    let node : Given = node_at cone.variables bits in
    let moves : (cell : ℕ) → p.point ≡ Response cell → takes_at s true cell ≡ false → takes_at s false cell ≡ false → ⊥ = moves_not s p.point (all_pass (can_move s) cone.points p.place p.point (points_move s cone is_cone) p.at) in
    let good : good_at s node a p.point ≡ good_at s g b p.point = good_alike s rank cone bits g a b p.place p.point can none is_cone whole more are also p.at moves in
    let bad : faulty_at s node a p.point ≡ faulty_at s g b p.point = faulty_alike s rank cone bits g a b p.place p.point can none is_cone whole more are also p.at moves in
    true_false (detects_at s g b p.point) p.passes (sym (λ i. differ (good i) (bad i)) ∙ none_passes (detects_at s node a) cone.points p.place p.point not_found p.at)
leaf_fails s rank cone bits g a b can none is_cone more are also false false false stays agrees whole not_found is p = absurd cc

pub none_detects : NoneDetects
none_detects s rank cone dead g can well is_cone tree full detects =
    let none : HasNoScanPins s = no_scan_pins s well in
    let leaf = covers s cone g [] dead (all_held s cone g is_cone full) tree (root_completes cone.variables g) in
    let node : Given = node_at cone.variables leaf.bits in
    let a : Both = leaf.looks.both in
    let is = dead_of (is_found s cone leaf.bits a) (site_stays s a) (list_all (agrees_at s node a) cone.points) (is_whole cone.variables leaf.bits) leaf.looks.is in
    leaf_fails s rank cone leaf.bits g a detects.0 can none is_cone leaf.completes leaf.looks.are detects.1.0 (site_stays s a) (list_all (agrees_at s node a) cone.points) (is_whole cone.variables leaf.bits) refl refl refl is.0 is.1
    (reached_point s rank cone g detects.0 can none is_cone detects.1.0 detects.1.1)
