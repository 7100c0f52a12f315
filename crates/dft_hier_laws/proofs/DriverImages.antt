-- What drives the nets of a flat design: what drives the nets of its modules, and what joins them.
use Rattle.std.proofs.Common.{ℕ, zero, suc, ◌+◌, ◌<◌, ◌≡◌, ◌==◌, ◌⊎◌, inl, inr, Bool, true, false, cond, List, [], ◌∷◌, ◌++◌, length, map, Some, slice_get, refl, sym, ap, subst, arith, ◌∙◌}
use Rattle.std.specs.List.{AllByRecursion}
use Rattle.std.proofs.lemmas.Bool.{eqb-true}
use Rattle.std.proofs.lemmas.List.Elements.{recursion_from_All}
use Rattle.std.proofs.lemmas.Option.{slice_get_within}
use Rattle.dft_base.specs.declared.dir.Dir.{Dir}
use Rattle.dft_base.specs.declared.dir.Dir.TheVariants as dir
use Rattle.dft_base.proofs.ListLemmas.{all_append, get_there, all_get}
use Rattle.dft_cells.specs.declared.cell.Cell.{Cell}
use Rattle.dft_netlist.specs.declared.ids.NetId.{NetId}
use Rattle.dft_netlist.specs.declared.instance.Instance.{Instance}
use Rattle.dft_netlist.specs.declared.instance.Join.{Join}
use Rattle.dft_netlist.specs.declared.instance.Signal.{Signal}
use Rattle.dft_netlist.specs.declared.instance.Signal.TheVariants as signal
use Rattle.dft_netlist.specs.declared.port.Port.{Port}
use Rattle.dft_netlist.specs.Drivers.{Source, Net, Driver, Input, Joined, Free, Driven, source_of, driven_by, driven_by_instances, driven_by_bits, driven_by_ports, driven_by_joins, all_driven, driver_in, driver}
use Rattle.dft_netlist.specs.NetDrivers.{IsSingle}
use Rattle.dft_netlist.specs.Netlist.{Netlist}
use Rattle.dft_netlist.specs.Orders.{IsOrderable}
use Rattle.dft_netlist.specs.Sound.{IsInstance, IsAJoin, IsLive, IsConnected}
use Rattle.dft_netlist.proofs.DriverLaws.{times, listed_drives, one_if, times-cons, listed_once}
use Rattle.dft_modules.specs.declared.module.SubInstance.{SubInstance}
use Rattle.dft_modules.specs.declared.module.Item.{Item}
use Rattle.dft_modules.specs.declared.module.Item.TheVariants as item
use Rattle.dft_modules.specs.Modules.{Module}
use Rattle.dft_modules.specs.Sound.{IsModule, AreModules, IsItem, IsOuterBit}
use Rattle.dft_hier.specs.Hierarchy.{joins_of, cells_of, subs_of, find_module}
use Rattle.dft_hier.specs.Flat.{moved, moved_join, joined_to, flat_parts}
use Rattle.dft_hier_laws.specs.Joined.{outer_ports, alone, DrivenInside, Meets}
use Rattle.dft_hier.specs.Paths.{Path, module_at, below, net_spots, instance_spots, net_spots_within}
use Rattle.dft_hier.proofs.ConnectionLemmas.{port_bits, connections_sound}
use Rattle.dft_hier.proofs.FlattenLemmas.{sound_at}
use Rattle.dft_hier_laws.proofs.Images.{Image, OfNet, OfBit, ImageDriver, OfInput, OfJoin, ImageDriven, Forward, forward, backward, instance_image}
use Rattle.dft_hier.proofs.InstanceSpotLemmas.{instances_all}
use Rattle.dft_hier.proofs.ModuleLemmas.{number_there}
use Rattle.dft_hier.proofs.NumberLemmas.{module_there}
use Rattle.dft_hier.proofs.PartLemmas.{StandsTall}
use Rattle.dft_hier_laws.proofs.Positions.{In, in_left, in_right, in_either, IsAt, Segment, HasBase, based, AreMoved, moved_at, moved_count, instances_moved, JoinFrom, OwnJoin, InJoin, OutJoin, joins_from, Block, block_at, own_join, met_join}
use Rattle.dft_hier.proofs.SpotLemmas.{spot, once, nets_once, module_below}

-- ---- what is listed of drivers

-- the first driver of a net is listed, or there is none
abbrev pub Decided : List Driven → ℕ → Type 0
Decided es net = In Driven es (net, driver_in es net) ⊎ (driver_in es net ≡ Free) × (times es net ≡ 0)

decide_by : (e : Driven) (es : List Driven) (net : ℕ) (t : Bool) → (e.0 == net) ≡ t → Decided es net → In Driven (e ∷ es) (net, cond t e.1 (driver_in es net)) ⊎ (cond t e.1 (driver_in es net) ≡ Free) × (times (e ∷ es) net ≡ 0)
decide_by e es net true is rest = inl (record { place = 0; at = ap (λ (n : ℕ). Some (n, e.1)) (eqb-true e.0 net is) })
decide_by e es net false is (inl there) = inl (record { place = suc there.place; at = there.at })
decide_by e es net false is (inr none) =
    let zero_here : one_if (e.0 == net) ≡ 0 = ap one_if is in
    let count = none.1 in
    inr (none.0, omega (arith, zero_here, times-cons e es net))

pub decide : (es : List Driven) (net : ℕ) → Decided es net
decide [] net = inr (refl, refl)
decide (e ∷ es) net = decide_by e es net (e.0 == net) refl (decide es net)

-- ---- one of three lists

by_ports : (xs ys zs : List Driven) (e : Driven) → In Driven xs e → In Driven (xs ++ ys ++ zs) e
by_ports xs ys zs e h = in_left Driven (xs ++ ys) zs e (in_left Driven xs ys e h)

by_cells : (xs ys zs : List Driven) (e : Driven) → In Driven ys e → In Driven (xs ++ ys ++ zs) e
by_cells xs ys zs e h = in_left Driven (xs ++ ys) zs e (in_right Driven xs ys e h)

by_joins : (xs ys zs : List Driven) (e : Driven) → In Driven zs e → In Driven (xs ++ ys ++ zs) e
by_joins xs ys zs e h = in_right Driven (xs ++ ys) zs e h

three : (xs ys zs : List Driven) (e : Driven) (k : ℕ) → slice_get (xs ++ ys ++ zs) k ≡ Some e → In Driven xs e ⊎ In Driven ys e ⊎ In Driven zs e
three xs ys zs e k at = elim (in_either Driven (xs ++ ys) zs e k at) [
  | inl front ↦ elim (in_either Driven xs ys e front.place front.at) [
    | inl first ↦ inl first
    | inr second ↦ inr (inl second)
  ]
  | inr last ↦ inr (inr last)
]

-- ---- drivers by instances and joins

instances_forward : (library : List Cell) (from : ℕ) (is : List Instance) (k : ℕ) (x : Instance) (e : Driven) → slice_get is k ≡ Some x → In Driven (driven_by library (from + k) x) e → In Driven (driven_by_instances library from is) e
instances_forward library from [] k x e at h = absurd (let f : ⊥ = cc in f)
instances_forward library from (y ∷ is) zero x e at h =
    let same : y ≡ x = cc in
    let start : from + 0 ≡ from = omega arith in
    in_left Driven (driven_by library from y) (driven_by_instances library (suc from) is) e
    (subst (λ (z : Instance). In Driven (driven_by library from z) e) (sym same) (subst (λ (n : ℕ). In Driven (driven_by library n x) e) start h))
instances_forward library from (y ∷ is) (suc k) x e at h =
    let on : from + suc k ≡ suc from + k = omega arith in
    in_right Driven (driven_by library from y) (driven_by_instances library (suc from) is) e (instances_forward library (suc from) is k x e at (subst (λ (n : ℕ). In Driven (driven_by library n x) e) on h))

record ByInstance (library : List Cell) (from : ℕ) (is : List Instance) (e : Driven) : Type 0 where
  k : ℕ
  x : Instance
  at : slice_get is k ≡ Some x
  there : In Driven (driven_by library (from + k) x) e

instances_backward : (library : List Cell) (from : ℕ) (is : List Instance) (place : ℕ) (e : Driven) → slice_get (driven_by_instances library from is) place ≡ Some e → ByInstance library from is e
instances_backward library from [] place e at = absurd (let f : ⊥ = cc in f)
instances_backward library from (y ∷ is) place e at = elim (in_either Driven (driven_by library from y) (driven_by_instances library (suc from) is) e place at) [
  | inl front ↦ (let start : from ≡ from + 0 = omega arith in record { k = 0; x = y; at = refl; there = subst (λ (n : ℕ). In Driven (driven_by library n y) e) start front })
  | inr back ↦ (
      let r = instances_backward library (suc from) is back.place e back.at in
      let on : suc from + r.k ≡ from + suc r.k = omega arith in
      record { k = suc r.k; x = r.x; at = r.at; there = subst (λ (n : ℕ). In Driven (driven_by library n r.x) e) on r.there })
]

-- a join and what it drives
abbrev by_join : Join → Driven
by_join j = (j.target.0, Joined (source_of 0 0 j.source))

joins_forward : (js : List Join) (k : ℕ) (j : Join) → slice_get js k ≡ Some j → In Driven (driven_by_joins js) (by_join j)
joins_forward [] k j at = absurd (let f : ⊥ = cc in f)
joins_forward (x ∷ js) zero j at = let same : x ≡ j = cc in record { place = 0; at = ap (λ (y : Join). Some (by_join y)) same }
joins_forward (x ∷ js) (suc k) j at = let r = joins_forward js k j at in record { place = suc r.place; at = r.at }

record ByJoin (js : List Join) (e : Driven) : Type 0 where
  k : ℕ
  j : Join
  at : slice_get js k ≡ Some j
  is : by_join j ≡ e

joins_backward : (js : List Join) (place : ℕ) (e : Driven) → slice_get (driven_by_joins js) place ≡ Some e → ByJoin js e
joins_backward [] place e at = absurd (let f : ⊥ = cc in f)
joins_backward (x ∷ js) zero e at = record { k = 0; j = x; at = refl; is = let same : by_join x ≡ e = cc in same }
joins_backward (x ∷ js) (suc place) e at = let r = joins_backward js place e at in record { k = suc r.k; j = r.j; at = r.at; is = r.is }

-- ---- drivers by ports

abbrev IsInput : ℕ → Driven → Type 0
IsInput count e = (e.0 < count) × (e.1 ≡ Input)

bits_input : (count : ℕ) (d : Dir) (bits : List NetId) → AllByRecursion (λ (b : NetId). b.0 < count) bits → AllByRecursion (IsInput count) (driven_by_bits d bits)
bits_input count dir.Output bits h = tt
bits_input count dir.Input [] h = tt
bits_input count dir.Input (b ∷ bits) h = ((h.0, refl), bits_input count dir.Input bits h.1)

ports_input : (count : ℕ) (ports : List Port) → AllByRecursion (λ (p : Port). AllByRecursion (λ (b : NetId). b.0 < count) p.bits) ports → AllByRecursion (IsInput count) (driven_by_ports ports)
ports_input count [] h = tt
ports_input count (p ∷ ports) h = all_append (IsInput count) (driven_by_bits p.dir p.bits) (driven_by_ports ports) (bits_input count p.dir p.bits h.0) (ports_input count ports h.1)

-- ---- the items of sound modules

cell_item : (P : Item → Type 0) (items : List Item) (k : ℕ) (i : Instance) → AllByRecursion P items → slice_get (cells_of items) k ≡ Some i → P (item.Cell i)
cell_item P [] k i h at = absurd (let f : ⊥ = cc in f)
cell_item P (item.Join j ∷ items) k i h at = cell_item P items k i h.1 at
cell_item P (item.Cell x ∷ items) zero i h at = let e : x ≡ i = cc in subst (λ (y : Instance). P (item.Cell y)) e h.0
cell_item P (item.Cell x ∷ items) (suc k) i h at = cell_item P items k i h.1 at
cell_item P (item.Sub s ∷ items) k i h at = cell_item P items k i h.1 at

join_item : (P : Item → Type 0) (items : List Item) (k : ℕ) (j : Join) → AllByRecursion P items → slice_get (joins_of items) k ≡ Some j → P (item.Join j)
join_item P [] k j h at = absurd (let f : ⊥ = cc in f)
join_item P (item.Join x ∷ items) zero j h at = let e : x ≡ j = cc in subst (λ (y : Join). P (item.Join y)) e h.0
join_item P (item.Join x ∷ items) (suc k) j h at = join_item P items k j h.1 at
join_item P (item.Cell i ∷ items) k j h at = join_item P items k j h.1 at
join_item P (item.Sub s ∷ items) k j h at = join_item P items k j h.1 at

sub_item : (P : Item → Type 0) (items : List Item) (k : ℕ) (s : SubInstance) → AllByRecursion P items → slice_get (subs_of items) k ≡ Some s → P (item.Sub s)
sub_item P [] k s h at = absurd (let f : ⊥ = cc in f)
sub_item P (item.Join j ∷ items) k s h at = sub_item P items k s h.1 at
sub_item P (item.Cell i ∷ items) k s h at = sub_item P items k s h.1 at
sub_item P (item.Sub x ∷ items) zero s h at = let e : x ≡ s = cc in subst (λ (y : SubInstance). P (item.Sub y)) e h.0
sub_item P (item.Sub x ∷ items) (suc k) s h at = sub_item P items k s h.1 at

-- ---- flat designs by their parts

pub record IsFlatOf (ms : List Module) (library : List Cell) (top : Module) (design : Netlist) : Type 0 where
  pub sound : AreModules library ms
  pub number : ℕ
  pub top_at : slice_get ms number ≡ Some top
  pub tall : StandsTall ms (length ms) top
  pub cells : design.library ≡ library
  pub ports : design.ports ≡ top.ports
  pub instances : design.instances ≡ (flat_parts ms top).instances
  pub joins : design.joins ≡ (flat_parts ms top).joins
  pub count : length design.nets ≡ length (net_spots ms top)
  pub single : IsSingle design
  pub orderable : (net : ℕ) → net < length design.nets → IsOrderable design net

-- a net of the flat design stands somewhere with a driver inside, or at one side of two modules that meet
pub data Origin (ms : List Module) (library : List Cell) (top : Module) (number : ℕ) : Type 0 where
  Inside : (path : Path) (net : ℕ) (d : Driver) → IsAt (net_spots ms top) path net number → DrivenInside ms library top path net d → Origin ms library top number
  MetIn : (path : Path) (place net : ℕ) (to : Signal) → IsAt (net_spots ms top) (below path place) net number → Meets ms top path place dir.Input net to → Origin ms library top number
  MetOut : (path : Path) (place inner net : ℕ) → IsAt (net_spots ms top) path net number → Meets ms top path place dir.Output inner (signal.Net (record { 0 = net })) → Origin ms library top number

-- a net at an input bit of an instance is joined to what is outside
pub record InImage (ms : List Module) (top : Module) (design : Netlist) (path : Path) (to : Signal) (number : ℕ) : Type 0 where
  pub source : Source
  pub image : Image ms top path (source_of 0 0 to) source
  pub driver_is : driver design number ≡ Joined source

-- a net at an output bit of an instance is joined to the net inside
pub record OutImage (ms : List Module) (top : Module) (design : Netlist) (path : Path) (place inner number : ℕ) : Type 0 where
  pub source : ℕ
  pub at : IsAt (net_spots ms top) (below path place) inner source
  pub driver_is : driver design number ≡ Joined (Net source)

module _ (ms : List Module) (library : List Cell) (top : Module) (design : Netlist) (f : IsFlatOf ms library top design) where
  whole : Segment (net_spots ms top) 0 (net_spots_within (length ms) ms [] top)
  whole = λ k s at. (let start : 0 + k ≡ k = omega arith in ap (slice_get (net_spots ms top)) start ∙ at)

  pub net_once : (path : Path) (net a b : ℕ) → IsAt (net_spots ms top) path net a → IsAt (net_spots ms top) path net b → a ≡ b
  net_once path net a b p q = once (net_spots ms top) a b (spot path net) (nets_once ms (length ms) [] top) p q

  found_sound : (name : List ℕ) (m : Module) → find_module ms name ≡ Some m → IsModule library m
  found_sound name m is = let n = number_there ms name m is in sound_at library ms n.0 m f.sound (module_there ms name n.0 n.1 ∙ is)

  sound_on : (path : Path) (x m : Module) → IsModule library x → module_at ms path x ≡ Some m → IsModule library m
  sound_on [] x m is at = let e : x ≡ m = cc in subst (IsModule library) e is
  sound_on (place ∷ path) x m is at = let b = module_below ms path m (slice_get (subs_of x.items) place) at in sound_on path b.inner m (found_sound b.sub.of b.inner b.found) b.rest

  pub module_sound : (path : Path) (m : Module) → module_at ms path top ≡ Some m → IsModule library m
  module_sound path m at = sound_on path top m (sound_at library ms f.number top f.sound f.top_at) at

  block : (path : Path) (m : Module) → module_at ms path top ≡ Some m → Block ms (net_spots ms top) design.joins path m
  block path m at = block_at ms (net_spots ms top) design.joins (length ms) top f.tall [] path [] 0 m whole (λ j h. subst (λ (js : List Join). In Join js j) (sym f.joins) h) at

  pub top_base : HasBase (net_spots ms top) [] top 0
  top_base = based ms (net_spots ms top) (length ms) [] top 0 f.tall whole

  all_moved : AreMoved ms top (net_spots ms top) (instance_spots ms top) design.instances
  all_moved = subst (AreMoved ms top (net_spots ms top) (instance_spots ms top)) (sym f.instances) (instances_moved ms top (net_spots ms top) (length ms) [] 0 [] top refl whole)

  pub instance_count : length design.instances ≡ length (instance_spots ms top)
  instance_count = moved_count ms top (net_spots ms top) (instance_spots ms top) design.instances all_moved

  -- the instance at a spot, and the one of this number
  pub record CellAt (path : Path) (i number : ℕ) (m : Module) (there x : Instance) : Type 0 where
    pub at : module_at ms path top ≡ Some m
    pub there_at : slice_get (cells_of m.items) i ≡ Some there
    pub x_at : slice_get design.instances number ≡ Some x
    pub first : ℕ
    pub base : HasBase (net_spots ms top) path m first
    pub cell : x.cell ≡ there.cell
    pub pins : x.pins ≡ map (moved first) there.pins
    pub sound : IsInstance library (length m.nets) there.name there.cell there.pins

  pub record SomeCell (path : Path) (i number : ℕ) : Type 0 where
    pub m : Module
    pub there : Instance
    pub x : Instance
    pub is : CellAt path i number m there x

  pub cell_at : (path : Path) (i number : ℕ) → IsAt (instance_spots ms top) path i number → SomeCell path i number
  cell_at path i number at =
      let count = instance_count in
      let live = slice_get_within (instance_spots ms top) number (spot path i) at in
      let x = get_there design.instances number (omega arith) in
      let is = moved_at ms top (net_spots ms top) (instance_spots ms top) design.instances number (spot path i) x.0 all_moved at x.1 in
      let items = recursion_from_All (λ (t : Item). IsItem library (length is.m.nets) t) is.m.items (module_sound path is.m is.at).items in
      record {
        m = is.m;
        there = is.there;
        x = x.0;
        is = record {
          at = is.at;
          there_at = is.there_at;
          x_at = x.1;
          first = is.first;
          base = is.base;
          cell = is.cell;
          pins = is.pins;
          sound = cell_item (λ (t : Item). IsItem library (length is.m.nets) t) is.m.items i is.there items is.there_at;
        };
      }

  -- ---- from modules to the flat design

  driven_by_design : (e : Driven) → In Driven (driven_by_ports design.ports ++ driven_by_instances library 0 design.instances ++ driven_by_joins design.joins) e → In Driven (all_driven design) e
  driven_by_design e h = subst (λ (cells : List Cell). In Driven (driven_by_ports design.ports ++ driven_by_instances cells 0 design.instances ++ driven_by_joins design.joins) e) (sym f.cells) h

  connected_image : (path : Path) (m : Module) (first : ℕ) (s : Signal) → HasBase (net_spots ms top) path m first → IsLive (length m.nets) s → IsConnected s → Image ms top path (source_of 0 0 s) (source_of 0 0 (moved first s))
  connected_image path m first (signal.Net net) base live connected = OfNet (base net.0 live)
  connected_image path m first (signal.Constant bit) base live connected = OfBit
  connected_image path m first signal.Unconnected base live connected = absurd connected

  port_forward : (path : Path) (m : Module) (d : Driven) → module_at ms path top ≡ Some m → In Driven (driven_by_ports (outer_ports path m.ports)) d → Forward ms top path d (all_driven design)
  port_forward (place ∷ path) m d at h = absurd (let none = h.at in let g : ⊥ = cc in g)
  port_forward [] m d at h =
      let same : top ≡ m = cc in
      let there : In Driven (driven_by_ports top.ports) d = subst (λ (x : Module). In Driven (driven_by_ports x.ports) d) (sym same) h in
      let input : IsInput (length top.nets) d = all_get (IsInput (length top.nets)) (driven_by_ports top.ports) there.place d (ports_input (length top.nets) top.ports (port_bits library top (module_sound [] top refl))) there.at in
      let start : 0 + d.0 ≡ d.0 = omega arith in
      record {
        e = d;
        there = driven_by_design d (by_ports (driven_by_ports design.ports) (driven_by_instances library 0 design.instances) (driven_by_joins design.joins) d (subst (λ (ps : List Port). In Driven (driven_by_ports ps) d) (sym f.ports) there));
        image = record {
          net = subst (IsAt (net_spots ms top) [] d.0) start (top_base d.0 input.0);
          driver = subst (λ (x : Driver). ImageDriver ms top [] x x) (sym input.1) (OfInput refl);
          input = λ is. refl;
        };
      }

  instance_forward : (path : Path) (m : Module) (d : Driven) → module_at ms path top ≡ Some m → In Driven (driven_by_instances library 0 (cells_of m.items)) d → Forward ms top path d (all_driven design)
  instance_forward path m d at h =
      let by = instances_backward library 0 (cells_of m.items) h.place d h.at in
      let start : 0 + by.k ≡ by.k = omega arith in
      let spots = instances_all ms (length ms) top f.tall [] path m by.k at (slice_get_within (cells_of m.items) by.k by.x by.at) in
      let c = cell_at path by.k spots.number spots.at in
      let modules : Some m ≡ Some c.m = sym at ∙ c.is.at in
      let module_same : m ≡ c.m = cc in
      let there : Some by.x ≡ Some c.there = sym by.at ∙ ap (λ (y : Module). slice_get (cells_of y.items) by.k) module_same ∙ c.is.there_at in
      let same : by.x ≡ c.there = cc in
      let own : In Driven (driven_by library by.k c.there) d = subst (λ (y : Instance). In Driven (driven_by library by.k y) d) same (subst (λ (n : ℕ). In Driven (driven_by library n by.x) d) start by.there) in
      let images = instance_image ms top path c.m c.is.first by.k spots.number c.is.base spots.at library c.there c.x c.is.sound.live c.is.cell c.is.pins in
      let r = forward ms top path (driven_by library by.k c.there) (driven_by library spots.number c.x) own.place d images own.at in
      let begin : spots.number ≡ 0 + spots.number = omega arith in
      record {
        e = r.e;
        there = driven_by_design r.e (by_cells (driven_by_ports design.ports) (driven_by_instances library 0 design.instances) (driven_by_joins design.joins) r.e
            (instances_forward library 0 design.instances spots.number c.x r.e c.is.x_at (subst (λ (n : ℕ). In Driven (driven_by library n c.x) r.e) begin r.there)));
        image = r.image;
      }

  joined_in : (j : Join) → In Join design.joins j → In Driven (all_driven design) (by_join j)
  joined_in j h =
      driven_by_design (by_join j) (by_joins (driven_by_ports design.ports) (driven_by_instances library 0 design.instances) (driven_by_joins design.joins) (by_join j) (joins_forward design.joins h.place j h.at))

  join_forward : (path : Path) (m : Module) (d : Driven) → module_at ms path top ≡ Some m → In Driven (driven_by_joins (joins_of m.items)) d → Forward ms top path d (all_driven design)
  join_forward path m d at h =
      let by = joins_backward (joins_of m.items) h.place d h.at in
      let b = block path m at in
      let items = recursion_from_All (λ (t : Item). IsItem library (length m.nets) t) m.items (module_sound path m at).items in
      let sound : IsAJoin (length m.nets) by.j.target by.j.source = join_item (λ (t : Item). IsItem library (length m.nets) t) m.items by.k by.j items by.at in
      let j : Join = moved_join b.first by.j in
      let image : ImageDriven ms top path (by_join by.j) (by_join j) = record { net = b.base by.j.target.0 sound.target_live; driver = OfJoin (connected_image path m b.first by.j.source b.base sound.source_live sound.connected); input = λ is. absurd (let g : ⊥ = cc in g) } in
      record {
        e = by_join j;
        there = joined_in j (own_join ms (net_spots ms top) design.joins path m b by.k by.j by.at);
        image = subst (λ (x : Driven). ImageDriven ms top path x (by_join j)) by.is image;
      }

  all_forward : (path : Path) (m : Module) (d : Driven) → module_at ms path top ≡ Some m → In Driven (all_driven (alone library path m)) d → Forward ms top path d (all_driven design)
  all_forward path m d at h = elim (three (driven_by_ports (outer_ports path m.ports)) (driven_by_instances library 0 (cells_of m.items)) (driven_by_joins (joins_of m.items)) d h.place h.at) [
    | inl port ↦ port_forward path m d at port
    | inr rest ↦ elim rest [
      | inl instance ↦ instance_forward path m d at instance
      | inr join ↦ join_forward path m d at join
    ]
  ]

  inside_listed : (path : Path) (net : ℕ) (d : Driver) (h : DrivenInside ms library top path net d) → In Driven (all_driven (alone library path h.m)) (net, d)
  inside_listed path net d h = elim (decide (all_driven (alone library path h.m)) net) [
    | inl there ↦ subst (λ (x : Driver). In Driven (all_driven (alone library path h.m)) (net, x)) h.driver_is there
    | inr none ↦ (let some = h.some in let count = none.1 in absurd (omega arith))
  ]

  -- what a net inside has for its driver, the net of the flat design has
  pub inside_forward : (path : Path) (net : ℕ) (d : Driver) → DrivenInside ms library top path net d → Forward ms top path (net, d) (all_driven design)
  inside_forward path net d h = all_forward path h.m (net, d) h.at (inside_listed path net d h)

  pub inside_image : (path : Path) (net number : ℕ) (d : Driver) → DrivenInside ms library top path net d → IsAt (net_spots ms top) path net number → ImageDriver ms top path d (driver design number)
  inside_image path net number d h at =
      let r = inside_forward path net d h in
      let same : r.e.0 ≡ number = net_once path net r.e.0 number r.image.net at in
      let drives : driver design r.e.0 ≡ r.e.1 = listed_drives design r.there.place r.e f.single r.there.at in
      subst (ImageDriver ms top path d) (sym drives ∙ ap (driver design) same) r.image.driver

  -- ---- where modules meet

  bit_live : (path : Path) (place net : ℕ) (d : Dir) (to : Signal) (h : Meets ms top path place d net to) → net < length h.inner.nets
  bit_live path place net d to h =
      let all = port_bits library h.inner (found_sound h.sub.of h.inner h.inner_is) in
      let bits = all_get (λ (p : Port). AllByRecursion (λ (b : NetId). b.0 < length h.inner.nets) p.bits) h.inner.ports h.joins.place h.joins.port all h.joins.port_at in
      all_get (λ (b : NetId). b.0 < length h.inner.nets) h.joins.port.bits h.joins.bit (record { 0 = net }) bits h.joins.within

  outer_bit : (path : Path) (place net : ℕ) (d : Dir) (to : Signal) (h : Meets ms top path place d net to) → IsOuterBit (length h.outer.nets) to
  outer_bit path place net d to h =
      let count = length h.outer.nets in
      let items = recursion_from_All (λ (t : Item). IsItem library count t) h.outer.items (module_sound path h.outer h.outer_at).items in
      let own : IsItem library count (item.Sub h.sub) = sub_item (λ (t : Item). IsItem library count t) h.outer.items place h.sub items h.sub_at in
      let all = connections_sound library count (item.Sub h.sub) h.sub.connections own h.sub refl refl h.joins.port.name in
      all_get (λ (s : Signal). IsOuterBit count s) (joined_to h.sub.connections h.joins.port.name) h.joins.bit to all h.joins.outside

  pub record InForward (path : Path) (place net : ℕ) (to : Signal) : Type 0 where
    pub number : ℕ
    pub at : IsAt (net_spots ms top) (below path place) net number
    pub source : Source
    pub image : Image ms top path (source_of 0 0 to) source
    pub there : In Driven (all_driven design) (number, Joined source)

  pub in_forward : (path : Path) (place net : ℕ) (to : Signal) → Meets ms top path place dir.Input net to → InForward path place net to
  in_forward path place net to h =
      let b = block path h.outer h.outer_at in
      let j = met_join ms top (net_spots ms top) design.joins path place dir.Input net to h b in
      let bit = outer_bit path place net dir.Input to h in
      let join : Join = record { target = record { 0 = j.within + net }; source = moved b.first to } in
      record {
        number = j.within + net;
        at = j.base net (bit_live path place net dir.Input to h);
        source = source_of 0 0 (moved b.first to);
        image = connected_image path h.outer b.first to b.base bit.0 bit.1;
        there = joined_in join (j.there join (record { place = 0; at = refl }));
      }

  pub in_image : (path : Path) (place net number : ℕ) (to : Signal) → Meets ms top path place dir.Input net to → IsAt (net_spots ms top) (below path place) net number → InImage ms top design path to number
  in_image path place net number to h at =
      let r = in_forward path place net to h in
      let same : r.number ≡ number = net_once (below path place) net r.number number r.at at in
      let drives : driver design r.number ≡ Joined r.source = listed_drives design r.there.place (r.number, Joined r.source) f.single r.there.at in
      record { source = r.source; image = r.image; driver_is = ap (driver design) (sym same) ∙ drives }

  pub record OutForward (path : Path) (place inner net : ℕ) : Type 0 where
    pub number : ℕ
    pub at : IsAt (net_spots ms top) path net number
    pub source : ℕ
    pub source_at : IsAt (net_spots ms top) (below path place) inner source
    pub there : In Driven (all_driven design) (number, Joined (Net source))

  pub out_forward : (path : Path) (place inner net : ℕ) → Meets ms top path place dir.Output inner (signal.Net (record { 0 = net })) → OutForward path place inner net
  out_forward path place inner net h =
      let to : Signal = signal.Net (record { 0 = net }) in
      let b = block path h.outer h.outer_at in
      let j = met_join ms top (net_spots ms top) design.joins path place dir.Output inner to h b in
      let bit = outer_bit path place inner dir.Output to h in
      let join : Join = record { target = record { 0 = b.first + net }; source = signal.Net (record { 0 = j.within + inner }) } in
      record {
        number = b.first + net;
        at = b.base net bit.0;
        source = j.within + inner;
        source_at = j.base inner (bit_live path place inner dir.Output to h);
        there = joined_in join (j.there join (record { place = 0; at = refl }));
      }

  pub out_image : (path : Path) (place inner net number : ℕ) → Meets ms top path place dir.Output inner (signal.Net (record { 0 = net })) → IsAt (net_spots ms top) path net number → OutImage ms top design path place inner number
  out_image path place inner net number h at =
      let r = out_forward path place inner net h in
      let same : r.number ≡ number = net_once path net r.number number r.at at in
      let drives : driver design r.number ≡ Joined (Net r.source) = listed_drives design r.there.place (r.number, Joined (Net r.source)) f.single r.there.at in
      record { source = r.source; at = r.source_at; driver_is = ap (driver design) (sym same) ∙ drives }

  -- ---- from the flat design to modules

  inside_of : (path : Path) (m : Module) (d : Driven) → module_at ms path top ≡ Some m → In Driven (all_driven (alone library path m)) d → DrivenInside ms library top path d.0 (driver (alone library path m) d.0)
  inside_of path m d at h = record { m = m; at = at; some = listed_once (all_driven (alone library path m)) h.place d h.at; driver_is = refl }

  origin_inside : (path : Path) (m : Module) (number : ℕ) (d : Driven) → module_at ms path top ≡ Some m → IsAt (net_spots ms top) path d.0 number → In Driven (all_driven (alone library path m)) d → Origin ms library top number
  origin_inside path m number d at net h = Inside path d.0 (driver (alone library path m) d.0) net (inside_of path m d at h)

  port_origin : (e : Driven) → In Driven (driven_by_ports design.ports) e → Origin ms library top e.0
  port_origin e h =
      let there : In Driven (driven_by_ports top.ports) e = subst (λ (ps : List Port). In Driven (driven_by_ports ps) e) f.ports h in
      let input : IsInput (length top.nets) e = all_get (IsInput (length top.nets)) (driven_by_ports top.ports) there.place e (ports_input (length top.nets) top.ports (port_bits library top (module_sound [] top refl))) there.at in
      let start : 0 + e.0 ≡ e.0 = omega arith in
      origin_inside [] top e.0 e refl (subst (IsAt (net_spots ms top) [] e.0) start (top_base e.0 input.0))
      (by_ports (driven_by_ports top.ports) (driven_by_instances library 0 (cells_of top.items)) (driven_by_joins (joins_of top.items)) e there)

  instance_origin : (e : Driven) → In Driven (driven_by_instances library 0 design.instances) e → Origin ms library top e.0
  instance_origin e h =
      let by = instances_backward library 0 design.instances h.place e h.at in
      let start : 0 + by.k ≡ by.k = omega arith in
      let count = instance_count in
      let live = slice_get_within design.instances by.k by.x by.at in
      let s = get_there (instance_spots ms top) by.k (omega arith) in
      let path = s.0.path in
      let at : IsAt (instance_spots ms top) path s.0.at by.k = s.1 in
      let c = cell_at path s.0.at by.k at in
      let xs : Some by.x ≡ Some c.x = sym by.at ∙ c.is.x_at in
      let same : by.x ≡ c.x = cc in
      let own : In Driven (driven_by library by.k c.x) e = subst (λ (y : Instance). In Driven (driven_by library by.k y) e) same (subst (λ (n : ℕ). In Driven (driven_by library n by.x) e) start by.there) in
      let images = instance_image ms top path c.m c.is.first s.0.at by.k c.is.base at library c.there c.x c.is.sound.live c.is.cell c.is.pins in
      let r = backward ms top path (driven_by library s.0.at c.there) (driven_by library by.k c.x) own.place e images own.at in
      let begin : s.0.at ≡ 0 + s.0.at = omega arith in
      origin_inside path c.m e.0 r.d c.is.at r.image.net
      (by_cells (driven_by_ports (outer_ports path c.m.ports)) (driven_by_instances library 0 (cells_of c.m.items)) (driven_by_joins (joins_of c.m.items)) r.d
      (instances_forward library 0 (cells_of c.m.items) s.0.at c.there r.d c.is.there_at (subst (λ (n : ℕ). In Driven (driven_by library n c.there) r.d) begin r.there)))

  from_origin : (j : Join) → JoinFrom ms top (net_spots ms top) j → Origin ms library top j.target.0
  from_origin j (OwnJoin path m first place there at base there_at is) =
      let items = recursion_from_All (λ (t : Item). IsItem library (length m.nets) t) m.items (module_sound path m at).items in
      let sound : IsAJoin (length m.nets) there.target there.source = join_item (λ (t : Item). IsItem library (length m.nets) t) m.items place there items there_at in
      let target : j.target.0 ≡ first + there.target.0 = ap (λ (x : Join). x.target.0) is in
      origin_inside path m j.target.0 (by_join there) at (subst (IsAt (net_spots ms top) path there.target.0) (sym target) (base there.target.0 sound.target_live))
      (by_joins (driven_by_ports (outer_ports path m.ports)) (driven_by_instances library 0 (cells_of m.items)) (driven_by_joins (joins_of m.items)) (by_join there) (joins_forward (joins_of m.items) place there there_at))
  from_origin j (InJoin path place outside within net to meets outer inner is) =
      let target : j.target.0 ≡ within + net = ap (λ (x : Join). x.target.0) is in
      MetIn path place net to (subst (IsAt (net_spots ms top) (below path place) net) (sym target) (inner net (bit_live path place net dir.Input to meets))) meets
  from_origin j (OutJoin path place outside within bit net meets outer inner is) =
      let to : Signal = signal.Net (record { 0 = net }) in
      let target : j.target.0 ≡ outside + net = ap (λ (x : Join). x.target.0) is in
      let live = outer_bit path place bit dir.Output to meets in
      MetOut path place bit net (subst (IsAt (net_spots ms top) path net) (sym target) (outer net live.0)) meets

  join_origin : (e : Driven) → In Driven (driven_by_joins design.joins) e → Origin ms library top e.0
  join_origin e h =
      let by = joins_backward design.joins h.place e h.at in
      let all = joins_from ms top (net_spots ms top) (length ms) [] 0 [] top f.tall refl whole in
      let from = all_get (λ (j : Join). JoinFrom ms top (net_spots ms top) j) (flat_parts ms top).joins by.k by.j all (ap (λ (js : List Join). slice_get js by.k) (sym f.joins) ∙ by.at) in
      subst (λ (x : Driven). Origin ms library top x.0) by.is (from_origin by.j from)

  -- whatever drives a net of the flat design comes from somewhere
  pub origin : (e : Driven) → In Driven (all_driven design) e → Origin ms library top e.0
  origin e h =
      let listed : In Driven (driven_by_ports design.ports ++ driven_by_instances library 0 design.instances ++ driven_by_joins design.joins) e =
      subst (λ (cells : List Cell). In Driven (driven_by_ports design.ports ++ driven_by_instances cells 0 design.instances ++ driven_by_joins design.joins) e) f.cells h in
      elim (three (driven_by_ports design.ports) (driven_by_instances library 0 design.instances) (driven_by_joins design.joins) e listed.place listed.at) [
        | inl port ↦ port_origin e port
        | inr rest ↦ elim rest [
          | inl instance ↦ instance_origin e instance
          | inr join ↦ join_origin e join
        ]
      ]
