-- What the nets and instances of a flat design mean is what they mean at their paths.
use Rattle.std.proofs.Common.{ℕ, ◌<◌, ◌≤◌, ◌≡◌, inl, inr, Bool, true, false, cond, List, [], length, map, Option, None, Some, slice_get, refl, sym, ap, ap₂, subst, arith, ◌∙◌}
use Rattle.dft_base.specs.declared.dir.Dir.TheVariants as dir
use Rattle.dft_base.proofs.ListLemmas.{get_there, all_get}
use Rattle.dft_cells.specs.declared.cell.Cell.{Cell}
use Rattle.dft_cells.specs.declared.kind.Kind.{Kind}
use Rattle.dft_cells.specs.declared.kind.Role.{Role}
use Rattle.dft_cells.specs.declared.kind.Role.TheVariants as role
use Rattle.dft_cells.specs.FlipFlops.{is_flip_flop, Takes, Forces, Scan}
use Rattle.dft_netlist.specs.declared.instance.CellRef.{CellRef}
use Rattle.dft_netlist.specs.declared.instance.Signal.TheVariants as signal
use Rattle.dft_behavior.specs.ClockRoots.{ClockRoot, clock_root_of}
use Rattle.dft_netlist.specs.Drivers.{Source, Net, Driver, Input, Joined, Lockup, Free, Connection, source_of, connections_from, connections_of, shape_of, pins_of, pins_at, kind_of, kind_at, all_driven, driver}
use Rattle.dft_behavior.specs.Logic as logic
use Rattle.dft_netlist.specs.Connections.{pin_of}
use Rattle.dft_behavior.specs.Logic.{Ports, or_loose, domain_of, domain_at, force_of, force_at, both_forces, forcing, takes_of, forces_of, modelled, modelled_of, flop_meaning, lockup_meaning, meaning_of, Meaning, scan_of, flip_flop, is_lockup, locked, lock_up, stored, cell_or_none}
use Rattle.dft_netlist.specs.NetDrivers.{times_driven}
use Rattle.dft_netlist.specs.Netlist.{Netlist}
use Rattle.dft_behavior.specs.Traces.{root_of}
use Rattle.dft_netlist.proofs.DriverLaws.{times, listed_once}
use Rattle.dft_modules.specs.Modules.{Module}
use Rattle.dft_hier.specs.Hierarchy.{cells_of}
use Rattle.dft_hier.specs.Flat.{moved}
use Rattle.dft_hier_laws.specs.Joined.{alone, DrivenInside, Meets, IsUnmet, Roots, domain_by, force_by, forcing_by, modelled_by, meaning_by, AreRoots, flip_flop_by, locked_by, lock_up_by, cell_by, JoinedMeans, MeansInside, MeansOutside, MeansBelow, MeansNothing}
use Rattle.dft_hier.specs.Paths.{Path, Spot, module_at, below, net_spots, instance_spots}
use Rattle.dft_hier_laws.proofs.DriverImages.{IsFlatOf, Origin, Inside, MetIn, MetOut, cell_at, inside_forward, inside_image, in_forward, in_image, out_forward, out_image, net_once, origin, decide}
use Rattle.dft_hier_laws.proofs.Images.{Image, OfNet, OfPin, Images, ImageIfAny, ImageDriver, OfInput, OfGate, OfJoin, OfFlop, OfLockup, OfNone, pin_image}
use Rattle.dft_hier_laws.proofs.JoinedRoots.{input_number, root_agrees, clock_agrees, flat_roots, flat_rooted, flat_clocked, same_spot}
use Rattle.dft_hier_laws.proofs.Positions.{IsAt}
use Rattle.dft_hier.proofs.SpotLemmas.{spot, nets_all}
use Rattle.std.specs.Option.{option_or}
use Rattle.std.proofs.lemmas.Option.{slice_get_within}
use Rattle.dft_cells.specs.declared.kind.Gate.{Gate as GateKind}
use Rattle.dft_hier_laws.proofs.FlatDesigns.{SpotStands, nets_stand}

-- ---- images of meanings and cells

-- this meaning of a net of the flat design is that of the net at a path, over sources at a path
pub data ImageMeaning (ms : List Module) (top : Module) (over : Path) (net k : ℕ) : Meaning → Meaning → Type 0 where
  OfPort : k ≡ net → ImageMeaning ms top over net k logic.Input logic.Input
  OfClock : k ≡ net → ImageMeaning ms top over net k logic.Clock logic.Clock
  OfGateBit : {kind : GateKind} {ss ts : List Source} → Images ms top over ss ts → ImageMeaning ms top over net k (logic.Gate kind ss) (logic.Gate kind ts)
  OfJoined : {s t : Source} → Image ms top over s t → ImageMeaning ms top over net k (logic.Joined s) (logic.Joined t)
  OfFlopBit : {i number : ℕ} {inverted : Bool} → IsAt (instance_spots ms top) over i number → ImageMeaning ms top over net k (logic.Flop i inverted) (logic.Flop number inverted)
  OfLockupBit : {i number domain : ℕ} {high : Bool} {s t : Source} → IsAt (instance_spots ms top) over i number → Image ms top over s t →
      ImageMeaning ms top over net k (logic.Lockup i domain high s) (logic.Lockup number domain high t)
  OfFree : IsAt (net_spots ms top) over net k → ImageMeaning ms top over net k logic.Free logic.Free

abbrev pub ImageScan : List Module → (top : Module) → Path → Option (Scan Source) → Option (Scan Source) → Type 0
ImageScan ms top path None None = Unit {0}
ImageScan ms top path (Some a) (Some b) = Image ms top path a.enable b.enable × Image ms top path a.input b.input
ImageScan ms top path None (Some b) = ⊥
ImageScan ms top path (Some a) None = ⊥

-- this cell of the flat design is that cell at a path
pub record ImageCell (ms : List Module) (top : Module) (path : Path) (a b : logic.Cell) : Type 0 where
  pub domain : a.domain ≡ b.domain
  pub falling : a.falling ≡ b.falling
  pub input : Image ms top path a.takes.input b.takes.input
  pub scan : ImageScan ms top path a.takes.scan b.takes.scan
  pub forces : a.forces ≡ b.forces

abbrev ImageCellIfAny : List Module → (top : Module) → Path → Option logic.Cell → Option logic.Cell → Type 0
ImageCellIfAny ms top path None None = Unit {0}
ImageCellIfAny ms top path (Some a) (Some b) = ImageCell ms top path a b
ImageCellIfAny ms top path None (Some b) = ⊥
ImageCellIfAny ms top path (Some a) None = ⊥

cells_moved : (ms : List Module) (top : Module) (path : Path) (a b x y : Option logic.Cell) → a ≡ x → b ≡ y → ImageCellIfAny ms top path x y → ImageCellIfAny ms top path a b
cells_moved ms top path a b x y e g h = subst (λ (z : Option logic.Cell). ImageCellIfAny ms top path z b) (sym e) (subst (ImageCellIfAny ms top path x) (sym g) h)

meanings_moved : (ms : List Module) (top : Module) (path : Path) (net k : ℕ) (a b x y : Meaning) → a ≡ x → b ≡ y → ImageMeaning ms top path net k x y → ImageMeaning ms top path net k a b
meanings_moved ms top path net k a b x y e g h = subst (λ (z : Meaning). ImageMeaning ms top path net k z b) (sym e) (subst (ImageMeaning ms top path net k x) (sym g) h)

-- ---- what pins give

-- the pins of the instance at a spot, and of that of its number
record CellMeans (ms : List Module) (library : List Cell) (top : Module) (design : Netlist) (path : Path) (m : Module) (i number : ℕ) : Type 0 where
  kind : Kind
  here_pins : List Connection
  flat_pins : List Connection
  kind_here : kind_at (alone library path m) i ≡ kind
  kind_flat : kind_at design number ≡ kind
  pins_here : pins_of (alone library path m) i ≡ here_pins
  pins_flat : pins_of design number ≡ flat_pins
  pins : (r : Role) → ImageIfAny ms top path (pin_of r i here_pins) (pin_of r number flat_pins)

cell_means : (ms : List Module) (library : List Cell) (top : Module) (design : Netlist) → IsFlatOf ms library top design → (path : Path) (m : Module) (i number : ℕ) → module_at ms path top ≡ Some m → IsAt (instance_spots ms top) path i number →
    CellMeans ms library top design path m i number
cell_means ms library top design f path m i number here cell =
    let c = cell_at ms library top design f path i number cell in
    let modules : Some m ≡ Some c.m = sym here ∙ c.is.at in
    let same : m ≡ c.m = cc in
    let there : slice_get (cells_of m.items) i ≡ Some c.there = ap (λ (y : Module). slice_get (cells_of y.items) i) same ∙ c.is.there_at in
    let shape = shape_of library c.there.cell in
    record {
      kind = shape.kind;
      here_pins = connections_from 0 shape.roles c.there.pins;
      flat_pins = connections_from 0 shape.roles (map (moved c.is.first) c.there.pins);
      kind_here = ap (kind_of library) there;
      kind_flat = ap (kind_of design.library) c.is.x_at ∙ ap (λ (cells : List Cell). (shape_of cells c.x.cell).kind) f.cells ∙ ap (λ (cell : CellRef). (shape_of library cell).kind) c.is.cell;
      pins_here = ap (pins_at library) there;
      pins_flat = ap (pins_at design.library) c.is.x_at ∙ ap (λ (cells : List Cell). connections_of cells c.x) f.cells
          ∙ ap (λ (cell : CellRef). connections_from 0 (shape_of library cell).roles c.x.pins) c.is.cell ∙ ap (connections_from 0 shape.roles) c.is.pins;
      pins = λ r. pin_image ms top path c.m c.is.first i number c.is.base cell r 0 shape.roles c.there.pins c.is.sound.live;
    }

loose_same : (ms : List Module) (top : Module) (path : Path) (i number : ℕ) (a o : Option Source) → IsAt (instance_spots ms top) path i number → ImageIfAny ms top path a o → Image ms top path (or_loose i a) (or_loose number o)
loose_same ms top path i number None None cell h = OfPin cell
loose_same ms top path i number (Some x) (Some y) cell h = h
loose_same ms top path i number None (Some y) cell h = absurd h
loose_same ms top path i number (Some x) None cell h = absurd h

scan_image : (ms : List Module) (top : Module) (path : Path) (a b x y : Option Source) → ImageIfAny ms top path a b → ImageIfAny ms top path x y → ImageScan ms top path (scan_of a x) (scan_of b y)
scan_image ms top path None None x y h k = tt
scan_image ms top path (Some a) (Some b) None None h k = tt
scan_image ms top path (Some a) (Some b) (Some x) (Some y) h k = (h, k)
scan_image ms top path (Some a) (Some b) None (Some y) h k = absurd k
scan_image ms top path (Some a) (Some b) (Some x) None h k = absurd k
scan_image ms top path None (Some b) x y h k = absurd h
scan_image ms top path (Some a) None x y h k = absurd h

modelled_image : (ms : List Module) (top : Module) (path : Path) (clock : Option ClockRoot) (forces : Option (Forces ℕ)) (x y : Takes Source) → Image ms top path x.input y.input → ImageScan ms top path x.scan y.scan →
    ImageCellIfAny ms top path (modelled clock forces x) (modelled clock forces y)
modelled_image ms top path (Some clock) (Some forces) x y input scan = record { domain = refl; falling = refl; input = input; scan = scan; forces = refl }
modelled_image ms top path (Some clock) None x y input scan = tt
modelled_image ms top path None forces x y input scan = tt

locked_image : (ms : List Module) (top : Module) (path : Path) (clock : Option ClockRoot) (x y : Source) → Image ms top path x y → ImageCellIfAny ms top path (locked clock x) (locked clock y)
locked_image ms top path None x y image = tt
locked_image ms top path (Some clock) x y image = record { domain = refl; falling = refl; input = image; scan = tt; forces = refl }

if_image : (ms : List Module) (top : Module) (path : Path) (is : Bool) (a b : Option logic.Cell) → ImageCellIfAny ms top path a b → ImageCellIfAny ms top path (cond is a None) (cond is b None)
if_image ms top path true a b h = h
if_image ms top path false a b h = tt

or_image : (ms : List Module) (top : Module) (path : Path) (a b x y : Option logic.Cell) → ImageCellIfAny ms top path a b → ImageCellIfAny ms top path x y → ImageCellIfAny ms top path (option_or a x) (option_or b y)
or_image ms top path None None x y h k = k
or_image ms top path (Some a) (Some b) x y h k = h
or_image ms top path None (Some b) x y h k = absurd h
or_image ms top path (Some a) None x y h k = absurd h

stored_image : (ms : List Module) (top : Module) (path : Path) (i number : ℕ) (a b : Option logic.Cell) → IsAt (instance_spots ms top) path i number → ImageCellIfAny ms top path a b → ImageCell ms top path (cell_or_none i a) (cell_or_none number b)
stored_image ms top path i number None None cell h = record { domain = refl; falling = refl; input = OfPin cell; scan = tt; forces = refl }
stored_image ms top path i number (Some a) (Some b) cell h = h
stored_image ms top path i number None (Some b) cell h = absurd h
stored_image ms top path i number (Some a) None cell h = absurd h

port_image : (ms : List Module) (top : Module) (path : Path) (net k : ℕ) (is_clock : Bool) → k ≡ net → ImageMeaning ms top path net k (cond is_clock logic.Clock logic.Input) (cond is_clock logic.Clock logic.Input)
port_image ms top path net k true is = OfClock is
port_image ms top path net k false is = OfPort is

flop_image : (ms : List Module) (top : Module) (path : Path) (i number net k : ℕ) (inverted : Bool) (a b : Option logic.Cell) → IsAt (instance_spots ms top) path i number → IsAt (net_spots ms top) path net k → ImageCellIfAny ms top path a b →
    ImageMeaning ms top path net k (flop_meaning i inverted a) (flop_meaning number inverted b)
flop_image ms top path i number net k inverted None None cell at h = OfFree at
flop_image ms top path i number net k inverted (Some a) (Some b) cell at h = OfFlopBit cell
flop_image ms top path i number net k inverted None (Some b) cell at h = absurd h
flop_image ms top path i number net k inverted (Some a) None cell at h = absurd h

lockup_image : (ms : List Module) (top : Module) (path : Path) (i number net k : ℕ) (clock : Option ClockRoot) (x y : Source) → IsAt (instance_spots ms top) path i number → IsAt (net_spots ms top) path net k → Image ms top path x y →
    ImageMeaning ms top path net k (lockup_meaning i clock x) (lockup_meaning number clock y)
lockup_image ms top path i number net k None x y cell at image = OfFree at
lockup_image ms top path i number net k (Some clock) x y cell at image = OfLockupBit cell image

-- ---- roots and clocks

-- the roots and the clocks of sources at paths are those of the flat design
record Agree (ms : List Module) (top : Module) (design : Netlist) (roots : Path → Roots) : Type 0 where
  root : (path : Path) (s t : Source) → Image ms top path s t → (roots path).root s ≡ root_of design t
  clock : (path : Path) (s t : Source) → Image ms top path s t → (roots path).clock s ≡ clock_root_of design t

roots_agree : (ms : List Module) (library : List Cell) (top : Module) (design : Netlist) → IsFlatOf ms library top design → (roots : Path → Roots) → AreRoots ms library top roots → Agree ms top design roots
roots_agree ms library top design f roots are = record {
  root = λ path x y image. root_agrees ms library top design f path x y ((roots path).root x) (are.root path x) image;
  clock = λ path x y image. clock_agrees ms library top design f path x y ((roots path).clock x) (are.clock path x) image;
}

pub flat_are_roots : (ms : List Module) (library : List Cell) (top : Module) (design : Netlist) (f : IsFlatOf ms library top design) → AreRoots ms library top (flat_roots ms library top design f)
flat_are_roots ms library top design f = record { root = flat_rooted ms library top design f; clock = flat_clocked ms library top design f }

module _ (ms : List Module) (library : List Cell) (top : Module) (design : Netlist) (f : IsFlatOf ms library top design) (ports : Ports) (roots : Path → Roots) (are : AreRoots ms library top roots) where
  agree : Agree ms top design roots
  agree = roots_agree ms library top design f roots are

  domain_same : (path : Path) (a o : Option Source) → ImageIfAny ms top path a o → domain_by (roots path) ports a ≡ domain_at design ports o
  domain_same path None None h = refl
  domain_same path (Some x) (Some y) h = ap (domain_of ports) (agree.clock path x y h)
  domain_same path None (Some y) h = absurd h
  domain_same path (Some x) None h = absurd h

  force_same : (path : Path) (a o : Option Source) → ImageIfAny ms top path a o → force_by (roots path) ports a ≡ force_at design ports o
  force_same path None None h = refl
  force_same path (Some x) (Some y) h = ap (force_of ports) (agree.root path x y h)
  force_same path None (Some y) h = absurd h
  force_same path (Some x) None h = absurd h

  forcing_same : (path : Path) (a b : Forces Source) → ImageIfAny ms top path a.clear b.clear → ImageIfAny ms top path a.preset b.preset → forcing_by (roots path) ports a ≡ forcing design ports b
  forcing_same path a b h k = λ t. both_forces (force_same path a.clear b.clear h t) (force_same path a.preset b.preset k t)

  -- ---- what instances store

  flop_cell_image : (path : Path) (m : Module) (i number : ℕ) → module_at ms path top ≡ Some m → IsAt (instance_spots ms top) path i number →
      ImageCellIfAny ms top path (flip_flop_by (roots path) (alone library path m) ports i) (flip_flop design ports number)
  flop_cell_image path m i number here cell =
      let c = cell_means ms library top design f path m i number here cell in
      let p = c.here_pins in
      let q = c.flat_pins in
      let clock = domain_at design ports (pin_of role.Clock number q) in
      let forces = forcing design ports (forces_of number q) in
      let domain_is = domain_same path (pin_of role.Clock i p) (pin_of role.Clock number q) (c.pins role.Clock) in
      let forces_are = forcing_same path (forces_of i p) (forces_of number q) (c.pins role.Reset) (c.pins role.Preset) in
      cells_moved ms top path (flip_flop_by (roots path) (alone library path m) ports i) (flip_flop design ports number)
      (cond (is_flip_flop c.kind) (modelled clock forces (takes_of i p)) None) (cond (is_flip_flop c.kind) (modelled clock forces (takes_of number q)) None)
      (ap₂ (λ (kind : Kind) (cs : List Connection). cond (is_flip_flop kind) (modelled_by (roots path) ports i cs) None) c.kind_here c.pins_here
      ∙ ap₂ (λ (d : Option ClockRoot) (g : Option (Forces ℕ)). cond (is_flip_flop c.kind) (modelled d g (takes_of i p)) None) domain_is forces_are)
      (ap₂ (λ (kind : Kind) (cs : List Connection). cond (is_flip_flop kind) (modelled_of design ports number cs) None) c.kind_flat c.pins_flat)
      (if_image ms top path (is_flip_flop c.kind) (modelled clock forces (takes_of i p)) (modelled clock forces (takes_of number q))
      (modelled_image ms top path clock forces (takes_of i p) (takes_of number q) (loose_same ms top path i number (pin_of role.Din i p) (pin_of role.Din number q) cell (c.pins role.Din))
      (scan_image ms top path (pin_of role.ScanEnable i p) (pin_of role.ScanEnable number q) (pin_of role.ScanIn i p) (pin_of role.ScanIn number q) (c.pins role.ScanEnable) (c.pins role.ScanIn))))

  lockup_cell_image : (path : Path) (m : Module) (i number : ℕ) → module_at ms path top ≡ Some m → IsAt (instance_spots ms top) path i number →
      ImageCellIfAny ms top path (lock_up_by (roots path) (alone library path m) ports i) (lock_up design ports number)
  lockup_cell_image path m i number here cell =
      let c = cell_means ms library top design f path m i number here cell in
      let p = c.here_pins in
      let q = c.flat_pins in
      let clock = domain_at design ports (pin_of role.Clock number q) in
      let x = or_loose i (pin_of role.Din i p) in
      let y = or_loose number (pin_of role.Din number q) in
      let domain_is = domain_same path (pin_of role.Clock i p) (pin_of role.Clock number q) (c.pins role.Clock) in
      cells_moved ms top path (lock_up_by (roots path) (alone library path m) ports i) (lock_up design ports number)
      (cond (is_lockup c.kind) (locked clock x) None) (cond (is_lockup c.kind) (locked clock y) None)
      (ap₂ (λ (kind : Kind) (cs : List Connection). cond (is_lockup kind) (locked_by (roots path) ports i cs) None) c.kind_here c.pins_here
      ∙ ap (λ (d : Option ClockRoot). cond (is_lockup c.kind) (locked d x) None) domain_is)
      (ap₂ (λ (kind : Kind) (cs : List Connection). cond (is_lockup kind) (locked (domain_at design ports (pin_of role.Clock number cs)) (or_loose number (pin_of role.Din number cs))) None) c.kind_flat c.pins_flat)
      (if_image ms top path (is_lockup c.kind) (locked clock x) (locked clock y) (locked_image ms top path clock x y (loose_same ms top path i number (pin_of role.Din i p) (pin_of role.Din number q) cell (c.pins role.Din))))

  -- an instance stores at its path what it stores in the flat design
  pub cell_image : (path : Path) (m : Module) (i number : ℕ) → module_at ms path top ≡ Some m → IsAt (instance_spots ms top) path i number →
      ImageCell ms top path (cell_by (roots path) (alone library path m) ports i) (cell_or_none number (stored design ports number))
  cell_image path m i number here cell =
      let a = flip_flop_by (roots path) (alone library path m) ports i in
      let b = flip_flop design ports number in
      let x = lock_up_by (roots path) (alone library path m) ports i in
      let y = lock_up design ports number in
      stored_image ms top path i number (option_or a x) (option_or b y) cell (or_image ms top path a b x y (flop_cell_image path m i number here cell) (lockup_cell_image path m i number here cell))

  -- ---- what nets mean

  lockup_means : (path : Path) (m : Module) (i number net k : ℕ) → module_at ms path top ≡ Some m → IsAt (instance_spots ms top) path i number → IsAt (net_spots ms top) path net k →
      ImageMeaning ms top path net k (meaning_by (roots path) (alone library path m) ports net (Lockup i)) (meaning_of design ports k (Lockup number))
  lockup_means path m i number net k here cell at =
      let c = cell_means ms library top design f path m i number here cell in
      let p = c.here_pins in
      let q = c.flat_pins in
      let clock = domain_at design ports (pin_of role.Clock number q) in
      let x = or_loose i (pin_of role.Din i p) in
      let y = or_loose number (pin_of role.Din number q) in
      meanings_moved ms top path net k (meaning_by (roots path) (alone library path m) ports net (Lockup i)) (meaning_of design ports k (Lockup number)) (lockup_meaning i clock x) (lockup_meaning number clock y)
      (ap (λ (cs : List Connection). lockup_meaning i (domain_by (roots path) ports (pin_of role.Clock i cs)) (or_loose i (pin_of role.Din i cs))) c.pins_here
      ∙ ap (λ (d : Option ClockRoot). lockup_meaning i d x) (domain_same path (pin_of role.Clock i p) (pin_of role.Clock number q) (c.pins role.Clock)))
      (ap (λ (cs : List Connection). lockup_meaning number (domain_at design ports (pin_of role.Clock number cs)) (or_loose number (pin_of role.Din number cs))) c.pins_flat)
      (lockup_image ms top path i number net k clock x y cell at (loose_same ms top path i number (pin_of role.Din i p) (pin_of role.Din number q) cell (c.pins role.Din)))

  driver_means : (path : Path) (m : Module) (net k : ℕ) (d e : Driver) → module_at ms path top ≡ Some m → IsAt (net_spots ms top) path net k → (d ≡ Input → k ≡ net) → ImageDriver ms top path d e →
      ImageMeaning ms top path net k (meaning_by (roots path) (alone library path m) ports net d) (meaning_of design ports k e)
  driver_means path m net k d e here at own (OfInput is) =
      let same : k ≡ net = own refl in
      subst (λ (n : ℕ). ImageMeaning ms top path net k (cond (ports.is_clock net) logic.Clock logic.Input) (cond (ports.is_clock n) logic.Clock logic.Input)) (sym same) (port_image ms top path net k (ports.is_clock net) same)
  driver_means path m net k d e here at own (OfGate images) = OfGateBit images
  driver_means path m net k d e here at own (OfJoin image) = OfJoined image
  driver_means path m net k d e here at own (OfFlop {i = i} {number = number} {inverted = inverted} cell) =
      flop_image ms top path i number net k inverted (flip_flop_by (roots path) (alone library path m) ports i) (flip_flop design ports number) cell at (flop_cell_image path m i number here cell)
  driver_means path m net k d e here at own (OfLockup {i = i} {number = number} cell) = lockup_means path m i number net k here cell at
  driver_means path m net k d e here at own OfNone = OfFree at

  -- ---- nets that nothing drives

  not_driven : (path : Path) (m : Module) (net k : ℕ) → module_at ms path top ≡ Some m → IsAt (net_spots ms top) path net k → times_driven (alone library path m) net ≡ 0 → IsUnmet ms top path net → Origin ms library top k → ⊥
  not_driven path m net k here at none unmet (Inside p a d there inside) =
      let same = same_spot (net_spots ms top) p path a net k there at in
      let moved_here : DrivenInside ms library top path net d = subst (λ (x : Path). DrivenInside ms library top x net d) same.0 (subst (λ (n : ℕ). DrivenInside ms library top p n d) same.1 inside) in
      let modules : Some moved_here.m ≡ Some m = sym moved_here.at ∙ here in
      let module_same : moved_here.m ≡ m = cc in
      let some : 0 < times_driven (alone library path m) net = subst (λ (x : Module). 0 < times_driven (alone library path x) net) module_same moved_here.some in
      omega (arith, some, none)
  not_driven path m net k here at none unmet (MetIn p place a to there meets) =
      let same = same_spot (net_spots ms top) (below p place) path a net k there at in
      unmet.input p place to (sym same.0) (subst (λ (n : ℕ). Meets ms top p place dir.Input n to) same.1 meets)
  not_driven path m net k here at none unmet (MetOut p place inner a there meets) =
      let same = same_spot (net_spots ms top) p path a net k there at in
      unmet.output place inner (subst (λ (x : Path). Meets ms top x place dir.Output inner (signal.Net (record { 0 = net }))) same.0 (subst (λ (n : ℕ). Meets ms top p place dir.Output inner (signal.Net (record { 0 = n }))) same.1 meets))

  free_here : (path : Path) (m : Module) (net k : ℕ) → module_at ms path top ≡ Some m → IsAt (net_spots ms top) path net k → times_driven (alone library path m) net ≡ 0 → IsUnmet ms top path net → driver design k ≡ Free
  free_here path m net k here at none unmet = elim (decide (all_driven design) k) [
    | inl there ↦ absurd (not_driven path m net k here at none unmet (origin ms library top design f (k, driver design k) there))
    | inr free ↦ free.0
  ]

  none_inside : (path : Path) (m : Module) (net k : ℕ) → module_at ms path top ≡ Some m → IsAt (net_spots ms top) path net k → times (all_driven design) k ≡ 0 → times_driven (alone library path m) net ≡ 0
  none_inside path m net k here at none = elim (decide (all_driven (alone library path m)) net) [
    | inl there ↦ (
        let inside : DrivenInside ms library top path net (driver (alone library path m) net) = record { m = m; at = here; some = listed_once (all_driven (alone library path m)) there.place (net, driver (alone library path m) net) there.at; driver_is = refl } in
        let r = inside_forward ms library top design f path net (driver (alone library path m) net) inside in
        let same : r.e.0 ≡ k = net_once ms library top design f path net r.e.0 k r.image.net at in
        let some = subst (λ (n : ℕ). 1 ≤ times (all_driven design) n) same (listed_once (all_driven design) r.there.place r.e r.there.at) in
        absurd (omega (arith, some, none)))
    | inr free ↦ free.1
  ]

  none_met : (path : Path) (net k : ℕ) → IsAt (net_spots ms top) path net k → times (all_driven design) k ≡ 0 → IsUnmet ms top path net
  none_met path net k at none = record {
    input = λ front place to is meets. (
        let r = in_forward ms library top design f front place net to meets in
        let here : IsAt (net_spots ms top) path net r.number = subst (λ (x : Path). IsAt (net_spots ms top) x net r.number) (sym is) r.at in
        let same : r.number ≡ k = net_once ms library top design f path net r.number k here at in
        let some = subst (λ (n : ℕ). 1 ≤ times (all_driven design) n) same (listed_once (all_driven design) r.there.place (r.number, Joined r.source) r.there.at) in
        omega (arith, some, none));
    output = λ place inner meets. (
        let r = out_forward ms library top design f path place inner net meets in
        let same : r.number ≡ k = net_once ms library top design f path net r.number k r.at at in
        let some = subst (λ (n : ℕ). 1 ≤ times (all_driven design) n) same (listed_once (all_driven design) r.there.place (r.number, Joined (Net r.source)) r.there.at) in
        omega (arith, some, none));
  }

  -- ---- from paths to the flat design

  -- a net means in the flat design what it means at its path
  pub joined_means : (path : Path) (net : ℕ) (over : Path) (meaning : Meaning) (k : ℕ) → JoinedMeans ms library top ports roots path net over meaning → IsAt (net_spots ms top) path net k →
      ImageMeaning ms top over net k meaning (meaning_of design ports k (driver design k))
  joined_means path net over meaning k (MeansInside {d = d} inside) at =
      driver_means path inside.m net k d (driver design k) inside.at at (λ is. input_number ms library top design f path net k (subst (DrivenInside ms library top path net) is inside) at)
      (inside_image ms library top design f path net k d inside at)
  joined_means path net over meaning k (MeansOutside {path = outer} {place = place} {to = to} meets) at =
      let i = in_image ms library top design f outer place net k to meets at in
      subst (λ (d : Driver). ImageMeaning ms top outer net k (logic.Joined (source_of 0 0 to)) (meaning_of design ports k d)) (sym i.driver_is) (OfJoined i.image)
  joined_means path net over meaning k (MeansBelow {place = place} {inner = inner} meets) at =
      let o = out_image ms library top design f path place inner net k meets at in
      subst (λ (d : Driver). ImageMeaning ms top (below path place) net k (logic.Joined (Net inner)) (meaning_of design ports k d)) (sym o.driver_is) (OfJoined (OfNet o.at))
  joined_means path net over meaning k (MeansNothing {m = m} here less none unmet) at =
      subst (λ (d : Driver). ImageMeaning ms top path net k logic.Free (meaning_of design ports k d)) (sym (free_here path m net k here at none unmet)) (OfFree at)

  -- and it has a number there
  pub joined_stands : (path : Path) (net : ℕ) (over : Path) (meaning : Meaning) → JoinedMeans ms library top ports roots path net over meaning → (k : ℕ) × IsAt (net_spots ms top) path net k
  joined_stands path net over meaning (MeansInside {d = d} inside) = let r = inside_forward ms library top design f path net d inside in (r.e.0, r.image.net)
  joined_stands path net over meaning (MeansOutside {path = outer} {place = place} {to = to} meets) = let r = in_forward ms library top design f outer place net to meets in (r.number, r.at)
  joined_stands path net over meaning (MeansBelow {place = place} {inner = inner} meets) = let r = out_forward ms library top design f path place inner net meets in (r.number, r.at)
  joined_stands path net over meaning (MeansNothing {m = m} here less none unmet) = let n = nets_all ms (length ms) top f.tall [] path m net here less in (n.number, n.at)

  -- ---- from the flat design to paths

  pub record SomeMeaning (k : ℕ) : Type 0 where
    pub path : Path
    pub net : ℕ
    pub over : Path
    pub meaning : Meaning
    pub at : IsAt (net_spots ms top) path net k
    pub means : JoinedMeans ms library top ports roots path net over meaning

  origin_meaning : (k : ℕ) → Origin ms library top k → SomeMeaning k
  origin_meaning k (Inside path net d at inside) = record { path = path; net = net; over = path; meaning = meaning_by (roots path) (alone library path inside.m) ports net d; at = at; means = MeansInside inside }
  origin_meaning k (MetIn path place net to at meets) = record { path = below path place; net = net; over = path; meaning = logic.Joined (source_of 0 0 to); at = at; means = MeansOutside meets }
  origin_meaning k (MetOut path place inner net at meets) = record { path = path; net = net; over = below path place; meaning = logic.Joined (Net inner); at = at; means = MeansBelow meets }

  no_meaning : (k : ℕ) → k < length (net_spots ms top) → times (all_driven design) k ≡ 0 → SomeMeaning k
  no_meaning k less none =
      let x = get_there (net_spots ms top) k less in
      let at : IsAt (net_spots ms top) x.0.path x.0.at k = x.1 in
      let stands = all_get (λ (t : Spot). SpotStands ms top t) (net_spots ms top) k x.0 (nets_stand ms top (length ms) [] top refl) x.1 in
      record {
        path = x.0.path;
        net = x.0.at;
        over = x.0.path;
        meaning = logic.Free;
        at = at;
        means = MeansNothing stands.at stands.less (none_inside x.0.path stands.m x.0.at k stands.at at none) (none_met x.0.path x.0.at k at none);
      }

  -- each net of the flat design means something at a path
  pub some_meaning : (k : ℕ) → k < length (net_spots ms top) → SomeMeaning k
  some_meaning k less = elim (decide (all_driven design) k) [
    | inl there ↦ origin_meaning k (origin ms library top design f (k, driver design k) there)
    | inr free ↦ no_meaning k less free.1
  ]

  -- and there are no others
  pub past_free : (k : ℕ) → length (net_spots ms top) ≤ k → driver design k ≡ Free
  past_free k past = elim (decide (all_driven design) k) [
    | inl there ↦ (
        let m = origin_meaning k (origin ms library top design f (k, driver design k) there) in
        let live = slice_get_within (net_spots ms top) k (spot m.path m.net) m.at in
        absurd (omega (arith, live, past)))
    | inr free ↦ free.0
  ]
