-- What the flat design has for what a module has at a path: sources and drivers, by the numbers of nets and instances.
use Rattle.std.proofs.Common.{ℕ, zero, suc, ◌≡◌, Bool, true, false, cond, List, [], ◌∷◌, ◌++◌, length, map, Option, None, Some, slice_get, refl, sym, ap₂, subst}
use Rattle.dft_cells.specs.declared.cell.Cell.{Cell}
use Rattle.dft_cells.specs.declared.kind.Kind.{Kind}
use Rattle.dft_cells.specs.declared.kind.Kind.TheVariants as kind
use Rattle.dft_cells.specs.declared.kind.Gate.{Gate as GateKind}
use Rattle.dft_cells.specs.declared.kind.Role.{Role}
use Rattle.dft_cells.specs.declared.kind.Role.TheVariants as role
use Rattle.dft_netlist.specs.declared.instance.CellRef.{CellRef}
use Rattle.dft_netlist.specs.declared.instance.Instance.{Instance}
use Rattle.dft_netlist.specs.declared.instance.Signal.{Signal}
use Rattle.dft_netlist.specs.declared.instance.Signal.TheVariants as signal
use Rattle.dft_netlist.specs.Drivers.{Source, Net, Tied, Loose, Driver, Input, Gate, Joined, Flop, Lockup, Free, Driven, is_input, source_of, connections_from, shape_of, inputs_of, driver_of_kind, at_signal, at_role, driven_by_pins, driven_by, is_lockup_input, lockup_inputs}
use Rattle.dft_netlist.specs.Connections.{pin_of, same_role}
use Rattle.dft_netlist.specs.Sound.{IsLive, AreLive}
use Rattle.dft_modules.specs.Modules.{Module}
use Rattle.dft_hier.specs.Flat.{moved}
use Rattle.dft_hier.specs.Paths.{Path, net_spots, instance_spots}
use Rattle.dft_hier_laws.proofs.Positions.{In, IsAt, HasBase}

-- ---- sources

-- this source of the flat design is that source at a path
pub data Image (ms : List Module) (top : Module) (path : Path) : Source → Source → Type 0 where
  OfNet : {net number : ℕ} → IsAt (net_spots ms top) path net number → Image ms top path (Net net) (Net number)
  OfBit : {bit : Bool} → Image ms top path (Tied bit) (Tied bit)
  OfPin : {i number pin : ℕ} → IsAt (instance_spots ms top) path i number → Image ms top path (Loose i pin) (Loose number pin)

abbrev pub Images : List Module → (top : Module) → Path → List Source → List Source → Type 0
Images ms top path [] [] = Unit {0}
Images ms top path (s ∷ ss) (t ∷ ts) = Image ms top path s t × Images ms top path ss ts
Images ms top path [] (t ∷ ts) = ⊥
Images ms top path (s ∷ ss) [] = ⊥

abbrev pub ImageIfAny : List Module → (top : Module) → Path → Option Source → Option Source → Type 0
ImageIfAny ms top path None None = Unit {0}
ImageIfAny ms top path (Some s) (Some t) = Image ms top path s t
ImageIfAny ms top path None (Some t) = ⊥
ImageIfAny ms top path (Some s) None = ⊥

-- ---- drivers

-- this driver of the flat design is that driver at a path
pub data ImageDriver (ms : List Module) (top : Module) (path : Path) : Driver → Driver → Type 0 where
  OfInput : path ≡ [] → ImageDriver ms top path Input Input
  OfGate : {k : GateKind} {ss ts : List Source} → Images ms top path ss ts → ImageDriver ms top path (Gate k ss) (Gate k ts)
  OfJoin : {s t : Source} → Image ms top path s t → ImageDriver ms top path (Joined s) (Joined t)
  OfFlop : {i number : ℕ} {inverted : Bool} → IsAt (instance_spots ms top) path i number → ImageDriver ms top path (Flop i inverted) (Flop number inverted)
  OfLockup : {i number : ℕ} → IsAt (instance_spots ms top) path i number → ImageDriver ms top path (Lockup i) (Lockup number)
  OfNone : ImageDriver ms top path Free Free

-- this net and its driver are those at a path
pub record ImageDriven (ms : List Module) (top : Module) (path : Path) (d e : Driven) : Type 0 where
  pub net : IsAt (net_spots ms top) path d.0 e.0
  pub driver : ImageDriver ms top path d.1 e.1
  -- a port's bit keeps its number
  pub input : d.1 ≡ Input → d.0 ≡ e.0

abbrev pub ImagesDriven : List Module → (top : Module) → Path → List Driven → List Driven → Type 0
ImagesDriven ms top path [] [] = Unit {0}
ImagesDriven ms top path (d ∷ ds) (e ∷ es) = ImageDriven ms top path d e × ImagesDriven ms top path ds es
ImagesDriven ms top path [] (e ∷ es) = ⊥
ImagesDriven ms top path (d ∷ ds) [] = ⊥

-- what there is for one of a list, and the other way
pub record Forward (ms : List Module) (top : Module) (path : Path) (d : Driven) (es : List Driven) : Type 0 where
  pub e : Driven
  pub there : In Driven es e
  pub image : ImageDriven ms top path d e

pub record Backward (ms : List Module) (top : Module) (path : Path) (ds : List Driven) (e : Driven) : Type 0 where
  pub d : Driven
  pub there : In Driven ds d
  pub image : ImageDriven ms top path d e

pub forward : (ms : List Module) (top : Module) (path : Path) (ds es : List Driven) (k : ℕ) (d : Driven) → ImagesDriven ms top path ds es → slice_get ds k ≡ Some d → Forward ms top path d es
forward ms top path [] es k d h at = absurd (let f : ⊥ = cc in f)
forward ms top path (x ∷ ds) [] k d h at = absurd h
forward ms top path (x ∷ ds) (y ∷ es) zero d h at = let same : x ≡ d = cc in record { e = y; there = record { place = 0; at = refl }; image = subst (λ (z : Driven). ImageDriven ms top path z y) same h.0 }
forward ms top path (x ∷ ds) (y ∷ es) (suc k) d h at = let r = forward ms top path ds es k d h.1 at in record { e = r.e; there = record { place = suc r.there.place; at = r.there.at }; image = r.image }

pub backward : (ms : List Module) (top : Module) (path : Path) (ds es : List Driven) (k : ℕ) (e : Driven) → ImagesDriven ms top path ds es → slice_get es k ≡ Some e → Backward ms top path ds e
backward ms top path ds [] k e h at = absurd (let f : ⊥ = cc in f)
backward ms top path [] (y ∷ es) k e h at = absurd h
backward ms top path (x ∷ ds) (y ∷ es) zero e h at = let same : y ≡ e = cc in record { d = x; there = record { place = 0; at = refl }; image = subst (λ (z : Driven). ImageDriven ms top path x z) same h.0 }
backward ms top path (x ∷ ds) (y ∷ es) (suc k) e h at = let r = backward ms top path ds es k e h.1 at in record { d = r.d; there = record { place = suc r.there.place; at = r.there.at }; image = r.image }

both_driven : (ms : List Module) (top : Module) (path : Path) (xs bs cs ds : List Driven) → ImagesDriven ms top path xs bs → ImagesDriven ms top path cs ds → ImagesDriven ms top path (xs ++ cs) (bs ++ ds)
both_driven ms top path [] [] cs ds h k = k
both_driven ms top path (a ∷ xs) (b ∷ bs) cs ds h k = (h.0, both_driven ms top path xs bs cs ds h.1 k)
both_driven ms top path [] (b ∷ bs) cs ds h k = absurd h
both_driven ms top path (a ∷ xs) [] cs ds h k = absurd h

-- ---- the pins of an instance

-- an instance is known by its parts
whole_same : (x : Instance) (cell : CellRef) (pins : List Signal) → x.cell ≡ cell → x.pins ≡ pins → x ≡ record { name = x.name; cell = cell; pins = pins }
whole_same x cell pins same are = ap₂ (λ (c : CellRef) (ps : List Signal). record { name = x.name; cell = c; pins = ps }) same are

module _ (ms : List Module) (top : Module) (path : Path) (m : Module) (first i number : ℕ) (base : HasBase (net_spots ms top) path m first) (cell : IsAt (instance_spots ms top) path i number) where
  pub source_image : (pin : ℕ) (s : Signal) → IsLive (length m.nets) s → Image ms top path (source_of i pin s) (source_of number pin (moved first s))
  source_image pin (signal.Net net) live = OfNet (base net.0 live)
  source_image pin (signal.Constant bit) live = OfBit
  source_image pin signal.Unconnected live = OfPin cell

  inputs_by : (b : Bool) (x y : Source) (xs ys : List Source) → Image ms top path x y → Images ms top path xs ys → Images ms top path (cond b (x ∷ xs) xs) (cond b (y ∷ ys) ys)
  inputs_by true x y xs ys h k = (h, k)
  inputs_by false x y xs ys h k = k

  pub inputs_image : (pin : ℕ) (roles : List Role) (signals : List Signal) → AreLive (length m.nets) signals →
      Images ms top path (inputs_of i (connections_from pin roles signals)) (inputs_of number (connections_from pin roles (map (moved first) signals)))
  inputs_image pin [] signals live = tt
  inputs_image pin (r ∷ roles) [] live = tt
  inputs_image pin (r ∷ roles) (s ∷ signals) live =
      inputs_by (is_input r) (source_of i pin s) (source_of number pin (moved first s)) (inputs_of i (connections_from (suc pin) roles signals)) (inputs_of number (connections_from (suc pin) roles (map (moved first) signals)))
      (source_image pin s (live 0 s refl)) (inputs_image (suc pin) roles signals (λ place t at. live (suc place) t at))

  pub lockup_image : (pin : ℕ) (roles : List Role) (signals : List Signal) → AreLive (length m.nets) signals →
      Images ms top path (lockup_inputs i (connections_from pin roles signals)) (lockup_inputs number (connections_from pin roles (map (moved first) signals)))
  lockup_image pin [] signals live = tt
  lockup_image pin (r ∷ roles) [] live = tt
  lockup_image pin (r ∷ roles) (s ∷ signals) live =
      inputs_by (is_lockup_input r) (source_of i pin s) (source_of number pin (moved first s)) (lockup_inputs i (connections_from (suc pin) roles signals)) (lockup_inputs number (connections_from (suc pin) roles (map (moved first) signals)))
      (source_image pin s (live 0 s refl)) (lockup_image (suc pin) roles signals (λ place t at. live (suc place) t at))

  pin_by : (b : Bool) (x y : Source) (a o : Option Source) → Image ms top path x y → ImageIfAny ms top path a o → ImageIfAny ms top path (cond b (Some x) a) (cond b (Some y) o)
  pin_by true x y a o h k = h
  pin_by false x y a o h k = k

  pub pin_image : (r : Role) (pin : ℕ) (roles : List Role) (signals : List Signal) → AreLive (length m.nets) signals →
      ImageIfAny ms top path (pin_of r i (connections_from pin roles signals)) (pin_of r number (connections_from pin roles (map (moved first) signals)))
  pin_image r pin [] signals live = tt
  pin_image r pin (x ∷ roles) [] live = tt
  pin_image r pin (x ∷ roles) (s ∷ signals) live =
      pin_by (same_role r x) (source_of i pin s) (source_of number pin (moved first s)) (pin_of r i (connections_from (suc pin) roles signals)) (pin_of r number (connections_from (suc pin) roles (map (moved first) signals)))
      (source_image pin s (live 0 s refl)) (pin_image r (suc pin) roles signals (λ place t at. live (suc place) t at))

  -- ---- what the instance drives

  kind_image : (k : Kind) (inverted : Bool) (ss ts : List Source) → Images ms top path ss ts → ImageDriver ms top path (driver_of_kind k i inverted ss) (driver_of_kind k number inverted ts)
  kind_image kind.Opaque inverted ss ts h = OfNone
  kind_image kind.Lockup inverted ss ts h = OfLockup cell
  kind_image (kind.Flop flop) inverted ss ts h = OfFlop cell
  kind_image (kind.Gate gate) inverted ss ts h = OfGate h

  no_input : (k : Kind) (inverted : Bool) (ss : List Source) → driver_of_kind k i inverted ss ≡ Input → ⊥
  no_input kind.Opaque inverted ss is = cc
  no_input _ inverted ss is = cc

  signal_image : (s : Signal) (d e : Driver) → (d ≡ Input → ⊥) → IsLive (length m.nets) s → ImageDriver ms top path d e → ImagesDriven ms top path (at_signal s d) (at_signal (moved first s) e)
  signal_image (signal.Net net) d e none live h = (record { net = base net.0 live; driver = h; input = λ is. absurd (none is) }, tt)
  signal_image (signal.Constant bit) d e none live h = tt
  signal_image signal.Unconnected d e none live h = tt

  role_image : (r : Role) (k : Kind) (ss ts : List Source) (s : Signal) → IsLive (length m.nets) s → Images ms top path ss ts → ImagesDriven ms top path (at_role r k i ss s) (at_role r k number ts (moved first s))
  role_image role.Output k ss ts s live h = signal_image s (driver_of_kind k i false ss) (driver_of_kind k number false ts) (no_input k false ss) live (kind_image k false ss ts h)
  role_image role.Inverted k ss ts s live h = signal_image s (driver_of_kind k i true ss) (driver_of_kind k number true ts) (no_input k true ss) live (kind_image k true ss ts h)
  role_image role.Input k ss ts s live h = tt
  role_image role.Clock k ss ts s live h = tt
  role_image role.Din k ss ts s live h = tt
  role_image role.Reset k ss ts s live h = tt
  role_image role.Preset k ss ts s live h = tt
  role_image role.ScanIn k ss ts s live h = tt
  role_image role.ScanEnable k ss ts s live h = tt

  pins_image : (k : Kind) (ss ts : List Source) (pin : ℕ) (roles : List Role) (signals : List Signal) → AreLive (length m.nets) signals → Images ms top path ss ts →
      ImagesDriven ms top path (driven_by_pins k i ss (connections_from pin roles signals)) (driven_by_pins k number ts (connections_from pin roles (map (moved first) signals)))
  pins_image k ss ts pin [] signals live h = tt
  pins_image k ss ts pin (r ∷ roles) [] live h = tt
  pins_image k ss ts pin (r ∷ roles) (s ∷ signals) live h =
      both_driven ms top path (at_role r k i ss s) (at_role r k number ts (moved first s)) (driven_by_pins k i ss (connections_from (suc pin) roles signals)) (driven_by_pins k number ts (connections_from (suc pin) roles (map (moved first) signals)))
      (role_image r k ss ts s (live 0 s refl) h) (pins_image k ss ts (suc pin) roles signals (λ place t at. live (suc place) t at) h)

  -- what an instance drives is what the one at the spot drives
  pub instance_image : (library : List Cell) (there x : Instance) → AreLive (length m.nets) there.pins → x.cell ≡ there.cell → x.pins ≡ map (moved first) there.pins →
      ImagesDriven ms top path (driven_by library i there) (driven_by library number x)
  instance_image library there x live same pins =
      let s = shape_of library there.cell in
      let own : Instance = record { name = x.name; cell = there.cell; pins = map (moved first) there.pins } in
      let is : x ≡ own = whole_same x there.cell (map (moved first) there.pins) same pins in
      subst (λ (y : Instance). ImagesDriven ms top path (driven_by library i there) (driven_by library number y)) (sym is)
      (pins_image s.kind (inputs_of i (connections_from 0 s.roles there.pins)) (inputs_of number (connections_from 0 s.roles (map (moved first) there.pins))) 0 s.roles there.pins live (inputs_image 0 s.roles there.pins live))
