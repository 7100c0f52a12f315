-- Sources of joined modules trace to the roots, and show the clocks, of the flat design's sources.
use Rattle.std.proofs.Common.{ℕ, zero, suc, ◌<◌, ◌≡◌, ◌⊎◌, inl, inr, Bool, true, false, List, [], ◌∷◌, length, map, Option, None, Some, refl, sym, ap, subst, arith, ◌∙◌}
use Rattle.std.proofs.lemmas.Bool.{cases_eq}
use Rattle.std.proofs.lemmas.Option.{slice_get_within}
use Rattle.dft_cells.specs.declared.cell.Cell.{Cell}
use Rattle.dft_cells.specs.declared.kind.Gate.{Gate as GateKind}
use Rattle.dft_cells.specs.declared.kind.Gate.TheVariants.{Buf, Inv, Tie0, Tie1}
use Rattle.dft_netlist.specs.declared.instance.CellRef.{CellRef}
use Rattle.dft_netlist.specs.declared.instance.Instance.{Instance}
use Rattle.dft_behavior.specs.NetRoots.{NetRoot, From, Bit, passed_by_gate, turned, Rooted, AtPort, AtConstant, AtTie, ThroughGate, ThroughJoin}
use Rattle.dft_behavior.specs.ClockRoots.{ClockRoot, ClockRooted, turn_of, clock_root_of}
use Rattle.dft_netlist.specs.Drivers.{Source, Net, Tied, Loose, Driver, Input, Gate, Joined, Free, source_of, nets_of, nets_read, Connection, lockup_inputs, connections_from, connections_of, shape_of, pins_of, pins_at, all_driven, driver, IsOrdered}
use Rattle.dft_netlist.specs.Netlist.{Netlist}
use Rattle.dft_netlist.specs.Orders.{Has, reads_of}
use Rattle.dft_behavior.specs.Traces.{Root, Port, Constant, Other, Traces, root_of}
use Rattle.dft_behavior.proofs.ClockWalks.{walk_finds_clock, clock_found}
use Rattle.dft_behavior.proofs.RootForms.{traced_port, traced_constant, traced_tie, traced_buffer, traced_join, clock_port, clock_gate, clock_join, passes_turn, OfTraced, traced_on, traced_over, traced_out, OfClock, clock_on as clock_turned}
use Rattle.dft_behavior.proofs.Walks.{walk_finds, port_found, constant_found, one_no_bit}
use Rattle.dft_modules.specs.Modules.{Module}
use Rattle.dft_hier.specs.Flat.{moved}
use Rattle.dft_hier_laws.specs.Joined as joined
use Rattle.dft_hier_laws.specs.Joined.{DrivenInside, Meets, JoinedTraces, HasRoot, Traced, Untraced, JoinedClocks, ShowsClock, Shown, NotShown, Roots, alone}
use Rattle.dft_hier.specs.Paths.{Path, Spot, below, net_spots}
use Rattle.dft_hier_laws.proofs.DriverImages.{IsFlatOf, Origin, Inside, MetIn, MetOut, net_once, cell_at, inside_forward, inside_image, in_forward, in_image, out_forward, out_image, origin, decide}
use Rattle.dft_hier_laws.proofs.Images.{Image, OfNet, OfBit, OfPin, Images, ImageDriver, OfInput, OfGate, OfJoin, OfFlop, OfLockup, OfNone, lockup_image}
use Rattle.dft_hier_laws.proofs.NetRanks.{net_ranks}
use Rattle.dft_hier_laws.proofs.Positions.{IsAt}
use Rattle.dft_hier.proofs.SpotLemmas.{spot}

-- ---- drivers of the flat design, by their forms

record GateImage (ms : List Module) (top : Module) (path : Path) (k : GateKind) (ss : List Source) (x : Driver) : Type 0 where
  ts : List Source
  images : Images ms top path ss ts
  is : x ≡ Gate k ts

gate_on : (ms : List Module) (top : Module) (path : Path) (k : GateKind) (ss : List Source) (x : Driver) → ImageDriver ms top path (Gate k ss) x → GateImage ms top path k ss x
gate_on ms top path k ss x (OfGate {ts = ts} h) = record { ts = ts; images = h; is = refl }

record GateBefore (ms : List Module) (top : Module) (path : Path) (k : GateKind) (ts : List Source) (d : Driver) : Type 0 where
  ss : List Source
  images : Images ms top path ss ts
  is : d ≡ Gate k ss

gate_back : (ms : List Module) (top : Module) (path : Path) (k : GateKind) (ts : List Source) (d : Driver) → ImageDriver ms top path d (Gate k ts) → GateBefore ms top path k ts d
gate_back ms top path k ts d (OfGate {ss = ss} h) = record { ss = ss; images = h; is = refl }

record JoinImage (ms : List Module) (top : Module) (path : Path) (s : Source) (x : Driver) : Type 0 where
  t : Source
  image : Image ms top path s t
  is : x ≡ Joined t

join_on : (ms : List Module) (top : Module) (path : Path) (s : Source) (x : Driver) → ImageDriver ms top path (Joined s) x → JoinImage ms top path s x
join_on ms top path s x (OfJoin {t = t} h) = record { t = t; image = h; is = refl }

record JoinBefore (ms : List Module) (top : Module) (path : Path) (t : Source) (d : Driver) : Type 0 where
  s : Source
  image : Image ms top path s t
  is : d ≡ Joined s

join_back : (ms : List Module) (top : Module) (path : Path) (t : Source) (d : Driver) → ImageDriver ms top path d (Joined t) → JoinBefore ms top path t d
join_back ms top path t d (OfJoin {s = s} h) = record { s = s; image = h; is = refl }

input_on : (ms : List Module) (top : Module) (path : Path) (x : Driver) → ImageDriver ms top path Input x → x ≡ Input
input_on ms top path x (OfInput h) = refl

input_back : (ms : List Module) (top : Module) (path : Path) (d : Driver) → ImageDriver ms top path d Input → d ≡ Input
input_back ms top path d (OfInput h) = refl

-- ---- what gates pass on

record PassedImage (ms : List Module) (top : Module) (path : Path) (k : GateKind) (s : Source) (ts : List Source) : Type 0 where
  t : Source
  image : Image ms top path s t
  is : passed_by_gate k ts ≡ From t false

record PassedBefore (ms : List Module) (top : Module) (path : Path) (k : GateKind) (ss : List Source) (t : Source) : Type 0 where
  s : Source
  image : Image ms top path s t
  is : passed_by_gate k ss ≡ From s false

-- a tie passes on its bit whatever stands at its inputs
passed_bit : (k : GateKind) (ss ts : List Source) (bit : Bool) → passed_by_gate k ss ≡ Bit bit → passed_by_gate k ts ≡ Bit bit
passed_bit Buf ss ts bit is = absurd (one_no_bit false ss bit is)
passed_bit Inv ss ts bit is = absurd (one_no_bit true ss bit is)
passed_bit Tie0 ss ts bit is = is
passed_bit Tie1 ss ts bit is = is
passed_bit _ ss ts bit is = absurd cc

passed_on : (ms : List Module) (top : Module) (path : Path) (k : GateKind) (ss ts : List Source) (s : Source) → passed_by_gate k ss ≡ From s false → Images ms top path ss ts → PassedImage ms top path k s ts
passed_on ms top path Buf [] ts s is h = absurd cc
passed_on ms top path Buf (x ∷ []) [] s is h = absurd h
passed_on ms top path Buf (x ∷ []) (t ∷ []) s is h = let same : x ≡ s = cc in record { t = t; image = subst (λ (y : Source). Image ms top path y t) same h.0; is = refl }
passed_on ms top path Buf (x ∷ []) (t ∷ more ∷ ts) s is h = absurd h.1
passed_on ms top path Buf (x ∷ more ∷ ss) ts s is h = absurd cc
passed_on ms top path Inv [] ts s is h = absurd cc
passed_on ms top path Inv (x ∷ []) ts s is h = absurd cc
passed_on ms top path Inv (x ∷ more ∷ ss) ts s is h = absurd cc
passed_on ms top path _ ss ts s is h = absurd cc

passed_back : (ms : List Module) (top : Module) (path : Path) (k : GateKind) (ss ts : List Source) (t : Source) → passed_by_gate k ts ≡ From t false → Images ms top path ss ts → PassedBefore ms top path k ss t
passed_back ms top path Buf ss [] t is h = absurd cc
passed_back ms top path Buf [] (x ∷ []) t is h = absurd h
passed_back ms top path Buf (s ∷ []) (x ∷ []) t is h = let same : x ≡ t = cc in record { s = s; image = subst (λ (y : Source). Image ms top path s y) same h.0; is = refl }
passed_back ms top path Buf (s ∷ more ∷ ss) (x ∷ []) t is h = absurd h.1
passed_back ms top path Buf ss (x ∷ more ∷ ts) t is h = absurd cc
passed_back ms top path Inv ss [] t is h = absurd cc
passed_back ms top path Inv ss (x ∷ []) t is h = absurd cc
passed_back ms top path Inv ss (x ∷ more ∷ ts) t is h = absurd cc
passed_back ms top path _ ss ts t is h = absurd cc

record OneImage (ms : List Module) (top : Module) (path : Path) (s : Source) (ts : List Source) : Type 0 where
  t : Source
  image : Image ms top path s t
  is : ts ≡ t ∷ []

one_on : (ms : List Module) (top : Module) (path : Path) (s : Source) (ts : List Source) → Images ms top path (s ∷ []) ts → OneImage ms top path s ts
one_on ms top path s [] h = absurd h
one_on ms top path s (t ∷ []) h = record { t = t; image = h.0; is = refl }
one_on ms top path s (t ∷ more ∷ ts) h = absurd h.1

record OneBefore (ms : List Module) (top : Module) (path : Path) (ss : List Source) (t : Source) : Type 0 where
  s : Source
  image : Image ms top path s t
  is : ss ≡ s ∷ []

one_back : (ms : List Module) (top : Module) (path : Path) (ss : List Source) (t : Source) → Images ms top path ss (t ∷ []) → OneBefore ms top path ss t
one_back ms top path [] t h = absurd h
one_back ms top path (s ∷ []) t h = record { s = s; image = h.0; is = refl }
one_back ms top path (s ∷ more ∷ ss) t h = absurd h.1

-- ---- spots

pub same_spot : (spots : List Spot) (p q : Path) (a b k : ℕ) → IsAt spots p a k → IsAt spots q b k → (p ≡ q) × (a ≡ b)
same_spot spots p q a b k x y =
    let both : Some (spot p a) ≡ Some (spot q b) = sym x ∙ y in
    let same : spot p a ≡ spot q b = cc in
    (ap (λ (s : Spot). s.path) same, ap (λ (s : Spot). s.at) same)

same_path : (p q : Path) → (p ≡ q) ⊎ (p ≡ q → ⊥)
same_path [] [] = inl refl
same_path [] (y ∷ q) = inr (λ e. cc)
same_path (x ∷ p) [] = inr (λ e. cc)
same_path (x ∷ p) (y ∷ q) = elim (cases_eq x y) [
  | inl same ↦ elim (same_path p q) [
    | inl rest ↦ inl (cc)
    | inr other ↦ inr (λ e. other (let f : p ≡ q = cc in f))
  ]
  | inr other ↦ inr (λ e. other (let f : x ≡ y = cc in f))
]

-- a spot has a number, or none
abbrev pub Numbered : List Spot → Path → ℕ → Type 0
Numbered spots path at = ((k : ℕ) × IsAt spots path at k) ⊎ ((k : ℕ) → IsAt spots path at k → ⊥)

numbered_by : (s : Spot) (spots : List Spot) (path : Path) (at : ℕ) → (s ≡ spot path at) ⊎ (s ≡ spot path at → ⊥) → Numbered spots path at → Numbered (s ∷ spots) path at
numbered_by s spots path at (inl same) rest = inl (0, ap (λ (x : Spot). Some x) same)
numbered_by s spots path at (inr other) (inl there) = inl (suc there.0, there.1)
numbered_by s spots path at (inr other) (inr none) = inr (λ k is. not_there k is)
  where
    not_there : (k : ℕ) → IsAt (s ∷ spots) path at k → ⊥
    not_there zero is = other (let f : s ≡ spot path at = cc in f)
    not_there (suc k) is = none k is

is_spot : (s : Spot) (path : Path) (at : ℕ) → (s ≡ spot path at) ⊎ (s ≡ spot path at → ⊥)
is_spot s path at = elim (same_path s.path path) [
  | inl paths ↦ elim (cases_eq s.at at) [
    | inl ats ↦ inl (spots_same s path at paths ats)
    | inr other ↦ inr (λ e. other (ap (λ (x : Spot). x.at) e))
  ]
  | inr other ↦ inr (λ e. other (ap (λ (x : Spot). x.path) e))
]
  where
    spots_same : (s : Spot) (path : Path) (at : ℕ) → s.path ≡ path → s.at ≡ at → s ≡ spot path at
    spots_same s path at p q = ap (λ (x : Path). spot x s.at) p ∙ ap (λ (n : ℕ). spot path n) q

pub numbered : (spots : List Spot) (path : Path) (at : ℕ) → Numbered spots path at
numbered [] path at = inr (λ k is. (let f : ⊥ = cc in f))
numbered (s ∷ spots) path at = numbered_by s spots path at (is_spot s path at) (numbered spots path at)

-- ---- no walk ends at another root

no_other : (ms : List Module) (library : List Cell) (top : Module) (path : Path) (s : Source) (root : Root) → JoinedTraces ms library top path s root → root ≡ Other → ⊥
no_other ms library top path s root (joined.AtPort inside) e = cc
no_other ms library top path s root joined.AtConstant e = cc
no_other ms library top path s root (joined.AtTie inside passes) e = cc
no_other ms library top path s root (joined.ThroughBuffer inside passes rest) e = no_other ms library top _ _ root rest e
no_other ms library top path s root (joined.ThroughJoin inside rest) e = no_other ms library top _ _ root rest e
no_other ms library top path s root (joined.Inwards meets rest) e = no_other ms library top _ _ root rest e
no_other ms library top path s root (joined.Outwards meets rest) e = no_other ms library top _ _ root rest e

module _ (ms : List Module) (library : List Cell) (top : Module) (design : Netlist) (f : IsFlatOf ms library top design) where
  -- ---- the origin of a net that something drives

  live : (path : Path) (net k : ℕ) → IsAt (net_spots ms top) path net k → k < length design.nets
  live path net k at = let there = slice_get_within (net_spots ms top) k (spot path net) at in let count = f.count in omega arith

  pub origin_at : (k : ℕ) → (driver design k ≡ Free → ⊥) → Origin ms library top k
  origin_at k some = elim (decide (all_driven design) k) [
    | inl there ↦ origin ms library top design f (k, driver design k) there
    | inr none ↦ absurd (some none.0)
  ]

  -- the port's bit of the top has its own number
  pub input_number : (path : Path) (net k : ℕ) → DrivenInside ms library top path net Input → IsAt (net_spots ms top) path net k → k ≡ net
  input_number path net k inside at =
      let r = inside_forward ms library top design f path net Input inside in
      net_once ms library top design f path net k r.e.0 at r.image.net ∙ sym (r.image.input refl)

  -- ---- an order

  image_live : (path : Path) (s t : Source) → Image ms top path s t → (r : ℕ) → Has (nets_of (t ∷ [])) r → r < length design.nets
  image_live path s t (OfNet {net = net} {number = k} at) r h = elim h [
    | inl same ↦ subst (λ (n : ℕ). n < length design.nets) (sym same) (live path net k at)
    | inr none ↦ absurd none
  ]
  image_live path s t OfBit r h = absurd h
  image_live path s t (OfPin at) r h = absurd h

  has_either : (t : Source) (ts : List Source) (r : ℕ) → Has (nets_of (t ∷ ts)) r → Has (nets_of (t ∷ [])) r ⊎ Has (nets_of ts) r
  has_either (Net net) ts r h = elim h [
    | inl same ↦ inl (inl same)
    | inr rest ↦ inr rest
  ]
  has_either (Tied bit) ts r h = inr h
  has_either (Loose i pin) ts r h = inr h

  images_live : (path : Path) (ss ts : List Source) → Images ms top path ss ts → (r : ℕ) → Has (nets_of ts) r → r < length design.nets
  images_live path [] [] images r h = absurd h
  images_live path (s ∷ ss) (t ∷ ts) images r h = elim (has_either t ts r h) [
    | inl first ↦ image_live path s t images.0 r first
    | inr rest ↦ images_live path ss ts images.1 r rest
  ]
  images_live path [] (t ∷ ts) images r h = absurd images
  images_live path (s ∷ ss) [] images r h = absurd images

  driver_live : (path : Path) (d e : Driver) → ImageDriver ms top path d e → (r : ℕ) → Has (nets_read design e) r → r < length design.nets
  driver_live path d e (OfInput is) r h = absurd h
  driver_live path d e (OfGate {ss = ss} {ts = ts} images) r h = images_live path ss ts images r h
  driver_live path d e (OfJoin {s = s} {t = t} image) r h = image_live path s t image r h
  driver_live path d e (OfFlop at) r h = absurd h
  driver_live path d e OfNone r h = absurd h
  driver_live path d e (OfLockup {i = i} {number = k} at) r h =
      let c = cell_at ms library top design f path i k at in
      let s = shape_of library c.there.cell in
      let pins : pins_of design k ≡ connections_of library c.x = ap (λ (o : Option Instance). pins_at design.library o) c.is.x_at ∙ ap (λ (cells : List Cell). connections_of cells c.x) f.cells in
      let mine : connections_of library c.x ≡ connections_from 0 s.roles (map (moved c.is.first) c.there.pins) =
      ap (λ (cell : CellRef). connections_from 0 (shape_of library cell).roles c.x.pins) c.is.cell ∙ ap (connections_from 0 s.roles) c.is.pins in
      images_live path (lockup_inputs i (connections_from 0 s.roles c.there.pins)) (lockup_inputs k (connections_from 0 s.roles (map (moved c.is.first) c.there.pins)))
      (lockup_image ms top path c.m c.is.first i k c.is.base at 0 s.roles c.there.pins c.is.sound.live) r
      (subst (λ (cs : List Connection). Has (nets_of (lockup_inputs k cs)) r) (pins ∙ mine) h)

  origin_live : (k r : ℕ) → Origin ms library top k → Has (reads_of design k) r → (k < length design.nets) × (r < length design.nets)
  origin_live k r (Inside path net d at inside) h = (live path net k at, driver_live path d (driver design k) (inside_image ms library top design f path net k d inside at) r h)
  origin_live k r (MetIn path place net to at meets) h =
      let image = in_image ms library top design f path place net k to meets at in
      (live (below path place) net k at, image_live path (source_of 0 0 to) image.source image.image r (subst (λ (d : Driver). Has (nets_read design d) r) image.driver_is h))
  origin_live k r (MetOut path place inner net at meets) h =
      let image = out_image ms library top design f path place inner net k meets at in
      (live path net k at, image_live (below path place) (Net inner) (Net image.source) (OfNet image.at) r (subst (λ (d : Driver). Has (nets_read design d) r) image.driver_is h))

  reads_live : (k r : ℕ) → Has (reads_of design k) r → (k < length design.nets) × (r < length design.nets)
  reads_live k r h = elim (decide (all_driven design) k) [
    | inl there ↦ origin_live k r (origin ms library top design f (k, driver design k) there) h
    | inr none ↦ absurd (subst (λ (d : Driver). Has (nets_read design d) r) none.0 h)
  ]

  ranked : (rank : ℕ → ℕ) × IsOrdered design rank
  ranked = net_ranks design f.orderable reads_live

  -- ---- traces, both ways

  trace_on : (path : Path) (s : Source) (root : Root) → JoinedTraces ms library top path s root → (t : Source) → Image ms top path s t → Traces design t root
  trace_on path s root (joined.AtPort {net = net} inside) t (OfNet {number = k} at) =
      let is = input_on ms top path (driver design k) (inside_image ms library top design f path net k Input inside at) in
      subst (λ (p : ℕ). Traces design (Net k) (Port p)) (input_number path net k inside at) (traced_port design k is)
  trace_on path s root (joined.AtConstant {bit = bit}) t OfBit = traced_constant design bit
  trace_on path s root (joined.AtTie {net = net} {kind = k} {inputs = inputs} {bit = bit} inside passes) t (OfNet {number = number} at) =
      let g = gate_on ms top path k inputs (driver design number) (inside_image ms library top design f path net number (Gate k inputs) inside at) in
      traced_tie design number k g.ts bit g.is (passed_bit k inputs g.ts bit passes)
  trace_on path s root (joined.ThroughBuffer {net = net} {kind = k} {inputs = inputs} {source = source} inside passes rest) t (OfNet {number = number} at) =
      let g = gate_on ms top path k inputs (driver design number) (inside_image ms library top design f path net number (Gate k inputs) inside at) in
      let p = passed_on ms top path k inputs g.ts source passes g.images in
      traced_buffer design number k g.ts p.t root g.is p.is (trace_on path source root rest p.t p.image)
  trace_on path s root (joined.ThroughJoin {net = net} {source = source} inside rest) t (OfNet {number = number} at) =
      let j = join_on ms top path source (driver design number) (inside_image ms library top design f path net number (Joined source) inside at) in
      traced_join design number j.t root j.is (trace_on path source root rest j.t j.image)
  trace_on path s root (joined.Inwards {path = outer} {place = place} {net = net} {to = to} meets rest) t (OfNet {number = number} at) =
      let i = in_image ms library top design f outer place net number to meets at in
      traced_join design number i.source root i.driver_is (trace_on outer (source_of 0 0 to) root rest i.source i.image)
  trace_on path s root (joined.Outwards {place = place} {inner = inner} {net = net} meets rest) t (OfNet {number = number} at) =
      let o = out_image ms library top design f path place inner net number meets at in
      traced_join design number (Net o.source) root o.driver_is (trace_on (below path place) (Net inner) root rest (Net o.source) (OfNet o.at))

  -- how a net's trace goes on where its driver comes from somewhere
  abbrev Back : Source → Root → Type 0
  Back t root = (path : Path) (s : Source) → Image ms top path s t → JoinedTraces ms library top path s root

  moved_trace : (p q : Path) (a b : ℕ) (root : Root) → (p ≡ q) × (a ≡ b) → JoinedTraces ms library top p (Net a) root → JoinedTraces ms library top q (Net b) root
  moved_trace p q a b root same h = subst (λ (x : Path). JoinedTraces ms library top x (Net b) root) same.0 (subst (λ (n : ℕ). JoinedTraces ms library top p (Net n) root) same.1 h)

  port_back : (k : ℕ) → Origin ms library top k → driver design k ≡ Input → (path : Path) (net : ℕ) → IsAt (net_spots ms top) path net k → JoinedTraces ms library top path (Net net) (Port k)
  port_back k (Inside p a d at inside) is path net here =
      let image = subst (ImageDriver ms top p d) is (inside_image ms library top design f p a k d inside at) in
      let input = subst (DrivenInside ms library top p a) (input_back ms top p d image) inside in
      subst (λ (n : ℕ). JoinedTraces ms library top path (Net net) (Port n)) (sym (input_number p a k input at))
      (moved_trace p path a net (Port a) (same_spot (net_spots ms top) p path a net k at here) (joined.AtPort input))
  port_back k (MetIn p place a to at meets) is path net here = let i = in_image ms library top design f p place a k to meets at in absurd (let e = sym i.driver_is ∙ is in let g : ⊥ = cc in g)
  port_back k (MetOut p place inner a at meets) is path net here = let o = out_image ms library top design f p place inner a k meets at in absurd (let e = sym o.driver_is ∙ is in let g : ⊥ = cc in g)

  tie_back : (k : ℕ) (kind : GateKind) (ts : List Source) (bit : Bool) → Origin ms library top k → driver design k ≡ Gate kind ts → passed_by_gate kind ts ≡ Bit bit → (path : Path) (net : ℕ) → IsAt (net_spots ms top) path net k →
      JoinedTraces ms library top path (Net net) (Constant bit)
  tie_back k kind ts bit (Inside p a d at inside) is passes path net here =
      let g = gate_back ms top p kind ts d (subst (ImageDriver ms top p d) is (inside_image ms library top design f p a k d inside at)) in
      moved_trace p path a net (Constant bit) (same_spot (net_spots ms top) p path a net k at here) (joined.AtTie (subst (DrivenInside ms library top p a) g.is inside) (passed_bit kind ts g.ss bit passes))
  tie_back k kind ts bit (MetIn p place a to at meets) is passes path net here = let i = in_image ms library top design f p place a k to meets at in absurd (let e = sym i.driver_is ∙ is in let g : ⊥ = cc in g)
  tie_back k kind ts bit (MetOut p place inner a at meets) is passes path net here = let o = out_image ms library top design f p place inner a k meets at in absurd (let e = sym o.driver_is ∙ is in let g : ⊥ = cc in g)

  buffer_back : (k : ℕ) (kind : GateKind) (ts : List Source) (t : Source) (root : Root) → Origin ms library top k → driver design k ≡ Gate kind ts → passed_by_gate kind ts ≡ From t false → Back t root → (path : Path) (net : ℕ) → IsAt (net_spots ms top) path net k →
      JoinedTraces ms library top path (Net net) root
  buffer_back k kind ts t root (Inside p a d at inside) is passes back path net here =
      let g = gate_back ms top p kind ts d (subst (ImageDriver ms top p d) is (inside_image ms library top design f p a k d inside at)) in
      let b = passed_back ms top p kind g.ss ts t passes g.images in
      moved_trace p path a net root (same_spot (net_spots ms top) p path a net k at here) (joined.ThroughBuffer (subst (DrivenInside ms library top p a) g.is inside) b.is (back p b.s b.image))
  buffer_back k kind ts t root (MetIn p place a to at meets) is passes back path net here = let i = in_image ms library top design f p place a k to meets at in absurd (let e = sym i.driver_is ∙ is in let g : ⊥ = cc in g)
  buffer_back k kind ts t root (MetOut p place inner a at meets) is passes back path net here = let o = out_image ms library top design f p place inner a k meets at in absurd (let e = sym o.driver_is ∙ is in let g : ⊥ = cc in g)

  join_back_trace : (k : ℕ) (t : Source) (root : Root) → Origin ms library top k → driver design k ≡ Joined t → Back t root → (path : Path) (net : ℕ) → IsAt (net_spots ms top) path net k → JoinedTraces ms library top path (Net net) root
  join_back_trace k t root (Inside p a d at inside) is back path net here =
      let j = join_back ms top p t d (subst (ImageDriver ms top p d) is (inside_image ms library top design f p a k d inside at)) in
      moved_trace p path a net root (same_spot (net_spots ms top) p path a net k at here) (joined.ThroughJoin (subst (DrivenInside ms library top p a) j.is inside) (back p j.s j.image))
  join_back_trace k t root (MetIn p place a to at meets) is back path net here =
      let i = in_image ms library top design f p place a k to meets at in
      let e : Joined i.source ≡ Joined t = sym i.driver_is ∙ is in
      let same : i.source ≡ t = cc in
      moved_trace (below p place) path a net root (same_spot (net_spots ms top) (below p place) path a net k at here)
      (joined.Inwards meets (back p (source_of 0 0 to) (subst (Image ms top p (source_of 0 0 to)) same i.image)))
  join_back_trace k t root (MetOut p place inner a at meets) is back path net here =
      let o = out_image ms library top design f p place inner a k meets at in
      let e : Joined (Net o.source) ≡ Joined t = sym o.driver_is ∙ is in
      let same : Net o.source ≡ t = cc in
      moved_trace p path a net root (same_spot (net_spots ms top) p path a net k at here)
      (joined.Outwards meets (back (below p place) (Net inner) (subst (Image ms top (below p place) (Net inner)) same (OfNet o.at))))

  some_driver : (k : ℕ) (d : Driver) → driver design k ≡ d → (d ≡ Free → ⊥) → Origin ms library top k
  some_driver k d is some = origin_at k (λ none. some (sym is ∙ none))

  root_back : (t : Source) (root : NetRoot) → Rooted design t root → OfTraced (Back t) root
  root_back t root (AtPort {net = k} is) = here
    where
      here : Back (Net k) (Port k)
      here path s (OfNet {net = net} at) = port_back k (some_driver k Input is (λ e. cc)) is path net at
  root_back t root (AtConstant {bit = bit}) = here
    where
      here : Back (Tied bit) (Constant bit)
      here path s OfBit = joined.AtConstant
  root_back t root (AtTie {net = k} {kind = kind} {inputs = ts} {bit = bit} is passes) = here
    where
      here : Back (Net k) (Constant bit)
      here path s (OfNet {net = net} at) = tie_back k kind ts bit (some_driver k (Gate kind ts) is (λ e. cc)) is passes path net at
  root_back t root (ThroughGate {net = k} {kind = kind} {inputs = ts} {source = from} {turns = turns} {root = far} is passes rest) = traced_on (Back from) (Back (Net k)) turns far step (root_back from far rest)
    where
      step : turns ≡ false → (r : Root) → Back from r → Back (Net k) r
      step straight r back path s (OfNet {net = net} at) = buffer_back k kind ts from r (some_driver k (Gate kind ts) is (λ e. cc)) is (passes ∙ ap (From from) straight) back path net at
  root_back t root (ThroughJoin {net = k} {source = from} is rest) = traced_over (Back from) (Back (Net k)) root step (root_back from root rest)
    where
      step : (r : Root) → Back from r → Back (Net k) r
      step r back path s (OfNet {net = net} at) = join_back_trace k from r (some_driver k (Joined from) is (λ e. cc)) is back path net at

  trace_back : (t : Source) (root : Root) → (root ≡ Other → ⊥) → Traces design t root → Back t root
  trace_back t root some traces = traced_out (Back t) traces.whole root traces.straight some (root_back t traces.whole traces.rooted)

  -- ---- clocks, both ways

  clock_on : (path : Path) (s : Source) (port : ℕ) (inverted : Bool) → JoinedClocks ms library top path s port inverted → (t : Source) → Image ms top path s t → ClockRooted design t port inverted
  clock_on path s port inverted (joined.ClockAtPort {net = net} inside) t (OfNet {number = k} at) =
      let is = input_on ms top path (driver design k) (inside_image ms library top design f path net k Input inside at) in
      subst (λ (p : ℕ). ClockRooted design (Net k) p false) (input_number path net k inside at) (clock_port design k is)
  clock_on path s port inverted (joined.ClockThroughGate {net = net} {kind = k} {source = source} {turns = turns} {inverted = own} inside turn rest) t (OfNet {number = number} at) =
      let g = gate_on ms top path k (source ∷ []) (driver design number) (inside_image ms library top design f path net number (Gate k (source ∷ [])) inside at) in
      let p = one_on ms top path source g.ts g.images in
      clock_gate design number k p.t turns port own (g.is ∙ ap (Gate k) p.is) turn (clock_on path source port own rest p.t p.image)
  clock_on path s port inverted (joined.ClockThroughJoin {net = net} {source = source} inside rest) t (OfNet {number = number} at) =
      let j = join_on ms top path source (driver design number) (inside_image ms library top design f path net number (Joined source) inside at) in
      clock_join design number j.t port inverted j.is (clock_on path source port inverted rest j.t j.image)
  clock_on path s port inverted (joined.ClockInwards {path = outer} {place = place} {net = net} {to = to} meets rest) t (OfNet {number = number} at) =
      let i = in_image ms library top design f outer place net number to meets at in
      clock_join design number i.source port inverted i.driver_is (clock_on outer (source_of 0 0 to) port inverted rest i.source i.image)
  clock_on path s port inverted (joined.ClockOutwards {place = place} {inner = inner} {net = net} meets rest) t (OfNet {number = number} at) =
      let o = out_image ms library top design f path place inner net number meets at in
      clock_join design number (Net o.source) port inverted o.driver_is (clock_on (below path place) (Net inner) port inverted rest (Net o.source) (OfNet o.at))

  abbrev ClockBack : Source → (port : ℕ) → (inverted : Bool) → Type 0
  ClockBack t port inverted = (path : Path) (s : Source) → Image ms top path s t → JoinedClocks ms library top path s port inverted

  moved_clock : (p q : Path) (a b port : ℕ) (inverted : Bool) → (p ≡ q) × (a ≡ b) → JoinedClocks ms library top p (Net a) port inverted → JoinedClocks ms library top q (Net b) port inverted
  moved_clock p q a b port inverted same h = subst (λ (x : Path). JoinedClocks ms library top x (Net b) port inverted) same.0 (subst (λ (n : ℕ). JoinedClocks ms library top p (Net n) port inverted) same.1 h)

  clock_port_back : (k : ℕ) → Origin ms library top k → driver design k ≡ Input → (path : Path) (net : ℕ) → IsAt (net_spots ms top) path net k → JoinedClocks ms library top path (Net net) k false
  clock_port_back k (Inside p a d at inside) is path net here =
      let image = subst (ImageDriver ms top p d) is (inside_image ms library top design f p a k d inside at) in
      let input = subst (DrivenInside ms library top p a) (input_back ms top p d image) inside in
      subst (λ (n : ℕ). JoinedClocks ms library top path (Net net) n false) (sym (input_number p a k input at))
      (moved_clock p path a net a false (same_spot (net_spots ms top) p path a net k at here) (joined.ClockAtPort input))
  clock_port_back k (MetIn p place a to at meets) is path net here = let i = in_image ms library top design f p place a k to meets at in absurd (let e = sym i.driver_is ∙ is in let g : ⊥ = cc in g)
  clock_port_back k (MetOut p place inner a at meets) is path net here = let o = out_image ms library top design f p place inner a k meets at in absurd (let e = sym o.driver_is ∙ is in let g : ⊥ = cc in g)

  clock_gate_back : (k : ℕ) (kind : GateKind) (t : Source) (turns : Bool) (port : ℕ) (inverted : Bool) → Origin ms library top k → driver design k ≡ Gate kind (t ∷ []) → turn_of kind ≡ Some turns → ClockBack t port inverted → (path : Path) (net : ℕ) →
      IsAt (net_spots ms top) path net k → JoinedClocks ms library top path (Net net) port (turned turns inverted)
  clock_gate_back k kind t turns port inverted (Inside p a d at inside) is turn back path net here =
      let g = gate_back ms top p kind (t ∷ []) d (subst (ImageDriver ms top p d) is (inside_image ms library top design f p a k d inside at)) in
      let b = one_back ms top p g.ss t g.images in
      let own = subst (DrivenInside ms library top p a) (g.is ∙ ap (Gate kind) b.is) inside in
      moved_clock p path a net port (turned turns inverted) (same_spot (net_spots ms top) p path a net k at here) (joined.ClockThroughGate own turn (back p b.s b.image))
  clock_gate_back k kind t turns port inverted (MetIn p place a to at meets) is turn back path net here = let i = in_image ms library top design f p place a k to meets at in absurd (let e = sym i.driver_is ∙ is in let g : ⊥ = cc in g)
  clock_gate_back k kind t turns port inverted (MetOut p place inner a at meets) is turn back path net here = let o = out_image ms library top design f p place inner a k meets at in absurd (let e = sym o.driver_is ∙ is in let g : ⊥ = cc in g)

  clock_join_back : (k : ℕ) (t : Source) (port : ℕ) (inverted : Bool) → Origin ms library top k → driver design k ≡ Joined t → ClockBack t port inverted → (path : Path) (net : ℕ) → IsAt (net_spots ms top) path net k →
      JoinedClocks ms library top path (Net net) port inverted
  clock_join_back k t port inverted (Inside p a d at inside) is back path net here =
      let j = join_back ms top p t d (subst (ImageDriver ms top p d) is (inside_image ms library top design f p a k d inside at)) in
      moved_clock p path a net port inverted (same_spot (net_spots ms top) p path a net k at here) (joined.ClockThroughJoin (subst (DrivenInside ms library top p a) j.is inside) (back p j.s j.image))
  clock_join_back k t port inverted (MetIn p place a to at meets) is back path net here =
      let i = in_image ms library top design f p place a k to meets at in
      let e : Joined i.source ≡ Joined t = sym i.driver_is ∙ is in
      let same : i.source ≡ t = cc in
      moved_clock (below p place) path a net port inverted (same_spot (net_spots ms top) (below p place) path a net k at here)
      (joined.ClockInwards meets (back p (source_of 0 0 to) (subst (Image ms top p (source_of 0 0 to)) same i.image)))
  clock_join_back k t port inverted (MetOut p place inner a at meets) is back path net here =
      let o = out_image ms library top design f p place inner a k meets at in
      let e : Joined (Net o.source) ≡ Joined t = sym o.driver_is ∙ is in
      let same : Net o.source ≡ t = cc in
      moved_clock p path a net port inverted (same_spot (net_spots ms top) p path a net k at here)
      (joined.ClockOutwards meets (back (below p place) (Net inner) (subst (Image ms top (below p place) (Net inner)) same (OfNet o.at))))

  shown_back : (t : Source) (root : NetRoot) → Rooted design t root → OfClock (ClockBack t) root
  shown_back t root (AtPort {net = k} is) = here
    where
      here : ClockBack (Net k) k false
      here path s (OfNet {net = net} at) = clock_port_back k (some_driver k Input is (λ e. cc)) is path net at
  shown_back t root AtConstant = tt
  shown_back t root (AtTie is passes) = tt
  shown_back t root (ThroughGate {net = k} {kind = kind} {inputs = ts} {source = from} {turns = turns} {root = far} is passes rest) = clock_turned (ClockBack from) (ClockBack (Net k)) turns far step (shown_back from far rest)
    where
      step : (port : ℕ) (own : Bool) → ClockBack from port own → ClockBack (Net k) port (turned turns own)
      step port own back path s (OfNet {net = net} at) =
          let one = passes_turn kind ts from turns passes in
          let alone : driver design k ≡ Gate kind (from ∷ []) = is ∙ ap (Gate kind) one.0 in
          clock_gate_back k kind from turns port own (some_driver k (Gate kind (from ∷ [])) alone (λ e. cc)) alone one.1 back path net at
  shown_back t root (ThroughJoin {net = k} {source = from} is rest) = clock_turned (ClockBack from) (ClockBack (Net k)) false root step (shown_back from root rest)
    where
      step : (port : ℕ) (own : Bool) → ClockBack from port own → ClockBack (Net k) port own
      step port own back path s (OfNet {net = net} at) = clock_join_back k from port own (some_driver k (Joined from) is (λ e. cc)) is back path net at

  clock_back : (t : Source) (port : ℕ) (inverted : Bool) → ClockRooted design t port inverted → ClockBack t port inverted
  clock_back t port inverted rooted = shown_back t _ rooted.rooted

  -- ---- roots and clocks agree

  not_traced : (t : Source) (root : Root) → root_of design t ≡ root → ((r : Root) → (r ≡ Other → ⊥) → Traces design t r → ⊥) → Other ≡ root
  not_traced t (Port p) is none = absurd (none (Port p) (λ e. cc) (port_found design t p is))
  not_traced t (Constant bit) is none = absurd (none (Constant bit) (λ e. cc) (constant_found design t bit is))
  not_traced t Other is none = refl

  pub root_agrees : (path : Path) (s t : Source) (root : Root) → HasRoot ms library top path s root → Image ms top path s t → root ≡ root_of design t
  root_agrees path s t root (Traced traces) image = sym (walk_finds design ranked.0 t root ranked.1 (trace_on path s root traces t image))
  root_agrees path s t root (Untraced none) image = not_traced t (root_of design t) refl (λ r some traces. none r (trace_back t r some traces path s image))

  not_shown : (t : Source) (clock : Option ClockRoot) → clock_root_of design t ≡ clock → ((port : ℕ) (inverted : Bool) → ClockRooted design t port inverted → ⊥) → None ≡ clock
  not_shown t (Some root) is none = absurd (none root.port root.inverted (clock_found design t root is))
  not_shown t None is none = refl

  pub clock_agrees : (path : Path) (s t : Source) (clock : Option ClockRoot) → ShowsClock ms library top path s clock → Image ms top path s t → clock ≡ clock_root_of design t
  clock_agrees path s t clock (Shown {port = port} {inverted = inverted} shows) image = sym (walk_finds_clock design ranked.0 t port inverted ranked.1 (clock_on path s port inverted shows t image))
  clock_agrees path s t clock (NotShown none) image = not_shown t (clock_root_of design t) refl (λ port inverted shows. none port inverted (clock_back t port inverted shows path s image))

  -- ---- the roots and clocks of the flat design are some

  root_by : (path : Path) (net : ℕ) → Numbered (net_spots ms top) path net → Root
  root_by path net (inl known) = root_of design (Net known.0)
  root_by path net (inr none) = Other

  clock_by : (path : Path) (net : ℕ) → Numbered (net_spots ms top) path net → Option ClockRoot
  clock_by path net (inl known) = clock_root_of design (Net known.0)
  clock_by path net (inr none) = None

  root_at : Path → Source → Root
  root_at path (Net net) = root_by path net (numbered (net_spots ms top) path net)
  root_at path (Tied bit) = Constant bit
  root_at path (Loose i pin) = Other

  clock_at : Path → Source → Option ClockRoot
  clock_at path (Net net) = clock_by path net (numbered (net_spots ms top) path net)
  clock_at path (Tied bit) = None
  clock_at path (Loose i pin) = None

  pub flat_roots : Path → Roots
  flat_roots path = record { root = root_at path; clock = clock_at path }

  -- what traces somewhere stands somewhere
  trace_stands : (path : Path) (net : ℕ) (root : Root) → JoinedTraces ms library top path (Net net) root → (k : ℕ) × IsAt (net_spots ms top) path net k
  trace_stands path net root (joined.AtPort inside) = let r = inside_forward ms library top design f path net Input inside in (r.e.0, r.image.net)
  trace_stands path net root (joined.AtTie {kind = k} {inputs = inputs} inside passes) = let r = inside_forward ms library top design f path net (Gate k inputs) inside in (r.e.0, r.image.net)
  trace_stands path net root (joined.ThroughBuffer {kind = k} {inputs = inputs} inside passes rest) = let r = inside_forward ms library top design f path net (Gate k inputs) inside in (r.e.0, r.image.net)
  trace_stands path net root (joined.ThroughJoin {source = source} inside rest) = let r = inside_forward ms library top design f path net (Joined source) inside in (r.e.0, r.image.net)
  trace_stands path net root (joined.Inwards {path = outer} {place = place} {to = to} meets rest) = let r = in_forward ms library top design f outer place net to meets in (r.number, r.at)
  trace_stands path net root (joined.Outwards {place = place} {inner = inner} meets rest) = let r = out_forward ms library top design f path place inner net meets in (r.number, r.at)

  clock_stands : (path : Path) (net port : ℕ) (inverted : Bool) → JoinedClocks ms library top path (Net net) port inverted → (k : ℕ) × IsAt (net_spots ms top) path net k
  clock_stands path net port inverted (joined.ClockAtPort inside) = let r = inside_forward ms library top design f path net Input inside in (r.e.0, r.image.net)
  clock_stands path net port inverted (joined.ClockThroughGate {kind = k} {source = source} inside turn rest) = let r = inside_forward ms library top design f path net (Gate k (source ∷ [])) inside in (r.e.0, r.image.net)
  clock_stands path net port inverted (joined.ClockThroughJoin {source = source} inside rest) = let r = inside_forward ms library top design f path net (Joined source) inside in (r.e.0, r.image.net)
  clock_stands path net port inverted (joined.ClockInwards {path = outer} {place = place} {to = to} meets rest) = let r = in_forward ms library top design f outer place net to meets in (r.number, r.at)
  clock_stands path net port inverted (joined.ClockOutwards {place = place} {inner = inner} meets rest) = let r = out_forward ms library top design f path place inner net meets in (r.number, r.at)

  found_root : (path : Path) (net k : ℕ) (root : Root) → IsAt (net_spots ms top) path net k → root_of design (Net k) ≡ root → HasRoot ms library top path (Net net) root
  found_root path net k (Port p) at is = Traced (trace_back (Net k) (Port p) (λ e. cc) (port_found design (Net k) p is) path (Net net) (OfNet at))
  found_root path net k (Constant bit) at is = Traced (trace_back (Net k) (Constant bit) (λ e. cc) (constant_found design (Net k) bit is) path (Net net) (OfNet at))
  found_root path net k Other at is = Untraced (λ root traces. (
      let on = trace_on path (Net net) root traces (Net k) (OfNet at) in
      no_other ms library top path (Net net) root traces (sym (walk_finds design ranked.0 (Net k) root ranked.1 on) ∙ is)))

  rooted_by : (path : Path) (net : ℕ) (n : Numbered (net_spots ms top) path net) → HasRoot ms library top path (Net net) (root_by path net n)
  unfolding root_by
  rooted_by path net (inl known) = found_root path net known.0 (root_of design (Net known.0)) known.1 refl
  rooted_by path net (inr none) = Untraced (λ root traces. (let there = trace_stands path net root traces in none there.0 there.1))

  loose_traced : (path : Path) (i pin : ℕ) (root : Root) → JoinedTraces ms library top path (Loose i pin) root → ⊥
  loose_traced path i pin root traces = elim traces [ ]

  pub flat_rooted : (path : Path) (s : Source) → HasRoot ms library top path s ((flat_roots path).root s)
  unfolding flat_roots root_at
  flat_rooted path (Net net) = rooted_by path net (numbered (net_spots ms top) path net)
  flat_rooted path (Tied bit) = Traced joined.AtConstant
  flat_rooted path (Loose i pin) = Untraced (λ root traces. loose_traced path i pin root traces)

  found_clock : (path : Path) (net k : ℕ) (clock : Option ClockRoot) → IsAt (net_spots ms top) path net k → clock_root_of design (Net k) ≡ clock → ShowsClock ms library top path (Net net) clock
  found_clock path net k (Some root) at is = Shown (clock_back (Net k) root.port root.inverted (clock_found design (Net k) root is) path (Net net) (OfNet at))
  found_clock path net k None at is = NotShown (λ port inverted shows. (
      let found = walk_finds_clock design ranked.0 (Net k) port inverted ranked.1 (clock_on path (Net net) port inverted shows (Net k) (OfNet at)) in
      let e = sym found ∙ is in
      let g : ⊥ = cc in
      g))

  clocked_by : (path : Path) (net : ℕ) (n : Numbered (net_spots ms top) path net) → ShowsClock ms library top path (Net net) (clock_by path net n)
  unfolding clock_by
  clocked_by path net (inl known) = found_clock path net known.0 (clock_root_of design (Net known.0)) known.1 refl
  clocked_by path net (inr none) = NotShown (λ port inverted shows. (let there = clock_stands path net port inverted shows in none there.0 there.1))

  tied_shows : (path : Path) (bit : Bool) (port : ℕ) (inverted : Bool) → JoinedClocks ms library top path (Tied bit) port inverted → ⊥
  tied_shows path bit port inverted shows = elim shows [ ]

  loose_shows : (path : Path) (i pin port : ℕ) (inverted : Bool) → JoinedClocks ms library top path (Loose i pin) port inverted → ⊥
  loose_shows path i pin port inverted shows = elim shows [ ]

  pub flat_clocked : (path : Path) (s : Source) → ShowsClock ms library top path s ((flat_roots path).clock s)
  unfolding flat_roots clock_at
  flat_clocked path (Net net) = clocked_by path net (numbered (net_spots ms top) path net)
  flat_clocked path (Tied bit) = NotShown (λ port inverted shows. tied_shows path bit port inverted shows)
  flat_clocked path (Loose i pin) = NotShown (λ port inverted shows. loose_shows path i pin port inverted shows)
