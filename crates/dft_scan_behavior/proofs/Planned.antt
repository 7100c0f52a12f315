-- A cell of the planned chains in the scanned netlist: its pins, what its output drives, and the modelled flip-flop that it is.
use Rattle.std.proofs.Common.{ℕ, ◌+◌, ◌≡◌, Bool, true, false, List, map, Option, None, Some, is_some, option_and_then, slice_get, refl, sym, subst, ap, arith, ◌∙◌}
use Rattle.std.specs.Prelude.{if◌then◌else◌}
use Rattle.std.proofs.lemmas.Option.{none-some, same_Some}
use Rattle.dft_cells.specs.declared.kind.Role.TheVariants.{Din, Reset, Preset, ScanIn, ScanEnable}
use Rattle.dft_cells.specs.declared.cell.Cell as library_cells
use Rattle.dft_cells.specs.declared.cell.CellId.{CellId}
use Rattle.dft_cells.specs.FlipFlops.{is_flip_flop, Scan, Takes, Forces}
use Rattle.dft_cells.proofs.TakesLemmas.{taken_on}
use Rattle.dft_netlist.specs.declared.ids.NetId.{NetId}
use Rattle.dft_netlist.specs.declared.ids.InstanceId.{InstanceId}
use Rattle.dft_netlist.specs.declared.instance.CellRef.TheVariants.{Library}
use Rattle.dft_netlist.specs.declared.instance.Signal.{Signal}
use Rattle.dft_netlist.specs.declared.instance.Signal.TheVariants as signal
use Rattle.dft_netlist.specs.declared.instance.Instance.{Instance}
use Rattle.dft_netlist.specs.Netlist.{Netlist}
use Rattle.dft_netlist.specs.Drivers.{Source, Net, Loose, Connection, Shape, Flop, connections_from, inputs_of, driven_by, driver, kind_of, kind_at, pins_at, pins_of, shape_of}
use Rattle.dft_behavior.specs.ClockRoots.{ClockRoot}
use Rattle.dft_netlist.specs.Connections.{pin_of}
use Rattle.dft_behavior.specs.Logic.{Ports, Cell, or_loose, forcing, scan_of, takes_of, forces_of, plain, modelled, modelled_of, flip_flop, logic_of}
use Rattle.dft_behavior.proofs.StoredLemmas.{flop_cell}
use Rattle.dft_config.specs.Config.{Config}
use Rattle.dft_rules.specs.declared.judged.Judged.TheVariants.{Scanned}
use Rattle.dft_scan_frame.specs.ConfigPorts.{config_ports}
use Rattle.dft_rules.specs.Refusals.{is_scanned}
use Rattle.dft_rules.specs.Rules.{judged, may_be_scanned, scan_cell_in}
use Rattle.dft_rules.proofs.ClockedFlops.{IsClocked, clocked, clock_is, scanned_flop}
use Rattle.dft_stitch.specs.Chains.{plan_of}
use Rattle.dft_stitch.specs.Plans.{cell_at}
use Rattle.dft_chains.specs.ScanOff.{Places, KeepsFlop}
use Rattle.dft_chains.specs.Hardware.{ActByPorts, TakesOn, IsScanCell}
use Rattle.dft_parts.proofs.Growing.{parts_grow}
use Rattle.dft_parts.proofs.Standing.{instance_drives}
use Rattle.dft_scan_frame.specs.Moves.{at_net, moved_signal}
use Rattle.dft_scan_frame.specs.Statements.{IsReady}
use Rattle.dft_scan_frame.proofs.Contained.{AreMatched}
use Rattle.dft_scan_frame.proofs.Standing.{IsScannedFlop, stands_scanned}
use Rattle.dft_insert.specs.declared.style.Style.{Style}
use Rattle.dft_insert.specs.Chained.{roles_of, scan_roles}
use Rattle.dft_insert.specs.Frame.{framed_pins, as_scan_cell, framed_instance}
use Rattle.dft_insert.specs.Ports.{gap_in}
use Rattle.dft_insert.specs.Scanned.{framed}
use Rattle.dft_insert.specs.Statements.{scanned, made_in}
use Rattle.dft_insert.proofs.Frames.{scan_pair}
use Rattle.dft_insert.proofs.Joins.{joined_in, stays_joined}
use Rattle.dft_insert.proofs.Keeping.{scanned_names}
use Rattle.dft_insert.proofs.Finished.{scanned_single}
use Rattle.dft_insert.specs.Agreeing.{ports_in, places_in}
use Rattle.dft_insert.proofs.Sparing.{spared}
use Rattle.dft_insert.proofs.Matching.{ports_alike, now_there, instance_matched}
use Rattle.dft_insert.proofs.Merging.{joined_at}
use Rattle.dft_scan_behavior.specs.Facts.{taken_by}
use Rattle.dft_scan_behavior.proofs.Clocks.{ActsBy, acts_pins, port_among, port_stays}
use Rattle.dft_scan_behavior.proofs.ScanShapes.{IsScanShape, scan_shape, pin_number, output_lists}

-- the pins of a scan cell in the frame, and when all parts are made
abbrev pub cell_pins : (style : Style) → Netlist → Config → Instance → CellId → List Signal
cell_pins style n config x id = framed_pins (at_net (gap_in style n config).before) (shape_of n.library (Library id)).roles (map (moved_signal (gap_in style n config)) x.pins)

abbrev pub now_pins : (style : Style) → Netlist → Config → (i : ℕ) → Instance → CellId → List Signal
now_pins style n config i x id = joined_in (made_in style n config) i (cell_pins style n config x id)

-- a scanned flip-flop of a design in its scanned netlist
pub record IsPlanned (style : Style) (n : Netlist) (config : Config) (i : ℕ) : Type 0 where
  pub instance : Instance
  pub at : slice_get n.instances i ≡ Some instance
  pub domain : ℕ
  pub falling : Bool
  pub judgement : judged n config i ≡ Some (Scanned domain falling)
  pub clock : IsClocked n config i domain falling
  pub id : CellId
  pub roles : (shape_of n.library (Library id)).roles ≡ scan_roles n (record { 0 = i })
  pub shape : IsScanShape (shape_of n.library instance.cell).roles (shape_of n.library (Library id)).kind (shape_of n.library (Library id)).roles
  pub pins : pins_of (scanned style n config) i ≡ connections_from 0 (shape_of n.library (Library id)).roles (now_pins style n config i instance id)
  pub drives : (net : NetId) → slice_get (now_pins style n config i instance id) shape.output ≡ Some (signal.Net net) → driver (scanned style n config) net.0 ≡ Flop i false
  pub flop : Cell
  pub is : flip_flop (scanned style n config) (ports_in style n config) i ≡ Some flop
  pub takes : flop.takes ≡ takes_of i (pins_of (scanned style n config) i)
  pub on : flop.domain ≡ clock.net
  pub edge : flop.falling ≡ falling
  pub act : ActByPorts (ports_in style n config) flop.forces

-- ---- how it comes about

instance_by : (n : Netlist) (i : ℕ) (o : Option Instance) → slice_get n.instances i ≡ o → may_be_scanned (kind_of n.library o) ≡ true → (x : Instance) × (slice_get n.instances i ≡ Some x)
instance_by n i None at e = absurd cc
instance_by n i (Some x) at e = (x, at)

id_by : (o : Option CellId) → is_some o ≡ true → (id : CellId) × (o ≡ Some id)
id_by None e = absurd cc
id_by (Some id) e = (id, refl)

matched_new : (p : Places) (old new : Option Cell) (a : Cell) → old ≡ Some a → AreMatched p old new → (b : Cell) × (new ≡ Some b) × KeepsFlop p a b
matched_new p None new a e h = absurd (none-some a e)
matched_new p (Some c) None a e h = absurd h
matched_new p (Some c) (Some b) a e h = (b, refl, subst (λ (z : Cell). KeepsFlop p z b) (same_Some c a e) h)

if_some : (b : Bool) (o : Option Cell) (c : Cell) → (if b then o else None) ≡ Some c → o ≡ Some c
if_some true o c e = e
if_some false o c e = absurd (none-some c e)

modelled_takes : (domain : Option ClockRoot) (forces : Option (Forces ℕ)) (takes : Takes Source) (c : Cell) → modelled domain forces takes ≡ Some c → c.takes ≡ takes
modelled_takes None forces takes c e = absurd (none-some c e)
modelled_takes (Some d) None takes c e = absurd (none-some c e)
modelled_takes (Some d) (Some f) takes c e = ap (λ (z : Cell). z.takes) (sym (same_Some (record { domain = d.port; falling = d.inverted; takes = takes; forces = f }) c e))

act_alike : (p q : Ports) (forces : Forces ℕ) → q.is_reset ≡ p.is_reset → ActByPorts p forces → ActByPorts q forces
act_alike p q forces e act port has = ap (λ (is_reset : ℕ → Bool). is_reset port) e ∙ act port has

-- the scan cell in place of a scanned flip-flop
record StandsIn (style : Style) (n : Netlist) (config : Config) (i : ℕ) (x : Instance) : Type 0 where
  pub id : CellId
  pub names : scan_cell_in n.library x.cell ≡ Some id
  pub there : slice_get (scanned style n config).instances i ≡ Some (record { name = x.name; cell = Library id; pins = now_pins style n config i x id })

stands_in : (style : Style) (n : Netlist) (config : Config) (i : ℕ) (x : Instance) → IsReady n config → slice_get n.instances i ≡ Some x → is_scanned (judged n config i) ≡ true → StandsIn style n config i x
stands_in style n config i x ready at on =
    let its = made_in style n config in
    let gap = gap_in style n config in
    let named = id_by (scan_cell_in n.library x.cell) (scanned_names n config i x at on) in
    record {
      id = named.0;
      names = named.1;
      there = now_there style n config ready (spared style n config ready) i x at
          ∙ ap (λ b. Some (joined_at its i (framed_instance n.library gap b x))) on
          ∙ ap (λ (o : Option CellId). Some (joined_at its i (as_scan_cell n.library gap x o))) named.1;
    }

-- the flip-flop as it is modelled
record IsModelled (style : Style) (n : Netlist) (config : Config) (i : ℕ) (net : ℕ) (falling : Bool) : Type 0 where
  pub flop : Cell
  pub is : flip_flop (scanned style n config) (ports_in style n config) i ≡ Some flop
  pub takes : flop.takes ≡ takes_of i (pins_of (scanned style n config) i)
  pub on : flop.domain ≡ net
  pub edge : flop.falling ≡ falling
  pub act : ActByPorts (ports_in style n config) flop.forces

modelled_in : (style : Style) (n : Netlist) (config : Config) (i : ℕ) (x : Instance) (it : IsScannedFlop n config i) (clock : IsClocked n config i it.domain it.falling) → IsReady n config → slice_get n.instances i ≡ Some x → IsModelled style n config i clock.net it.falling
modelled_in style n config i x it clock ready at =
    let p : Ports = config_ports n config in
    let q : Ports = ports_in style n config in
    let w : Netlist = scanned style n config in
    let forces : ActsBy style n config (forcing n p (forces_of i (pins_of n i))) = acts_pins style n config (forces_of i (pins_of n i)) ready it.passed.is_held in
    let was : Cell = record { domain = clock.net; falling = it.falling; takes = takes_of i (pins_of n i); forces = forces.forces } in
    let old : flip_flop n p i ≡ Some was = scanned_flop n config i it.domain it.falling forces.forces it.kind clock forces.is in
    let new = matched_new (places_in style n config) (flip_flop n p i) (flip_flop w q i) was old (instance_matched style n config ready (spared style n config ready) i x at) in
    record {
      flop = new.0;
      is = new.1;
      takes = modelled_takes _ _ _ new.0 (if_some (is_flip_flop (kind_at w i)) (modelled_of w q i (pins_of w i)) new.0 new.1);
      on = new.2.domain ∙ port_stays style n config i it.domain it.falling ready clock;
      edge = new.2.falling;
      act = act_alike p q new.0.forces (ports_alike style n config).resets (subst (ActByPorts p) (sym new.2.forces) forces.act);
    }

pub planned : (style : Style) (n : Netlist) (config : Config) (chain place : ℕ) (cell : InstanceId) → IsReady n config → cell_at (plan_of n config).chains chain place ≡ Some cell → IsPlanned style n config cell.0
planned style n config chain place cell ready stands =
    let i : ℕ = cell.0 in
    let w : Netlist = scanned style n config in
    let it : IsScannedFlop n config i = stands_scanned n config chain place cell ready stands in
    let found = instance_by n i (slice_get n.instances i) refl it.kind in
    let x : Instance = found.0 in
    let clock : IsClocked n config i it.domain it.falling = clocked n config i it.domain it.falling it.passed.is_clock in
    let in_place : StandsIn style n config i x = stands_in style n config i x ready found.1 (ap is_scanned it.judgement) in
    let its : IsModelled style n config i clock.net it.falling = modelled_in style n config i x it clock ready found.1 in
    let id : CellId = in_place.id in
    let s : Shape = shape_of n.library x.cell in
    let t : Shape = shape_of n.library (Library id) in
    let y : Instance = record { name = x.name; cell = Library id; pins = now_pins style n config i x id } in
    let library : w.library ≡ n.library = (parts_grow (framed style n config) (made_in style n config)).library in
    let shape : IsScanShape s.roles t.kind t.roles = scan_shape s.kind s.roles t.kind t.roles (scan_pair n.library x.cell id in_place.names ready.library) in
    record {
      instance = x;
      at = found.1;
      domain = it.domain;
      falling = it.falling;
      judgement = it.judgement;
      clock = clock;
      id = id;
      roles = sym (ap (roles_of n.library) (ap (λ (o : Option Instance). option_and_then (λ (z : Instance). scan_cell_in n.library z.cell) o) found.1 ∙ in_place.names));
      shape = shape;
      pins = ap (pins_at w.library) in_place.there ∙ ap (λ (l : List library_cells.Cell). pins_at l (Some y)) library;
      drives = λ net joined. (
          let at : 0 + shape.output ≡ shape.output = omega arith in
          let listed = output_lists t.kind i (inputs_of i (connections_from 0 t.roles y.pins)) 0 shape.output t.roles y.pins net shape.flop (shape.is_output ∙ ap Some (sym at)) joined in
          instance_drives w i listed.0 y (net.0, Flop i false) (scanned_single style n config ready) in_place.there (ap (λ (l : List library_cells.Cell). slice_get (driven_by l i y) listed.0) library ∙ listed.1)
          );
      flop = its.flop;
      is = its.is;
      takes = its.takes;
      on = its.on;
      edge = its.edge;
      act = its.act;
    }

-- ---- its pins

-- the source of a pin that is joined to a net
pub pin_source : (style : Style) (n : Netlist) (config : Config) (i : ℕ) (s : IsPlanned style n config i) (net : NetId) → slice_get (now_pins style n config i s.instance s.id) s.shape.input ≡ Some (signal.Net net) → pin_of ScanIn i (pins_of (scanned style n config) i) ≡ Some (Net net.0)
pin_source style n config i s net joined =
    let at : 0 + s.shape.input ≡ s.shape.input = omega arith in
    ap (pin_of ScanIn i) s.pins
    ∙ pin_number ScanIn i 0 s.shape.input (shape_of n.library (Library s.id)).roles (now_pins style n config i s.instance s.id) (signal.Net net) (s.shape.is_input ∙ ap Some (sym at)) joined

pub enable_source : (style : Style) (n : Netlist) (config : Config) (i : ℕ) (s : IsPlanned style n config i) → pin_of ScanEnable i (pins_of (scanned style n config) i) ≡ Some (Net (gap_in style n config).before)
enable_source style n config i s =
    let net : NetId = record { 0 = (gap_in style n config).before } in
    let at : 0 + s.shape.enable ≡ s.shape.enable = omega arith in
    ap (pin_of ScanEnable i) s.pins
    ∙ pin_number ScanEnable i 0 s.shape.enable (shape_of n.library (Library s.id)).roles (now_pins style n config i s.instance s.id) (signal.Net net) (s.shape.is_enable ∙ ap Some (sym at))
    (stays_joined (made_in style n config) i (cell_pins style n config s.instance s.id) s.shape.enable net (s.shape.enabled (at_net (gap_in style n config).before) (map (moved_signal (gap_in style n config)) s.instance.pins)))

-- ---- the scan cell

-- what has scan pins is not plain
plain_not : (takes : Takes Source) (scan : Scan Source) → takes.scan ≡ Some scan → (source : Source) → takes ≡ plain source → ⊥
plain_not takes scan has source is = none-some scan (sym (ap (λ (t : Takes Source). t.scan) is) ∙ has)

pub flop_is : (style : Style) (n : Netlist) (config : Config) (i : ℕ) (s : IsPlanned style n config i) → (logic_of (scanned style n config) (ports_in style n config)).cell i ≡ s.flop
flop_is style n config i s = flop_cell (scanned style n config) (ports_in style n config) i s.flop s.is

-- it takes its bit at the edge that it is scanned at
pub cell_edge : (style : Style) (n : Netlist) (config : Config) (i : ℕ) (s : IsPlanned style n config i) → ((logic_of (scanned style n config) (ports_in style n config)).cell i).falling ≡ s.falling
cell_edge style n config i s = ap (λ (c : Cell). c.falling) (flop_is style n config i s) ∙ s.edge

pub clock_in : (style : Style) (n : Netlist) (config : Config) (i domain : ℕ) (falling : Bool) → IsReady n config → (c : IsClocked n config i domain falling) → (ports_in style n config).is_clock c.net ≡ true
clock_in style n config i domain falling ready c = (ports_alike style n config).clocks c.net (port_among n config i domain falling ready c) ∙ clock_is n config i domain falling c

pub scan_cell : (style : Style) (n : Netlist) (config : Config) (cell : InstanceId) (s : IsPlanned style n config cell.0) (net : NetId) → IsReady n config → slice_get (now_pins style n config cell.0 s.instance s.id) s.shape.input ≡ Some (signal.Net net) →
    IsScanCell (logic_of (scanned style n config) (ports_in style n config)) (ports_in style n config) (gap_in style n config).before (taken_by (scanned style n config) (Some cell)) cell.0
scan_cell style n config cell s net ready joined =
    let q : Ports = ports_in style n config in
    let same = flop_is style n config cell.0 s in
    let pin = pin_source style n config cell.0 s net joined in
    let pins : List Connection = pins_of (scanned style n config) cell.0 in
    let scan : Scan Source = record { enable = Net (gap_in style n config).before; input = taken_by (scanned style n config) (Some cell) } in
    let takes : ((logic_of (scanned style n config) q).cell cell.0).takes ≡ takes_of cell.0 pins = ap (λ (c : Cell). c.takes) same ∙ s.takes in
    let enabled : (takes_of cell.0 pins).scan ≡ Some scan =
    ap (λ o. scan_of o (pin_of ScanIn cell.0 pins)) (enable_source style n config cell.0 s) ∙ ap (λ o. scan_of (Some (Net (gap_in style n config).before)) o) pin
    ∙ ap (λ o. Some (record { enable = Net (gap_in style n config).before; input = or_loose cell.0 o })) (sym pin) in
    let clocked : q.is_clock ((logic_of (scanned style n config) q).cell cell.0).domain ≡ true = ap (λ (c : Cell). q.is_clock c.domain) same ∙ ap q.is_clock s.on ∙ clock_in style n config cell.0 s.domain s.falling ready s.clock in
    record {
      takes = subst (TakesOn (gap_in style n config).before scan.input) (sym takes) (λ own values on. taken_on (takes_of cell.0 pins) scan own values enabled on);
      modelled = λ none. plain_not (takes_of cell.0 pins) scan enabled (Loose cell.0 0) (sym takes ∙ ap (λ (c : Cell). c.takes) none);
      domain = clocked;
      forces = subst (λ (c : Cell). ActByPorts q c.forces) (sym same) s.act;
    }
