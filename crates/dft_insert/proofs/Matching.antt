-- The nets of a design trace to the same ports in its scanned netlist, and its flip-flops are kept there.
use Rattle.std.proofs.Common.{ℕ, ◌+◌, ◌≡◌, ◌==◌, ◌<◌, ◌≤◌, inl, inr, Bool, true, false, List, length, map, Option, None, Some, is_some, option_map, option_and_then, slice_get, refl, sym, subst, ap, arith, ◌∙◌, length-append}
use Rattle.std.specs.Prelude.{if◌then◌else◌}
use Rattle.std.specs.List.{range_with_len}
use Rattle.dft_base.proofs.BitLemmas.{true_false, or_not}
use Rattle.dft_cells.specs.declared.kind.Role.{Role}
use Rattle.dft_cells.specs.declared.kind.Role.TheVariants.{Clock, Din, Reset, Preset, ScanIn, ScanEnable, Output}
use Rattle.dft_cells.specs.declared.cell.Cell as library_cells
use Rattle.dft_cells.specs.declared.cell.CellId.{CellId}
use Rattle.dft_cells.specs.FlipFlops.{is_flip_flop, Forces}
use Rattle.dft_netlist.specs.declared.instance.CellRef.TheVariants.{Library}
use Rattle.dft_netlist.specs.declared.instance.Signal.{Signal}
use Rattle.dft_netlist.specs.declared.instance.Instance.{Instance}
use Rattle.dft_netlist.specs.Netlist.{Netlist}
use Rattle.dft_netlist.specs.Sound.{bits_of}
use Rattle.dft_netlist.specs.Drivers.{Source, Shape, Connection, connections_from, connections_of, shape_of, kind_of, pins_at}
use Rattle.dft_netlist.specs.Connections.{same_role, pin_of}
use Rattle.dft_behavior.specs.Logic.{Ports, or_loose, scan_of, domain_of, domain_at, force_of, force_at, both_forces, forcing, takes_of, forces_of, modelled, modelled_of, flip_flop}
use Rattle.dft_behavior.specs.Traces.{Root, Port, Constant, Other, root_of}
use Rattle.dft_behavior.specs.ClockRoots.{ClockRoot, clock_root_of}
use Rattle.dft_netlist.proofs.RankLemmas.{order_ranks}
use Rattle.dft_config.specs.Config.{Config}
use Rattle.dft_rules.specs.Refusals.{is_scanned}
use Rattle.dft_rules.specs.Rules.{judged, scan_cell_in}
use Rattle.dft_chains.specs.ScanOff.{moved_source, IsWithin, IsEnabledBy, Places}
use Rattle.dft_parts.specs.MadeNames.{made_net}
use Rattle.dft_parts.specs.Parts.{Part}
use Rattle.dft_parts.specs.Recipes.{nets_in}
use Rattle.dft_parts.proofs.Growing.{parts_grow}
use Rattle.dft_scan_frame.specs.Moves.{Gap, moved, moved_signal, moved_instance, at_net}
use Rattle.dft_scan_frame.specs.ConfigPorts.{config_ports}
use Rattle.dft_scan_frame.specs.Statements.{IsReady}
use Rattle.dft_scan_frame.specs.Pins.{number_of}
use Rattle.dft_scan_frame.proofs.Contained.{RootsKept, SamePins, IsPinWithin, AreMatched, modelled_kept, pin_inside, pin_moved}
use Rattle.dft_scan_frame.proofs.Containing.{no_pin, ref_no_role, flop_in, match_if, scan_kinds}
use Rattle.dft_scan_frame.proofs.Fine.{instance_plain}
use Rattle.dft_scan_frame.proofs.Kept.{reads_inside, root_among, clock_among, design_ports_few}
use Rattle.dft_scan_frame.proofs.Mergings.{moved_connection, moved_connections}
use Rattle.dft_scan_frame.proofs.MovedRoots.{moved_root, moved_clock, AreDriversKept, root_moved, clock_moved}
use Rattle.dft_scan_frame.proofs.ScanPairs.{ScanPair}
use Rattle.dft_scan_frame.proofs.Whole.{moved_front}
use Rattle.dft_insert.specs.declared.style.Style.{Style}
use Rattle.dft_insert.specs.declared.style.Style.TheVariants.{Plain, Edt}
use Rattle.dft_insert.specs.Chained.{roles_of, scan_roles}
use Rattle.dft_insert.specs.Frame.{framed_pins, as_scan_cell, framed_instance, framed_at, frame}
use Rattle.dft_insert.specs.Ports.{gap_in}
use Rattle.dft_insert.specs.Scanned.{framed}
use Rattle.dft_insert.specs.Statements.{scanned, made_in}
use Rattle.dft_insert.proofs.Chains.{IsChainPin, parts_on}
use Rattle.dft_insert.proofs.Frames.{framed_width, scan_pair, frame_nets}
use Rattle.dft_insert.proofs.Joins.{joined_in, instance_stays, pin_kept, none_joined, joined_width}
use Rattle.dft_insert.proofs.Keeping.{from_get, scanned_names}
use Rattle.dft_insert.specs.Agreeing.{edt_clock_net, ports_in, places_in}
use Rattle.dft_insert.proofs.Driving.{now_at, index_same, AreSpared, driver_kept}
use Rattle.dft_insert.proofs.Merging.{joined_at}
use Rattle.dft_insert.proofs.ScanPins.{not_fixed, output_off, input_off, KeepsPins, AreFixed, scan_keeps}

-- ---- roots

pub longer : (style : Style) (n : Netlist) (config : Config) → length n.nets ≤ length (scanned style n config).nets
longer style n config =
    let made : List Part = made_in style n config in
    let grown = parts_grow (framed style n config) made in
    omega (arith, ap length grown.nets, length-append (frame style n config).nets (map made_net (range_with_len 0 (nets_in made))), frame_nets style n config)

drivers_kept : (style : Style) (n : Netlist) (config : Config) → IsReady n config → AreSpared style n config → AreDriversKept n (scanned style n config) (moved (gap_in style n config)) (length n.nets)
drivers_kept style n config ready spared = record { kept = λ net less. driver_kept style n config net ready spared less; closed = λ net less. reads_inside n config net ready less }

root_kept : (style : Style) (n : Netlist) (config : Config) (source : Source) → IsReady n config → AreSpared style n config → IsWithin (length n.nets) source →
    root_of (scanned style n config) (moved_source (moved (gap_in style n config)) source) ≡ moved_root (moved (gap_in style n config)) (root_of n source)
root_kept style n config source ready spared inside =
    let order = order_ranks n ready.order ready.netlist ready.ordered in
    root_moved n (scanned style n config) (moved (gap_in style n config)) (length n.nets) order.0 source (drivers_kept style n config ready spared) order.1 (longer style n config) inside

clock_kept : (style : Style) (n : Netlist) (config : Config) (source : Source) → IsReady n config → AreSpared style n config → IsWithin (length n.nets) source →
    clock_root_of (scanned style n config) (moved_source (moved (gap_in style n config)) source) ≡ option_map (moved_clock (moved (gap_in style n config))) (clock_root_of n source)
clock_kept style n config source ready spared inside =
    let order = order_ranks n ready.order ready.netlist ready.ordered in
    clock_moved n (scanned style n config) (moved (gap_in style n config)) (length n.nets) order.0 source (drivers_kept style n config ready spared) order.1 (longer style n config) inside

pub roots_kept : (style : Style) (n : Netlist) (config : Config) → IsReady n config → AreSpared style n config → RootsKept n (scanned style n config) (moved (gap_in style n config)) (length n.nets)
roots_kept style n config ready spared = record {
  roots = λ source inside. root_kept style n config source ready spared inside;
  stays = λ source net is. moved_front (gap_in style n config) net (root_among n config source net ready is);
  inside = λ source net is. design_ports_few n config net ready (root_among n config source net ready is);
  clocks = λ source inside. clock_kept style n config source ready spared inside;
  clock_stays = λ source clock is. moved_front (gap_in style n config) clock.port (clock_among n config source clock ready is);
}

-- ---- clocks and resets

-- the same first nets are clocks, and the same are resets
pub record AreAlike (p q : Ports) (count : ℕ) : Type 0 where
  pub clocks : (net : ℕ) → net < count → q.is_clock net ≡ p.is_clock net
  pub resets : q.is_reset ≡ p.is_reset

not_later : (count net : ℕ) → net < count → (net == count + 1) ≡ false
not_later = grind arith

pub ports_alike : (style : Style) (n : Netlist) (config : Config) → AreAlike (config_ports n config) (ports_in style n config) (length (bits_of n.ports))
ports_alike Plain n config = record { clocks = λ net less. refl; resets = refl }
ports_alike Edt n config = record { clocks = λ net less. or_not ((config_ports n config).is_clock net) (net == edt_clock_net n config) (not_later (length (bits_of n.ports)) net less); resets = refl }

clock_alike : (f : ℕ → ℕ) (p q : Ports) (o : Option ClockRoot) → ((clock : ClockRoot) → o ≡ Some clock → q.is_clock (f clock.port) ≡ p.is_clock (f clock.port)) → domain_of q (option_map (moved_clock f) o) ≡ domain_of p (option_map (moved_clock f) o)
clock_alike f p q None h = refl
clock_alike f p q (Some clock) h = ap (λ (b : Bool). if b then Some (moved_clock f clock) else None) (h clock refl)

-- ports whose clocks a design's nets show are among the first nets
abbrev pub AreFirst : Netlist → ℕ → Type 0
AreFirst n count = (source : Source) (clock : ClockRoot) → clock_root_of n source ≡ Some clock → clock.port < count

domain_alike : (n w : Netlist) (f : ℕ → ℕ) (size : ℕ) (p q : Ports) (count : ℕ) (o : Option Source) → RootsKept n w f size → AreFirst n count → AreAlike p q count → IsPinWithin size o → domain_at w q (option_map (moved_source f) o) ≡ domain_at w p (option_map (moved_source f) o)
domain_alike n w f size p q count None kept first alike inside = refl
domain_alike n w f size p q count (Some source) kept first alike inside =
    ap (domain_of q) (kept.clocks source inside)
    ∙ clock_alike f p q (clock_root_of n source) (λ clock is. subst (λ k. q.is_clock k ≡ p.is_clock k) (sym (kept.clock_stays source clock is)) (alike.clocks clock.port (first source clock is)))
    ∙ sym (ap (domain_of p) (kept.clocks source inside))

force_alike : (p q : Ports) (r : Root) → q.is_reset ≡ p.is_reset → force_of q r ≡ force_of p r
force_alike p q (Port net) e = ap (λ (is_reset : ℕ → Bool). if is_reset net then Some (Some net) else None) e
force_alike p q (Constant true) e = refl
force_alike p q (Constant false) e = refl
force_alike p q Other e = refl

pin_alike : (w : Netlist) (p q : Ports) (pin : Option Source) → q.is_reset ≡ p.is_reset → force_at w q pin ≡ force_at w p pin
pin_alike w p q None e = refl
pin_alike w p q (Some source) e = force_alike p q (root_of w source) e

forcing_alike : (w : Netlist) (p q : Ports) (pins : Forces Source) → q.is_reset ≡ p.is_reset → forcing w q pins ≡ forcing w p pins
forcing_alike w p q pins e t = both_forces (pin_alike w p q pins.clear e t) (pin_alike w p q pins.preset e t)

-- ---- flip-flops

-- an instance whose pins are joined as before, moved, is kept
pins_matched : (n w : Netlist) (p q : Ports) (s : Places) (count i : ℕ) (roles : List Role) (pins : List Signal) (new : List Connection) → (kept : RootsKept n w s.moved s.size) → (first : AreFirst n count) → (alike : AreAlike p q count) → (inside : ((r : Role) → IsPinWithin s.size (pin_of r i (connections_from 0 roles pins)))) →
    (same : SamePins s.moved i (connections_from 0 roles pins) new) → (no_scan : pin_of ScanEnable i (connections_from 0 roles pins) ≡ None) → (enabled : IsEnabledBy s.enable (scan_of (pin_of ScanEnable i new) (pin_of ScanIn i new))) → AreMatched s (modelled_of n p i (connections_from 0 roles pins)) (modelled_of w q i new)
pins_matched n w p q s count i roles pins new kept first alike inside same no_scan enabled =
    let old : List Connection = connections_from 0 roles pins in
    let domains : domain_at w q (pin_of Clock i new) ≡ domain_at w p (pin_of Clock i new) =
    ap (domain_at w q) same.clock ∙ domain_alike n w s.moved s.size p q count (pin_of Clock i old) kept first alike (inside Clock) ∙ sym (ap (domain_at w p) same.clock) in
    subst (AreMatched s (modelled_of n p i old))
    (sym (ap (λ d. modelled d (forcing w q (forces_of i new)) (takes_of i new)) domains
    ∙ ap (λ g. modelled (domain_at w p (pin_of Clock i new)) g (takes_of i new)) (forcing_alike w p q (forces_of i new) alike.resets)))
    (modelled_kept n w p s i old new kept same (inside Clock) (inside Din) (inside Reset) (inside Preset) no_scan enabled)

module _ (style : Style) (n : Netlist) (config : Config) (ready : IsReady n config) (spared : AreSpared style n config) where
  abbrev gap : Gap
  gap = gap_in style n config

  abbrev its : List Part
  its = made_in style n config

  abbrev w : Netlist
  w = scanned style n config

  abbrev p : Ports
  p = config_ports n config

  abbrev q : Ports
  q = ports_in style n config

  abbrev s : Places
  s = places_in style n config

  kept : RootsKept n w (moved gap) (length n.nets)
  kept = roots_kept style n config ready spared

  first : AreFirst n (length (bits_of n.ports))
  first source clock is = clock_among n config source clock ready is

  same_library : w.library ≡ n.library
  same_library = (parts_grow (framed style n config) its).library

  inside : (i : ℕ) (x : Instance) → slice_get n.instances i ≡ Some x → (r : Role) → IsPinWithin (length n.nets) (pin_of r i (connections_of n.library x))
  inside i x at r = pin_inside (length n.nets) i 0 (shape_of n.library x.cell).roles x.pins r (ready.netlist.instances i x at).live

  -- a flip-flop that is not scanned
  other_matched : (i : ℕ) (x : Instance) → slice_get n.instances i ≡ Some x → AreMatched s (flop_in n p i (Some x)) (flop_in w q i (Some (moved_instance gap x)))
  other_matched i x at =
      let old : List Connection = connections_of n.library x in
      let new : List Connection = connections_of n.library (moved_instance gap x) in
      let is : new ≡ map (moved_connection gap) old = moved_connections gap 0 (shape_of n.library x.cell).roles x.pins in
      let pin : (r : Role) → pin_of r i new ≡ option_map (moved_source (moved gap)) (pin_of r i old) = λ r. ap (pin_of r i) is ∙ pin_moved gap i r old in
      subst (λ (l : List library_cells.Cell). AreMatched s (flop_in n p i (Some x)) (if is_flip_flop (kind_of l (Some (moved_instance gap x))) then modelled_of w q i (pins_at l (Some (moved_instance gap x))) else None)) (sym same_library)
      (match_if s (is_flip_flop (shape_of n.library x.cell).kind) (is_flip_flop (shape_of n.library x.cell).kind) (modelled_of n p i old) (modelled_of w q i new) refl
      (λ flop. (
      let none : pin_of ScanEnable i old ≡ None = no_pin ScanEnable i 0 (shape_of n.library x.cell).roles x.pins (ref_no_role n.library x.cell ready.library (instance_plain n config i x ready at) flop) in
      pins_matched n w p q s (length (bits_of n.ports)) i (shape_of n.library x.cell).roles x.pins new kept first (ports_alike style n config) (inside i x at)
      (record { clock = pin Clock; data_in = pin Din; reset = pin Reset; preset = pin Preset }) none
      (subst (λ (o : Option Source). IsEnabledBy s.enable (scan_of o (pin_of ScanIn i new))) (sym (pin ScanEnable ∙ ap (option_map (moved_source (moved gap))) none)) tt)
      )))

  -- pins of a scan cell that no part joins
  cell_fixed : (i : ℕ) (x : Instance) (id : CellId) → slice_get n.instances i ≡ Some x → scan_cell_in n.library x.cell ≡ Some id →
      AreFixed gap (shape_of n.library (Library id)).roles x.pins (joined_in its i (framed_pins (at_net gap.before) (shape_of n.library (Library id)).roles (map (moved_signal gap) x.pins)))
  cell_fixed i x id at names k fixed =
      let t : Shape = shape_of n.library (Library id) in
      let pins : List Signal = framed_pins (at_net gap.before) t.roles (map (moved_signal gap) x.pins) in
      let roles : t.roles ≡ scan_roles n (record { 0 = i }) = sym (ap (roles_of n.library) (ap (λ (o : Option Instance). option_and_then (λ (y : Instance). scan_cell_in n.library y.cell) o) at ∙ names)) in
      elim (pin_kept (IsChainPin n config) its i pins k (parts_on style n config ready.range)) [
        | inl same ↦ index_same (joined_in its i pins) pins k k same
        | inr it ↦ elim it.1.role [
          | inl out ↦ absurd (not_fixed Output 0 k k t.roles output_off (omega arith) (ap (number_of (same_role Output) 0) roles ∙ sym out) fixed)
          | inr into ↦ absurd (not_fixed ScanIn 0 k k t.roles input_off (omega arith) (ap (number_of (same_role ScanIn) 0) roles ∙ sym into) fixed)
        ]
      ]

  cell_matched : (i : ℕ) (x : Instance) (o : Option CellId) → slice_get n.instances i ≡ Some x → scan_cell_in n.library x.cell ≡ o → is_some o ≡ true → AreMatched s (flop_in n p i (Some x)) (flop_in w q i (Some (joined_at its i (as_scan_cell n.library gap x o))))
  cell_matched i x None at names some = absurd cc
  cell_matched i x (Some id) at names some =
      let f : Shape = shape_of n.library x.cell in
      let t : Shape = shape_of n.library (Library id) in
      let pins : List Signal = framed_pins (at_net gap.before) t.roles (map (moved_signal gap) x.pins) in
      let now : List Signal = joined_in its i pins in
      let cell : Instance = record { name = x.name; cell = Library id; pins = now } in
      let pair : ScanPair f.kind f.roles t.kind t.roles = scan_pair n.library x.cell id names ready.library in
      let keeps : KeepsPins gap i (connections_from 0 f.roles x.pins) (connections_from 0 t.roles now) =
      scan_keeps gap i f.kind f.roles t.kind t.roles x.pins now pair (ready.netlist.instances i x at).width (joined_width its i pins ∙ framed_width (at_net gap.before) t.roles (map (moved_signal gap) x.pins)) (cell_fixed i x id at names) in
      subst (λ (l : List library_cells.Cell). AreMatched s (flop_in n p i (Some x)) (if is_flip_flop (kind_of l (Some cell)) then modelled_of w q i (pins_at l (Some cell)) else None)) (sym same_library)
      (match_if s (is_flip_flop f.kind) (is_flip_flop t.kind) (modelled_of n p i (connections_from 0 f.roles x.pins)) (modelled_of w q i (connections_from 0 t.roles now)) (scan_kinds f.kind f.roles t.kind t.roles pair)
      (λ flop. pins_matched n w p q s (length (bits_of n.ports)) i f.roles x.pins (connections_from 0 t.roles now) kept first (ports_alike style n config) (inside i x at) keeps.same keeps.no_scan keeps.enabled))

  now_matched : (i : ℕ) (x : Instance) (b : Bool) → slice_get n.instances i ≡ Some x → is_scanned (judged n config i) ≡ b → AreMatched s (flop_in n p i (Some x)) (flop_in w q i (Some (joined_at its i (framed_instance n.library gap b x))))
  now_matched i x true at is = cell_matched i x (scan_cell_in n.library x.cell) at refl (scanned_names n config i x at is)
  now_matched i x false at is =
      subst (λ (ps : List Signal). AreMatched s (flop_in n p i (Some x)) (flop_in w q i (Some (record (moved_instance gap x) { pins = ps }))))
      (sym (none_joined (IsChainPin n config) its i (moved_instance gap x).pins (λ k on. true_false (is_scanned (judged n config i)) on.scanned is) (parts_on style n config ready.range)))
      (other_matched i x at)

  pub now_there : (i : ℕ) (x : Instance) → slice_get n.instances i ≡ Some x → slice_get w.instances i ≡ Some (now_at style n config i x)
  now_there i x at =
      instance_stays (framed style n config) its i (framed_at n config gap i x)
      (from_get (framed_at n config gap) 0 n.instances i x at ∙ ap (λ j. Some (framed_at n config gap j x)) (let e : 0 + i ≡ i = omega arith in e))

  -- each instance is matched
  pub instance_matched : (i : ℕ) (x : Instance) → slice_get n.instances i ≡ Some x → AreMatched s (flip_flop n p i) (flip_flop w q i)
  instance_matched i x at =
      subst (λ (o : Option Instance). AreMatched s (flop_in n p i o) (flop_in w q i (slice_get w.instances i))) (sym at)
      (subst (λ (o : Option Instance). AreMatched s (flop_in n p i (Some x)) (flop_in w q i o)) (sym (now_there i x at))
      (now_matched i x (is_scanned (judged n config i)) at refl))
