-- What leads from a cell of a planned chain to the next one in the scanned netlist: a lock-up of their edge, or the cell's output.
use Rattle.std.proofs.Common.{ℕ, zero, suc, ◌+◌, ◌≡◌, ◌<◌, Bool, true, false, List, [], ◌∷◌, ◌++◌, length, Option, None, Some, option_map, option_and_then, slice_get, slice_index_or, sym, subst, ap, arith, ◌∙◌}
use Rattle.std.specs.List.{range_with_len}
use Rattle.std.proofs.lemmas.List.FromFn.{get_or-map-range_with_len}
use Rattle.std.proofs.lemmas.Option.{none-some, same_Some, slice_get_within, get_or_from_slice_get}
use Rattle.dft_base.specs.Lexing.{Text}
use Rattle.dft_cells.specs.declared.cell.Cell as library_cells
use Rattle.dft_cells.specs.declared.kind.Gate.TheVariants.{Inv}
use Rattle.dft_cells.specs.WellFormed.{IsWellFormed}
use Rattle.dft_netlist.specs.declared.ids.NetId.{NetId}
use Rattle.dft_netlist.specs.declared.ids.InstanceId.{InstanceId}
use Rattle.dft_netlist.specs.declared.instance.CellRef.TheVariants.{Gate, Library}
use Rattle.dft_netlist.specs.declared.instance.Signal.TheVariants as signal
use Rattle.dft_netlist.specs.declared.instance.Instance.{Instance}
use Rattle.dft_netlist.specs.Netlist.{Netlist}
use Rattle.dft_netlist.specs.Connections.{input_net}
use Rattle.dft_netlist.specs.Drivers.{Net, driver}
use Rattle.dft_behavior.specs.Logic.{Cell, Ports, Lockup, logic_of}
use Rattle.dft_behavior.proofs.ClockWalks.{clock_driven, clock_found}
use Rattle.dft_config.specs.Config.{Config}
use Rattle.dft_rules.specs.declared.judged.Judged.{Judged}
use Rattle.dft_rules.specs.declared.judged.Judged.TheVariants.{Scanned}
use Rattle.dft_rules.specs.Rules.{judged, judgements}
use Rattle.dft_rules.proofs.ClockedFlops.{IsClocked}
use Rattle.dft_stitch.specs.declared.places.LockupPlace.{LockupPlace}
use Rattle.dft_stitch.specs.declared.places.CellClock.{CellClock}
use Rattle.dft_stitch.specs.Chains.{clock_at, clock_in, clock_of, is_falling, plan_of}
use Rattle.dft_stitch.proofs.LockupLemmas.{lockup_placed}
use Rattle.dft_chains.specs.Hardware.{Leads, Directly, AcrossEdges, ByLockup}
use Rattle.dft_parts.specs.Cells.{is_lockup, first_cell, pins_between}
use Rattle.dft_parts.specs.Growth.{Stands}
use Rattle.dft_parts.specs.Recipes.{at_nets, net_at}
use Rattle.dft_parts.specs.Standing.{IsClockNet, IsClockedBy}
use Rattle.dft_parts.proofs.Growing.{parts_grow}
use Rattle.dft_parts.proofs.Stores.{inverse_stands, lockup_stands, port_shows}
use Rattle.dft_scan_frame.specs.Moves.{moved}
use Rattle.dft_scan_frame.specs.Pins.{moved_or_none}
use Rattle.dft_scan_frame.specs.Pins as pins
use Rattle.dft_scan_frame.specs.Statements.{IsReady}
use Rattle.dft_scan_frame.proofs.Kept.{design_ports_few}
use Rattle.dft_scan_frame.proofs.Mergings.{moved_driver}
use Rattle.dft_insert.specs.declared.style.Style.{Style}
use Rattle.dft_insert.specs.Chained.{row_at}
use Rattle.dft_insert.specs.Ports.{gap_in}
use Rattle.dft_insert.specs.Scanned.{framed}
use Rattle.dft_insert.specs.Statements.{scanned, made_in}
use Rattle.dft_insert.proofs.Finished.{scanned_single}
use Rattle.dft_insert.specs.Agreeing.{ports_in}
use Rattle.dft_insert.proofs.Driving.{driver_kept}
use Rattle.dft_insert.proofs.Matching.{longer}
use Rattle.dft_insert.proofs.Sparing.{spared}
use Rattle.dft_scan_behavior.specs.Facts.{rows_in}
use Rattle.dft_scan_behavior.proofs.Clocks.{net_is, same_clock, port_among, port_stays}
use Rattle.dft_scan_behavior.proofs.Outputs.{IsShown, means}
use Rattle.dft_scan_behavior.proofs.Planned.{IsPlanned, flop_is, cell_edge}
use Rattle.dft_scan_behavior.proofs.Planned as planned

-- ---- lists

pub range_is : (from count j x : ℕ) → slice_get (range_with_len from count) j ≡ Some x → (x ≡ from + j) × (j < count)
range_is from zero j x e = absurd (none-some x e)
range_is from (suc count) zero x e = (sym (same_Some from x e) ∙ omega arith, omega arith)
range_is from (suc count) (suc j) x e = let it = range_is (from + 1) count j x e in (omega (arith, it.0), omega (arith, it.1))

-- ---- clocks of cells

pub verdict : (n : Netlist) (config : Config) (i domain : ℕ) (falling : Bool) (x : Instance) → slice_get n.instances i ≡ Some x → judged n config i ≡ Some (Scanned domain falling) →
    clock_of (judgements n config) (record { 0 = i }) ≡ Some (record { domain = domain; falling = falling })
verdict n config i domain falling x at is =
    ap clock_in (get_or-map-range_with_len (judged n config) 0 (length n.instances) i i None (slice_get_within n.instances i x at) (omega arith) ∙ is)

-- the clock that a cell is scanned by
abbrev pub clock_of_planned : (style : Style) (n : Netlist) (config : Config) (i : ℕ) → IsPlanned style n config i → CellClock
clock_of_planned style n config i s = record { domain = s.domain; falling = s.falling }

pub cell_clock : (style : Style) (n : Netlist) (config : Config) (place : ℕ) (cell : InstanceId) (cells : List InstanceId) (s : IsPlanned style n config cell.0) → slice_get cells place ≡ Some cell →
    clock_at (judgements n config) cells place ≡ Some (clock_of_planned style n config cell.0 s)
cell_clock style n config place cell cells s at = ap (option_and_then (clock_of (judgements n config))) at ∙ verdict n config cell.0 s.domain s.falling s.instance s.at s.judgement

-- ---- clocks in the scanned netlist

-- the port of a domain is a clock there
pub clock_net : (style : Style) (n : Netlist) (config : Config) (i domain : ℕ) (falling : Bool) → IsReady n config → (c : IsClocked n config i domain falling) → IsClockNet (scanned style n config) (ports_in style n config) c.net
clock_net style n config i domain falling ready c = record {
  input = ap (driver (scanned style n config)) (sym (port_stays style n config i domain falling ready c))
      ∙ driver_kept style n config c.net ready (spared style n config ready) (design_ports_few n config c.net ready (port_among n config i domain falling ready c))
      ∙ ap (moved_driver (moved (gap_in style n config))) (clock_driven n (clock_found n c.source (record { port = c.net; inverted = falling }) c.root));
  clock = planned.clock_in style n config i domain falling ready c;
}

-- the net of the port of a domain
pub domain_net : (style : Style) (n : Netlist) (config : Config) (i domain : ℕ) (falling : Bool) → IsReady n config → (c : IsClocked n config i domain falling) → pins.domain_in n (gap_in style n config) config domain ≡ c.net
domain_net style n config i domain falling ready c =
    ap (λ (name : Text). moved_or_none (gap_in style n config) (option_map (λ (net : NetId). net.0) (input_net n name))) (get_or_from_slice_get config.domains domain c.name [] c.named)
    ∙ ap (λ (o : Option NetId). moved_or_none (gap_in style n config) (option_map (λ (net : NetId). net.0) o)) (net_is c.net (input_net n c.name) c.is)
    ∙ port_stays style n config i domain falling ready c

-- a lock-up that a recipe makes, with the cells that it had at hand
abbrev pub LockupStands : Netlist → (number : ℕ) → List library_cells.Cell → (clock input output : NetId) → Type 0
LockupStands w number library clock input output = Stands w number (Library (first_cell is_lockup library)) (pins_between library (first_cell is_lockup library) clock input output)

-- what a made lock-up is there
pub lockup_means : (style : Style) (n : Netlist) (config : Config) (number : ℕ) (library : List library_cells.Cell) (clock input output : NetId) (port : ℕ) (inverted : Bool) → IsReady n config → library ≡ (scanned style n config).library →
    IsClockedBy (scanned style n config) (ports_in style n config) clock.0 port inverted →
    LockupStands (scanned style n config) number library clock input output → (logic_of (scanned style n config) (ports_in style n config)).net output.0 ≡ Lockup number port inverted (Net input.0)
lockup_means style n config number library clock input output port inverted ready same is h =
    let w : Netlist = scanned style n config in
    lockup_stands w (ports_in style n config) number clock input output port inverted (scanned_single style n config ready) (subst IsWellFormed (sym (parts_grow (framed style n config) (made_in style n config)).library) ready.library) is
    (subst (λ (l : List library_cells.Cell). LockupStands w number l clock input output) same h)

-- The net that clocks a made lock-up of a domain: the net of the domain's port, and where the lock-up is high that of a made `not` of it.
abbrev pub IsMadeClock : Netlist → (port : NetId) → (high : Bool) → (clock : NetId) → Type 0
IsMadeClock w port false clock = clock ≡ port
IsMadeClock w port true clock = (number : ℕ) × Stands w number (Gate Inv 1) (at_nets (port ∷ []) ++ signal.Net clock ∷ [])

-- it shows the port, or its inverse
made_clock : (style : Style) (n : Netlist) (config : Config) (port clock : NetId) (high : Bool) → IsReady n config → port.0 < length (scanned style n config).nets → IsClockNet (scanned style n config) (ports_in style n config) port.0 →
    IsMadeClock (scanned style n config) port high clock → IsClockedBy (scanned style n config) (ports_in style n config) clock.0 port.0 high
made_clock style n config port clock false ready live is h = subst (λ (k : NetId). IsClockedBy (scanned style n config) (ports_in style n config) k.0 port.0 false) (sym h) (port_shows (scanned style n config) (ports_in style n config) port.0 is)
made_clock style n config port clock true ready live is h = inverse_stands (scanned style n config) (ports_in style n config) h.0 port clock (scanned_single style n config ready) live is h.1

-- ---- from cell to cell

module _ (style : Style) (n : Netlist) (config : Config) (ready : IsReady n config) (chain place : ℕ) (cell : InstanceId) (next : ℕ) (s : IsPlanned style n config cell.0) (out : IsShown style n config cell s chain place) where
  pub row_is : row_at (rows_in style n config).value chain ≡ out.row
  row_is = get_or_from_slice_get (rows_in style n config).value chain out.row [] out.at

  pub out_net : net_at (row_at (rows_in style n config).value chain) place ≡ out.net
  out_net = ap (λ (r : List NetId). net_at r place) row_is ∙ get_or_from_slice_get out.row place out.net (record { 0 = 0 }) out.here

  -- its domain
  pub its_domain : ((logic_of (scanned style n config) (ports_in style n config)).cell cell.0).domain ≡ s.clock.net
  its_domain = ap (λ (c : Cell). c.domain) (flop_is style n config cell.0 s) ∙ s.on

  -- a lock-up behind the cell leads to the next
  pub by_lockup : (t : IsPlanned style n config next) (number m : ℕ) (library : List library_cells.Cell) (l : LockupPlace) (clock net : NetId) → library ≡ (scanned style n config).library → slice_get (plan_of n config).lockups m ≡ Some l → l.chain ≡ chain → l.after ≡ place →
      slice_get out.cells (suc place) ≡ Some (record { 0 = next }) → IsMadeClock (scanned style n config) (record { 0 = pins.domain_in n (gap_in style n config) config l.domain }) l.high clock →
      LockupStands (scanned style n config) number library clock (net_at (row_at (rows_in style n config).value chain) l.after) net →
      Leads (logic_of (scanned style n config) (ports_in style n config)) cell.0 next (Net net.0)
  by_lockup t number m library l clock net same planned chain_is after_is later made h =
      let w : Netlist = scanned style n config in
      let q : Ports = ports_in style n config in
      let v : List (Option Judged) = judgements n config in
      let cs : List (List InstanceId) = (plan_of n config).chains in
      let placed = lockup_placed v cs m l planned in
      let own : slice_index_or cs l.chain [] ≡ out.cells = ap (λ (c : ℕ). slice_index_or cs c []) chain_is ∙ get_or_from_slice_get cs chain out.cells [] out.chained in
      let one : Some (clock_of_planned style n config cell.0 s) ≡ Some (record { domain = l.domain; falling = l.high }) =
      sym (cell_clock style n config place cell out.cells s out.stands) ∙ sym (ap (clock_at v out.cells) after_is) ∙ sym (ap (λ (z : List InstanceId). clock_at v z l.after) own) ∙ placed.clock_is in
      let clocks : clock_of_planned style n config cell.0 s ≡ record { domain = l.domain; falling = l.high } = same_Some (clock_of_planned style n config cell.0 s) (record { domain = l.domain; falling = l.high }) one in
      let domain_is : l.domain ≡ s.domain = sym (ap (λ (c : CellClock). c.domain) clocks) in
      let high_is : s.falling ≡ l.high = ap (λ (c : CellClock). c.falling) clocks in
      let behind : l.after + 1 ≡ suc place = omega (arith, after_is) in
      let next_is : t.falling ≡ l.high =
      ap is_falling (sym (cell_clock style n config (suc place) (record { 0 = next }) out.cells t later) ∙ sym (ap (clock_at v out.cells) behind) ∙ sym (ap (λ (z : List InstanceId). clock_at v z (l.after + 1)) own)) ∙ placed.next_is in
      let port : pins.domain_in n (gap_in style n config) config l.domain ≡ s.clock.net = ap (pins.domain_in n (gap_in style n config) config) domain_is ∙ domain_net style n config cell.0 s.domain s.falling ready s.clock in
      let net_is : IsClockNet w q (pins.domain_in n (gap_in style n config) config l.domain) = subst (IsClockNet w q) (sym port) (clock_net style n config cell.0 s.domain s.falling ready s.clock) in
      let live : pins.domain_in n (gap_in style n config) config l.domain < length w.nets = omega (arith, port, design_ports_few n config s.clock.net ready (port_among n config cell.0 s.domain s.falling ready s.clock), longer style n config) in
      let shows : IsClockedBy w q clock.0 (pins.domain_in n (gap_in style n config) config l.domain) l.high = made_clock style n config (record { 0 = pins.domain_in n (gap_in style n config) config l.domain }) clock l.high ready live net_is made in
      let input : (net_at (row_at (rows_in style n config).value chain) l.after).0 ≡ out.net.0 = ap (λ k. (net_at (row_at (rows_in style n config).value chain) k).0) after_is ∙ ap (λ (k : NetId). k.0) out_net in
      ByLockup {net = net.0} {lockup = number} {output = out.net.0} {high = l.high}
      (lockup_means style n config number library clock (net_at (row_at (rows_in style n config).value chain) l.after) net (pins.domain_in n (gap_in style n config) config l.domain) l.high ready same shows h
      ∙ ap (λ d. Lockup number d l.high (Net (net_at (row_at (rows_in style n config).value chain) l.after).0)) (port ∙ sym its_domain)
      ∙ ap (λ k. Lockup number ((logic_of w q).cell cell.0).domain l.high (Net k)) input)
      (means style n config cell s ready out.net out.joined) (cell_edge style n config cell.0 s ∙ high_is) (cell_edge style n config next t ∙ next_is)

  -- its output leads to the next of the same clock
  pub directly : (t : IsPlanned style n config next) → s.domain ≡ t.domain → s.falling ≡ t.falling → Leads (logic_of (scanned style n config) (ports_in style n config)) cell.0 next (Net (net_at (row_at (rows_in style n config).value chain) place).0)
  directly t same edge =
      let other : ((logic_of (scanned style n config) (ports_in style n config)).cell next).domain ≡ t.clock.net = ap (λ (c : Cell). c.domain) (flop_is style n config next t) ∙ t.on in
      subst (λ (k : NetId). Leads (logic_of (scanned style n config) (ports_in style n config)) cell.0 next (Net k.0)) (sym out_net)
      (Directly {net = out.net.0} (means style n config cell s ready out.net out.joined) (its_domain ∙ same_clock n config cell.0 next s.domain t.domain s.falling t.falling s.clock t.clock same ∙ sym other)
      (cell_edge style n config cell.0 s ∙ edge ∙ sym (cell_edge style n config next t)))

  -- that of a falling cell leads to a rising one, whatever their domains
  pub across : (t : IsPlanned style n config next) → s.falling ≡ true → t.falling ≡ false → Leads (logic_of (scanned style n config) (ports_in style n config)) cell.0 next (Net (net_at (row_at (rows_in style n config).value chain) place).0)
  across t falls rises =
      subst (λ (k : NetId). Leads (logic_of (scanned style n config) (ports_in style n config)) cell.0 next (Net k.0)) (sym out_net)
      (AcrossEdges {net = out.net.0} (means style n config cell s ready out.net out.joined) (cell_edge style n config cell.0 s ∙ falls) (cell_edge style n config next t ∙ rises))
