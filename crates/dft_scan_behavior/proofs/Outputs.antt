-- The nets at the outputs of the planned cells: each is its cell's bit in the scanned netlist.
use Rattle.std.proofs.Common.{ℕ, zero, suc, ◌+◌, ◌≡◌, List, [], ◌∷◌, length, map, Option, None, Some, option_and_then, slice_get, false, refl, sym, subst, ap, arith, ◌∙◌}
use Rattle.std.specs.Prelude.{slice_index_or}
use Rattle.std.proofs.lemmas.Option.{none-some, same_Some}
use Rattle.dft_cells.specs.declared.kind.Role.{Role}
use Rattle.dft_cells.specs.declared.kind.Role.TheVariants.{Output}
use Rattle.dft_netlist.specs.declared.ids.NetId.{NetId}
use Rattle.dft_netlist.specs.declared.ids.InstanceId.{InstanceId}
use Rattle.dft_netlist.specs.declared.instance.Signal.{Signal}
use Rattle.dft_netlist.specs.declared.instance.Signal.TheVariants as signal
use Rattle.dft_netlist.specs.declared.instance.Instance.{Instance}
use Rattle.dft_netlist.specs.Netlist.{Netlist}
use Rattle.dft_netlist.specs.Sound.{NoConstantOutput}
use Rattle.dft_netlist.specs.Drivers.{connections_from, pins_at, shape_of}
use Rattle.dft_netlist.specs.Connections.{same_role, pin_of}
use Rattle.dft_behavior.specs.Logic.{Flop, flop_meaning, meaning_of, logic_of}
use Rattle.dft_config.specs.Config.{Config}
use Rattle.dft_stitch.specs.Chains.{plan_of}
use Rattle.dft_stitch.specs.Plans.{cell_at}
use Rattle.dft_stitch.proofs.OnceLemmas.{cells_once, cells_scanned}
use Rattle.dft_parts.specs.Parts.{Part}
use Rattle.dft_parts.specs.Recipes.{start_of}
use Rattle.dft_scan_frame.specs.Moves.{Gap, at_net, moved, moved_signal}
use Rattle.dft_scan_frame.specs.Pins.{number_of, net_of, own_output}
use Rattle.dft_scan_frame.specs.Statements.{IsReady}
use Rattle.dft_insert.specs.declared.style.Style.{Style}
use Rattle.dft_insert.specs.Chained.{scan_roles, own_or_made}
use Rattle.dft_insert.specs.Ports.{gap_in}
use Rattle.dft_insert.specs.Scanned.{framed}
use Rattle.dft_insert.specs.Statements.{scanned, made_in}
use Rattle.dft_insert.proofs.Joins.{stays_joined}
use Rattle.dft_insert.specs.Agreeing.{ports_in}
use Rattle.dft_insert.proofs.Driving.{index_is, moved_index}
use Rattle.dft_scan_behavior.specs.Facts.{rows_in}
use Rattle.dft_scan_behavior.proofs.Collected.{rows_found, rows_own, rows_none}
use Rattle.dft_scan_behavior.proofs.Cuts.{rest_of, made_cut}
use Rattle.dft_scan_behavior.proofs.FirstNets.{first_at, first-append, or_first, joined_first}
use Rattle.dft_scan_behavior.proofs.Planned.{cell_pins, now_pins, IsPlanned}
use Rattle.dft_scan_behavior.proofs.ScanShapes.{pin_number, pin_none}

-- ---- places of the chains

-- the chain with a place
pub record HasChain (chains : List (List InstanceId)) (chain place : ℕ) (cell : InstanceId) : Type 0 where
  pub cells : List InstanceId
  pub at : slice_get chains chain ≡ Some cells
  pub here : slice_get cells place ≡ Some cell

pub chain_by : (chains : List (List InstanceId)) (chain place : ℕ) (cell : InstanceId) (o : Option (List InstanceId)) → slice_get chains chain ≡ o → option_and_then (λ cells. slice_get cells place) o ≡ Some cell → HasChain chains chain place cell
chain_by chains chain place cell None at is = absurd (none-some cell is)
chain_by chains chain place cell (Some cells) at is = record { cells = cells; at = at; here = is }

pub has_chain : (chains : List (List InstanceId)) (chain place : ℕ) (cell : InstanceId) → cell_at chains chain place ≡ Some cell → HasChain chains chain place cell
has_chain chains chain place cell is = chain_by chains chain place cell (slice_get chains chain) refl is

pub at_chain : (chains : List (List InstanceId)) (chain place : ℕ) (cells : List InstanceId) (cell : InstanceId) → slice_get chains chain ≡ Some cells → slice_get cells place ≡ Some cell → cell_at chains chain place ≡ Some cell
at_chain chains chain place cells cell there here = ap (option_and_then (λ (cs : List InstanceId). slice_get cs place)) there ∙ here

-- a cell stands at one place
pub one_place : (n : Netlist) (config : Config) (chain place other after : ℕ) (cell c : InstanceId) → IsReady n config → cell_at (plan_of n config).chains chain place ≡ Some cell → cell_at (plan_of n config).chains other after ≡ Some c → c.0 ≡ cell.0 → (other ≡ chain) × (after ≡ place)
one_place n config chain place other after cell c ready stands is same =
    let it = cells_scanned n config chain place cell ready.range stands in
    let once = cells_once n config cell.0 it.domain it.falling ready.range it.is in
    let here = once.only chain place stands in
    let there = once.only other after (is ∙ ap (λ k. Some (record { 0 = k })) same) in
    (there.0 ∙ sym here.0, there.1 ∙ sym here.1)

-- ---- the own output of a flip-flop

-- a pin that is joined to a net, or to nothing
abbrev pub own_signal : Option ℕ → Signal
own_signal None = signal.Unconnected
own_signal (Some net) = signal.Net (record { 0 = net })

index_none : (pins : List Signal) (p : ℕ) → slice_get pins p ≡ None → slice_index_or pins p signal.Unconnected ≡ signal.Unconnected
index_none [] p h = refl
index_none (x ∷ pins) zero h = absurd (none-some x (sym h))
index_none (x ∷ pins) (suc p) h = index_none pins p h

own_by : (i before : ℕ) (roles : List Role) (pins : List Signal) (o : Option Signal) → number_of (same_role Output) 0 roles ≡ Some before → slice_get roles before ≡ Some Output → NoConstantOutput roles pins → slice_get pins before ≡ o →
    slice_index_or pins before signal.Unconnected ≡ own_signal (option_and_then net_of (pin_of Output i (connections_from 0 roles pins)))
own_by i before roles pins None number role none at =
    let e : 0 + before ≡ before = omega arith in
    index_none pins before at ∙ ap (λ o. own_signal (option_and_then net_of o)) (sym (pin_none Output i 0 before roles pins (number ∙ ap Some (sym e)) at))
own_by i before roles pins (Some (signal.Net net)) number role none at =
    let e : 0 + before ≡ before = omega arith in
    index_is pins before (signal.Net net) at ∙ ap (λ o. own_signal (option_and_then net_of o)) (sym (pin_number Output i 0 before roles pins (signal.Net net) (number ∙ ap Some (sym e)) at))
own_by i before roles pins (Some (signal.Constant bit)) number role none at = absurd (none before Output bit role refl at)
own_by i before roles pins (Some signal.Unconnected) number role none at =
    let e : 0 + before ≡ before = omega arith in
    index_is pins before signal.Unconnected at ∙ ap (λ o. own_signal (option_and_then net_of o)) (sym (pin_number Output i 0 before roles pins signal.Unconnected (number ∙ ap Some (sym e)) at))

-- the net at the output of a planned cell
pub record IsShown (style : Style) (n : Netlist) (config : Config) (cell : InstanceId) (s : IsPlanned style n config cell.0) (chain place : ℕ) : Type 0 where
  pub cells : List InstanceId
  pub chained : slice_get (plan_of n config).chains chain ≡ Some cells
  pub stands : slice_get cells place ≡ Some cell
  pub row : List NetId
  pub at : slice_get (rows_in style n config).value chain ≡ Some row
  pub wide : length row ≡ length cells
  pub net : NetId
  pub here : slice_get row place ≡ Some net
  pub joined : slice_get (now_pins style n config cell.0 s.instance s.id) s.shape.output ≡ Some (signal.Net net)

module _ (style : Style) (n : Netlist) (config : Config) (cell : InstanceId) (s : IsPlanned style n config cell.0) (ready : IsReady n config) where
  abbrev gap : Gap
  gap = gap_in style n config

  abbrev pins : List Signal
  pins = cell_pins style n config s.instance s.id

  -- what the output is joined to in the frame
  output_pin : slice_get pins s.shape.output ≡ Some (moved_signal gap (own_signal (own_output n cell)))
  output_pin =
      let roles = (shape_of n.library s.instance.cell).roles in
      let before = s.shape.before in
      let own = own_by cell.0 before roles s.instance.pins (slice_get s.instance.pins before) s.shape.is_before s.shape.at_before (ready.netlist.instances cell.0 s.instance s.at).outputs refl in
      let its = ap (λ (o : Option Instance). own_signal (option_and_then net_of (pin_of Output cell.0 (pins_at n.library o)))) s.at in
      s.shape.shown (at_net gap.before) (map (moved_signal gap) s.instance.pins) ∙ ap Some (moved_index gap s.instance.pins before ∙ ap (moved_signal gap) (own ∙ sym its))

  -- the number of its output
  output_number : number_of (same_role Output) 0 (scan_roles n cell) ≡ Some s.shape.output
  output_number = ap (number_of (same_role Output) 0) (sym s.roles) ∙ s.shape.is_output

  shown_by : (chain place : ℕ) (own : Option ℕ) → own_output n cell ≡ own → cell_at (plan_of n config).chains chain place ≡ Some cell → IsShown style n config cell s chain place
  shown_by chain place (Some k) is stands =
      let has = has_chain (plan_of n config).chains chain place cell stands in
      let row = rows_own n gap (plan_of n config).chains chain place has.cells cell (start_of (framed style n config)) has.at has.here in
      let net : NetId = record { 0 = moved gap k } in
      record {
        cells = has.cells;
        chained = has.at;
        stands = has.here;
        row = row.0;
        at = row.1;
        wide = row.2;
        net = net;
        here = row.3.1 ∙ ap (λ (o : Option ℕ). Some (own_or_made n gap cell o row.3.0).value) is;
        joined = stays_joined (made_in style n config) cell.0 pins s.shape.output net (output_pin ∙ ap (λ (o : Option ℕ). Some (moved_signal gap (own_signal o))) is);
      }
  shown_by chain place None is stands =
      let has = has_chain (plan_of n config).chains chain place cell stands in
      let row = rows_own n gap (plan_of n config).chains chain place has.cells cell (start_of (framed style n config)) has.at has.here in
      let made = rows_found n gap (plan_of n config).chains chain place has.cells cell s.shape.output (start_of (framed style n config)) has.at has.here is output_number
      (λ other k cs c there here same. one_place n config chain place other k cell c ready stands (at_chain (plan_of n config).chains other k cs c there here) same) in
      let rows : List Part = (rows_in style n config).parts in
      let rest : List Part = rest_of style n config in
      let first : first_at (made_in style n config) cell.0 s.shape.output ≡ Some made.0 =
      ap (λ (ps : List Part). first_at ps cell.0 s.shape.output) (made_cut style n config)
      ∙ first-append rows rest cell.0 s.shape.output ∙ ap (λ o. or_first o (first_at rest cell.0 s.shape.output)) made.1 in
      let same : made.2.0 ≡ row.0 = same_Some made.2.0 row.0 (sym made.2.1 ∙ row.1) in
      record {
        cells = has.cells;
        chained = has.at;
        stands = has.here;
        row = row.0;
        at = row.1;
        wide = row.2;
        net = made.0;
        here = subst (λ (r : List NetId). slice_get r place ≡ Some made.0) same made.2.2;
        joined = joined_first (made_in style n config) cell.0 s.shape.output pins made.0 (output_pin ∙ ap (λ (o : Option ℕ). Some (moved_signal gap (own_signal o))) is) first;
      }

  pub shown : (chain place : ℕ) → cell_at (plan_of n config).chains chain place ≡ Some cell → IsShown style n config cell s chain place
  shown chain place stands = shown_by chain place (own_output n cell) refl stands

  -- it is the cell's bit
  pub means : (net : NetId) → slice_get (now_pins style n config cell.0 s.instance s.id) s.shape.output ≡ Some (signal.Net net) → (logic_of (scanned style n config) (ports_in style n config)).net net.0 ≡ Flop cell.0 false
  means net joined = ap (meaning_of (scanned style n config) (ports_in style n config) net.0) (s.drives net joined) ∙ ap (flop_meaning cell.0 false) s.is

  -- the rows do not join its scan input
  pub input_free : (chain place : ℕ) → cell_at (plan_of n config).chains chain place ≡ Some cell → first_at (rows_in style n config).parts cell.0 s.shape.input ≡ None
  input_free chain place stands =
      rows_none n gap (plan_of n config).chains cell.0 s.shape.input (start_of (framed style n config))
      (λ other k cs c there here pin number same at_pin. s.shape.apart (sym at_pin ∙ same_Some pin s.shape.output (sym number ∙ ap (λ j. number_of (same_role Output) 0 (scan_roles n (record { 0 = j }))) same ∙ output_number)))
