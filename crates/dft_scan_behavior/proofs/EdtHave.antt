-- In style Edt a scanned netlist has all of the compression hardware.
use Rattle.std.proofs.Common.{ℕ, zero, suc, ◌+◌, ◌-◌, ◌<◌, ◌≡◌, Bool, true, false, List, length, map, None, Some, option_map, option_and_then, slice_get, sym, subst, ap, arith, ◌∙◌}
use Rattle.std.proofs.lemmas.Option.{slice_get-map, get_or_from_slice_get, slice_get_past}
use Rattle.dft_base.proofs.ListLemmas.{get_there}
use Rattle.dft_netlist.specs.declared.ids.NetId.{NetId}
use Rattle.dft_netlist.specs.declared.ids.InstanceId.{InstanceId}
use Rattle.dft_netlist.specs.Netlist.{Netlist}
use Rattle.dft_netlist.specs.Drivers.{Source, Net}
use Rattle.dft_behavior.specs.Logic.{Logic, Input, logic_of}
use Rattle.dft_config.specs.Config.{Config}
use Rattle.dft_rules.specs.Rules.{judgements}
use Rattle.dft_stitch.specs.Chains.{cells_of, plan_of}
use Rattle.dft_stitch.specs.Plans.{cell_at, falling_head}
use Rattle.dft_stitch.proofs.BlockLemmas.{chain_count}
use Rattle.dft_stitch.proofs.OrderLemmas.{head_is}
use Rattle.dft_parts.specs.Recipes.{net_at}
use Rattle.dft_parts.specs.Standing.{IsClockNet}
use Rattle.dft_edt.specs.Hardware.{EdtNets, IsEntered, HasPhase, HasEnd}
use Rattle.dft_edt.specs.RingStands.{with_ring, HasRingParts}
use Rattle.dft_edt.specs.CompactorStands.{HasGated, HasCompactorParts}
use Rattle.dft_scan_frame.specs.Statements.{IsReady}
use Rattle.dft_insert.specs.declared.style.Style.TheVariants.{Edt}
use Rattle.dft_insert.specs.Chained.{last_net}
use Rattle.dft_insert.specs.Ports.{gap_in}
use Rattle.dft_insert.specs.Statements.{scanned}
use Rattle.dft_insert.specs.Agreeing.{ports_in}
use Rattle.dft_insert.proofs.MadeGood.{from_at}
use Rattle.dft_scan_behavior.specs.Facts.{chain_nets, rows_in, ports_of, ring_start, ring_parts, ring_number, no_nets, edt_hardware, HasEdtHardware}
use Rattle.dft_scan_behavior.proofs.ChainsFilled.{chain_filled}
use Rattle.dft_scan_behavior.proofs.ChainsHave.{into_is, chains_have}
use Rattle.dft_scan_behavior.proofs.Lockups.{clock_of_planned, cell_clock}
use Rattle.dft_scan_behavior.proofs.Outputs.{has_chain, at_chain, IsShown, shown, means}
use Rattle.dft_scan_behavior.proofs.PartsThere.{ring_has, compactor_has}
use Rattle.dft_scan_behavior.proofs.PlainChains.{chain_less, last_place}
use Rattle.dft_scan_behavior.proofs.Planned.{IsPlanned, planned, cell_edge}
use Rattle.dft_scan_behavior.proofs.PortsDriven.{edt_means, edt_clock_is}
use Rattle.dft_scan_behavior.proofs.ScanInputs.{IsSumEntry, entry_joined}

-- ---- lists

-- the last net of a row, among those of all rows
last_in : (rows : List (List NetId)) (chain place : ℕ) (row : List NetId) (net : NetId) → slice_get rows chain ≡ Some row → length row - 1 ≡ place → slice_get row place ≡ Some net → net_at (map last_net rows) chain ≡ net
last_in rows chain place row net at last here =
    get_or_from_slice_get (map last_net rows) chain (last_net row) (record { 0 = 0 }) (slice_get-map last_net rows chain ∙ ap (option_map last_net) at)
    ∙ ap (net_at row) last ∙ get_or_from_slice_get row place net (record { 0 = 0 }) here

module _ (n : Netlist) (config : Config) (ready : IsReady n config) where
  abbrev l : Logic
  l = logic_of (scanned Edt n config) (ports_in Edt n config)

  abbrev hw : EdtNets
  hw = edt_hardware n config

  abbrev chains : List (List InstanceId)
  chains = (plan_of n config).chains

  clock : IsClockNet (scanned Edt n config) (ports_in Edt n config) (ports_of n config).edt_clock.0
  clock = edt_clock_is n config ready

  ring : HasRingParts l config hw (ring_parts n config).value.phases
  ring = ring_has n config (ports_in Edt n config) hw ready clock

  compactor : HasCompactorParts l config hw
  compactor = compactor_has n config (ports_in Edt n config) (with_ring config (ports_of n config) (ring_start n config) (ring_number n config) no_nets) ready clock

  counted : length chains ≡ config.chains
  counted = chain_count (cells_of n config) config.chains

  -- ---- ports

  update : l.net hw.update ≡ Input
  update = edt_means n config 2 ready (λ e. omega (arith, e)) (omega arith)

  channel : (j : ℕ) → j < config.ring.channels → l.net (hw.channel j) ≡ Input
  channel j less =
      let before : ℕ = (gap_in Edt n config).before in
      let at : before + (3 + j) ≡ (net_at (ports_of n config).channels j).0 = omega (arith, from_at (before + 3) config.ring.channels j less) in
      subst (λ k. l.net k ≡ Input) at (edt_means n config (3 + j) ready (λ e. omega (arith, e)) (omega (arith, less)))

  mask_port : (m : ℕ) → m < config.compactor.mask_inputs → l.net (hw.mask_port m) ≡ Input
  mask_port m less =
      let before : ℕ = (gap_in Edt n config).before in
      let at : before + (3 + config.ring.channels + m) ≡ (net_at (ports_of n config).masks m).0 = omega (arith, from_at (before + 3 + config.ring.channels) config.compactor.mask_inputs m less) in
      subst (λ k. l.net k ≡ Input) at (edt_means n config (3 + config.ring.channels + m) ready (λ e. omega (arith, e)) (omega (arith, less)))

  -- ---- into and out of the chains

  -- the first cell of a chain takes its bit at the edge that the plan tells
  pub head_edge : (chain : ℕ) (cell : InstanceId) → cell_at chains chain zero ≡ Some cell → (l.cell cell.0).falling ≡ falling_head (plan_of n config) chain
  head_edge chain cell stands =
      let s : IsPlanned Edt n config cell.0 = planned Edt n config chain zero cell ready stands in
      let has = has_chain chains chain zero cell stands in
      let head : falling_head (plan_of n config) chain ≡ s.falling = head_is (judgements n config) chains chain has.cells (clock_of_planned Edt n config cell.0 s) has.at (cell_clock Edt n config zero cell has.cells s has.here) in
      cell_edge Edt n config cell.0 s ∙ sym head

  -- its scan input takes the phase sum, or what a lock-up holds of it
  entered : (falling : Bool) (chain : ℕ) (into : Source) (net : NetId) → into ≡ Net net.0 → IsSumEntry n config falling chain net → IsEntered l hw into (net_at (ring_parts n config).value.phases chain).0 falling
  entered true chain into net leads is = leads ∙ ap (λ (k : NetId). Net k.0) is
  entered false chain into net leads is = record { lockup = is.0; entry = net.0; latch = is.1; leads = leads }

  phase : (chain : ℕ) (cell : InstanceId) → cell_at chains chain zero ≡ Some cell → HasPhase l config.ring hw ((chain_nets Edt n config).into chain zero) (l.cell cell.0).falling chain
  phase chain cell stands =
      let s : IsPlanned Edt n config cell.0 = planned Edt n config chain zero cell ready stands in
      let it = entry_joined Edt n config chain cell s ready stands in
      subst (λ (falling : Bool). HasPhase l config.ring hw ((chain_nets Edt n config).into chain zero) falling chain) (sym (head_edge chain cell stands))
      (record {
        sum = (net_at (ring_parts n config).value.phases chain).0;
        sums = ring.phases chain (chain_less n config chain zero cell stands);
        entered = entered (falling_head (plan_of n config) chain) chain ((chain_nets Edt n config).into chain zero) it.0 (into_is Edt n config chain zero cell s it.0 stands it.1) it.2;
      })

  end : (chain : ℕ) → chain < config.chains → HasEnd l chains hw chain
  end chain less =
      let there = get_there chains chain (omega (arith, less, counted)) in
      let cells : List InstanceId = there.0 in
      let some = chain_filled n config chain cells ready there.1 less in
      let place : ℕ = length cells - 1 in
      let its = get_there cells place (omega (arith, some)) in
      let cell : InstanceId = its.0 in
      let stands : cell_at chains chain place ≡ Some cell = at_chain chains chain place cells cell there.1 its.1 in
      let past : slice_get cells (suc place) ≡ None = slice_get_past cells (suc place) (omega (arith, some)) in
      let s : IsPlanned Edt n config cell.0 = planned Edt n config chain place cell ready stands in
      let out : IsShown Edt n config cell s chain place = shown Edt n config cell s ready chain place stands in
      let out_past : slice_get out.cells (suc place) ≡ None = sym (ap (option_and_then (λ (cs : List InstanceId). slice_get cs (suc place))) out.chained) ∙ ap (option_and_then (λ (cs : List InstanceId). slice_get cs (suc place))) there.1 ∙ past in
      let last : length out.row - 1 ≡ place = last_place chain place out.cells out.row cell out.stands out_past out.wide in
      let net : net_at (map last_net (rows_in Edt n config).value) chain ≡ out.net = last_in (rows_in Edt n config).value chain place out.row out.net out.at last out.here in
      let gated : HasGated l hw chain = compactor.gated_ends chain less in
      record {
        place = place;
        cell = cell;
        here = stands;
        last = ap (option_and_then (λ (cs : List InstanceId). slice_get cs (suc place))) there.1 ∙ past;
        shown = gated.shown;
        end = ap (λ (k : NetId). l.net k.0) net ∙ means Edt n config cell s ready out.net out.joined;
        show = gated.show;
        gate = gated.gate;
      }

pub edt_has : HasEdtHardware
edt_has n config ready = record {
  ring = record {
    count = counted n config ready;
    chained = chains_have Edt n config ready;
    update = update n config ready;
    channels = channel n config ready;
    run = (ring n config ready).run;
    stages = (ring n config ready).stages;
    phases = phase n config ready;
  };
  compactor = record {
    ports = mask_port n config ready;
    masks = (compactor n config ready).masks;
    holds = (compactor n config ready).holds;
    ends = end n config ready;
    outputs = (compactor n config ready).outputs;
  };
}
