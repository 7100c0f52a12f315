-- What one vector does to a scanned netlist of style Edt.
use Rattle.std.proofs.Common.{ℕ, zero, suc, ◌-◌, ◌≡◌, false, List, [], length, None, Some, get_or, option_and_then, slice_get, sym, ap, arith, ◌∙◌}
use Rattle.std.proofs.lemmas.Option.{slice_get_within, get_or_from_slice_get}
use Rattle.dft_netlist.specs.declared.ids.InstanceId.{InstanceId}
use Rattle.dft_behavior.specs.Logic.{Logic, Ports, IsRanked}
use Rattle.dft_netlist.specs.Netlist.{Netlist}
use Rattle.dft_behavior.specs.Runs.{Now, Vector, Turn, IsTurn, after_turn, AreLow}
use Rattle.dft_abstract.specs.Cycle.{rise_of}
use Rattle.dft_abstract.specs.Laws.{bits}
use Rattle.dft_abstract.proofs.Lifts.{known_after_turn}
use Rattle.dft_config.specs.Config.{Config}
use Rattle.dft_stitch.specs.Chains.{plan_of}
use Rattle.dft_stitch.specs.Plans.{cell_at, falling_head}
use Rattle.dft_chains.specs.Hardware.{ChainNets}
use Rattle.dft_chains.specs.Shifts.{at_strobe}
use Rattle.dft_edt.specs.Hardware.{EdtNets, HeadsAre, IsEdt}
use Rattle.dft_config.specs.Segments.{chain_in}
use Rattle.dft_edt.specs.Vectors.{ShiftedBits}
use Rattle.dft_edt.proofs.Loads.{shift_in_runs, holds_in_runs, known_one}
use Rattle.dft_edt.proofs.Steps.{clear_law, shift_law, mask_law, hold_law, rest_law, output_law, output_in_runs}
use Rattle.dft_scan_frame.specs.Statements.{IsReady}
use Rattle.dft_insert.specs.declared.style.Style.TheVariants.{Edt}
use Rattle.dft_insert.specs.Agreeing.{ports_in}
use Rattle.dft_scan_behavior.specs.EdtVectors.{SuitsEdt, edt_logic, IsShift, last_cell, VectorsActInRuns, VectorsAct}
use Rattle.dft_scan_behavior.specs.Facts.{chain_nets, edt_hardware}
use Rattle.dft_scan_behavior.proofs.EdtUnder.{edt_under, edt_heads, edt_rank}
use Rattle.dft_scan_behavior.proofs.Outputs.{has_chain}
use Rattle.dft_scan_behavior.proofs.PlainChains.{none_past}

-- the last cell of a chain is the one behind which no other stands
last_is : (chains : List (List InstanceId)) (chain place : ℕ) (cell : InstanceId) → cell_at chains chain place ≡ Some cell → cell_at chains chain (suc place) ≡ None → last_cell chains chain ≡ cell
last_is chains chain place cell stands last =
    let has = has_chain chains chain place cell stands in
    let past : slice_get has.cells (suc place) ≡ None = sym (ap (option_and_then (λ (cells : List InstanceId). slice_get cells (suc place))) has.at) ∙ last in
    let at : length has.cells - 1 ≡ place = omega (arith, slice_get_within has.cells place cell has.here, none_past has.cells (suc place) past) in
    ap (λ (cells : List InstanceId). get_or cells (length cells - 1) (record { 0 = 0 })) (get_or_from_slice_get chains chain has.cells [] has.at)
    ∙ ap (λ k. get_or has.cells k (record { 0 = 0 })) at ∙ get_or_from_slice_get has.cells place cell (record { 0 = 0 }) has.here

module _ (n : Netlist) (config : Config) (ports : Ports) (ready : IsReady n config) (suits : SuitsEdt n config ports) where
  abbrev l : Logic
  l = edt_logic n config ports

  abbrev chains : List (List InstanceId)
  chains = (plan_of n config).chains

  abbrev w : ChainNets
  w = chain_nets Edt n config

  abbrev hw : EdtNets
  hw = edt_hardware n config

  abbrev q : Ports
  q = ports_in Edt n config

  has : IsEdt l q config chains w hw
  has = edt_under n config ports ready suits

  heads : HeadsAre l chains (falling_head (plan_of n config))
  heads = edt_heads n config ports ready suits

  rank : (rank : ℕ → ℕ) × IsRanked l rank
  rank = edt_rank n config ports ready

  shifted : (x : Vector) (now : Now) (t : Turn) → IsShift n config x → AreLow now.state → IsTurn l x now t → ShiftedBits config chains hw (falling_head (plan_of n config)) x now.state.flops (after_turn l x now t).state.flops
  shifted x now t shift low turn = shift_in_runs l rank.0 q config chains w hw (falling_head (plan_of n config)) x now t rank.1 has.ring heads ready.range shift low turn

pub vectors_act_in_runs : VectorsActInRuns
vectors_act_in_runs n config ports ready suits =
    let l : Logic = edt_logic n config ports in
    let chains = (plan_of n config).chains in
    let w : ChainNets = chain_nets Edt n config in
    let hw : EdtNets = edt_hardware n config in
    let q : Ports = ports_in Edt n config in
    let its = has n config ports ready suits in
    let r = edt_rank n config ports ready in
    record {
      shift = λ x now t shift low turn. (let are = shifted n config ports ready suits x now t shift low turn in record { firsts = are.firsts; others = are.others });
      step = λ row x now t shift carries low turn. (shifted n config ports ready suits x now t shift low turn).stages row carries;
      clear = λ x now t clearing low turn i less. known_after_turn l r.0 x now t r.1 low turn (hw.stage i) false (λ h halves. clear_law l q config chains w hw x (bits now.state) h its.ring clearing halves i less);
      masks = λ x now t pulsed low turn m k m_less k_less. known_after_turn l r.0 x now t r.1 low turn (hw.mask (chain_in config m (suc k))) (now.state.flops (hw.mask (chain_in config m k)))
          (λ h halves. mask_law l config chains hw x (bits now.state) h its.compactor pulsed halves m (suc k) m_less k_less);
      sent = λ m bit x now t pulsed given low turn m_less some. known_after_turn l r.0 x now t r.1 low turn (hw.mask (chain_in config m zero)) bit
          (λ h halves. mask_law l config chains hw x (bits now.state) h its.compactor pulsed halves m zero m_less some ∙ given);
      stay = λ x now t pulsed off low turn chain less. known_one ((after_turn l x now t).state.flops (hw.hold chain)) (now.state.flops (hw.hold chain))
          ((holds_in_runs l r.0 q config chains w hw x now t r.1 its.ring its.compactor ready.range pulsed low turn).0 off chain less);
      take = λ x now t pulsed on low turn chain less. known_one ((after_turn l x now t).state.flops (hw.hold chain)) (now.state.flops (hw.mask chain))
          ((holds_in_runs l r.0 q config chains w hw x now t r.1 its.ring its.compactor ready.range pulsed low turn).1 on chain less);
      rest = λ x now t rests low turn. record {
        stages = λ i less. known_after_turn l r.0 x now t r.1 low turn (hw.stage i) (now.state.flops (hw.stage i)) (λ h halves. (rest_law l q config chains w hw x (bits now.state) h its.ring its.compactor ready.range rests).0 i less);
        masks = λ chain less. known_after_turn l r.0 x now t r.1 low turn (hw.mask chain) (now.state.flops (hw.mask chain)) (λ h halves. (rest_law l q config chains w hw x (bits now.state) h its.ring its.compactor ready.range rests).1 chain less);
        holds = λ chain less. known_after_turn l r.0 x now t r.1 low turn (hw.hold chain) (now.state.flops (hw.hold chain)) (λ h halves. (rest_law l q config chains w hw x (bits now.state) h its.ring its.compactor ready.range rests).2 chain less);
      };
      strobe = λ x now t turn j less.
          output_in_runs l config chains hw x now t its.compactor ready.range turn (λ chain. (at_strobe l x now t).flops (last_cell chains chain).0)
          (λ chain inside. (let e = its.compactor.ends chain inside in ap (λ (cell : InstanceId). (at_strobe l x now t).flops cell.0) (last_is chains chain e.place e.cell e.here e.last))) j less;
    }

pub vectors_act : VectorsAct
vectors_act n config ports ready suits =
    let l : Logic = edt_logic n config ports in
    let chains = (plan_of n config).chains in
    let w : ChainNets = chain_nets Edt n config in
    let hw : EdtNets = edt_hardware n config in
    let q : Ports = ports_in Edt n config in
    let its = has n config ports ready suits in
    record {
      shift = λ x old h shift halves. shift_law l q config chains w hw (falling_head (plan_of n config)) x old h its.ring (edt_heads n config ports ready suits) ready.range shift halves;
      clear = λ x old h clearing halves. clear_law l q config chains w hw x old h its.ring clearing halves;
      masks = λ x old h pulsed halves. mask_law l config chains hw x old h its.compactor pulsed halves;
      stay = λ x old h pulsed off halves. (hold_law l q config chains w hw x old h its.ring its.compactor ready.range pulsed halves).0 off;
      take = λ x old h pulsed on halves. (hold_law l q config chains w hw x old h its.ring its.compactor ready.range pulsed halves).1 on;
      rest = λ x old h rests. (let law = rest_law l q config chains w hw x old h its.ring its.compactor ready.range rests in record { stages = law.0; masks = law.1; holds = law.2 });
      strobe = λ x old values settled j less.
          output_law l config chains hw x old values its.compactor ready.range settled (λ chain. (rise_of l x old).old (last_cell chains chain).0)
          (λ chain inside. (let e = its.compactor.ends chain inside in ap (λ (cell : InstanceId). (rise_of l x old).old cell.0) (last_is chains chain e.place e.cell e.here e.last))) j less;
    }
