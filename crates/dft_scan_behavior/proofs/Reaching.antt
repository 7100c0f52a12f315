-- Loads and unloads of a scanned netlist of style Edt.
use Rattle.std.proofs.Common.{ℕ, Bool, sym, subst}
use Rattle.dft_base.specs.declared.tri.Tri.{Tri}
use Rattle.dft_behavior.specs.Logic.{Logic, Ports}
use Rattle.dft_netlist.specs.Netlist.{Netlist}
use Rattle.dft_config.specs.Config.{Config}
use Rattle.dft_runs.specs.Passes.{Passes, ArePasses, end_of, pass_of_round, passes_of_rounds, after_rounds}
use Rattle.dft_runs.proofs.Passing.{round_passes, rounds_pass}
use Rattle.dft_stitch.specs.Chains.{plan_of}
use Rattle.dft_stitch.specs.Plans.{falling_head}
use Rattle.dft_edt.specs.Hardware.{EdtNets, HeadsAre, IsEdt}
use Rattle.dft_edt.proofs.Loads.{load_in_rounds, load_in_runs}
use Rattle.dft_edt.proofs.Unloads.{masks_pass, unload_in_rounds, unload_in_runs}
use Rattle.dft_scan_frame.specs.Statements.{IsReady}
use Rattle.dft_insert.specs.declared.style.Style.TheVariants.{Edt}
use Rattle.dft_insert.specs.Agreeing.{ports_in}
use Rattle.dft_scan_behavior.specs.EdtVectors.{SuitsEdt, edt_logic}
use Rattle.dft_scan_behavior.specs.Experiments.{LoadsInRuns, LoadsInRounds, LoadsReach, UnloadsInRuns, UnloadsInRounds, MasksArrive, UnloadsShow}
use Rattle.dft_scan_behavior.specs.Facts.{chain_nets, edt_hardware}
use Rattle.dft_scan_behavior.proofs.EdtUnder.{edt_under, edt_heads, edt_rank}

module _ (n : Netlist) (config : Config) (ports : Ports) (ready : IsReady n config) (suits : SuitsEdt n config ports) where
  abbrev l : Logic
  l = edt_logic n config ports

  abbrev hw : EdtNets
  hw = edt_hardware n config

  has : IsEdt l (ports_in Edt n config) config (plan_of n config).chains (chain_nets Edt n config) hw
  has = edt_under n config ports ready suits

  abbrev falling : ℕ → Bool
  falling = falling_head (plan_of n config)

  heads : HeadsAre l (plan_of n config).chains falling
  heads = edt_heads n config ports ready suits

  loads_runs : LoadsInRuns n config ports
  loads_runs table before clear load start ts a us clearing carry run turn turns chain place cell stands less =
      let r = edt_rank n config ports ready in
      load_in_runs l r.0 (ports_in Edt n config) config (plan_of n config).chains (chain_nets Edt n config) hw falling table before clear load start ts a us r.1 has.ring heads ready.range clearing carry run turn turns chain place cell stands less

  loads_rounds : LoadsInRounds n config ports
  loads_rounds table clear load old r rs clearing carry round rounds chain place cell stands less =
      load_in_rounds l (ports_in Edt n config) config (plan_of n config).chains (chain_nets Edt n config) hw falling table clear load old r rs has.ring heads ready.range clearing carry round rounds chain place cell stands less

  unloads_runs : UnloadsInRuns n config ports
  unloads_runs table masks before load between clear unload x start ts us ms a vs b send long rests clearing carry shift run loads rest turn unloads last j less =
      let r = edt_rank n config ports ready in
      unload_in_runs l r.0 (ports_in Edt n config) config (plan_of n config).chains (chain_nets Edt n config) hw falling table masks before load between clear unload x start ts us ms a vs b r.1 has heads ready.range send long rests clearing carry shift run loads rest turn unloads last j less

  unloads_rounds : UnloadsInRounds n config ports
  unloads_rounds table masks unload x old rs r ends carry shift rounds round clear masked known j less =
      unload_in_rounds l (ports_in Edt n config) config (plan_of n config).chains (chain_nets Edt n config) hw falling table masks unload x old rs r ends has heads ready.range carry shift rounds round clear masked known j less

  masks_arrive : MasksArrive n config ports
  masks_arrive masks load between clear old rs qs r send long rests clearing rounds rest round =
      let loaded : ℕ → Tri = after_rounds l old load rs in
      let rested : ℕ → Tri = after_rounds l loaded between qs in
      let both = rounds_pass l old load rs rounds in
      let others = rounds_pass l loaded between qs rest in
      let stay : ArePasses l (end_of old (passes_of_rounds l old load rs)) between (passes_of_rounds l loaded between qs) =
      subst (λ (v : ℕ → Tri). ArePasses l v between (passes_of_rounds l loaded between qs)) (sym both.1) others.0 in
      let last : Passes l clear (end_of (end_of old (passes_of_rounds l old load rs)) (passes_of_rounds l loaded between qs)) (pass_of_round l clear rested r) =
      subst (λ (v : ℕ → Tri). Passes l clear (end_of v (passes_of_rounds l loaded between qs)) (pass_of_round l clear rested r)) (sym both.1)
      (subst (λ (v : ℕ → Tri). Passes l clear v (pass_of_round l clear rested r)) (sym others.1) (round_passes l clear rested r round)) in
      masks_pass l (ports_in Edt n config) config (plan_of n config).chains (chain_nets Edt n config) hw masks load between clear old (passes_of_rounds l old load rs) (passes_of_rounds l loaded between qs) (pass_of_round l clear rested r)
      has ready.range send long rests clearing both.0 stay last

pub loads_reach : LoadsReach
loads_reach n config ports ready suits = (loads_runs n config ports ready suits, loads_rounds n config ports ready suits)

pub unloads_show : UnloadsShow
unloads_show n config ports ready suits = (unloads_runs n config ports ready suits, unloads_rounds n config ports ready suits, masks_arrive n config ports ready suits)
