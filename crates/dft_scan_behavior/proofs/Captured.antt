-- One capture vector of a scanned netlist of style Edt.
use Rattle.std.proofs.Common.{ℕ, ◌≡◌, true, Option, None, Some, is_some, slice_get, refl, sym, ◌∙◌}
use Rattle.dft_netlist.specs.Drivers.{IsOrdered}
use Rattle.dft_behavior.specs.Logic.{Logic, Ports, Cell, IsRanked, flip_flop, logic_of}
use Rattle.dft_netlist.specs.Netlist.{Netlist}
use Rattle.dft_netlist.proofs.RankLemmas.{order_ranks}
use Rattle.dft_behavior.proofs.Ranks.{order_is_rank}
use Rattle.dft_behavior.proofs.StoredLemmas.{flop_cell}
use Rattle.dft_config.specs.Config.{Config}
use Rattle.dft_runs.specs.WiderPorts.{Widens}
use Rattle.dft_runs.proofs.WiderPortsLemmas.{ports_widen}
use Rattle.dft_chains.specs.ScanOff.{Places}
use Rattle.dft_edt.specs.Captures.{Covers}
use Rattle.dft_edt.proofs.Captures.{strobe_law, capture_law, widening_covers}
use Rattle.dft_scan_frame.specs.ConfigPorts.{config_ports}
use Rattle.dft_scan_frame.specs.Statements.{IsReady}
use Rattle.dft_scan_frame.proofs.Contained.{AreMatched}
use Rattle.dft_scan_frame.proofs.Containing.{flop_past}
use Rattle.dft_insert.specs.declared.style.Style.TheVariants.{Edt}
use Rattle.dft_insert.specs.Statements.{scanned}
use Rattle.dft_insert.specs.Agreeing.{ports_in, places_in}
use Rattle.dft_insert.proofs.Containing.{contains}
use Rattle.dft_insert.proofs.Matching.{instance_matched}
use Rattle.dft_insert.proofs.Sparing.{spared}
use Rattle.dft_scan_behavior.specs.Capturing.{design_logic, StrobesFollow, CapturesFollow}
use Rattle.dft_scan_behavior.specs.EdtVectors.{SuitsEdt, edt_logic}
use Rattle.dft_scan_behavior.proofs.ClockFree.{clock_free, inputs_clear, is_clear}

-- a flip-flop of the design is modelled in the scanned netlist
modelled_by : (p : Places) (old new : Option Cell) → is_some old ≡ true → AreMatched p old new → (c : Cell) × (new ≡ Some c)
modelled_by p None new e h = absurd cc
modelled_by p (Some a) None e h = absurd h
modelled_by p (Some a) (Some c) e h = (c, refl)

module _ (n : Netlist) (config : Config) (ports : Ports) (ready : IsReady n config) (suits : SuitsEdt n config ports) where
  abbrev original : Logic
  original = design_logic n config

  abbrev l : Logic
  l = edt_logic n config ports

  abbrev p : Places
  p = places_in Edt n config

  wider : Widens (scanned Edt n config) (ports_in Edt n config) ports
  wider = ports_widen (scanned Edt n config) (ports_in Edt n config) ports suits

  -- it is the same under all ports that suit
  same : (cell : ℕ) → p.is_flop cell ≡ true → l.cell cell ≡ (logic_of (scanned Edt n config) (ports_in Edt n config)).cell cell
  same cell is =
      let here = flop_past n config cell (slice_get n.instances cell) refl ready is in
      let it = modelled_by p (flip_flop n (config_ports n config) cell) (flip_flop (scanned Edt n config) (ports_in Edt n config) cell) is (instance_matched Edt n config ready (spared Edt n config ready) cell here.0 here.1) in
      flop_cell (scanned Edt n config) ports cell it.0 (wider.flops cell it.0 it.1) ∙ sym (flop_cell (scanned Edt n config) (ports_in Edt n config) cell it.0 it.1)

  covers : Covers original l p
  covers = widening_covers original (logic_of (scanned Edt n config) (ports_in Edt n config)) l p (contains Edt n config ready (spared Edt n config ready)) wider.logic same

  ordered : (rank : ℕ → ℕ) × IsOrdered n rank
  ordered = order_ranks n ready.order ready.netlist ready.ordered

  ranked : (rank : ℕ → ℕ) × IsRanked original rank
  ranked = (ordered.0, order_is_rank n (config_ports n config) ordered.0 ordered.1)

pub strobes_follow : StrobesFollow
strobes_follow n config ports ready suits y x its old values shows over settled written net less =
    let r = ranked n config ports ready suits in
    strobe_law (design_logic n config) (edt_logic n config ports) r.0 (places_in Edt n config) y x its old values shows r.1 (covers n config ports ready suits) over settled written net less

pub captures_follow : CapturesFollow
captures_follow n config ports ready suits d y x its risen old h values later capture over caught halves cell is =
    let o = ordered n config ports ready suits in
    let r = ranked n config ports ready suits in
    capture_law (design_logic n config) (edt_logic n config ports) r.0 (places_in Edt n config) d y x its risen old h values later (is_clear n config) r.1 (covers n config ports ready suits)
    (clock_free n config o.0 o.1 ready.netlist ready.library ready.passed) capture over caught halves cell is (λ falls. inputs_clear n config o.0 o.1 ready.netlist ready.library ready.passed cell is)
