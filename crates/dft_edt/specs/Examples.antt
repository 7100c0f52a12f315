-- A design that has the hardware: a ring of two stages, one channel, and one chain of two cells in two domains.
use Rattle.std.specs.Prelude.{codes, ◌==◌, ◌||◌, false, List, [], ◌∷◌, get_or, None, Some}
use Rattle.dft_cells.specs.declared.kind.Gate.TheVariants.{Buf, Inv, And, Or, Xor}
use Rattle.dft_cells.specs.FlipFlops.{no_forces}
use Rattle.dft_netlist.specs.declared.ids.InstanceId.{InstanceId}
use Rattle.dft_netlist.specs.Drivers.{Net}
use Rattle.dft_behavior.specs.Logic.{Logic, Ports, Cell, Meaning, Input, Clock, Gate, Flop, Lockup, Free, IsRanked, lockup_cell}
use Rattle.dft_config.specs.declared.config.FillRule.TheVariants.{Zeros}
use Rattle.dft_config.specs.Config.{Config}
use Rattle.dft_config.specs.Range.{IsInRange}
use Rattle.dft_chains.specs.Hardware.{ChainNets}
use Rattle.dft_edt.specs.Hardware.{EdtNets, IsEdt}
use Rattle.dft_parts.specs.Standing.{plain_cell}

abbrev pub small_config : Config
small_config = record {
  domains = codes "a" ∷ codes "b" ∷ [];
  resets = [];
  keep = [];
  chains = 1;
  warm = 0;
  window = 1;
  fill = Zeros;
  always_masked = [];
  ring = record { stages = 2; channels = 1; taps = []; injectors = record { channel = 0; stage = 1 } ∷ []; phase = (0 ∷ 1 ∷ []) ∷ [] };
  compactor = record { groups = (0 ∷ []) ∷ []; mask_inputs = 1 };
  names = record {
    scan_enable = codes "se";
    edt_clock = codes "ec";
    edt_update = codes "eu";
    channel = codes "ch";
    mask = codes "ma";
    output = codes "ou";
    scan_in = codes "si";
    scan_out = codes "so";
  };
}

abbrev pub small_ports : Ports
small_ports = record { is_clock = λ net. (net == 3) || (net == 4) || (net == 5); is_reset = λ net. false }

-- the ports scan_enable, edt_update, the channel, edt_clock, the clocks of two domains and the mask; the ring; the chain; the mask and
-- the hold bit; the output
abbrev pub small_nets : List Meaning
small_nets =
    Input ∷ Input ∷ Input ∷ Clock ∷ Clock ∷ Clock ∷ Input ∷ Gate Inv (Net 1 ∷ [])
    ∷ Flop 0 false ∷ Flop 1 false ∷ Gate And (Net 9 ∷ Net 7 ∷ []) ∷ Gate Xor (Net 8 ∷ Net 2 ∷ []) ∷ Gate And (Net 11 ∷ Net 7 ∷ []) ∷ Gate Xor (Net 8 ∷ Net 9 ∷ [])
    ∷ Lockup 2 3 false (Net 13) ∷ Flop 3 false ∷ Lockup 4 4 false (Net 15) ∷ Flop 5 false
    ∷ Flop 6 false ∷ Flop 7 false ∷ Gate And (Net 1 ∷ Net 18 ∷ []) ∷ Gate And (Net 7 ∷ Net 19 ∷ []) ∷ Gate Or (Net 20 ∷ Net 21 ∷ [])
    ∷ Gate Inv (Net 19 ∷ []) ∷ Gate And (Net 23 ∷ Net 17 ∷ []) ∷ Gate Buf (Net 24 ∷ []) ∷ []

abbrev pub small_cells : List Cell
small_cells =
    plain_cell 3 10 ∷ plain_cell 3 12 ∷ lockup_cell 3 false (Net 13)
    ∷ record { domain = 4; falling = false; takes = record { input = Net 17; scan = Some (record { enable = Net 0; input = Net 14 }) }; forces = no_forces } ∷ lockup_cell 4 false (Net 15)
    ∷ record { domain = 5; falling = false; takes = record { input = Net 15; scan = Some (record { enable = Net 0; input = Net 16 }) }; forces = no_forces }
    ∷ plain_cell 3 6 ∷ plain_cell 3 22 ∷ []

abbrev pub small : Logic
small = record { net = λ net. get_or small_nets net Free; cell = λ c. get_or small_cells c (plain_cell 0 0) }

abbrev pub small_chains : List (List InstanceId)
small_chains = (record { 0 = 3 } ∷ record { 0 = 5 } ∷ []) ∷ []

abbrev pub small_scan : ChainNets
small_scan = record { enable = 0; into = λ chain place. Net (get_or (14 ∷ 16 ∷ []) place 0) }

abbrev pub small_edt : EdtNets
small_edt = record {
  update = 1;
  clock = 3;
  channel = λ j. 2;
  mask_port = λ m. 6;
  output = λ j. 25;
  run = 7;
  stage = λ i. get_or (0 ∷ 1 ∷ []) i 0;
  stage_net = λ i. get_or (8 ∷ 9 ∷ []) i 0;
  mask = λ chain. 6;
  mask_net = λ chain. 18;
  hold = λ chain. 7;
  hold_net = λ chain. 19;
  end_net = λ chain. 17;
  gated = λ chain. 24;
}

abbrev pub SmallHas : Type 0
SmallHas = IsEdt small small_ports small_config small_chains small_scan small_edt × IsInRange small_config × IsRanked small (λ net. net)
