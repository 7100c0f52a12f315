-- A join of the design can stand in the scanned netlist.
use Rattle.std.proofs.Common.{ℕ, ◌+◌, ◌≤◌, arith}
use Rattle.dft_netlist.specs.declared.instance.Signal.{Signal}
use Rattle.dft_netlist.specs.declared.instance.Signal.TheVariants.{Net, Constant, Unconnected}
use Rattle.dft_netlist.specs.declared.instance.Join.{Join}
use Rattle.dft_netlist.specs.Sound.{IsAJoin, IsConnected}
use Rattle.dft_scan_frame.specs.Moves.{Gap, moved_signal, moved_join}
use Rattle.dft_scan_frame.proofs.LiveNets.{moved_less}
use Rattle.dft_scan_frame.proofs.SoundParts.{signal_live}

-- ---- joins

pub connected : (gap : Gap) (s : Signal) → IsConnected s → IsConnected (moved_signal gap s)
connected gap (Net net) h = h
connected gap (Constant bit) h = h
connected gap Unconnected h = h

pub join_sound : (gap : Gap) (count all : ℕ) (join : Join) → count + gap.width ≤ all → IsAJoin count join.target join.source → IsAJoin all (moved_join gap join).target (moved_join gap join).source
join_sound gap count all join le sound = record {
  target_live = omega (arith, le, moved_less gap join.target.0 count sound.target_live);
  source_live = signal_live gap count all join.source le sound.source_live;
  connected = connected gap join.source sound.connected;
}
