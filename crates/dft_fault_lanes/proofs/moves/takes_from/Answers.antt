-- No reset or set acts, and the scan pins let the value through.
use Rattle.std.proofs.Common.{ap}
use Rattle.dft_logic.specs.Circuit.{source_at, scan_at}
use Rattle.dft_fault_lanes.proofs.moves.takes_from.Goals as goal

pub returns-in-Some : goal.returns-in-Some
returns-in-Some c = λ up. record {
  steered = c.pins_take.ensures.value up;
  loose = c.is_loose.ensures c.if-not-is_loose.false;
  scan = record { enable = source_at c.in-Some.scan.enable; input = source_at c.in-Some.scan.input };
  pins = ap scan_at c.in-Some.is;
  enable = c.pins_take.ensures.net up;
  input = c.pins_take.ensures.input up;
}
