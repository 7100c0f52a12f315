use Rattle.std.proofs.Common.{◌≡◌, drop}
use Rattle.std.specs.Prelude.{map, string_bytes}
use Rattle.dft_explain.specs.CodeFaults.{range_seen}
use Rattle.dft_explain.specs.Faults as spec
use Rattle.dft_explain.proofs.faults.no_number.Given as goal

-- the ranges that are left decide
abbrev pub invariant-loop-range : goal.invariant-loop-range
invariant-loop-range l =
    spec.no_number (map range_seen (drop l.range-index l.ranges)) (map string_bytes l.words)
    ≡ spec.no_number (map range_seen l.ranges) (map string_bytes l.words)
