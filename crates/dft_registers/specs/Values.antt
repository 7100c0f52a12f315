-- Values that nobody knows.
use Rattle.std.specs.Prelude.{replicate}
use Rattle.dft_lanes.specs.declared.wide.Wide.{Wide}

-- either in each of 512 patterns
abbrev pub unknown_wide : Wide
unknown_wide = record { can_zero = replicate 8 18446744073709551615; can_one = replicate 8 18446744073709551615 }
