-- Bytes that are printed (ASCII).
use Rattle.std.specs.Prelude.{ℕ, Bool, ◌&&◌, nat_le}

-- printed, and no blank: 33 to 126
abbrev pub is_printed : ℕ → Bool
is_printed b = nat_le 33 b && nat_le b 126
