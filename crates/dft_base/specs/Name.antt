-- The bytes of a name.
use Rattle.std.specs.Prelude.{ℕ, ◌<◌, ◌≤◌, List, length}
use Rattle.std.specs.List.{All}

-- at least one byte, each printed and no blank
pub record IsName (bytes : List ℕ) : Type 0 where
  pub some : 0 < length bytes
  pub each : All (λ b. (33 ≤ b) × (b ≤ 126)) bytes
