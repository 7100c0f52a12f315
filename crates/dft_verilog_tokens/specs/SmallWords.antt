-- Words that begin as the reserved ones do.
use Rattle.std.specs.Prelude.{ℕ, Bool, false, ◌&&◌, List, ◌∷◌}
use Rattle.std.specs.Char.{is_ascii_lowercase}

-- two small letters stand in front
abbrev pub begins_small : List ℕ → Bool
begins_small (first ∷ second ∷ rest) = is_ascii_lowercase first && is_ascii_lowercase second
begins_small _ = false
