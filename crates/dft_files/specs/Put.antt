-- What a sink was given, where it tells it.
use Rattle.std.specs.Prelude.{◌≡◌, ◌++◌, ℕ, List, take, Option, Some, None}

-- behind the bytes that are told come these
abbrev pub Adds : List ℕ → Option (List ℕ) → Option (List ℕ) → Type 0
Adds added None new = new ≡ None
Adds added (Some old) new = new ≡ Some (old ++ added)

-- behind the bytes that are told comes a prefix of these
abbrev pub AddsPrefix : List ℕ → Option (List ℕ) → Option (List ℕ) → Type 0
AddsPrefix bytes old new = (n : ℕ) × Adds (take n bytes) old new
