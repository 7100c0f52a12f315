-- Bytes of a text that were passed, and the place behind them.
use Rattle.std.specs.Prelude.{ℕ, ◌≡◌, ◌+◌, ◌≤◌, length, take}
use Rattle.dft_base.specs.Lexing.{Text, place_after}
use Rattle.dft_base.specs.declared.place.Place.{Place}
use Rattle.dft_verilog.specs.declared.places.Passed.{Passed}

-- neither the line nor the column is above this number
pub record IsNear (place : Place) (n : ℕ) : Type 0 where
  pub line : place.line ≤ n
  pub column : place.column ≤ n

-- so many bytes of the text lead to the place
pub record HasPassed (text : Text) (p : Passed) : Type 0 where
  pub within : p.bytes ≤ length text
  pub place : p.place ≡ place_after (record { line = 1; column = 1 }) (take p.bytes text)
  pub near : IsNear p.place (p.bytes + 1)
