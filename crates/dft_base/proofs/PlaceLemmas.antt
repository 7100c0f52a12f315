-- A place grows by one at most with each byte.
use Rattle.std.proofs.Common.{ℕ, ◌+◌, ◌≤◌, Bool, true, false, cond, eqb, arith, ◌≡◌, ◌-◌, length, take, min, ap}
use Rattle.dft_base.specs.declared.place.Place.{Place}
use Rattle.dft_base.specs.Lexing.{next_place, Text, place_of, place_after}

-- neither the line nor the column is above this number
pub record IsBelow (place : Place) (n : ℕ) : Type 0 where
  pub line : place.line ≤ n
  pub column : place.column ≤ n

step_below : (t : Bool) (place : Place) (n : ℕ) → IsBelow place n
    → IsBelow (cond t (record { line = place.line + 1; column = 1 }) (record { line = place.line; column = place.column + 1 })) (n + 1)
step_below true place n h = record { line = omega arith; column = omega arith }
step_below false place n h = record { line = omega arith; column = omega arith }

-- the place behind one byte more is below one more
pub next_place_below : (place : Place) (byte n : ℕ) → IsBelow place n → IsBelow (next_place place byte) (n + 1)
unfolding next_place
next_place_below place byte n h = step_below (eqb byte 10) place n h

-- a fault behind the begin of the text is at its begin
pub placed : (text : Text) (left : ℕ) → place_of text (min left (length text)) ≡ place_of text left
placed text left =
    let e : length text - min left (length text) ≡ length text - left = omega arith in
    ap (λ (n : ℕ). place_after (record { line = 1; column = 1 }) (take n text)) e
