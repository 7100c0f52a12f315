-- What the pins of a cell may be joined to, among the nets of a draft.
use Rattle.std.specs.Prelude.{ℕ, Bool, true, false, ◌≡◌, ◌<◌, length, Some, slice_get}
use Rattle.dft_cells.specs.declared.cell.Cell.{Cell}
use Rattle.dft_netlist.specs.declared.instance.Signal.{Signal}
use Rattle.dft_netlist.specs.declared.instance.Signal.TheVariants as signal
use Rattle.dft_netlist_text.specs.Items.{Joined, pin_drives}

-- a pin is joined to one of the first `count` nets, to nothing, or to a constant that it does not drive
abbrev pub IsPinSignal : (count : ℕ) → (drives : Bool) → Signal → Type 0
IsPinSignal count drives (signal.Net net) = net.0 < count
IsPinSignal count true (signal.Constant bit) = ⊥
IsPinSignal count false (signal.Constant bit) = Unit {0}
IsPinSignal count drives signal.Unconnected = Unit {0}

-- there is a place for each pin of the cell, and each pin that was named may be joined so
pub record FitsCell (count : ℕ) (cell : Cell) (joined : Joined) : Type 0 where
  pub width : length joined ≡ length cell.pins
  pub pins : (pin : ℕ) (to : Signal) → slice_get joined pin ≡ Some (Some to) → IsPinSignal count (pin_drives (slice_get cell.pins pin)) to
