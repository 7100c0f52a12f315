-- The nets of pins by which clocks, resets and sets come in.
use Rattle.std.specs.Prelude.{ℕ, Bool, true, ◌≡◌, List, Some, slice_get}
use Rattle.dft_cells.specs.declared.cell.Cell.{Cell}
use Rattle.dft_cells.specs.declared.kind.Role.{Role}
use Rattle.dft_netlist.specs.declared.instance.Instance.{Instance}
use Rattle.dft_netlist.specs.declared.instance.Signal.TheVariants.{Net}
use Rattle.dft_netlist.specs.Drivers.{shape_of}
use Rattle.dft_fault_laws.specs.Stuck.{is_control}

-- the set has those of an instance
abbrev pub HasPinsOf : List Cell → Instance → (has : ℕ → Bool) → Type 0
HasPinsOf library x has =
    (pin : ℕ) (r : Role) (net : ℕ) → slice_get (shape_of library x.cell).roles pin ≡ Some r → is_control r ≡ true → slice_get x.pins pin ≡ Some (Net (record { 0 = net })) → has net ≡ true

-- and those of all instances
abbrev pub HasPins : List Cell → List Instance → (has : ℕ → Bool) → Type 0
HasPins library xs has = (place : ℕ) (x : Instance) → slice_get xs place ≡ Some x → HasPinsOf library x has
