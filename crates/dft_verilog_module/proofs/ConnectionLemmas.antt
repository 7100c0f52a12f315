-- Instances of cells can stand in a netlist.
use Rattle.std.proofs.Common.{◌≡◌, ℕ, zero, suc, ◌≤◌, Bool, true, false, List, [], ◌∷◌, length, map, Option, Some, None, slice_get, slice_set, refl, sym, ap, subst, ◌∙◌, arith, rules}
use Rattle.std.specs.Prelude.{replicate}
use Rattle.std.proofs.lemmas.List.{length-map}
use Rattle.std.proofs.lemmas.Option.{slice_get_within}
use Rattle.dft_base.specs.Lexing.{Text}
use Rattle.dft_cells.specs.declared.kind.Role.{Role}
use Rattle.dft_cells.specs.declared.cell.CellId.{CellId}
use Rattle.dft_cells.specs.declared.cell.Pin.{Pin}
use Rattle.dft_cells.specs.declared.cell.Cell.{Cell}
use Rattle.dft_netlist.specs.declared.instance.CellRef.TheVariants as cell_ref
use Rattle.dft_netlist.specs.declared.instance.Signal.{Signal}
use Rattle.dft_netlist.specs.declared.instance.Signal.TheVariants as signal
use Rattle.dft_netlist.specs.Drivers.{shape_of_cell}
use Rattle.dft_netlist.specs.Sound.{IsLive, is_output, IsInstanceOf}
use Rattle.dft_netlist_text.specs.Modules.{Draft}
use Rattle.dft_netlist_text.specs.Items.{Joined, unjoined, pin_drives, signal_at, cell_instance}
use Rattle.dft_verilog_draft.specs.Drafts.{InstanceFits, nets_alone}
use Rattle.dft_verilog_draft.specs.Operands.{IsBit}
use Rattle.dft_verilog_module.specs.JoinedPins.{IsPinSignal, FitsCell}
use Rattle.dft_verilog_draft.proofs.OperandLemmas.{grows_on, grows_not}
use Rattle.dft_verilog_module.proofs.GateLemmas.{named_room, named_library}

-- ---- what a pin may be joined to

-- the one bit of an expression at a pin
pub pin_bit : (count : ℕ) (drives : Bool) (s : Signal) → IsBit count drives s → IsPinSignal count drives s
pin_bit count drives (signal.Net net) h = h
pin_bit count true (signal.Constant bit) h = h
pin_bit count false (signal.Constant bit) h = h
pin_bit count drives signal.Unconnected h = absurd h

-- a pin may stay unconnected
pub pin_free : (count : ℕ) (drives : Bool) → IsPinSignal count drives signal.Unconnected
pin_free count true = tt
pin_free count false = tt

pin_more : (a b : ℕ) (drives : Bool) (s : Signal) → a ≤ b → IsPinSignal a drives s → IsPinSignal b drives s
pin_more a b drives (signal.Net net) le h = omega arith
pin_more a b true (signal.Constant bit) le h = h
pin_more a b false (signal.Constant bit) le h = h
pin_more a b true signal.Unconnected le h = tt
pin_more a b false signal.Unconnected le h = tt

-- ---- the pins of a cell

abbrev free_pin : Option Signal
free_pin = None

replicated : (n : ℕ) → length (replicate n free_pin) ≡ n
replicated zero = refl
replicated (suc n) = ap suc (replicated n)

none_there : (n pin : ℕ) (to : Signal) → slice_get (replicate n free_pin) pin ≡ Some (Some to) → ⊥
none_there zero pin to h = cc
none_there (suc n) zero to h = cc
none_there (suc n) (suc pin) to h = none_there n pin to h

-- no pin is joined yet
pub fits_unjoined : (count : ℕ) (cell : Cell) → FitsCell count cell (unjoined cell)
fits_unjoined count cell = record {
  width = replicated (length cell.pins);
  pins = λ pin to at. absurd (none_there (length cell.pins) pin to at);
}

-- there are more nets
pub fits_more : (a b : ℕ) (cell : Cell) (joined : Joined) → a ≤ b → FitsCell a cell joined → FitsCell b cell joined
fits_more a b cell joined le h = record {
  width = h.width;
  pins = λ pin to at. pin_more a b (pin_drives (slice_get cell.pins pin)) to le (h.pins pin to at);
}

set_at : (P : ℕ → Signal → Type 0) (joined : Joined) (pin : ℕ) (to : Signal) → P pin to → ((p : ℕ) (s : Signal) → slice_get joined p ≡ Some (Some s) → P p s) →
    (p : ℕ) (s : Signal) → slice_get (slice_set joined pin (Some to)) p ≡ Some (Some s) → P p s
set_at P [] pin to here others p s at = others p s at
set_at P (j ∷ joined) zero to here others zero s at = let e : to ≡ s = cc in subst (λ (x : Signal). P zero x) e here
set_at P (j ∷ joined) zero to here others (suc p) s at = others (suc p) s at
set_at P (j ∷ joined) (suc pin) to here others zero s at = others zero s at
set_at P (j ∷ joined) (suc pin) to here others (suc p) s at = set_at (λ p x. P (suc p) x) joined pin to here (λ p x. others (suc p) x) p s at

set_len : (joined : Joined) (pin : ℕ) (to : Option Signal) → length (slice_set joined pin to) ≡ length joined
set_len [] pin to = refl
set_len (j ∷ joined) zero to = refl
set_len (j ∷ joined) (suc pin) to = ap suc (set_len joined pin to)

-- one pin more is joined
pub fits_with : (count : ℕ) (cell : Cell) (joined : Joined) (pin : ℕ) (to : Signal) → IsPinSignal count (pin_drives (slice_get cell.pins pin)) to → FitsCell count cell joined →
    FitsCell count cell (slice_set joined pin (Some to))
fits_with count cell joined pin to here h = record {
  width = set_len joined pin (Some to) ∙ h.width;
  pins = set_at (λ p s. IsPinSignal count (pin_drives (slice_get cell.pins p)) s) joined pin to here h.pins;
}

-- ---- an instance of a cell

live_signal : (count : ℕ) (drives : Bool) (s : Signal) → IsPinSignal count drives s → IsLive count s
live_signal count drives (signal.Net net) h = h
live_signal count drives (signal.Constant bit) h = tt
live_signal count drives signal.Unconnected h = tt

live_at : (count : ℕ) (joined : Joined) (drives : ℕ → Bool) → ((pin : ℕ) (to : Signal) → slice_get joined pin ≡ Some (Some to) → IsPinSignal count (drives pin) to) →
    (place : ℕ) (s : Signal) → slice_get (map signal_at joined) place ≡ Some s → IsLive count s
live_at count [] drives h place s at = absurd (cc)
live_at count (None ∷ joined) drives h zero s at = let e : signal.Unconnected ≡ s = cc in subst (λ (x : Signal). IsLive count x) e tt
live_at count (Some to ∷ joined) drives h zero s at =
    let e : to ≡ s = cc in subst (λ (x : Signal). IsLive count x) e (live_signal count (drives 0) to (h zero to refl))
live_at count (j ∷ joined) drives h (suc place) s at = live_at count joined (λ p. drives (suc p)) (λ p. h (suc p)) place s at

undriven : (count : ℕ) (drives : Bool) (to : Signal) (bit : Bool) → drives ≡ true → to ≡ signal.Constant bit → IsPinSignal count drives to → ⊥
undriven count true (signal.Constant b) bit d e h = h
undriven count false to bit d e h = cc
undriven count true (signal.Net net) bit d e h = cc
undriven count true signal.Unconnected bit d e h = cc

constant_free : (count : ℕ) (pins : List Pin) (joined : Joined) → ((pin : ℕ) (to : Signal) → slice_get joined pin ≡ Some (Some to) → IsPinSignal count (pin_drives (slice_get pins pin)) to) →
    (pin : ℕ) (r : Role) (bit : Bool) → slice_get (map (λ (p : Pin). p.role) pins) pin ≡ Some r → is_output r ≡ true → slice_get (map signal_at joined) pin ≡ Some (signal.Constant bit) → ⊥
constant_free count [] joined h pin r bit at out to = cc
constant_free count (p ∷ pins) [] h pin r bit at out to = cc
constant_free count (p ∷ pins) (None ∷ joined) h zero r bit at out to = cc
constant_free count (p ∷ pins) (Some s ∷ joined) h zero r bit at out to =
    let same : p.role ≡ r = cc in
    let e : s ≡ signal.Constant bit = cc in
    undriven count (is_output p.role) s bit (ap is_output same ∙ out) e (h zero s refl)
constant_free count (p ∷ pins) (j ∷ joined) h (suc pin) r bit at out to = constant_free count pins joined (λ q. h (suc q)) pin r bit at out to

-- an instance whose pins are joined so can stand among the nets
pub instance_fits : (d : Draft) (id : CellId) (word : Text) (cell : Cell) (joined : Joined) → slice_get d.library id.0 ≡ Some cell → FitsCell (length d.nets) cell joined →
    InstanceFits (nets_alone d) (cell_instance id word joined)
instance_fits d id word cell joined at h = record {
  fits = (slice_get_within d.library id.0 cell at, search rules);
  width = length-map joined signal_at ∙ h.width ∙ sym (length-map cell.pins (λ (p : Pin). p.role)) ∙ sym (ap (λ (o : Option Cell). length (shape_of_cell o).roles) at);
  live = live_at (length d.nets) joined (λ p. pin_drives (slice_get cell.pins p)) h.pins;
  outputs = λ pin r bit role out to. constant_free (length d.nets) cell.pins joined h.pins pin r bit (subst (λ (o : Option Cell). slice_get (shape_of_cell o).roles pin ≡ Some r) at role) out to;
}

-- and so where its parts are known by equations
pub instance_stands : (d : Draft) (id : CellId) (word : Text) (cell : Cell) (joined : Joined) (pins : List Signal) → pins ≡ map signal_at joined → slice_get d.library id.0 ≡ Some cell →
    FitsCell (length d.nets) cell joined → IsInstanceOf (nets_alone d) (Some word) (cell_ref.Library id) pins
instance_stands d id word cell joined pins all at h =
    subst (λ (x : List Signal). IsInstanceOf (nets_alone d) (Some word) (cell_ref.Library id) x) (sym all) (instance_fits d id word cell joined at h)

pub ruleset unjoined_pins = (fits_unjoined)

pub ruleset pins = (pin_bit, pin_free, fits_more, fits_with, grows_on, grows_not)

pub ruleset instances = (instance_fits, fits_unjoined, named_room, named_library, grows_on, grows_not)
