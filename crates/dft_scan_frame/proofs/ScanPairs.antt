-- A scan cell beside the flip-flop that it stands for: it drives the same nets, and its other pins are joined to the same.
use Rattle.std.proofs.Common.{◌≡◌, true, false, List, ◌∷◌, length, refl, arith, []}
use Rattle.dft_cells.specs.declared.kind.Kind.{Kind}
use Rattle.dft_cells.specs.declared.kind.Kind.TheVariants as kind
use Rattle.dft_cells.specs.declared.kind.Forcing.{Forcing}
use Rattle.dft_cells.specs.declared.kind.Forcing.TheVariants as force
use Rattle.dft_cells.specs.declared.kind.Role.{Role}
use Rattle.dft_cells.specs.declared.kind.Role.TheVariants.{Clock, Din, Reset, Preset, ScanIn, ScanEnable, Output, Inverted}
use Rattle.dft_netlist.specs.declared.instance.Signal.{Signal}

-- a flip-flop without scan, and its scan cell
abbrev pub plain_flop : Forcing → Kind
plain_flop its = kind.Flop (record { force = its; scan = false })

abbrev pub scan_flop : Forcing → Kind
scan_flop its = kind.Flop (record { force = its; scan = true })

-- the kind and the roles of a flip-flop, and those of its scan cell
pub data ScanPair : Kind → List Role → Kind → List Role → Type 0 where
  Plain : ScanPair (plain_flop force.Nothing) (Clock ∷ Din ∷ Output ∷ []) (scan_flop force.Nothing) (Clock ∷ Din ∷ ScanIn ∷ ScanEnable ∷ Output ∷ [])
  PlainBoth : ScanPair (plain_flop force.Nothing) (Clock ∷ Din ∷ Output ∷ Inverted ∷ []) (scan_flop force.Nothing) (Clock ∷ Din ∷ ScanIn ∷ ScanEnable ∷ Output ∷ Inverted ∷ [])
  Resets : ScanPair (plain_flop force.Reset) (Clock ∷ Din ∷ Reset ∷ Output ∷ []) (scan_flop force.Reset) (Clock ∷ Din ∷ Reset ∷ ScanIn ∷ ScanEnable ∷ Output ∷ [])
  ResetsBoth : ScanPair (plain_flop force.Reset) (Clock ∷ Din ∷ Reset ∷ Output ∷ Inverted ∷ []) (scan_flop force.Reset) (Clock ∷ Din ∷ Reset ∷ ScanIn ∷ ScanEnable ∷ Output ∷ Inverted ∷ [])
  Sets : ScanPair (plain_flop force.Set) (Clock ∷ Din ∷ Preset ∷ Output ∷ []) (scan_flop force.Set) (Clock ∷ Din ∷ Preset ∷ ScanIn ∷ ScanEnable ∷ Output ∷ [])
  SetsBoth : ScanPair (plain_flop force.Set) (Clock ∷ Din ∷ Preset ∷ Output ∷ Inverted ∷ []) (scan_flop force.Set) (Clock ∷ Din ∷ Preset ∷ ScanIn ∷ ScanEnable ∷ Output ∷ Inverted ∷ [])

-- ---- lists of a known length

abbrev pub ListOf3 : List Signal → Type 0
ListOf3 pins = (a : Signal) × (b : Signal) × (c : Signal) × (pins ≡ a ∷ b ∷ c ∷ [])

abbrev pub ListOf4 : List Signal → Type 0
ListOf4 pins = (a : Signal) × (b : Signal) × (c : Signal) × (d : Signal) × (pins ≡ a ∷ b ∷ c ∷ d ∷ [])

abbrev pub ListOf5 : List Signal → Type 0
ListOf5 pins = (a : Signal) × (b : Signal) × (c : Signal) × (d : Signal) × (e : Signal) × (pins ≡ a ∷ b ∷ c ∷ d ∷ e ∷ [])

pub three : (pins : List Signal) → length pins ≡ 3 → ListOf3 pins
three [] h = absurd (omega (arith, h))
three (a ∷ []) h = absurd (omega (arith, h))
three (a ∷ b ∷ []) h = absurd (omega (arith, h))
three (a ∷ b ∷ c ∷ []) h = (a, b, c, refl)
three (a ∷ b ∷ c ∷ d ∷ pins) h = absurd (omega (arith, h))

pub four : (pins : List Signal) → length pins ≡ 4 → ListOf4 pins
four [] h = absurd (omega (arith, h))
four (a ∷ []) h = absurd (omega (arith, h))
four (a ∷ b ∷ []) h = absurd (omega (arith, h))
four (a ∷ b ∷ c ∷ []) h = absurd (omega (arith, h))
four (a ∷ b ∷ c ∷ d ∷ []) h = (a, b, c, d, refl)
four (a ∷ b ∷ c ∷ d ∷ e ∷ pins) h = absurd (omega (arith, h))

pub five : (pins : List Signal) → length pins ≡ 5 → ListOf5 pins
five [] h = absurd (omega (arith, h))
five (a ∷ []) h = absurd (omega (arith, h))
five (a ∷ b ∷ []) h = absurd (omega (arith, h))
five (a ∷ b ∷ c ∷ []) h = absurd (omega (arith, h))
five (a ∷ b ∷ c ∷ d ∷ []) h = absurd (omega (arith, h))
five (a ∷ b ∷ c ∷ d ∷ e ∷ []) h = (a, b, c, d, e, refl)
five (a ∷ b ∷ c ∷ d ∷ e ∷ f ∷ pins) h = absurd (omega (arith, h))
