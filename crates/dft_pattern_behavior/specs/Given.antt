-- A compiled pattern, and the vectors that bring it into a scanned netlist of style Edt (Rajski and others, 2004).
use Rattle.std.specs.Prelude.{ℕ, ◌≡◌, Bool, true, false, List, [], ◌∷◌, length, Some}
use Rattle.std.specs.List.{AllByRecursion}
use Rattle.dft_base.specs.Solutions.{bit_at}
use Rattle.dft_base.specs.declared.tri.Tri.TheVariants.{Zero}
use Rattle.dft_netlist.specs.declared.ids.NetId.{NetId}
use Rattle.dft_netlist.specs.Connections.{is_input}
use Rattle.dft_netlist.specs.Drivers.{driver}
use Rattle.dft_netlist.specs.Netlist.{Netlist}
use Rattle.dft_behavior.specs.Runs.{Vector}
use Rattle.dft_config.specs.Config.{Config}
use Rattle.dft_config.specs.Ring.{Table}
use Rattle.dft_stitch.specs.Chains.{plan_of}
use Rattle.dft_stitch.specs.Plans.{falling_head}
use Rattle.dft_edt.specs.Vectors.{IsClearing}
use Rattle.dft_cubes.specs.declared.cube.Merged.{Merged}
use Rattle.dft_cubes.specs.Domains.{later_of}
use Rattle.dft_expect.specs.declared.response.Response.{Response}
use Rattle.dft_expect.specs.Captures.{IsCapture, capture_clock, captured_domains, vector_of}
use Rattle.dft_expect.specs.Loaded.{loaded_of}
use Rattle.dft_expect.specs.Masks.{always_of, by_chain, masks_of}
use Rattle.dft_insert.specs.declared.style.Style.TheVariants.{Edt}
use Rattle.dft_insert.specs.Agreeing.{places_in}
use Rattle.dft_scan_behavior.specs.Experiments.{Carry, Send}
use Rattle.dft_scan_behavior.specs.Facts.{edt_hardware}

-- ---- a pattern

-- the bits of the channels in its load, which chains are masked while it is unloaded, what it asks of ports and clock, and what it captures
pub record Pattern : Type 0 where
  pub table : Table
  pub masks : List Bool
  pub merged : Merged
  pub response : Response

-- the clock of a domain is a net
pub record HasClock (n : Netlist) (config : Config) (domain : ℕ) : Type 0 where
  pub clock : NetId
  pub is : capture_clock n config domain ≡ Some clock

-- It captures what its load leaves, by clocks of the configuration; and it masks the chains in which something captured is unknown, and
-- those that always are.
pub record IsPattern (n : Netlist) (config : Config) (p : Pattern) : Type 0 where
  pub captured : IsCapture n config (plan_of n config).chains p.merged (loaded_of config.ring p.table (plan_of n config).cycles (falling_head (plan_of n config)) (plan_of n config).chains) p.response
  pub masked : p.masks ≡ masks_of (always_of config) (by_chain (plan_of n config).chains p.response.cells)
  pub clocked : AllByRecursion (HasClock n config) (captured_domains p.merged)

-- ---- its vectors

-- shift vectors, as many as are planned, whose channels carry the pattern's bits and whose mask ports send its masks
pub record IsLoadOf (n : Netlist) (config : Config) (p : Pattern) (xs : List Vector) : Type 0 where
  pub count : length xs ≡ (plan_of n config).cycles
  pub carries : Carry n config p.table xs
  pub sends : Send n config (bit_at p.masks) xs

-- a vector with scan_enable 0, in which of the design's clocks that of a domain pulses alone, and the design's input ports do what the pattern
-- asks; what a port that pulses is set to besides is not said
pub record IsCaptureOf (n : Netlist) (config : Config) (p : Pattern) (domain : ℕ) (x : Vector) : Type 0 where
  pub off : x.ports (places_in Edt n config).enable ≡ Zero
  pub pulsed : (e : ℕ) → x.pulsed ((places_in Edt n config).moved e) ≡ (vector_of n config p.merged domain).pulsed e
  pub ports : (net : ℕ) → is_input (driver n net) ≡ true → (vector_of n config p.merged domain).pulsed net ≡ false → x.ports ((places_in Edt n config).moved net) ≡ (vector_of n config p.merged domain).ports net

-- The capture vectors of a pattern from a domain on, one for each: the last one clears, and in those before it edt_clock rests.
abbrev pub AreCapturesFrom : Netlist → Config → Pattern → (domain : ℕ) → (later : List ℕ) → List Vector → Type 0
AreCapturesFrom n config p domain [] [] = ⊥
AreCapturesFrom n config p domain [] (x ∷ []) = IsCaptureOf n config p domain x × IsClearing (edt_hardware n config) x
AreCapturesFrom n config p domain [] (x ∷ y ∷ xs) = ⊥
AreCapturesFrom n config p domain (next ∷ later) [] = ⊥
AreCapturesFrom n config p domain (next ∷ later) (x ∷ xs) = IsCaptureOf n config p domain x × (x.pulsed (edt_hardware n config).clock ≡ false) × AreCapturesFrom n config p next later xs

abbrev pub AreCapturesOf : Netlist → Config → Pattern → List Vector → Type 0
AreCapturesOf n config p xs = AreCapturesFrom n config p p.merged.domains.first (later_of p.merged.domains) xs
