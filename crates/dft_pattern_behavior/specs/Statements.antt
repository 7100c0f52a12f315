-- What a capture knows stands above what a netlist that covers the design does, as a scanned one under the ports of a pattern set.
use Rattle.std.specs.Prelude.{ℕ, Bool, true, false, ◌≡◌, ◌<◌, List, [], ◌∷◌, drop, length, Some, is_some, slice_get, slice_index_or}
use Rattle.dft_base.specs.declared.tri.Tri.{Tri}
use Rattle.dft_base.specs.declared.tri.Tri.TheVariants.{Unknown}
use Rattle.dft_base.specs.Tri.{known, AboveTri}
use Rattle.dft_netlist.specs.declared.ids.NetId.{NetId}
use Rattle.dft_netlist.specs.declared.ids.InstanceId.{InstanceId}
use Rattle.dft_netlist.specs.Netlist.{Netlist}
use Rattle.dft_netlist.specs.Connections.{is_input}
use Rattle.dft_netlist.specs.Drivers.{IsOrdered, driver}
use Rattle.dft_behavior.specs.Logic.{Logic, flip_flop}
use Rattle.dft_behavior.specs.Settled.{IsTriSettled}
use Rattle.dft_behavior.specs.Runs.{Vector}
use Rattle.dft_abstract.specs.Cycle.{strobe_sources, Halves, AreHalves, after_halves}
use Rattle.dft_config.specs.Config.{Config}
use Rattle.dft_stitch.specs.Chains.{plan_of}
use Rattle.dft_chains.specs.ScanOff.{Places}
use Rattle.dft_edt.specs.Captures.{Covers, IsCapture as IsCaptureOf}
use Rattle.dft_cubes.specs.declared.cube.Merged.{Merged}
use Rattle.dft_expect.specs.declared.response.Response.{Response}
use Rattle.dft_expect.specs.Captures.{IsCapture, capture_clock, captured_domains, config_ports, original, output_bits, vector_of}
use Rattle.dft_expect.specs.Capturing.{CanCapture, cells_in}

-- where the design stands: as many nets as it has, and its modelled flip-flops
pub record ArePlacesOf (n : Netlist) (config : Config) (p : Places) : Type 0 where
  pub size : p.size ≡ length n.nets
  pub flops : (i : ℕ) → p.is_flop i ≡ is_some (flip_flop n (config_ports n config) i)

-- a vector captures a domain of a pattern: of the design's clocks that of the domain pulses alone, scan_enable is 0, and the design's input ports
-- have their values; nothing is said of what clock ports are set to, nor of nets that are no input ports
pub record IsCaptureVector (n : Netlist) (config : Config) (merged : Merged) (p : Places) (domain : ℕ) (x : Vector) : Type 0 where
  pub clock : NetId
  pub captures : capture_clock n config domain ≡ Some clock
  pub pulses : IsCaptureOf p clock.0 x
  pub ports : (net : ℕ) → net < p.size → is_input (driver n net) ≡ true → (config_ports n config).is_clock net ≡ false → AboveTri ((vector_of n config merged domain).ports net) (x.ports (p.moved net))

-- vectors capture these domains, each one
abbrev pub AreCaptureVectors : Netlist → Config → Merged → Places → (domains : List ℕ) → List Vector → Type 0
AreCaptureVectors n config merged p [] [] = Unit {0}
AreCaptureVectors n config merged p [] (x ∷ xs) = ⊥
AreCaptureVectors n config merged p (domain ∷ domains) [] = ⊥
AreCaptureVectors n config merged p (domain ∷ domains) (x ∷ xs) = IsCaptureVector n config merged p domain x × AreCaptureVectors n config merged p domains xs

-- the cells of the chains have their loaded bits; nothing is said of other flip-flops
abbrev pub AreLoaded : Netlist → Config → (loaded : List Bool) → (old : ℕ → Tri) → Type 0
AreLoaded n config loaded old =
    (number : ℕ) (cell : InstanceId) (bit : Bool) → slice_get (cells_in n config) number ≡ Some cell → slice_get loaded number ≡ Some bit → old cell.0 ≡ known bit

abbrev pub value_in : List Tri → (number : ℕ) → Tri
value_in values number = slice_index_or values number Unknown

-- what a netlist does in a vector: the values that are settled at its strobe, and its halves
pub record Step : Type 0 where
  pub shows : ℕ → Tri
  pub halves : Halves

-- so it does in these vectors, one after another, from these values
abbrev pub AreSteps : Logic → (old : ℕ → Tri) → List Vector → List Step → Type 0
AreSteps l old [] [] = Unit {0}
AreSteps l old [] (s ∷ steps) = ⊥
AreSteps l old (x ∷ xs) [] = ⊥
AreSteps l old (x ∷ xs) (s ∷ steps) = IsTriSettled l (strobe_sources l x old s.shows) s.shows × AreHalves l x old s.halves × AreSteps l (after_halves l x old s.halves) xs steps

-- the values behind them
abbrev pub after_steps : Logic → (old : ℕ → Tri) → List Vector → List Step → ℕ → Tri
after_steps l old [] steps = old
after_steps l old (x ∷ xs) [] = old
after_steps l old (x ∷ xs) (s ∷ steps) = after_steps l (after_halves l x old s.halves) xs steps

-- each output that the captures know has that value at the strobe of its vector
abbrev pub OutputsStand : Netlist → Places → (outputs : List Tri) → List Step → Type 0
OutputsStand n p outputs [] = Unit {0}
OutputsStand n p outputs (s ∷ steps) =
    ((number : ℕ) (net : NetId) → slice_get (output_bits n.ports) number ≡ Some net → AboveTri (value_in outputs number) (s.shows (p.moved net.0))) × OutputsStand n p (drop (length (output_bits n.ports)) outputs) steps

-- each cell that they know has that value behind them
abbrev pub CellsStand : Netlist → Config → Response → (values : ℕ → Tri) → Type 0
CellsStand n config r values = (number : ℕ) (cell : InstanceId) → slice_get (cells_in n config) number ≡ Some cell → AboveTri (value_in r.cells number) (values cell.0)

-- What a pattern captures in a design stands above what each netlist that covers it shows at the strobes of the pattern's vectors, and above what its
-- cells have behind them, whatever its other flip-flops had.
abbrev pub CapturesStandOver : Type 0
CapturesStandOver =
    (n : Netlist) (rank : ℕ → ℕ) (config : Config) (merged : Merged) (loaded : List Bool) (r : Response) (written : Logic) (p : Places) (xs : List Vector) (old : ℕ → Tri) (steps : List Step) →
    CanCapture n config → IsOrdered n rank → IsCapture n config (plan_of n config).chains merged loaded r →
    Covers (original n config) written p → ArePlacesOf n config p → AreCaptureVectors n config merged p (captured_domains merged) xs → AreLoaded n config loaded old → AreSteps written old xs steps →
    OutputsStand n p r.outputs steps × CellsStand n config r (after_steps written old xs steps)
