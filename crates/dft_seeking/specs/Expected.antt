-- What a pattern expects of a design, as the capture of an assignment.
use Rattle.std.specs.Prelude.{ℕ, Bool, true, false, ◌≡◌, ◌⊎◌, List, map, None, slice_index_or}
use Rattle.dft_base.specs.Lexing.{Text}
use Rattle.dft_base.specs.declared.tri.Tri.{Tri}
use Rattle.dft_base.specs.declared.tri.Tri.TheVariants.{Unknown}
use Rattle.dft_netlist.specs.Netlist.{Netlist}
use Rattle.dft_stitch.specs.Chains.{plan_of}
use Rattle.dft_cubes.specs.declared.cube.Cube.{Cube}
use Rattle.dft_cubes.specs.declared.cube.Merged.{Merged}
use Rattle.dft_faults.specs.Faulty.{faulty}
use Rattle.dft_expect.specs.declared.response.Response.{Response}
use Rattle.dft_expect.specs.Loaded.{loaded_values}
use Rattle.dft_expect.specs.Captures.{IsCapture, bit_of_port, output_bits, port_value}
use Rattle.dft_expect.specs.Capturing.{CanCapture}
use Rattle.dft_capture.specs.Captures.{AreSettled, Settled, captured}
use Rattle.dft_seek.specs.declared.found.Found.TheVariants as found
use Rattle.dft_seek.specs.Searches.{Given, Search, cells_in, differ, moving_of, port_values}
use Rattle.dft_seek.specs.Sought.{CompletesCube, IsSought}
use Rattle.dft_seek.specs.Laws.{CanSeek}

-- the values that a pattern gives: scanned cells have the bits that its load brings, and a port has its bit, or else 0
abbrev pub given_by : Search → Merged → (loaded : List Bool) → Given
given_by s merged loaded = record { cells = loaded_values (plan_of s.design s.config).chains loaded; ports = λ net. port_value false (bit_of_port merged.ports net) }

-- What the capture of an assignment shows: what the scanned cells have behind it, by chain and place, and what the output ports' bits are before the
-- clock rises.
pub record IsShown (s : Search) (n : Netlist) (g : Given) (r : Response) : Type 0 where
  pub settled : Settled
  pub are : AreSettled n (moving_of s) (port_values s g) g.cells settled
  pub cells : r.cells ≡ map (λ cell. captured n (moving_of s) g.cells settled cell.0) (cells_in s)
  pub outputs : r.outputs ≡ map (λ net. settled.first net.0) (output_bits s.design.ports)

-- What is expected of a pattern that captures once, in the search's domain, is what the capture of the values that it gives shows.
abbrev pub ExpectedIsShown : Type 0
ExpectedIsShown =
    (s : Search) (merged : Merged) (loaded : List Bool) (r : Response) → CanCapture s.design s.config → merged.domains ≡ record { first = s.domain; second = None } →
    IsCapture s.design s.config (plan_of s.design s.config).chains merged loaded r → IsShown s s.design (given_by s merged loaded) r

-- somewhere two values are known and not the same
abbrev pub HaveDifference : (values others : List Tri) → Type 0
HaveDifference values others = (k : ℕ) × (differ (slice_index_or values k Unknown) (slice_index_or others k Unknown) ≡ true)

abbrev pub Disagree : Response → Response → Type 0
Disagree r q = HaveDifference r.cells q.cells ⊎ HaveDifference r.outputs q.outputs

-- Where the values that such a pattern gives complete a cube that is told, what is expected of it and what the design with the fault shows are somewhere
-- known and not the same.
abbrev pub ExpectedTells : Type 0
ExpectedTells =
    (s : Search) (rank : ℕ → ℕ) (limit : ℕ) (name : Text) (cube : Cube) (merged : Merged) (loaded : List Bool) (r q : Response) → CanSeek s rank → CanCapture s.design s.config →
    merged.domains ≡ record { first = s.domain; second = None } → IsSought s limit name (found.Cube cube) → CompletesCube cube (given_by s merged loaded) →
    IsCapture s.design s.config (plan_of s.design s.config).chains merged loaded r → IsShown s (faulty s.design s.fault) (given_by s merged loaded) q → Disagree r q
