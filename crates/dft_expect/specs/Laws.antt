-- What captures, masks and expected bits are.
use Rattle.std.specs.Prelude.{ℕ, Bool, false, ◌≡◌, ◌<◌, ◌⊎◌, List, [], ◌∷◌, slice_get, Some}
use Rattle.std.specs.List.{list_any}
use Rattle.dft_base.specs.declared.tri.Tri.{Tri}
use Rattle.dft_base.specs.Tri.{AboveTri}
use Rattle.dft_base.specs.Solutions.{bit_at}
use Rattle.dft_netlist.specs.declared.ids.InstanceId.{InstanceId}
use Rattle.dft_netlist.specs.Netlist.{Netlist}
use Rattle.dft_netlist.specs.Drivers.{Source, nets_of, AreBelow, IsOrdered}
use Rattle.dft_behavior.specs.Logic.{Logic, Free, IsRanked}
use Rattle.dft_behavior.specs.Settled.{TriSources, IsTriSettled}
use Rattle.dft_config.specs.Config.{Config}
use Rattle.dft_cubes.specs.declared.cube.Merged.{Merged}
use Rattle.dft_expect.specs.declared.response.Response.{Response}
use Rattle.dft_expect.specs.Captures.{IsCapture}
use Rattle.dft_expect.specs.Masks.{is_unknown, masks_of}

-- In a design whose nets have an order, a pattern captures one response.
abbrev pub CaptureIsOne : Type 0
CaptureIsOne =
    (n : Netlist) (rank : ℕ → ℕ) (config : Config) (chains : List (List InstanceId)) (merged : Merged) (loaded : List Bool) (r q : Response) → IsOrdered n rank →
    IsCapture n config chains merged loaded r → IsCapture n config chains merged loaded q → r ≡ q

-- The values of some sources stand above those of others. A lock-up's do where the nets do that stand before it.
pub record AreAbove (rank : ℕ → ℕ) (s t : TriSources) (values shows : ℕ → Tri) : Type 0 where
  pub ports : (net : ℕ) → AboveTri (s.ports net) (t.ports net)
  pub clocks : (net : ℕ) → AboveTri (s.clocks net) (t.clocks net)
  pub flops : (cell : ℕ) → AboveTri (s.flops cell) (t.flops cell)
  pub lockups : (r cell domain : ℕ) (high : Bool) (source : Source) → ((k : ℕ) → rank k < r → AboveTri (values k) (shows k)) → AreBelow rank r (nets_of (source ∷ [])) →
      AboveTri (s.lockups cell domain high source) (t.lockups cell domain high source)

-- What is known of settled values stands above what they are where more is known: let another logic mean the same at each net, or anything where
-- the net is free, and let its sources' values stand below; then each of its settled values stands below.
abbrev pub SettledStandsAbove : Type 0
SettledStandsAbove =
    (l m : Logic) (rank : ℕ → ℕ) (s t : TriSources) (values shows : ℕ → Tri) → IsRanked l rank → ((net : ℕ) → (l.net net ≡ Free) ⊎ (m.net net ≡ l.net net)) → AreAbove rank s t values shows →
    IsTriSettled l s values → IsTriSettled m t shows → (net : ℕ) → AboveTri (values net) (shows net)

-- a chain that is not masked holds nothing unknown
abbrev pub UnmaskedAreKnown : Type 0
UnmaskedAreKnown =
    (always : List Bool) (values : List (List Tri)) (chain : ℕ) (cells : List Tri) → slice_get values chain ≡ Some cells → bit_at (masks_of always values) chain ≡ false → list_any is_unknown cells ≡ false
