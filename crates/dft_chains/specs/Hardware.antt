-- What it is for a design to have scan chains: facts about its scan cells and about what leads into them.
use Rattle.std.specs.Prelude.{ℕ, zero, suc, ◌≡◌, Bool, true, false, List, [], ◌∷◌, Option, None, Some}
use Rattle.dft_base.specs.declared.tri.Tri.{Tri}
use Rattle.dft_base.specs.declared.tri.Tri.TheVariants.{One}
use Rattle.dft_cells.specs.declared.kind.Gate.TheVariants.{Buf}
use Rattle.dft_cells.specs.FlipFlops.{Takes, Forces, IsForceOf, tri_taken_by}
use Rattle.dft_netlist.specs.declared.ids.InstanceId.{InstanceId}
use Rattle.dft_netlist.specs.Drivers.{Source, Net}
use Rattle.dft_behavior.specs.Logic.{Logic, Ports, Input, Gate, Flop, Lockup, no_cell}
use Rattle.dft_runs.specs.WiderPorts.{MeansMore}
use Rattle.dft_stitch.specs.Plans.{cell_at}

-- the net of the port that enables shifting, and what the scan input of each cell is joined to, by chain and place
pub record ChainNets : Type 0 where
  pub enable : ℕ
  pub into : (chain place : ℕ) → Source

-- and the nets of the ports at both ends of each chain
pub record ScanNets : Type 0 where
  pub nets : ChainNets
  pub scan_in : (chain : ℕ) → ℕ
  pub scan_out : (chain : ℕ) → ℕ

-- resets and sets act by reset ports
abbrev pub ActByPorts : Ports → Forces ℕ → Type 0
ActByPorts ports forces = (port : ℕ) → IsForceOf forces port → ports.is_reset port ≡ true

-- where the port `enable` is 1 a cell takes the bit of a source
abbrev pub TakesOn : (enable : ℕ) → Source → Takes Source → Type 0
TakesOn enable source takes = (own : Tri) (values : Source → Tri) → values (Net enable) ≡ One → tri_taken_by takes own values ≡ values source

-- a scan cell on a clock port, which takes the bit of a source where the port `enable` is 1
pub record IsScanCell (l : Logic) (ports : Ports) (enable : ℕ) (source : Source) (cell : ℕ) : Type 0 where
  pub takes : TakesOn enable source (l.cell cell).takes
  pub modelled : l.cell cell ≡ no_cell cell → ⊥
  pub domain : ports.is_clock (l.cell cell).domain ≡ true
  pub forces : ActByPorts ports (l.cell cell).forces

-- A source leads from a cell to the next one: the cell's output, where both take their bits at one edge of one clock, or the cell
-- at falls and the next one at rises; or a lock-up behind it on the cell's clock, where both take their bits at its edge.
pub data Leads (l : Logic) (cell next : ℕ) : Source → Type 0 where
  Directly : {net : ℕ} → l.net net ≡ Flop cell false → (l.cell cell).domain ≡ (l.cell next).domain → (l.cell cell).falling ≡ (l.cell next).falling → Leads l cell next (Net net)
  AcrossEdges : {net : ℕ} → l.net net ≡ Flop cell false → (l.cell cell).falling ≡ true → (l.cell next).falling ≡ false → Leads l cell next (Net net)
  ByLockup : {net lockup output : ℕ} {high : Bool} → l.net net ≡ Lockup lockup (l.cell cell).domain high (Net output) → l.net output ≡ Flop cell false → (l.cell cell).falling ≡ high → (l.cell next).falling ≡ high →
      Leads l cell next (Net net)

-- the cells of these chains are scan cells, and each leads to the next
pub record HasChains (l : Logic) (ports : Ports) (chains : List (List InstanceId)) (w : ChainNets) : Type 0 where
  pub enable : l.net w.enable ≡ Input
  pub cells : (chain place : ℕ) (cell : InstanceId) → cell_at chains chain place ≡ Some cell → IsScanCell l ports w.enable (w.into chain place) cell.0
  pub links : (chain place : ℕ) (cell next : InstanceId) → cell_at chains chain place ≡ Some cell → cell_at chains chain (suc place) ≡ Some next → Leads l cell.0 next.0 (w.into chain (suc place))

-- a chain enters by its scan input port
pub record Enters (l : Logic) (w : ScanNets) (chain : ℕ) : Type 0 where
  pub first : w.nets.into chain zero ≡ Net (w.scan_in chain)
  pub port : l.net (w.scan_in chain) ≡ Input

-- a buffer shows the output of a cell at a net
pub record Shows (l : Logic) (cell net : ℕ) : Type 0 where
  pub output : ℕ
  pub buffer : l.net net ≡ Gate Buf (Net output ∷ [])
  pub flop : l.net output ≡ Flop cell false

-- style Plain: each chain stands between ports of its own
pub record IsPlain (l : Logic) (ports : Ports) (chains : List (List InstanceId)) (w : ScanNets) : Type 0 where
  pub has : HasChains l ports chains w.nets
  pub entries : (chain : ℕ) (cell : InstanceId) → cell_at chains chain zero ≡ Some cell → Enters l w chain
  pub ends : (chain place : ℕ) (cell : InstanceId) → cell_at chains chain place ≡ Some cell → cell_at chains chain (suc place) ≡ None → Shows l cell.0 (w.scan_out chain)

-- ---- under wider ports

-- The chains of a logic stand in every logic that means as much or more.
abbrev pub ChainsStay : Type 0
ChainsStay = (l m : Logic) (ports : Ports) (chains : List (List InstanceId)) (w : ChainNets) → MeansMore l m → HasChains l ports chains w → HasChains m ports chains w
