-- A scanned netlist has the planned chains.
use Rattle.std.proofs.Common.{ℕ, zero, suc, ◌≡◌, List, [], ◌∷◌, Option, Some, slice_get, refl, sym, subst, ap, ◌∙◌}
use Rattle.std.proofs.lemmas.Option.{none-some}
use Rattle.dft_netlist.specs.declared.ids.NetId.{NetId}
use Rattle.dft_netlist.specs.declared.ids.InstanceId.{InstanceId}
use Rattle.dft_netlist.specs.declared.instance.Signal.TheVariants as signal
use Rattle.dft_netlist.specs.Netlist.{Netlist}
use Rattle.dft_netlist.specs.Drivers.{Source, Net}
use Rattle.dft_behavior.specs.Logic.{or_loose, logic_of}
use Rattle.dft_config.specs.Config.{Config}
use Rattle.dft_stitch.specs.Chains.{plan_of}
use Rattle.dft_stitch.specs.Plans.{cell_at}
use Rattle.dft_chains.specs.Hardware.{IsScanCell, Leads}
use Rattle.dft_scan_frame.specs.Statements.{IsReady}
use Rattle.dft_insert.specs.declared.style.Style.{Style}
use Rattle.dft_insert.specs.Ports.{gap_in}
use Rattle.dft_insert.specs.Statements.{scanned}
use Rattle.dft_insert.specs.Agreeing.{ports_in}
use Rattle.dft_insert.proofs.Containing.{enable_input}
use Rattle.dft_scan_behavior.specs.Facts.{taken_by, HasScanChains}
use Rattle.dft_scan_behavior.proofs.Outputs.{has_chain, at_chain}
use Rattle.dft_scan_behavior.proofs.Planned.{now_pins, IsPlanned, planned, pin_source, scan_cell}
use Rattle.dft_scan_behavior.proofs.ScanInputs.{link_joined, entry_joined}

get_before : {X : Type 0} (xs : List X) (k : ℕ) (x : X) → slice_get xs (suc k) ≡ Some x → (y : X) × (slice_get xs k ≡ Some y)
get_before [] k x h = absurd (none-some x h)
get_before (y ∷ xs) zero x h = (y, refl)
get_before (y ∷ xs) (suc k) x h = get_before xs k x h

-- a cell stands before each that is not the first
pub cell_before : (xs : List (List InstanceId)) (chain place : ℕ) (cell : InstanceId) → cell_at xs chain (suc place) ≡ Some cell → (prev : InstanceId) × (cell_at xs chain place ≡ Some prev)
cell_before xs chain place cell stands =
    let has = has_chain xs chain (suc place) cell stands in
    let prev = get_before has.cells place cell has.here in
    (prev.0, at_chain xs chain place has.cells prev.0 has.at prev.1)

-- what a scan input takes its bit from
pub into_is : (style : Style) (n : Netlist) (config : Config) (chain place : ℕ) (cell : InstanceId) (s : IsPlanned style n config cell.0) (net : NetId) → cell_at (plan_of n config).chains chain place ≡ Some cell →
    slice_get (now_pins style n config cell.0 s.instance s.id) s.shape.input ≡ Some (signal.Net net) → taken_by (scanned style n config) (cell_at (plan_of n config).chains chain place) ≡ Net net.0
into_is style n config chain place cell s net stands joined = ap (taken_by (scanned style n config)) stands ∙ ap (or_loose cell.0) (pin_source style n config cell.0 s net joined)

cell_here : (style : Style) (n : Netlist) (config : Config) (chain place : ℕ) (cell : InstanceId) (s : IsPlanned style n config cell.0) (net : NetId) → IsReady n config → cell_at (plan_of n config).chains chain place ≡ Some cell →
    slice_get (now_pins style n config cell.0 s.instance s.id) s.shape.input ≡ Some (signal.Net net) →
    IsScanCell (logic_of (scanned style n config) (ports_in style n config)) (ports_in style n config) (gap_in style n config).before (taken_by (scanned style n config) (cell_at (plan_of n config).chains chain place)) cell.0
cell_here style n config chain place cell s net ready stands joined =
    subst (λ (o : Option InstanceId). IsScanCell (logic_of (scanned style n config) (ports_in style n config)) (ports_in style n config) (gap_in style n config).before (taken_by (scanned style n config) o) cell.0) (sym stands)
    (scan_cell style n config cell s net ready joined)

cell_has : (style : Style) (n : Netlist) (config : Config) (chain place : ℕ) (cell : InstanceId) → IsReady n config → cell_at (plan_of n config).chains chain place ≡ Some cell →
    IsScanCell (logic_of (scanned style n config) (ports_in style n config)) (ports_in style n config) (gap_in style n config).before (taken_by (scanned style n config) (cell_at (plan_of n config).chains chain place)) cell.0
cell_has style n config chain zero cell ready stands =
    let s = planned style n config chain zero cell ready stands in
    let it = entry_joined style n config chain cell s ready stands in
    cell_here style n config chain zero cell s it.0 ready stands it.1
cell_has style n config chain (suc place) cell ready stands =
    let prev = cell_before (plan_of n config).chains chain place cell stands in
    let s = planned style n config chain place prev.0 ready prev.1 in
    let t = planned style n config chain (suc place) cell ready stands in
    let it = link_joined style n config ready chain place prev.0 cell s t prev.1 stands in
    cell_here style n config chain (suc place) cell t it.0 ready stands it.1

link_has : (style : Style) (n : Netlist) (config : Config) (chain place : ℕ) (cell next : InstanceId) → IsReady n config → cell_at (plan_of n config).chains chain place ≡ Some cell → cell_at (plan_of n config).chains chain (suc place) ≡ Some next →
    Leads (logic_of (scanned style n config) (ports_in style n config)) cell.0 next.0 (taken_by (scanned style n config) (cell_at (plan_of n config).chains chain (suc place)))
link_has style n config chain place cell next ready stands follows =
    let s = planned style n config chain place cell ready stands in
    let t = planned style n config chain (suc place) next ready follows in
    let it = link_joined style n config ready chain place cell next s t stands follows in
    subst (λ (source : Source). Leads (logic_of (scanned style n config) (ports_in style n config)) cell.0 next.0 source) (sym (into_is style n config chain (suc place) next t it.0 follows it.1)) it.2

pub chains_have : HasScanChains
chains_have style n config ready = record {
  enable = enable_input style n config ready;
  cells = λ chain place cell stands. cell_has style n config chain place cell ready stands;
  links = λ chain place cell next stands follows. link_has style n config chain place cell next ready stands follows;
}
