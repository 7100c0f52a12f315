-- What a logic has stands in every logic that means as much or more.
use Rattle.std.proofs.Common.{ℕ, suc, ◌≡◌, false, Some, inl, inr, sym, subst, ap, ◌∙◌}
use Rattle.dft_netlist.specs.Drivers.{Source, Net}
use Rattle.dft_behavior.specs.Logic.{Logic, Ports, Meaning, Cell, Input, Flop, Lockup, Free, no_cell}
use Rattle.dft_runs.specs.WiderPorts.{MeansMore}
use Rattle.dft_chains.specs.Hardware.{ActByPorts, TakesOn, IsScanCell, Leads, Directly, AcrossEdges, ByLockup, ChainsStay}

abbrev IsFree : Meaning → Type 0
IsFree Free = Unit {0}
IsFree _ = ⊥

-- a net that is not free
pub net_stays : (l m : Logic) (net : ℕ) (is : Meaning) → MeansMore l m → l.net net ≡ is → (IsFree is → ⊥) → m.net net ≡ is
net_stays l m net is more here driven = elim (more.nets net) [
  | inl free ↦ absurd (driven (subst IsFree (sym free ∙ here) tt))
  | inr same ↦ same ∙ here
]

-- a cell that is modelled
pub cell_stays : (l m : Logic) (i : ℕ) → MeansMore l m → (l.cell i ≡ no_cell i → ⊥) → m.cell i ≡ l.cell i
cell_stays l m i more is = elim (more.cells i) [
  | inl none ↦ absurd (is none)
  | inr same ↦ same
]

scan_cell_stays : (l m : Logic) (ports : Ports) (enable : ℕ) (source : Source) (cell : ℕ) → MeansMore l m → IsScanCell l ports enable source cell → IsScanCell m ports enable source cell
scan_cell_stays l m ports enable source cell more is =
    let same = cell_stays l m cell more is.modelled in
    record {
      takes = subst (λ (c : Cell). TakesOn enable source c.takes) (sym same) is.takes;
      modelled = λ none. is.modelled (sym same ∙ none);
      domain = ap (λ (c : Cell). ports.is_clock c.domain) same ∙ is.domain;
      forces = subst (λ (c : Cell). ActByPorts ports c.forces) (sym same) is.forces;
    }

leads_stays : (l m : Logic) (cell next : ℕ) (source : Source) → MeansMore l m → m.cell cell ≡ l.cell cell → m.cell next ≡ l.cell next → Leads l cell next source → Leads m cell next source
leads_stays l m cell next _ more same same_next (Directly {net = net} at alike edges) =
    Directly {net = net} (net_stays l m net (Flop cell false) more at (λ free. free)) (ap (λ (c : Cell). c.domain) same ∙ alike ∙ sym (ap (λ (c : Cell). c.domain) same_next))
    (ap (λ (c : Cell). c.falling) same ∙ edges ∙ sym (ap (λ (c : Cell). c.falling) same_next))
leads_stays l m cell next _ more same same_next (AcrossEdges {net = net} at falls rises) =
    AcrossEdges {net = net} (net_stays l m net (Flop cell false) more at (λ free. free)) (ap (λ (c : Cell). c.falling) same ∙ falls) (ap (λ (c : Cell). c.falling) same_next ∙ rises)
leads_stays l m cell next _ more same same_next (ByLockup {net = net} {lockup = i} {output = q} {high = high} at from edge next_edge) =
    ByLockup {net = net} {lockup = i} {output = q} {high = high}
    (net_stays l m net (Lockup i (l.cell cell).domain high (Net q)) more at (λ free. free) ∙ ap (λ (c : Cell). Lockup i c.domain high (Net q)) (sym same))
    (net_stays l m q (Flop cell false) more from (λ free. free)) (ap (λ (c : Cell). c.falling) same ∙ edge) (ap (λ (c : Cell). c.falling) same_next ∙ next_edge)

pub chains_stay : ChainsStay
chains_stay l m ports chains w more has = record {
  enable = net_stays l m w.enable Input more has.enable (λ free. free);
  cells = λ chain place cell stands. scan_cell_stays l m ports w.enable (w.into chain place) cell.0 more (has.cells chain place cell stands);
  links = λ chain place cell next stands follows. leads_stays l m cell.0 next.0 (w.into chain (suc place)) more
      (cell_stays l m cell.0 more (has.cells chain place cell stands).modelled)
      (cell_stays l m next.0 more (has.cells chain (suc place) next follows).modelled)
      (has.links chain place cell next stands follows);
}
